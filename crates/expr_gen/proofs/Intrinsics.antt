-- The intrinsics: one instruction each.
use Rattle.std.proofs.Common.{◌≡◌, ℕ, ◌+◌, ◌%◌, ◌<◌, ◌≤◌, List, refl}
use Rattle.c_tree.specs.declared.operation.Operation.{Operation}
use Rattle.c_tree.specs.declared.operation.Operation.TheVariants as op
use Rattle.whole_code.specs.declared.op.Op.{Op}
use Rattle.whole_code.specs.declared.op.Op.TheVariants as code
use Rattle.ideal_machine.specs.declared.event.Event.{Event}
use Rattle.ideal_machine.specs.declared.event.Event.TheVariants.{Exit, Trap}
use Rattle.ideal_machine.specs.declared.finish.Finish.{Finish}
use Rattle.ideal_machine.specs.declared.finish.Finish.TheVariants.{Exited, Trapped}
use Rattle.filc_num.specs.declared.reason.Reason.TheVariants.{Abort}
use Rattle.ideal_machine.specs.declared.value.Value.{Value}
use Rattle.ideal_machine.specs.Values.{State, value_at, put_at}
use Rattle.ideal_machine.specs.Queries.{Makes}
use Rattle.ideal_machine.specs.Play.{Gives, Stops, Asks, Finished, bind, Log, Behaviour, run}
use Rattle.ideal_machine.specs.Phrases.{Phrase, put_out}
use Rattle.ideal_machine.specs.Lifetimes.{make_object, free_object, tell_size}
use Rattle.ideal_machine.specs.Threads.{start_thread, join_thread, take_in}
use Rattle.ideal_machine.proofs.Runs.{both_reply}
use Rattle.whole_thread.specs.Act.{kinds_of}
use Rattle.expr_gen.specs.Code.{op_code}
use Rattle.expr_gen.specs.Stretch.{Site, Between, Bounded, from, Landing, Runs, HasWords, Matches}
use Rattle.expr_gen.proofs.Stretch.{line_at, does, Has, at_op}
use Rattle.expr_gen.proofs.Rounds.{lock_runs}
use Rattle.expr_gen.proofs.Landing.{Into, stays, last_gives, last_does, Applied}

abbrev ending : Event → Finish → Phrase ℕ
ending e finish = Asks (Makes e) (λ _. Stops (Finished finish))

-- both sides make the event that ends the program
stop_runs : (site : Site) {S A : Type 0} (Q : Landing S A) (e : Event) (finish : Finish) (K : Bounded) (w : Log) →
    run (K 0) w ≡ run (ending e finish) w → Runs site Q K w (run (Asks (Makes e) (λ _. Stops (Finished finish))) w)
stop_runs site Q e finish K w same =
    both_reply (λ (o : Behaviour (Unit {0}) ℕ) o'. run (K 0) w ≡ o → Runs site Q K w o') (Makes e) w.answers w (λ _. run (Stops (Finished finish))) (λ _. run (Stops (Finished finish)))
    (λ e. (0, e)) (λ _ _ e. (0, e)) same

module _ (site : Site) (rounds : ℕ) (call : (function line : ℕ) → List Value → Phrase Value) (k t to : ℕ) (base : List Value) (le : k ≤ t) where
  module _ (line pc n : ℕ) (regs : List Value) (env : State) (w : Log) (words : HasWords w) (matches : Matches k t base regs env) where
    abbrev Plays : Operation → (c : ℕ) → Type 0
    Plays o c = Applied site rounds call k t to base le o line pc c regs env w

    abbrev Stands : Operation → Type 0
    Stands o = Between site pc (op_code site.library o line t n pc) to

    abbrev a : Value
    a = value_at regs t

    -- t becomes what a phrase gives
    phrase_plays : (o : Op) (made : Phrase Value) → Has site pc line o → pc + 1 ≡ to →
        ((m : ℕ) → does site pc regs line o m ≡ bind made (λ _ v. from site (pc + 1) (put_at regs t v) m)) →
        Runs site (Into site k t to base le) (from site pc regs) w (run (bind made (λ _ v. Gives env v)) w)
    phrase_plays o made h e same = last_gives site k t to base le pc line o made made regs env w words h e same refl matches

    pub new_plays : Stands op.New → Plays op.New 1
    new_plays has = phrase_plays (code.New t t) (make_object a) has.0 has.1 (λ m. refl)

    pub size_plays : Stands op.Size → Plays op.Size 1
    size_plays has = phrase_plays (code.Size t t) (tell_size a (line_at site line)) has.0 has.1 (λ m. refl)

    pub input_plays : Stands op.Input → Plays op.Input 0
    input_plays has = phrase_plays (code.Input t) take_in has.0 has.1 (λ m. refl)

    pub join_plays : Stands op.Join → Plays op.Join 1
    join_plays has = phrase_plays (code.Join t t) (join_thread a) has.0 has.1 (λ m. refl)

    pub spawn_plays : Stands op.Spawn → Plays op.Spawn 2
    spawn_plays has = phrase_plays (code.Spawn t t (t + 1)) (start_thread (kinds_of site.code) a (value_at regs (t + 1)) (line_at site line)) has.0 has.1 (λ m. refl)

    pub free_plays : Stands op.Free → Plays op.Free 1
    free_plays has = last_does site k t to base le pc line (code.Free t) (free_object a (line_at site line)) regs env w words has.0 has.1 (λ m. refl) matches

    pub out_plays : Stands op.Out → Plays op.Out 1
    out_plays has = last_does site k t to base le pc line (code.Out t) (put_out a (line_at site line)) regs env w words has.0 has.1 (λ m. refl) matches

    pub lock_plays : 0 < rounds → Stands op.Lock → Plays op.Lock 1
    lock_plays more has =
        lock_runs site (Into site k t to base le) rounds more pc line t a regs w (Gives env a) words has.0 refl
        (λ w1 _. stays site k t to base le (pc + 1) regs env a w1 has.1 matches refl)

    pub exit_plays : Stands op.Exit → Plays op.Exit 1
    exit_plays has =
        let status = a.number % 256 in
        let e = Exit status in
        at_op site (Into site k t to base le) pc regs w line (code.Exit t) (run (Asks (Makes e) (λ _. Stops (Finished (Exited status)))) w) has.0
        (stop_runs site (Into site k t to base le) e (Exited status) _ w refl)

    pub abort_plays : Stands op.Abort → Plays op.Abort 0
    abort_plays has =
        let l = line_at site line in
        at_op site (Into site k t to base le) pc regs w line code.Abort (run (Asks (Makes (Trap Abort l)) (λ _. Stops (Finished (Trapped Abort l)))) w) has.0
        (stop_runs site (Into site k t to base le) (Trap Abort l) (Trapped Abort l) _ w refl)
