-- A play that allows n rounds of each loop is cut only after n backward jumps.
use Rattle.std.proofs.Common.{ℕ, zero, suc, refl}
use Rattle.std.specs.Prelude.{◌==◌}
use Rattle.c_tree.specs.Plain.{PlainProgram}
use Rattle.ideal_machine.specs.Values.{State}
use Rattle.ideal_machine.specs.Play.{Jump, bind}
use Rattle.ideal_machine.specs.Phrases.{Start, leave}
use Rattle.ideal_machine.proofs.Cuts.{IsFar, nearer, bind_far, leave_far}
use Rattle.ideal_machine.proofs.Bounds.{far_relates}
use Rattle.tree_play.specs.Around.{Flow, Normal, Broke, Continued, Returned, TextPlay}
use Rattle.tree_play.specs.Statements.{in_round, loop}
use Rattle.tree_play.specs.TreePlay.{play_first, play_thread}
use Rattle.tree_play.proofs.Related.{RelatesLoops, first_function_alike}

round_far : (n : ℕ) (next : State → TextPlay Flow) → ((s : State) → IsFar n (next s)) → (s : State) (f : Flow) → IsFar n (in_round next s f)
round_far n next h s Normal = h s
round_far n next h s Broke = tt
round_far n next h s Continued = h s
round_far n next h s (Returned v) = tt

loop_far : (n : ℕ) → RelatesLoops n n (λ S A p q. IsFar n p)
loop_far zero body body' next next' b x state = refl
loop_far (suc n) body body' next next' b x state =
    let again = λ (s : State). Jump (loop n body next s) in
    let step = λ (s : State). bind (next s) (in_round again) in
    bind_far (suc n) (body state) (in_round step) (b state)
    (round_far (suc n) step (λ s.
    bind_far (suc n) (next s) (in_round again) (x s)
    (round_far (suc n) again (λ s.
    loop_far n body body' next next' (λ s. nearer n (body s) (b s)) (λ s. nearer n (next s) (x s)) s))))

pub thread_far : (n : ℕ) (program : PlainProgram) (start : Start) → IsFar n (play_thread n program start)
thread_far n program start =
    let main = start.function == program.main in
    bind_far n (play_first n program start) (λ _ v. leave main v)
    (first_function_alike n n (λ S A p q. IsFar n p) (far_relates n) (λ S A. tt) (loop_far n) program start) (λ _ v. leave_far n main v)
