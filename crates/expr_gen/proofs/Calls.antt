-- Calls: where the caller goes on, once the called function's code has run its play.
use Rattle.std.proofs.Common.{◌≡◌, ℕ, suc, ◌+◌, ◌-◌, ◌≤◌, List, refl, sym, subst, arith}
use Rattle.c_tree.specs.declared.operation.Operation.{Operation}
use Rattle.c_tree.specs.declared.operation.Operation.TheVariants as op
use Rattle.whole_code.specs.declared.op.Op.TheVariants as code
use Rattle.ideal_machine.specs.declared.value.Value.{Value}
use Rattle.ideal_machine.specs.Values.{State, value_at, put_at}
use Rattle.ideal_machine.specs.Play.{Play, Gives, Call, bind, Log, with_call, Behaviour, Goes, Ends, log_of, run}
use Rattle.ideal_machine.specs.Phrases.{Phrase}
use Rattle.ideal_machine.specs.Threads.{function_named}
use Rattle.ideal_machine.proofs.Runs.{then_do, run_bind}
use Rattle.tree_play.specs.Around.{in_state}
use Rattle.tree_play.specs.Apply.{apply}
use Rattle.whole_thread.specs.Act.{kinds_of}
use Rattle.expr_gen.specs.Code.{op_code}
use Rattle.expr_gen.specs.Stretch.{Site, around_at, Between, Bounded, from, Landing, Runs, ReturnsTo, entry, HasWords, CallRuns, values_from, Matches}
use Rattle.expr_gen.proofs.Stretch.{line_at, run_words, came, phrase_runs, Has, at_op}
use Rattle.expr_gen.proofs.Landing.{Into, puts, Applied}

module _ (site : Site) {S A : Type 0} (Q : Landing S A) where
  call_then :
      (K : Bounded) (leave : Value → Bounded) (w : Log) (o : Behaviour (Unit {0}) Value) (go : Value → Play S A) → HasWords (log_of o) → ReturnsTo K leave w o →
      ((v : Value) (w1 : Log) → HasWords w1 → Runs site Q (leave v) w1 (run (go v) w1)) → Runs site Q K w (then_do o (λ _ v. run (go v)))
  call_then K leave w (Goes s v w1) go words r each = came site Q K w (leave v) w1 (run (go v) w1) r (each v w1 words)
  call_then K leave w (Ends e w1) go words r each = r

  -- a call after its mark, and what follows it
  pub entered_runs :
      (call : (function line : ℕ) → List Value → Phrase Value) → CallRuns site call →
      (pc line d f : ℕ) (arguments : List Value) (regs : List Value) (w : Log) (go : Value → Play S A) → HasWords w →
      ((v : Value) (w1 : Log) → HasWords w1 → Runs site Q (from site (pc + 1) (put_at regs d v)) w1 (run (go v) w1)) →
      Runs site Q (λ m. Call (entry site pc regs line d f arguments m)) w (run (Call (bind (call f line arguments) (λ _ v. go v))) w)
  entered_runs call calls pc line d f arguments regs w go words each =
      let K = entry site pc regs line d f arguments in
      let p = call f line arguments in
      let leave = λ (v : Value). from site (pc + 1) (put_at regs d v) in
      came site Q (λ m. Call (K m)) w K (with_call w) (run (bind p (λ _ v. go v)) (with_call w)) (λ m. (m, refl))
      (subst (Runs site Q K (with_call w)) (sym (run_bind p (λ _ v. go v) (with_call w)))
      (call_then K leave (with_call w) (run p (with_call w)) go (run_words p (with_call w) words) (calls f line arguments pc d regs (with_call w) words) each))

  -- a call of a function with so many arguments
  pub call_runs :
      (call : (function line : ℕ) → List Value → Phrase Value) → CallRuns site call →
      (pc line d f first count : ℕ) (arguments : List Value) (regs : List Value) (w : Log) (go : Value → Play S A) → HasWords w →
      Has site pc line (code.Call d f first count) → values_from regs first count ≡ arguments →
      ((v : Value) (w1 : Log) → HasWords w1 → Runs site Q (from site (pc + 1) (put_at regs d v)) w1 (run (go v) w1)) →
      Runs site Q (from site pc regs) w (run (Call (bind (call f (line_at site line) arguments) (λ _ v. go v))) w)
  call_runs call calls pc line d f first count arguments regs w go words h e each =
      let l = line_at site line in
      let b = λ (x : List Value). run (Call (bind (call f l x) (λ _ v. go v))) w in
      at_op site Q pc regs w line (code.Call d f first count) (b arguments) h
      (subst (λ x. Runs site Q (λ m. Call (entry site pc regs l d f (values_from regs first count) m)) w (b x)) e
      (entered_runs call calls pc l d f (values_from regs first count) regs w go words each))

module _ (site : Site) (rounds : ℕ) (call : (function line : ℕ) → List Value → Phrase Value) (calls : CallRuns site call) (k t to : ℕ) (base : List Value) (le : k ≤ t) where
  module _ (line pc n : ℕ) (regs : List Value) (env : State) (w : Log) (words : HasWords w) (matches : Matches k t base regs env) where
    abbrev Plays : Operation → (c : ℕ) → Type 0
    Plays o c = Applied site rounds call k t to base le o line pc c regs env w

    pub call_plays : (f : ℕ) → Between site pc (op_code site.library (op.Call f) line t n pc) to → Plays (op.Call f) n
    call_plays f has =
        call_runs site (Into site k t to base le) call calls pc line t f t n (values_from regs t n) regs w (λ v. Gives env v) words has.0 refl
        (λ v w1 _. puts site k t to base le (pc + 1) regs env v w1 has.1 matches)

    pub pointer_plays : (kind c : ℕ) → n ≡ suc c → Between site pc (op_code site.library (op.CallPointer kind) line t n pc) to → Plays (op.CallPointer kind) (suc c)
    pointer_plays kind c e has =
        let Q = Into site k t to base le in
        let l = line_at site line in
        let p = value_at regs t in
        let named = function_named (kinds_of site.code) kind p l in
        let m : n - 1 ≡ c = omega (arith, e) in
        at_op site Q pc regs w line (code.CallPointer t t (t + 1) (n - 1) kind) (run (apply (around_at site rounds call) (op.CallPointer kind) l (values_from regs t (suc c)) env) w) has.0
        (subst (λ x. Runs site Q (λ m. bind named (λ _ f. Call (entry site pc regs l t f (values_from regs (t + 1) x) m))) w
        (run (bind named (λ _ f. Call (in_state env (call f l (values_from regs (t + 1) c))))) w)) (sym m)
        (phrase_runs site Q named (λ m f. Call (entry site pc regs l t f (values_from regs (t + 1) c) m)) (λ f. Call (in_state env (call f l (values_from regs (t + 1) c)))) w words
        (λ f w1 words1.
        entered_runs site Q call calls pc l t f (values_from regs (t + 1) c) regs w1 (λ v. Gives env v) words1
        (λ v w2 _. puts site k t to base le (pc + 1) regs env v w2 has.1 matches))))
