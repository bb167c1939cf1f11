-- Operations on locals without a home: the registers below k.
use Rattle.std.proofs.Common.{◌≢◌, ℕ, ◌+◌, ◌<◌, ◌≤◌, List, [], ◌∷◌, refl, ◌∙◌, arith}
use Rattle.c_tree.specs.declared.operation.Change.{Change}
use Rattle.c_tree.specs.declared.operation.Operation.{Operation}
use Rattle.c_tree.specs.declared.operation.Operation.TheVariants as op
use Rattle.whole_code.specs.declared.op.Op.TheVariants.{Move}
use Rattle.ideal_machine.specs.declared.value.Value.{Value}
use Rattle.ideal_machine.specs.Values.{State, value_at, put_at}
use Rattle.ideal_machine.specs.Play.{Gives, Log, Goes}
use Rattle.ideal_machine.specs.Phrases.{Phrase}
use Rattle.ideal_machine.proofs.Values.{value_at-put_same, value_at-put_other}
use Rattle.expr_gen.specs.Code.{op_code}
use Rattle.expr_gen.specs.Stretch.{Site, Between, HasWords, Matches}
use Rattle.expr_gen.proofs.Registers.{matches_put, matches_local, matches_same}
use Rattle.expr_gen.proofs.Instructions.{move_runs}
use Rattle.expr_gen.proofs.Changes.{change_runs}
use Rattle.expr_gen.proofs.Landing.{Into, stays, puts, Applied}

module _ (site : Site) (rounds : ℕ) (call : (function line : ℕ) → List Value → Phrase Value) (k t to : ℕ) (base : List Value) (le : k ≤ t) where
  module _ (line pc n : ℕ) (regs : List Value) (env : State) (w : Log) (words : HasWords w) (matches : Matches k t base regs env) where
    abbrev Plays : Operation → (c : ℕ) → Type 0
    Plays o c = Applied site rounds call k t to base le o line pc c regs env w

    abbrev Stands : Operation → Type 0
    Stands o = Between site pc (op_code site.library o line t n pc) to

    abbrev v : Value
    v = value_at regs t

    pub local_plays : (x : ℕ) → x < k → Stands (op.Local x) → Plays (op.Local x) 0
    local_plays x lt has =
        move_runs site (Into site k t to base le) pc line t x (value_at env x) regs w (Goes env (value_at env x) w) has.0 (matches.agree.same x lt)
        (puts site k t to base le (pc + 1) regs env (value_at env x) w has.1 matches)

    pub set_plays : (x : ℕ) → x < k → Stands (op.SetLocal x) → Plays (op.SetLocal x) 1
    set_plays x lt has =
        let ne : t ≢ x = omega (arith, le, lt) in
        move_runs site (Into site k t to base le) pc line x t v regs w (Goes (put_at env x v) v w) has.0 refl
        (stays site k t to base le (pc + 1) (put_at regs x v) (put_at env x v) v w has.1 (matches_local k t x base regs env v lt matches)
        (value_at-put_other regs x t v ne))

    pub update_plays : (x : ℕ) (how : Change) → x < k → Stands (op.UpdateLocal x how) → Plays (op.UpdateLocal x how) 1
    update_plays x how lt has =
        let ne : t ≢ x = omega (arith, le, lt) in
        change_runs site (Into site k t to base le) how pc line t (t + 1) x t to (Move x t ∷ []) (value_at env x) v regs w (λ new. Gives (put_at env x new) new) words has
        (matches.agree.same x lt) refl (omega (arith, le, lt)) (omega arith)
        (λ new pc1 regs1 w1 _ has1 same others.
        let still = matches_same k t base regs regs1 env le (λ y b. let n0 : y ≢ t = omega (arith, b) in let n1 : y ≢ t + 1 = omega (arith, b) in others y n0 n1) matches in
        move_runs site (Into site k t to base le) pc1 line x t new regs1 w1 (Goes (put_at env x new) new w1) has1.0 same
        (stays site k t to base le (pc1 + 1) (put_at regs1 x new) (put_at env x new) new w1 has1.1 (matches_local k t x base regs1 env new lt still)
        (value_at-put_other regs1 x t new ne ∙ same)))

    pub step_plays : (x : ℕ) (how : Change) → x < k → Stands (op.StepLocal x how) → Plays (op.StepLocal x how) 1
    step_plays x how lt has =
        let old = value_at env x in
        let ne : t ≢ x = omega (arith, le, lt) in
        let n0 : x ≢ t + 1 = omega (arith, le, lt) in
        let n1 : t + 1 ≢ t = omega arith in
        change_runs site (Into site k t to base le) how pc line (t + 1) (t + 1) x t to (Move t x ∷ Move x (t + 1) ∷ []) old v regs w (λ new. Gives (put_at env x new) old) words has
        (matches.agree.same x lt) refl n0 (omega arith)
        (λ new pc1 regs1 w1 _ has1 same others.
        let still = matches_same k t base regs regs1 env le (λ y b. let m0 : y ≢ t + 1 = omega (arith, b) in others y m0 m0) matches in
        let regs2 = put_at regs1 t old in
        move_runs site (Into site k t to base le) pc1 line t x old regs1 w1 (Goes (put_at env x new) old w1) has1.0 (others x n0 n0 ∙ matches.agree.same x lt)
        (move_runs site (Into site k t to base le) (pc1 + 1) line x (t + 1) new regs2 w1 (Goes (put_at env x new) old w1) has1.1.0 (value_at-put_other regs1 t (t + 1) old n1 ∙ same)
        (stays site k t to base le (pc1 + 1 + 1) (put_at regs2 x new) (put_at env x new) old w1 has1.1.1
        (matches_local k t x base regs2 env new lt (matches_put k t t base regs1 env old le (omega arith) still))
        (value_at-put_other regs2 x t new ne ∙ value_at-put_same regs1 t old))))
