-- Operations on memory: reads, stores and changes of what lies there.
use Rattle.std.proofs.Common.{◌≡◌, ◌≢◌, ℕ, ◌+◌, ◌<◌, ◌≤◌, List, [], ◌∷◌, ◌++◌, refl, ◌∙◌, arith}
use Rattle.c_tree.specs.declared.operation.Access.{Access}
use Rattle.c_tree.specs.declared.operation.Change.{Change}
use Rattle.c_tree.specs.declared.operation.Operation.{Operation}
use Rattle.c_tree.specs.declared.operation.Operation.TheVariants as op
use Rattle.whole_code.specs.declared.op.Op.TheVariants.{Move}
use Rattle.ideal_machine.specs.declared.value.Value.{Value}
use Rattle.ideal_machine.specs.Values.{State, value_at, put_at}
use Rattle.ideal_machine.specs.Play.{Gives, bind, Log, Goes, run}
use Rattle.ideal_machine.specs.Phrases.{Phrase}
use Rattle.ideal_machine.proofs.Values.{value_at-put_same, value_at-put_other}
use Rattle.tree_play.specs.Around.{then_give}
use Rattle.tree_play.specs.Memory.{load, store, new_value}
use Rattle.expr_gen.specs.Operations.{load_op, store_op, change_ops}
use Rattle.expr_gen.specs.Code.{instructions, op_code}
use Rattle.expr_gen.specs.Stretch.{Site, Between, from, Runs, HasWords, Matches}
use Rattle.expr_gen.proofs.Registers.{matches_same}
use Rattle.expr_gen.proofs.Stretch.{line_at}
use Rattle.expr_gen.proofs.Instructions.{move_runs, load_runs, store_runs}
use Rattle.expr_gen.proofs.Changes.{change_runs}
use Rattle.expr_gen.proofs.Landing.{Into, puts, Applied}

module _ (site : Site) (rounds : ℕ) (call : (function line : ℕ) → List Value → Phrase Value) (k t to : ℕ) (base : List Value) (le : k ≤ t) where
  module _ (line pc n : ℕ) (regs : List Value) (env : State) (w : Log) (words : HasWords w) (matches : Matches k t base regs env) where
    abbrev Plays : Operation → (c : ℕ) → Type 0
    Plays o c = Applied site rounds call k t to base le o line pc c regs env w

    abbrev Stands : Operation → Type 0
    Stands o = Between site pc (op_code site.library o line t n pc) to

    abbrev p : Value
    p = value_at regs t

    abbrev v : Value
    v = value_at regs (t + 1)

    pub load_plays : (lies : Access) → Stands (op.Load lies) → Plays (op.Load lies) 1
    load_plays lies has =
        load_runs site (Into site k t to base le) lies pc line t t p regs w (λ x. Gives env x) words has.0 refl
        (λ x w1 _. puts site k t to base le (pc + 1) regs env x w1 has.1 matches)

    pub store_plays : (lies : Access) → Stands (op.Store lies) → Plays (op.Store lies) 2
    store_plays lies has =
        store_runs site (Into site k t to base le) lies pc line t (t + 1) p v regs w (Gives env v) words has.0 refl refl
        (λ w1 _. move_runs site (Into site k t to base le) (pc + 1) line t (t + 1) v regs w1 (Goes env v w1) has.1.0 refl
        (puts site k t to base le (pc + 1 + 1) regs env v w1 has.1.1 matches))

    -- a change, of which the register r has the value that `told` says
    change_plays :
        (lies : Access) (how : Change) (r : ℕ) (told : (old new : Value) → Value) →
        Between site pc (instructions site.library line (load_op lies (t + 2) t ∷ change_ops how (t + 1) (t + 3) (t + 2) (t + 1) ++ store_op lies t (t + 1) ∷ Move t r ∷ [])) to →
        ((old new : Value) (regs1 : List Value) → value_at regs1 (t + 2) ≡ old → value_at regs1 (t + 1) ≡ new → value_at regs1 r ≡ told old new) →
        Runs site (Into site k t to base le) (from site pc regs) w
        (run (bind (load site.start.base lies p (line_at site line)) (λ _ old. bind (new_value how old v (line_at site line)) (λ _ new.
        then_give env (store site.start.base lies p new (line_at site line)) (told old new)))) w)
    change_plays lies how r told has tells =
        let l = line_at site line in
        let Q = Into site k t to base le in
        let go = λ (old new : Value). then_give env (store site.start.base lies p new l) (told old new) in
        let n1 : t + 1 ≢ t + 2 = omega arith in
        let n2 : t ≢ t + 2 = omega arith in
        let m1 : t + 2 ≢ t + 1 = omega arith in
        let m3 : t + 2 ≢ t + 3 = omega arith in
        load_runs site Q lies pc line (t + 2) t p regs w (λ old. bind (new_value how old v l) (λ _ new. go old new)) words has.0 refl
        (λ old w1 words1.
        let regs1 = put_at regs (t + 2) old in
        change_runs site Q how (pc + 1) line (t + 1) (t + 3) (t + 2) (t + 1) to (store_op lies t (t + 1) ∷ Move t r ∷ []) old v regs1 w1 (λ new. go old new) words1 has.1
        (value_at-put_same regs (t + 2) old) (value_at-put_other regs (t + 2) (t + 1) old n1) m3 (omega arith)
        (λ new pc1 regs2 w2 words2 has2 same others.
        let below = λ (x : ℕ) (lt : x < t + 1).
        let x1 : x ≢ t + 1 = omega (arith, lt) in
        let x2 : x ≢ t + 2 = omega (arith, lt) in
        let x3 : x ≢ t + 3 = omega (arith, lt) in
        others x x1 x3 ∙ value_at-put_other regs (t + 2) x old x2 in
        let still = matches_same k t base regs regs2 env le (λ x lt. below x (omega (arith, lt))) matches in
        store_runs site Q lies pc1 line t (t + 1) p new regs2 w2 (Gives env (told old new)) words2 has2.0 (below t (omega arith)) same
        (λ w3 _. move_runs site Q (pc1 + 1) line t r (told old new) regs2 w3 (Goes env (told old new) w3) has2.1.0
        (tells old new regs2 (others (t + 2) m1 m3 ∙ value_at-put_same regs (t + 2) old) same)
        (puts site k t to base le (pc1 + 1 + 1) regs2 env (told old new) w3 has2.1.1 still))))

    pub update_plays : (lies : Access) (how : Change) → Stands (op.Update lies how) → Plays (op.Update lies how) 2
    update_plays lies how has = change_plays lies how (t + 1) (λ _ new. new) has (λ _ _ _ _ same. same)

    pub step_plays : (lies : Access) (how : Change) → Stands (op.Step lies how) → Plays (op.Step lies how) 2
    step_plays lies how has = change_plays lies how (t + 2) (λ old _. old) has (λ _ _ _ same _. same)
