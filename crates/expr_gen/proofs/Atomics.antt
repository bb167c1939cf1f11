-- Atomic operations.
use Rattle.std.proofs.Common.{◌≢◌, ℕ, ◌+◌, ◌≤◌, List, [], refl, ap, ◌∙◌, arith}
use Rattle.filc_num.specs.declared.integer.IntType.{IntType}
use Rattle.filc_num.specs.declared.integer.BinOp.{BinOp}
use Rattle.c_tree.specs.declared.operation.Access.{Access}
use Rattle.c_tree.specs.declared.operation.Access.TheVariants as access
use Rattle.c_tree.specs.declared.operation.Change.TheVariants as change
use Rattle.c_tree.specs.declared.operation.Operation.{Operation}
use Rattle.c_tree.specs.declared.operation.Operation.TheVariants as op
use Rattle.whole_code.specs.declared.op.Op.TheVariants as code
use Rattle.whole_code.specs.Numbers.{operator_number, type_at, type_number, set_number}
use Rattle.ideal_machine.specs.declared.value.Value.{Value}
use Rattle.ideal_machine.specs.declared.event.Operation.TheVariants.{Set, Compute}
use Rattle.ideal_machine.specs.Values.{State, value_at, put_at}
use Rattle.ideal_machine.specs.Play.{Play, Gives, bind, Log, run}
use Rattle.ideal_machine.specs.Phrases.{Phrase}
use Rattle.ideal_machine.specs.IntAccess.{update_int}
use Rattle.ideal_machine.specs.PointerAccess.{swap_pair}
use Rattle.ideal_machine.proofs.Values.{value_at-put_same, value_at-put_other}
use Rattle.tree_play.specs.Memory.{new_value}
use Rattle.whole_thread.specs.Act.{operation_at}
use Rattle.expr_gen.specs.Operations.{fetch_op}
use Rattle.expr_gen.specs.Code.{op_code}
use Rattle.expr_gen.specs.Stretch.{Site, Between, from, Landing, Runs, HasWords, Matches}
use Rattle.expr_gen.proofs.Numbers.{type_back, operation_back}
use Rattle.expr_gen.proofs.Registers.{matches_same}
use Rattle.expr_gen.proofs.Stretch.{line_at, Has}
use Rattle.expr_gen.proofs.Instructions.{gives_runs}
use Rattle.expr_gen.proofs.Changes.{change_runs}
use Rattle.expr_gen.proofs.Landing.{Into, stays, puts, last_gives, Applied}

module _ (site : Site) {S A : Type 0} (Q : Landing S A) where
  pub fetch_runs :
      (pc line d p a : ℕ) (object : IntType) (o : BinOp) (computed : IntType) (regs : List Value) (w : Log) (go : Value → Play S A) → HasWords w →
      Has site pc line (fetch_op object o computed d p a) →
      ((v : Value) (w1 : Log) → HasWords w1 → Runs site Q (from site (pc + 1) (put_at regs d v)) w1 (run (go v) w1)) →
      Runs site Q (from site pc regs) w
      (run (bind (update_int site.start.base object (value_at regs p) (Compute o object computed) (value_at regs a) (line_at site line)) (λ _ v. go v)) w)
  fetch_runs pc line d p a object o computed regs w go words h each =
      let l = line_at site line in
      let base = site.start.base in
      let x = value_at regs p in
      let y = value_at regs a in
      let made = operation_at (operator_number o) (type_number object) (type_number computed) in
      gives_runs site Q pc line d (fetch_op object o computed d p a) (update_int base (type_at (type_number object)) x made y l) (update_int base object x (Compute o object computed) y l)
      regs w go words h (λ m. refl)
      (ap (λ u. update_int base u x made y l) (type_back object) ∙ ap (λ z. update_int base object x z y l) (operation_back o object computed)) each

module _ (site : Site) (rounds : ℕ) (call : (function line : ℕ) → List Value → Phrase Value) (k t to : ℕ) (base : List Value) (le : k ≤ t) where
  module _ (line pc n : ℕ) (regs : List Value) (env : State) (w : Log) (words : HasWords w) (matches : Matches k t base regs env) where
    abbrev Plays : Operation → (c : ℕ) → Type 0
    Plays o c = Applied site rounds call k t to base le o line pc c regs env w

    abbrev Stands : Operation → Type 0
    Stands o = Between site pc (op_code site.library o line t n pc) to

    abbrev p : Value
    p = value_at regs t

    abbrev v : Value
    v = value_at regs (t + 1)

    pub swap_plays : (lies : Access) → Stands (op.Swap lies) → Plays (op.Swap lies) 2
    swap_plays (access.Integer ty) has =
        let l = line_at site line in
        let u = type_number ty in
        let b = site.start.base in
        last_gives site k t to base le pc line (code.RmwInt t t (t + 1) set_number u u) (update_int b (type_at u) p Set v l) (update_int b ty p Set v l) regs env w words has.0 has.1 (λ m. refl)
        (ap (λ x. update_int b x p Set v l) (type_back ty)) matches
    swap_plays access.Pointer has =
        let made = swap_pair site.start.base p v (line_at site line) in
        last_gives site k t to base le pc line (code.BoxSwap t t (t + 1)) made made regs env w words has.0 has.1 (λ m. refl) refl matches
    swap_plays access.Box has =
        let made = swap_pair site.start.base p v (line_at site line) in
        last_gives site k t to base le pc line (code.BoxSwap t t (t + 1)) made made regs env w words has.0 has.1 (λ m. refl) refl matches

    pub fetch_plays : (object : IntType) (o : BinOp) (computed : IntType) → Stands (op.Fetch object o computed) → Plays (op.Fetch object o computed) 2
    fetch_plays object o computed has =
        fetch_runs site (Into site k t to base le) pc line t t (t + 1) object o computed regs w (λ x. Gives env x) words has.0
        (λ x w1 _. puts site k t to base le (pc + 1) regs env x w1 has.1 matches)

    pub combine_plays : (object : IntType) (o : BinOp) (computed : IntType) → Stands (op.Combine object o computed) → Plays (op.Combine object o computed) 2
    combine_plays object o computed has =
        let Q = Into site k t to base le in
        let how = change.Integer o computed object in
        let n1 : t + 1 ≢ t + 2 = omega arith in
        fetch_runs site Q pc line (t + 2) t (t + 1) object o computed regs w (λ old. bind (new_value how old v (line_at site line)) (λ _ new. Gives env new)) words has.0
        (λ old w1 words1.
        let regs1 = put_at regs (t + 2) old in
        change_runs site Q how (pc + 1) line t (t + 3) (t + 2) (t + 1) to [] old v regs1 w1 (λ new. Gives env new) words1 has.1 (value_at-put_same regs (t + 2) old)
        (value_at-put_other regs (t + 2) (t + 1) old n1) (omega arith) (omega arith)
        (λ new pc1 regs2 w2 _ e same others.
        stays site k t to base le pc1 regs2 env new w2 e
        (matches_same k t base regs regs2 env le
        (λ x lt.
        let x0 : x ≢ t = omega (arith, lt) in
        let x2 : x ≢ t + 2 = omega (arith, lt) in
        let x3 : x ≢ t + 3 = omega (arith, lt) in
        others x x0 x3 ∙ value_at-put_other regs (t + 2) x old x2) matches) same))
