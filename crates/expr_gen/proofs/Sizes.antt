-- Code is as long as its size says, wherever it stands.
use Rattle.std.proofs.Common.{◌≡◌, ℕ, suc, ◌+◌, List, [], ◌∷◌, ◌++◌, length, Bool, true, false, Some, None, refl, ◌∙◌, arith, length-append}
use Rattle.std.proofs.lemmas.List.{length-map}
use Rattle.c_tree.specs.declared.expr.Expr.{Expr, Apply', Chain', Logic', Choose', Print', Row_of-Expr, end_of-Expr, more_of-Expr, Row_of-Link, end_of-Link, more_of-Link}
use Rattle.c_tree.specs.declared.operation.Access.{Access}
use Rattle.c_tree.specs.declared.operation.Access.TheVariants as access
use Rattle.c_tree.specs.declared.operation.Change.TheVariants as change
use Rattle.c_tree.specs.declared.operation.Operation.{Operation}
use Rattle.c_tree.specs.declared.operation.Operation.TheVariants as op
use Rattle.c_tree.specs.declared.operation.Piece.{Piece}
use Rattle.c_tree.specs.declared.operation.Piece.TheVariants as piece
use Rattle.c_tree.specs.Fits.{count_of}
use Rattle.whole_code.specs.declared.op.Op.TheVariants.{Const, Move, Jump, JumpZero, StoreInt}
use Rattle.whole_code.specs.Numbers.{type_number}
use Rattle.filc_num.specs.declared.integer.BinOp.TheVariants.{Add}
use Rattle.filc_num.specs.declared.integer.IntType.TheVariants.{I32}
use Rattle.whole_code.specs.declared.op.Instruction.{Instruction}
use Rattle.expr_gen.specs.Operations.{at_line, binary_op, cas_ops, operation_ops, piece_ops, pieces_ops, print_ops}
use Rattle.expr_gen.specs.Code.{op_code, print_code, op_size, print_size, branch_size, expr_size, operands_size, links_size, tests_size, logic_size, branch_code, expr_code, operands_code, links_code, logic_code}

-- ---- operations

cas_length : (lies : Access) (t at : ℕ) → length (cas_ops lies t at) ≡ length (cas_ops lies 0 0)
cas_length (access.Integer ty) t at = refl
cas_length access.Pointer t at = refl
cas_length access.Box t at = refl

ops_length : (o : Operation) (t n at : ℕ) → length (operation_ops o t n at) ≡ op_size o
ops_length (op.Number v) t n at = refl
ops_length (op.Local x) t n at = refl
ops_length (op.Static s) t n at = refl
ops_length (op.Function f) t n at = refl
ops_length (op.Convert ty) t n at = refl
ops_length (op.Binary o ty) t n at = refl
ops_length (op.Negate ty) t n at = refl
ops_length (op.Complement ty) t n at = refl
ops_length (op.Not ty) t n at = refl
ops_length (op.Advance bytes) t n at = refl
ops_length (op.Retreat bytes) t n at = refl
ops_length (op.AdvanceBy bytes) t n at = refl
ops_length (op.Offset bytes) t n at = refl
ops_length op.ToPointer t n at = refl
ops_length (op.Distance bytes) t n at = refl
ops_length (op.Compare o) t n at = refl
ops_length (op.ToInteger ty) t n at = refl
ops_length (op.SetLocal x) t n at = refl
ops_length (op.UpdateLocal x (change.Integer o computed ty)) t n at = refl
ops_length (op.UpdateLocal x (change.Advance bytes)) t n at = refl
ops_length (op.UpdateLocal x (change.Retreat bytes)) t n at = refl
ops_length (op.StepLocal x (change.Integer o computed ty)) t n at = refl
ops_length (op.StepLocal x (change.Advance bytes)) t n at = refl
ops_length (op.StepLocal x (change.Retreat bytes)) t n at = refl
ops_length (op.Load lies) t n at = refl
ops_length (op.Store lies) t n at = refl
ops_length (op.Update lies (change.Integer o computed ty)) t n at = refl
ops_length (op.Update lies (change.Advance bytes)) t n at = refl
ops_length (op.Update lies (change.Retreat bytes)) t n at = refl
ops_length (op.Step lies (change.Integer o computed ty)) t n at = refl
ops_length (op.Step lies (change.Advance bytes)) t n at = refl
ops_length (op.Step lies (change.Retreat bytes)) t n at = refl
ops_length (op.Copy unit count) t n at = refl
ops_length (op.Swap lies) t n at = refl
ops_length (op.Cas lies) t n at = cas_length lies t at
ops_length (op.Fetch object o computed) t n at = refl
ops_length (op.Combine object o computed) t n at = refl
ops_length (op.Call f) t n at = refl
ops_length (op.CallPointer kind) t n at = refl
ops_length op.New t n at = refl
ops_length op.Free t n at = refl
ops_length op.Size t n at = refl
ops_length op.Lock t n at = refl
ops_length op.Out t n at = refl
ops_length op.Input t n at = refl
ops_length op.Spawn t n at = refl
ops_length op.Join t n at = refl
ops_length op.SelfId t n at = refl
ops_length op.Exit t n at = refl
ops_length op.Abort t n at = refl
ops_length op.Second t n at = refl

pub op_length : (library : Bool) (o : Operation) (line t n at : ℕ) → length (op_code library o line t n at) ≡ op_size o
op_length library o line t n at = length-map (operation_ops o t n at) (at_line library line) ∙ ops_length o t n at

-- ---- printf

piece_length : (p : Piece) (t c : ℕ) → length (piece_ops p t c) ≡ length (piece_ops p 0 0)
piece_length (piece.Byte byte) t c = refl
piece_length (piece.Out operand) t c = refl
piece_length (piece.Put f operand None) t c = refl
piece_length (piece.Put f operand (Some radix)) t c = refl

pieces_length : (pieces : List Piece) (t c : ℕ) → length (pieces_ops pieces t c) ≡ length (pieces_ops pieces 0 0)
pieces_length [] t c = refl
pieces_length (p ∷ pieces) t c =
    let l = binary_op Add I32 c c (c + 1) ∷ pieces_ops pieces t c in
    let l0 = binary_op Add I32 0 0 1 ∷ pieces_ops pieces 0 0 in
    omega (arith, length-append (piece_ops p t c) l, length-append (piece_ops p 0 0) l0, piece_length p t c, pieces_length pieces t c)

pub print_length : (library : Bool) (pieces : List Piece) (line t n : ℕ) → length (print_code library pieces line t n) ≡ print_size pieces
print_length library pieces line t n =
    let l = Const (t + n + 1) 0 ∷ StoreInt t (t + n + 1) (type_number I32) ∷ Move t (t + n) ∷ [] in
    let l0 = Const 1 0 ∷ StoreInt 0 1 (type_number I32) ∷ Move 0 0 ∷ [] in
    let e : length (print_ops pieces t n) ≡ print_size pieces =
    omega (arith, length-append (pieces_ops pieces t (t + n)) l, length-append (pieces_ops pieces 0 0) l0, pieces_length pieces t (t + n)) in
    length-map (print_ops pieces t n) (at_line library line) ∙ e

-- ---- expressions

-- two stretches
pub two : (a b : List Instruction) (n m : ℕ) → length a ≡ n → length b ≡ m → length (a ++ b) ≡ n + m
two a b n m e f = omega (arith, length-append a b, e, f)

pub branch_length :
    (library : Bool) (line t at n0 n1 n2 : ℕ) (ct c1 c2 : List Instruction) → length ct ≡ n0 → length c1 ≡ n1 → length c2 ≡ n2 →
    length (branch_code library line t at n0 n1 n2 ct c1 c2) ≡ branch_size n0 n1 n2
branch_length library line t at n0 n1 n2 ct c1 c2 e0 e1 e2 =
    let jz = at_line library line (JumpZero t (at + n0 + 1 + n1 + 1)) in
    let j = at_line library line (Jump (at + n0 + 1 + n1 + 1 + n2)) in
    omega (arith, length-append ct (jz ∷ (c1 ++ (j ∷ c2))), length-append c1 (j ∷ c2), e0, e1, e2)

module _ (library : Bool) where
  mutual
    pub expr_length : (e : Expr) (t at : ℕ) → length (expr_code library e t at) ≡ expr_size e
    expr_length (Apply' line o z operands) t at =
        two (operands_code library operands t at) (op_code library o line t (count_of operands) (at + operands_size operands)) _ _ (operands_length operands t at)
        (op_length library o line t (count_of operands) (at + operands_size operands))
    expr_length (Chain' line s (more_of-Expr first end_of-Expr) z links) t at =
        two (expr_code library first t at) (links_code library line links t (at + expr_size first)) _ _ (expr_length first t at) (links_length line links t (at + expr_size first))
    expr_length (Logic' line all z operands) t at = logic_length line all operands t at
    expr_length (Choose' line s (more_of-Expr test end_of-Expr) s1 (more_of-Expr one end_of-Expr) s2 (more_of-Expr other end_of-Expr)) t at =
        branch_length library line t at _ _ _ _ _ _ (expr_length test t at) (expr_length one t (at + expr_size test + 1)) (expr_length other t (at + expr_size test + 1 + expr_size one + 1))
    expr_length (Print' line z operands pieces) t at =
        two (operands_code library operands t at) (print_code library pieces line t (count_of operands)) _ _ (operands_length operands t at) (print_length library pieces line t (count_of operands))

    pub operands_length : {m : _} (row : Row_of-Expr m) (t at : ℕ) → length (operands_code library row t at) ≡ operands_size row
    operands_length end_of-Expr t at = refl
    operands_length (more_of-Expr e rest) t at =
        two (expr_code library e t at) (operands_code library rest (t + 1) (at + expr_size e)) _ _ (expr_length e t at) (operands_length rest (t + 1) (at + expr_size e))

    pub links_length : {m : _} (line : ℕ) (links : Row_of-Link m) (t at : ℕ) → length (links_code library line links t at) ≡ links_size links
    links_length line end_of-Link t at = refl
    links_length line (more_of-Link o z operands links) t at =
        let co = operands_code library operands (t + 1) at in
        let p1 = at + operands_size operands in
        let p2 = p1 + op_size o in
        let cc = op_code library o line t (suc (count_of operands)) p1 in
        let cl = links_code library line links t p2 in
        omega (arith, length-append co (cc ++ cl), length-append cc cl, operands_length operands (t + 1) at, op_length library o line t (suc (count_of operands)) p1, links_length line links t p2)

    pub logic_length : {m : _} (line : ℕ) (all : Bool) (row : Row_of-Expr m) (t at : ℕ) → length (logic_code library line all row t at) ≡ logic_size all row
    logic_length line true end_of-Expr t at = refl
    logic_length line false end_of-Expr t at = refl
    logic_length line true (more_of-Expr e rest) t at =
        let p1 = at + expr_size e + 1 in
        omega (
          arith,
          length-append (expr_code library e t at) (at_line library line (JumpZero t (p1 + tests_size rest + 2)) ∷ logic_code library line true rest t p1),
          expr_length e t at,
          logic_length line true rest t p1,
        )
    logic_length line false (more_of-Expr e rest) t at =
        branch_length library line t at _ _ _ _ (at_line library line (Const t 1) ∷ []) _ (expr_length e t at) refl (logic_length line false rest t (at + expr_size e + 1 + 1 + 1))
