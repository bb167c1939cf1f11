-- The code of a program that keeps what a tree keeps is well formed.
use Rattle.std.proofs.Common.{◌≡◌, ℕ, suc, ◌+◌, ◌<◌, ◌≤◌, refl, ap, List, [], ◌∷◌, ◌++◌, length, All, sym, subst, arith, length-append}
use Rattle.std.specs.Prelude.{IsTrue, map}
use Rattle.std.proofs.lemmas.List.Elements.{All-append, All-nil, All-cons, All-head, All-tail}
use Rattle.filc_num.specs.Integers.{is_promoted}
use Rattle.filc_num.specs.declared.integer.BinOp.{BinOp}
use Rattle.filc_num.specs.declared.integer.BinOp.TheVariants.{Add, Sub, Mul, Div, Rem, And, Or, Xor, Shl, Shr, Lt, Le, Gt, Ge, Eq, Ne}
use Rattle.filc_num.specs.declared.integer.IntType.{IntType}
use Rattle.filc_num.specs.declared.integer.IntType.TheVariants.{Bool as BoolType, I8, U8, I16, U16, I32, U32, I64, U64}
use Rattle.form_tree.specs.declared.expr.Expr.{Expr, Number, Local, Negate', Chain', Row_of-Link, end_of-Expr, more_of-Expr, end_of-Link, more_of-Link}
use Rattle.form_tree.specs.declared.stmt.LocalDef.{LocalDef}
use Rattle.form_tree.specs.declared.stmt.Stmt.{Stmt, Empty, Assign, While', Block', PutChar, Return, Row_of-Stmt, end_of-Stmt, more_of-Stmt}
use Rattle.form_tree.specs.declared.program.FunctionDef.{FunctionDef}
use Rattle.form_tree.specs.Plain.{PlainProgram}
use Rattle.form_tree.specs.Fits.{ExprFits, LinksFit, StmtFits, StmtsFit, FunctionFits, IsProgram}
use Rattle.form_tree.specs.Temps.{temps_of, links_temps, stmt_temps, stmts_temps, values_of}
use Rattle.filc_code.specs.declared.op.Instruction.{Instruction}
use Rattle.filc_code.specs.declared.op.Op.TheVariants.{Const, Move, Binary, Jump, JumpZero, Return as ReturnOp, Out}
use Rattle.filc_code.specs.Numbers.{operator_number, type_number}
use Rattle.filc_code.specs.WellFormed.{IsOperatorNumber, IsArithmeticNumber, IsOpWellFormed, LeavesPlace, EndsInLeaving, IsFunctionWellFormed, IsWellFormed}
use Rattle.code_gen.specs.Code.{at_line, expr_code, links_code, zeros_code, stmt_code, stmts_code, body_code, function_code, program_code}

operator_within : (op : BinOp) → IsOperatorNumber (operator_number op)
operator_within Add = omega arith
operator_within Sub = omega arith
operator_within Mul = omega arith
operator_within Div = omega arith
operator_within Rem = omega arith
operator_within And = omega arith
operator_within Or = omega arith
operator_within Xor = omega arith
operator_within Shl = omega arith
operator_within Shr = omega arith
operator_within Lt = omega arith
operator_within Le = omega arith
operator_within Gt = omega arith
operator_within Ge = omega arith
operator_within Eq = omega arith
operator_within Ne = omega arith

type_within : (ty : IntType) → IsTrue (is_promoted ty) → IsArithmeticNumber (type_number ty)
type_within BoolType h = absurd (cc)
type_within I8 h = absurd (cc)
type_within U8 h = absurd (cc)
type_within I16 h = absurd (cc)
type_within U16 h = absurd (cc)
type_within I32 h = (omega arith, omega arith)
type_within U32 h = (omega arith, omega arith)
type_within I64 h = (omega arith, omega arith)
type_within U64 h = (omega arith, omega arith)

-- an expression needs a register
temps_pos : (e : Expr) → 0 < temps_of e
temps_pos (Number line ty value) = omega arith
temps_pos (Local line ty local) = omega arith
temps_pos (Negate' line ty s (more_of-Expr operand end_of-Expr)) = temps_pos operand
temps_pos (Chain' line s (more_of-Expr first end_of-Expr) z links) = omega (arith, temps_pos first)

-- in a function of so many registers, instructions and locals
module _ (values long k : ℕ) where
  abbrev IsFormed : Instruction → Type 0
  IsFormed i = IsOpWellFormed values long i.op

  abbrev AreFormed : List Instruction → Type 0
  AreFormed code = All IsFormed code

  none : AreFormed []
  none = All-nil IsFormed

  and_then : (i : Instruction) (is : List Instruction) → IsFormed i → AreFormed is → AreFormed (i ∷ is)
  and_then i is h hs = All-cons IsFormed i is h hs

  one : (i : Instruction) → IsFormed i → AreFormed (i ∷ [])
  one i h = and_then i [] h none

  both : (a b : List Instruction) → AreFormed a → AreFormed b → AreFormed (a ++ b)
  both a b h k' = All-append IsFormed a b h k'

  binary_formed :
      (line d a b : ℕ) (op : BinOp) (ty : IntType) → d < values → a < values → b < values → IsTrue (is_promoted ty) →
      IsOpWellFormed values long (at_line line (Binary d a b (operator_number op) (type_number ty))).op
  binary_formed line d a b op ty hd ha hb h =
      record { registers = (hd, ha, hb); target = tt; numbers = (operator_within op, type_within ty h) }

  mutual
    expr_formed : (e : Expr) (t : ℕ) → k ≤ values → ExprFits k e → t + temps_of e < values → AreFormed (expr_code e t)
    expr_formed (Number line ty value) t le fit room = one (at_line line (Const t value)) (record { registers = omega arith; target = tt; numbers = tt })
    expr_formed (Local line ty local) t le fit room =
        one (at_line line (Move t local)) (record { registers = (omega arith, omega (arith, fit)); target = tt; numbers = tt })
    expr_formed (Negate' line ty s (more_of-Expr operand end_of-Expr)) t le fit room =
        let zero_at = at_line line (Const (t + 1) 0) in
        let minus = at_line line (Binary t (t + 1) t (operator_number Sub) (type_number ty)) in
        both (expr_code operand t) (zero_at ∷ (minus ∷ [])) (expr_formed operand t le fit.1 room)
        (and_then zero_at (minus ∷ []) (record { registers = omega (arith, temps_pos operand); target = tt; numbers = tt })
        (one minus (binary_formed line t (t + 1) t Sub ty (omega (arith, temps_pos operand)) (omega (arith, temps_pos operand)) (omega (arith, temps_pos operand)) fit.0)))
    expr_formed (Chain' line s (more_of-Expr first end_of-Expr) z links) t le fit room =
        both (expr_code first t) (links_code line links t) (expr_formed first t le fit.0 (omega arith)) (links_formed line links t le fit.1 (omega arith) (omega (arith, temps_pos first)))

    links_formed : {m : _} (line : ℕ) (links : Row_of-Link m) (t : ℕ) → k ≤ values → LinksFit k links → t + links_temps links < values → t < values → AreFormed (links_code line links t)
    links_formed line end_of-Link t le fit room here = none
    links_formed line (more_of-Link op ty operand links) t le fit room here =
        let i = at_line line (Binary t t (t + 1) (operator_number op) (type_number ty)) in
        both (expr_code operand (t + 1)) (i ∷ links_code line links t) (expr_formed operand (t + 1) le fit.1.0 (omega arith))
        (and_then i (links_code line links t) (binary_formed line t t (t + 1) op ty here here (omega (arith, temps_pos operand)) fit.0)
        (links_formed line links t le fit.1.1 (omega arith) here))

  zeros_formed : (locals : List LocalDef) → k ≤ values → All (λ (d : LocalDef). d.local < k) locals → AreFormed (zeros_code locals)
  zeros_formed [] le fit = none
  zeros_formed (d ∷ locals) le fit =
      and_then (at_line d.line (Const d.local 0)) (zeros_code locals) (record { registers = omega (arith, All-head (λ (d : LocalDef). d.local < k) d locals fit); target = tt; numbers = tt })
      (zeros_formed locals le (All-tail (λ (d : LocalDef). d.local < k) d locals fit))

  mutual
    stmt_formed : (s : Stmt) (at : ℕ) → StmtFits k s → k + stmt_temps s < values → at + length (stmt_code s k at) < long → AreFormed (stmt_code s k at)
    stmt_formed Empty at fit room ends = none
    stmt_formed (Assign line local value) at fit room ends =
        both (expr_code value k) (at_line line (Move local k) ∷ []) (expr_formed value k (omega arith) fit.1 (omega arith))
        (one (at_line line (Move local k)) (record { registers = (omega (arith, fit.0), omega arith); target = tt; numbers = tt }))
    stmt_formed (While' line test s (more_of-Stmt body end_of-Stmt)) at fit room ends =
        let ct = expr_code test k in
        let cb = stmt_code body k (at + length ct + 1) in
        let out = at + length ct + 1 + length cb + 1 in
        let jz = at_line line (JumpZero k out) in
        let jb = at_line line (Jump at) in
        let whole : length (ct ++ (jz ∷ (cb ++ jb ∷ []))) ≡ length ct + 1 + length cb + 1 =
        omega (arith, length-append ct (jz ∷ (cb ++ jb ∷ [])), length-append cb (jb ∷ [])) in
        both ct (jz ∷ (cb ++ jb ∷ [])) (expr_formed test k (omega arith) fit.0 (omega arith))
        (and_then jz (cb ++ jb ∷ []) (record { registers = omega arith; target = omega (arith, whole, ends); numbers = tt })
        (both cb (jb ∷ []) (stmt_formed body (at + length ct + 1) fit.1 (omega arith) (omega (arith, whole, ends)))
        (one jb (record { registers = tt; target = omega (arith, whole, ends); numbers = tt }))))
    stmt_formed (Block' locals z body) at fit room ends =
        let cz = zeros_code locals in
        let cs = stmts_code body k (at + length cz) in
        both cz cs (zeros_formed locals (omega arith) fit.0)
        (stmts_formed body (at + length cz) fit.1 room (omega (arith, length-append cz cs, ends)))
    stmt_formed (PutChar line value) at fit room ends =
        both (expr_code value k) (at_line line (Out k) ∷ []) (expr_formed value k (omega arith) fit (omega arith))
        (one (at_line line (Out k)) (record { registers = omega arith; target = tt; numbers = tt }))
    stmt_formed (Return line value) at fit room ends =
        both (expr_code value k) (at_line line (ReturnOp k) ∷ []) (expr_formed value k (omega arith) fit room)
        (one (at_line line (ReturnOp k)) (record { registers = omega arith; target = tt; numbers = tt }))

    stmts_formed : {m : _} (body : Row_of-Stmt m) (at : ℕ) → StmtsFit k body → k + stmts_temps body < values → at + length (stmts_code body k at) < long → AreFormed (stmts_code body k at)
    stmts_formed end_of-Stmt at fit room ends = none
    stmts_formed (more_of-Stmt s rest) at fit room ends =
        let cs = stmt_code s k at in
        let cr = stmts_code rest k (at + length cs) in
        both cs cr (stmt_formed s at fit.0 (omega arith) (omega (arith, length-append cs cr, ends)))
        (stmts_formed rest (at + length cs) fit.1 (omega arith) (omega (arith, length-append cs cr, ends)))

-- control never goes past a return at the end
ends_in : (code : List Instruction) (i j : Instruction) → LeavesPlace j.op → EndsInLeaving (code ++ (i ∷ (j ∷ [])))
ends_in [] i j h = h
ends_in (a ∷ []) i j h = h
ends_in (a ∷ b ∷ code) i j h = ends_in (b ∷ code) i j h

function_formed : (f : FunctionDef) → FunctionFits f → IsFunctionWellFormed (function_code f)
function_formed f fits =
    let k = f.locals in
    let cs = stmt_code f.body k 0 in
    let zero_at = at_line f.line (Const k 0) in
    let give = at_line f.line (ReturnOp k) in
    let long : length (body_code f) ≡ length cs + 2 = length-append cs (zero_at ∷ (give ∷ [])) in
    record {
      values = fits.values;
      parameters = omega arith;
      each = both (values_of f) (length (body_code f)) k cs (zero_at ∷ (give ∷ []))
          (stmt_formed (values_of f) (length (body_code f)) k f.body 0 fits.body (omega arith) (omega (arith, long)))
          (and_then (values_of f) (length (body_code f)) k zero_at (give ∷ []) (record { registers = omega arith; target = tt; numbers = tt })
          (one (values_of f) (length (body_code f)) k give (record { registers = omega arith; target = tt; numbers = tt })));
      ends = ends_in cs zero_at give tt;
    }

functions_formed : (fs : List FunctionDef) → All FunctionFits fs → All IsFunctionWellFormed (map function_code fs)
functions_formed [] h = All-nil IsFunctionWellFormed
functions_formed (f ∷ fs) h =
    All-cons IsFunctionWellFormed _ _ (function_formed f (All-head FunctionFits f fs h)) (functions_formed fs (All-tail FunctionFits f fs h))

same_length : (fs : List FunctionDef) → length (map function_code fs) ≡ length fs
same_length [] = refl
same_length (f ∷ fs) = ap suc (same_length fs)

pub program_formed : (program : PlainProgram) → IsProgram program → IsWellFormed (program_code program)
program_formed program is = record {
  functions = functions_formed program.functions is.functions;
  main = subst (λ n. program.main < n) (sym (same_length program.functions)) is.main;
}
