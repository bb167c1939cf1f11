-- The code of every expression that fits is well formed, and is as long as its size says.
use Rattle.std.proofs.Common.{◌≡◌, ℕ, zero, suc, ◌+◌, ◌-◌, ◌<◌, ◌≤◌, refl, List, [], ◌∷◌, ◌++◌, length, All, Bool, true, false, arith}
use Rattle.std.specs.Prelude.{max}
use Rattle.std.specs.List.{AllByRecursion}
use Rattle.std.proofs.lemmas.List.Elements.{All-from_recursion, recursion_from_All, All-map, All-append, All-cons, All-nil}
use Rattle.c_tree.specs.declared.expr.Expr.{Expr, Apply', Chain', Logic', Choose', Print', Row_of-Expr, end_of-Expr, more_of-Expr, Row_of-Link, end_of-Link, more_of-Link}
use Rattle.c_tree.specs.declared.operation.Operation.{Operation}
use Rattle.c_tree.specs.declared.operation.Piece.{Piece}
use Rattle.c_tree.specs.Operands.{Outline, Context, OpFits}
use Rattle.c_tree.specs.Fits.{count_of, PieceFits, ExprFits, OperandsFit, LinksFit}
use Rattle.c_tree.specs.Temps.{temps_of, operands_temps, tests_temps, links_temps}
use Rattle.whole_code.specs.declared.op.Op.{Op}
use Rattle.whole_code.specs.declared.op.Op.TheVariants.{Const, Jump, JumpZero}
use Rattle.whole_code.specs.declared.op.Instruction.{Instruction}
use Rattle.whole_code.specs.Plain.{PlainFunction}
use Rattle.whole_code.specs.WellFormed.{Named, IsOpWellFormed}
use Rattle.expr_gen.specs.Operations.{at_line, operation_ops, print_ops}
use Rattle.expr_gen.specs.Code.{instructions, op_code, op_size, print_code, print_size, branch_size, branch_code, expr_size, operands_size, links_size, tests_size, logic_size, expr_code, operands_code, links_code, logic_code}
use Rattle.expr_gen.proofs.Sizes.{expr_length}
use Rattle.code_fits.specs.Formed.{named_by, AreFormed, HasTemps, IsInside, ExpressionsAreFormed, ExpressionsHaveTheirSize}
use Rattle.code_fits.proofs.Instructions.{AreOps, formed}
use Rattle.code_fits.proofs.Operations.{ops_formed, print_formed}

-- ---- lists of instructions

module _ (named : Named) (f : PlainFunction) where
  abbrev IsFormed : Instruction → Type 0
  IsFormed i = IsOpWellFormed named f i.op

  pub none : AreFormed named f []
  none = All-nil IsFormed

  pub and_then : (i : Instruction) (is : List Instruction) → IsOpWellFormed named f i.op → AreFormed named f is → AreFormed named f (i ∷ is)
  and_then i is h k = All-cons IsFormed i is h k

  pub one : (i : Instruction) → IsOpWellFormed named f i.op → AreFormed named f (i ∷ [])
  one i h = and_then i [] h none

  pub joined : (a b : List Instruction) → AreFormed named f a → AreFormed named f b → AreFormed named f (a ++ b)
  joined a b h k = All-append IsFormed a b h k

  pub of_line : (library : Bool) (line : ℕ) (ops : List Op) → AreOps named f ops → AreFormed named f (instructions library line ops)
  of_line library line ops h = All-map IsFormed (at_line library line) ops (All-from_recursion (IsOpWellFormed named f) ops h)

  pub branch_formed :
      (library : Bool) (line t at n0 n1 n2 : ℕ) (ct c1 c2 : List Instruction) → t < f.values → at + branch_size n0 n1 n2 < length f.instructions →
      AreFormed named f ct → AreFormed named f c1 → AreFormed named f c2 → AreFormed named f (branch_code library line t at n0 n1 n2 ct c1 c2)
  branch_formed library line t at n0 n1 n2 ct c1 c2 ht inside hc h1 h2 =
      let jz = at_line library line (JumpZero t (at + n0 + 1 + n1 + 1)) in
      let j = at_line library line (Jump (at + n0 + 1 + n1 + 1 + n2)) in
      let other : at + n0 + 1 + n1 + 1 < length f.instructions = omega arith in
      let end : at + n0 + 1 + n1 + 1 + n2 < length f.instructions = omega arith in
      joined ct (jz ∷ (c1 ++ (j ∷ c2))) hc
      (and_then jz (c1 ++ (j ∷ c2)) (formed named f (JumpZero t (at + n0 + 1 + n1 + 1)) (ht, tt) tt other tt tt)
      (joined c1 (j ∷ c2) h1 (and_then j c2 (formed named f (Jump (at + n0 + 1 + n1 + 1 + n2)) tt tt end tt tt) h2)))

-- ---- temporaries

-- an expression needs a register
pub temps_pos : (e : Expr) → 0 < temps_of e
temps_pos (Apply' line o z operands) = omega arith
temps_pos (Chain' line s (more_of-Expr first end_of-Expr) z links) = omega (arith, temps_pos first)
temps_pos (Logic' line all z operands) = omega arith
temps_pos (Choose' line s (more_of-Expr test end_of-Expr) s1 (more_of-Expr one end_of-Expr) s2 (more_of-Expr other end_of-Expr)) = omega (arith, temps_pos test)
temps_pos (Print' line z operands pieces) = omega arith

-- and so do all of several operands
count_temps : {m : _} (i : ℕ) (k : Row_of-Expr m) → 0 < count_of k → i + count_of k ≤ operands_temps i k
count_temps i end_of-Expr h = omega arith
count_temps i (more_of-Expr e end_of-Expr) h = omega (arith, temps_pos e)
count_temps i (more_of-Expr e (more_of-Expr e1 rest)) h = omega (arith, count_temps (suc i) (more_of-Expr e1 rest) (omega arith))

count_room : {m : _} (i t v : ℕ) (k : Row_of-Expr m) → t + i ≤ v → t + operands_temps i k ≤ v → t + (i + count_of k) ≤ v
count_room i t v end_of-Expr h room = omega arith
count_room i t v (more_of-Expr e rest) h room = omega (arith, count_temps i (more_of-Expr e rest) (omega arith))

-- ---- expressions

all_size : {m : _} (k : Row_of-Expr m) → logic_size true k ≡ tests_size k + 3
all_size end_of-Expr = refl
all_size (more_of-Expr e rest) = omega (arith, all_size rest)

module _ (outline : Outline) (here : Context) (f : PlainFunction) (library : Bool) where
  abbrev n : Named
  n = named_by outline

  abbrev Are : List Instruction → Type 0
  Are code = AreFormed n f code

  op_formed :
      (o : Operation) (line t c at : ℕ) → here.locals ≤ t → OpFits outline here o c → t + 7 ≤ f.values → t + c ≤ f.values →
      at + op_size o < length f.instructions → Are (op_code library o line t c at)
  op_formed o line t c at le fit wide room inside =
      of_line n f library line (operation_ops o t c at) (ops_formed outline f here t c at le (omega arith) (omega arith) (omega arith) wide room o fit inside)

  mutual
    pub expr_formed : (e : Expr) (t at : ℕ) → ExprFits outline here e → here.locals ≤ t → t + temps_of e + 6 ≤ f.values → at + expr_size e < length f.instructions → Are (expr_code library e t at)
    expr_formed (Apply' line o z operands) t at fit le room inside =
        joined n f (operands_code library operands t at) (op_code library o line t (count_of operands) (at + operands_size operands))
        (operands_formed operands 0 t t at fit.1 le (omega arith) (omega arith) (omega arith))
        (op_formed o line t (count_of operands) (at + operands_size operands) le fit.0 (omega arith) (omega (arith, count_room 0 t f.values operands (omega arith) (omega arith))) (omega arith))
    expr_formed (Chain' line s (more_of-Expr first end_of-Expr) z links) t at fit le room inside =
        joined n f (expr_code library first t at) (links_code library line links t (at + expr_size first))
        (expr_formed first t at fit.0 le (omega arith) (omega arith))
        (links_formed line links t (at + expr_size first) fit.1 le (omega (arith, temps_pos first)) (omega arith) (omega arith))
    expr_formed (Logic' line all z operands) t at fit le room inside = logic_formed line all operands t at fit.1 le (omega arith) (omega arith) inside
    expr_formed (Choose' line s (more_of-Expr test end_of-Expr) s1 (more_of-Expr one end_of-Expr) s2 (more_of-Expr other end_of-Expr)) t at fit le room inside =
        branch_formed n f library line t at (expr_size test) (expr_size one) (expr_size other)
        (expr_code library test t at) (expr_code library one t (at + expr_size test + 1)) (expr_code library other t (at + expr_size test + 1 + expr_size one + 1))
        (omega arith) inside
        (expr_formed test t at fit.0 le (omega arith) (omega arith))
        (expr_formed one t (at + expr_size test + 1) fit.1.0 le (omega arith) (omega arith))
        (expr_formed other t (at + expr_size test + 1 + expr_size one + 1) fit.1.1 le (omega arith) (omega arith))
    expr_formed (Print' line z operands pieces) t at fit le room inside =
        joined n f (operands_code library operands t at) (print_code library pieces line t (count_of operands))
        (operands_formed operands 0 t t at fit.1.0 le (omega arith) (omega arith) (omega arith))
        (of_line n f library line (print_ops pieces t (count_of operands))
        (print_formed outline f t (count_of operands) pieces (recursion_from_All (PieceFits outline (count_of operands)) pieces fit.1.1)
        (omega (arith, count_room 0 t (f.values - 6) operands (omega arith) (omega arith)))))

    -- operands of which the first is the one of this number, in the register so many after b
    operands_formed :
        {m : _} (k : Row_of-Expr m) (i b t at : ℕ) → OperandsFit outline here k → here.locals ≤ b → t ≡ b + i → b + operands_temps i k + 6 ≤ f.values →
        at + operands_size k < length f.instructions → Are (operands_code library k t at)
    operands_formed end_of-Expr i b t at fit le e room inside = none n f
    operands_formed (more_of-Expr x rest) i b t at fit le e room inside =
        joined n f (expr_code library x t at) (operands_code library rest (t + 1) (at + expr_size x))
        (expr_formed x t at fit.0 (omega arith) (omega arith) (omega arith))
        (operands_formed rest (suc i) b (t + 1) (at + expr_size x) fit.1 le (omega arith) (omega arith) (omega arith))

    links_formed :
        {m : _} (line : ℕ) (k : Row_of-Link m) (t at : ℕ) → LinksFit outline here k → here.locals ≤ t → t + 7 ≤ f.values → t + links_temps k + 6 ≤ f.values →
        at + links_size k < length f.instructions → Are (links_code library line k t at)
    links_formed line end_of-Link t at fit le wide room inside = none n f
    links_formed line (more_of-Link o z operands rest) t at fit le wide room inside =
        let p = at + operands_size operands in
        let c = suc (count_of operands) in
        joined n f (operands_code library operands (t + 1) at) (op_code library o line t c p ++ links_code library line rest t (p + op_size o))
        (operands_formed operands 1 t (t + 1) at fit.1.0 le (omega arith) (omega arith) (omega arith))
        (joined n f (op_code library o line t c p) (links_code library line rest t (p + op_size o))
        (op_formed o line t c p le fit.0 wide (omega (arith, count_room 1 t f.values operands (omega arith) (omega arith))) (omega arith))
        (links_formed line rest t (p + op_size o) fit.1.1 le wide (omega arith) (omega arith)))

    logic_formed :
        {m : _} (line : ℕ) (all : Bool) (k : Row_of-Expr m) (t at : ℕ) → OperandsFit outline here k → here.locals ≤ t → t + 7 ≤ f.values → t + tests_temps k + 6 ≤ f.values →
        at + logic_size all k < length f.instructions → Are (logic_code library line all k t at)
    logic_formed line true end_of-Expr t at fit le wide room inside =
        let h : t < f.values = omega arith in
        and_then n f (at_line library line (Const t 1)) (at_line library line (Jump (at + 3)) ∷ at_line library line (Const t 0) ∷ []) (formed n f (Const t 1) tt (h, tt) tt tt tt)
        (and_then n f (at_line library line (Jump (at + 3))) (at_line library line (Const t 0) ∷ []) (formed n f (Jump (at + 3)) tt tt inside tt tt)
        (one n f (at_line library line (Const t 0)) (formed n f (Const t 0) tt (h, tt) tt tt tt)))
    logic_formed line false end_of-Expr t at fit le wide room inside =
        let h : t < f.values = omega arith in
        one n f (at_line library line (Const t 0)) (formed n f (Const t 0) tt (h, tt) tt tt tt)
    logic_formed line true (more_of-Expr x rest) t at fit le wide room inside =
        let h : t < f.values = omega arith in
        let target = at + expr_size x + 1 + tests_size rest + 2 in
        let there : target < length f.instructions = omega (arith, all_size rest) in
        joined n f (expr_code library x t at) (at_line library line (JumpZero t target) ∷ logic_code library line true rest t (at + expr_size x + 1))
        (expr_formed x t at fit.0 le (omega arith) (omega arith))
        (and_then n f (at_line library line (JumpZero t target)) (logic_code library line true rest t (at + expr_size x + 1)) (formed n f (JumpZero t target) (h, tt) tt there tt tt)
        (logic_formed line true rest t (at + expr_size x + 1) fit.1 le wide (omega arith) (omega arith)))
    logic_formed line false (more_of-Expr x rest) t at fit le wide room inside =
        let h : t < f.values = omega arith in
        branch_formed n f library line t at (expr_size x) 1 (logic_size false rest) (expr_code library x t at) (at_line library line (Const t 1) ∷ [])
        (logic_code library line false rest t (at + expr_size x + 1 + 1 + 1)) h inside
        (expr_formed x t at fit.0 le (omega arith) (omega arith))
        (one n f (at_line library line (Const t 1)) (formed n f (Const t 1) tt (h, tt) tt tt tt))
        (logic_formed line false rest t (at + expr_size x + 1 + 1 + 1) fit.1 le wide (omega arith) (omega arith))

pub expressions_are_formed : ExpressionsAreFormed
expressions_are_formed outline here f library e t at fit le room inside = expr_formed outline here f library e t at fit le (omega arith) inside

pub expressions_have_their_size : ExpressionsHaveTheirSize
expressions_have_their_size library e t at = expr_length library e t at
