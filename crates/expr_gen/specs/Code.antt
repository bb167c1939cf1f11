-- The code of an expression: its operands in registers of their own, from left to right, and then its operation.
--
-- How long code is depends on the tree alone, so each jump is known where it is made.
use Rattle.std.specs.Prelude.{ℕ, suc, ◌+◌, List, [], ◌∷◌, ◌++◌, length, map, Bool, true, false}
use Rattle.c_tree.specs.declared.expr.Expr.{Expr, Apply', Chain', Logic', Choose', Print', Row_of-Expr, end_of-Expr, more_of-Expr, Row_of-Link, end_of-Link, more_of-Link}
use Rattle.c_tree.specs.declared.operation.Operation.{Operation}
use Rattle.c_tree.specs.declared.operation.Piece.{Piece}
use Rattle.c_tree.specs.Fits.{count_of}
use Rattle.whole_code.specs.declared.op.Op.{Op}
use Rattle.whole_code.specs.declared.op.Op.TheVariants.{Const, Jump, JumpZero}
use Rattle.whole_code.specs.declared.op.Instruction.{Instruction}
use Rattle.expr_gen.specs.Operations.{at_line, operation_ops, print_ops}

-- instructions of one line
abbrev pub instructions : (library : Bool) → (line : ℕ) → List Op → List Instruction
instructions library line ops = map (at_line library line) ops

-- an operation on so many operands from t on, at an index
abbrev pub op_code : Bool → Operation → (line t n at : ℕ) → List Instruction
op_code library o line t n at = instructions library line (operation_ops o t n at)

abbrev pub print_code : Bool → List Piece → (line t n : ℕ) → List Instruction
print_code library pieces line t n = instructions library line (print_ops pieces t n)

-- ---- how long code is

abbrev pub op_size : Operation → ℕ
op_size o = length (operation_ops o 0 0 0)

abbrev pub print_size : List Piece → ℕ
print_size pieces = length (print_ops pieces 0 0)

-- a test and one of two stretches
abbrev pub branch_size : (test one other : ℕ) → ℕ
branch_size test one other = test + 1 + one + 1 + other

abbrev mutual
  pub expr_size : Expr → ℕ
  expr_size (Apply' line o z operands) = operands_size operands + op_size o
  expr_size (Chain' line s (more_of-Expr first end_of-Expr) z links) = expr_size first + links_size links
  expr_size (Logic' line all z operands) = logic_size all operands
  expr_size (Choose' line s (more_of-Expr test end_of-Expr) s1 (more_of-Expr one end_of-Expr) s2 (more_of-Expr other end_of-Expr)) =
      branch_size (expr_size test) (expr_size one) (expr_size other)
  expr_size (Print' line z operands pieces) = operands_size operands + print_size pieces

  pub operands_size : {m : _} → Row_of-Expr m → ℕ
  operands_size end_of-Expr = 0
  operands_size (more_of-Expr e rest) = expr_size e + operands_size rest

  pub links_size : {m : _} → Row_of-Link m → ℕ
  links_size end_of-Link = 0
  links_size (more_of-Link o z operands links) = operands_size operands + op_size o + links_size links

  -- operands that are tested one after another
  pub tests_size : {m : _} → Row_of-Expr m → ℕ
  tests_size end_of-Expr = 0
  tests_size (more_of-Expr e rest) = expr_size e + 1 + tests_size rest

  pub logic_size : {m : _} → Bool → Row_of-Expr m → ℕ
  logic_size true end_of-Expr = 3
  logic_size false end_of-Expr = 1
  logic_size true (more_of-Expr e rest) = expr_size e + 1 + logic_size true rest
  logic_size false (more_of-Expr e rest) = branch_size (expr_size e) 1 (logic_size false rest)

-- ---- code

-- a test whose value is in t, and one of two stretches; the test and the stretches are so long
abbrev pub branch_code : Bool → (line t at n0 n1 n2 : ℕ) → (test one other : List Instruction) → List Instruction
branch_code library line t at n0 n1 n2 test one other =
    test ++ (at_line library line (JumpZero t (at + n0 + 1 + n1 + 1))
    ∷ (one ++ (at_line library line (Jump (at + n0 + 1 + n1 + 1 + n2)) ∷ other)))

abbrev mutual
  -- an expression at an index, with its value in t
  pub expr_code : Bool → Expr → (t at : ℕ) → List Instruction
  expr_code library (Apply' line o z operands) t at =
      operands_code library operands t at ++ op_code library o line t (count_of operands) (at + operands_size operands)
  expr_code library (Chain' line s (more_of-Expr first end_of-Expr) z links) t at =
      expr_code library first t at ++ links_code library line links t (at + expr_size first)
  expr_code library (Logic' line all z operands) t at = logic_code library line all operands t at
  expr_code library (Choose' line s (more_of-Expr test end_of-Expr) s1 (more_of-Expr one end_of-Expr) s2 (more_of-Expr other end_of-Expr)) t at =
      branch_code library line t at (expr_size test) (expr_size one) (expr_size other)
      (expr_code library test t at)
      (expr_code library one t (at + expr_size test + 1))
      (expr_code library other t (at + expr_size test + 1 + expr_size one + 1))
  expr_code library (Print' line z operands pieces) t at =
      operands_code library operands t at ++ print_code library pieces line t (count_of operands)

  -- operands, each in the register after that of the one before
  pub operands_code : {m : _} → Bool → Row_of-Expr m → (t at : ℕ) → List Instruction
  operands_code library end_of-Expr t at = []
  operands_code library (more_of-Expr e rest) t at =
      expr_code library e t at ++ operands_code library rest (t + 1) (at + expr_size e)

  -- what stands before a link has its value in t, and so has the link
  pub links_code : {m : _} → Bool → (line : ℕ) → Row_of-Link m → (t at : ℕ) → List Instruction
  links_code library line end_of-Link t at = []
  links_code library line (more_of-Link o z operands links) t at =
      operands_code library operands (t + 1) at
      ++ (op_code library o line t (suc (count_of operands)) (at + operands_size operands)
      ++ links_code library line links t (at + operands_size operands + op_size o))

  -- `&&`: what is 0 goes to a 0 at the end; `||`: what isn't 0 becomes 1 and goes to the end. A tested value may have a
  -- capability, and the result has none
  pub logic_code : {m : _} → Bool → (line : ℕ) → (all : Bool) → Row_of-Expr m → (t at : ℕ) → List Instruction
  logic_code library line true end_of-Expr t at =
      at_line library line (Const t 1) ∷ at_line library line (Jump (at + 3)) ∷ at_line library line (Const t 0) ∷ []
  logic_code library line false end_of-Expr t at = at_line library line (Const t 0) ∷ []
  logic_code library line true (more_of-Expr e rest) t at =
      expr_code library e t at
      ++ at_line library line (JumpZero t (at + expr_size e + 1 + tests_size rest + 2))
      ∷ logic_code library line true rest t (at + expr_size e + 1)
  logic_code library line false (more_of-Expr e rest) t at =
      branch_code library line t at (expr_size e) 1 (logic_size false rest) (expr_code library e t at)
      (at_line library line (Const t 1) ∷ []) (logic_code library line false rest t (at + expr_size e + 1 + 1 + 1))
