-- The code of a program.
--
-- A function's locals are its first registers, and an expression's value goes into a stated register above them: the
-- first temporary. Operands to its right go into the registers after that one.
use Rattle.std.specs.Prelude.{ℕ, ◌+◌, List, [], ◌∷◌, ◌++◌, length, map, false}
use Rattle.filc_num.specs.declared.integer.BinOp.TheVariants.{Sub}
use Rattle.form_tree.specs.declared.expr.Expr.{Expr, Number, Local, Negate', Chain', end_of-Expr, more_of-Expr, Row_of-Link, end_of-Link, more_of-Link}
use Rattle.form_tree.specs.declared.stmt.LocalDef.{LocalDef}
use Rattle.form_tree.specs.declared.stmt.Stmt.{Stmt, Empty, Assign, While', Block', PutChar, Return, Row_of-Stmt, end_of-Stmt, more_of-Stmt}
use Rattle.form_tree.specs.declared.program.FunctionDef.{FunctionDef}
use Rattle.form_tree.specs.Plain.{PlainProgram}
use Rattle.form_tree.specs.Temps.{values_of}
use Rattle.filc_code.specs.declared.op.Instruction.{Instruction}
use Rattle.filc_code.specs.declared.op.Op.{Op}
use Rattle.filc_code.specs.declared.op.Op.TheVariants.{Const, Move, Binary, Jump, JumpZero, Return as ReturnOp, Out}
use Rattle.filc_code.specs.Plain.{PlainFunction, PlainCode}
use Rattle.filc_code.specs.Numbers.{operator_number, type_number}

-- an instruction of the user's text
abbrev pub at_line : ℕ → Op → Instruction
at_line line op = record { line = line; library = false; op = op }

abbrev mutual
  -- an expression, with its value in the register t
  pub expr_code : Expr → ℕ → List Instruction
  expr_code (Number line ty value) t = at_line line (Const t value) ∷ []
  expr_code (Local line ty local) t = at_line line (Move t local) ∷ []
  expr_code (Negate' line ty s (more_of-Expr operand end_of-Expr)) t =
      expr_code operand t ++ (at_line line (Const (t + 1) 0)
      ∷ (at_line line (Binary t (t + 1) t (operator_number Sub) (type_number ty)) ∷ []))
  expr_code (Chain' line s (more_of-Expr first end_of-Expr) z links) t = expr_code first t ++ links_code line links t

  -- the rest of a chain: the register t has the value of what stands before, and then of all
  pub links_code : {m : _} → ℕ → Row_of-Link m → ℕ → List Instruction
  links_code line end_of-Link t = []
  links_code line (more_of-Link op ty operand links) t =
      expr_code operand (t + 1) ++ (at_line line (Binary t t (t + 1) (operator_number op) (type_number ty)) ∷ links_code line links t)

-- the locals of a block become zero
abbrev pub zeros_code : List LocalDef → List Instruction
zeros_code [] = []
zeros_code (d ∷ locals) = at_line d.line (Const d.local 0) ∷ zeros_code locals

-- a loop at an index: its test, a jump out, its body, and a jump back to the test
abbrev pub while_code : ℕ → ℕ → ℕ → List Instruction → List Instruction → List Instruction
while_code line t at test body =
    test ++ (at_line line (JumpZero t (at + length test + 1 + length body + 1)) ∷ (body ++ at_line line (Jump at) ∷ []))

abbrev mutual
  -- a statement at an index, with t as the first temporary
  pub stmt_code : Stmt → ℕ → ℕ → List Instruction
  stmt_code Empty t at = []
  stmt_code (Assign line local value) t at = expr_code value t ++ at_line line (Move local t) ∷ []
  stmt_code (While' line test s (more_of-Stmt body end_of-Stmt)) t at =
      while_code line t at (expr_code test t) (stmt_code body t (at + length (expr_code test t) + 1))
  stmt_code (Block' locals z body) t at = zeros_code locals ++ stmts_code body t (at + length (zeros_code locals))
  stmt_code (PutChar line value) t at = expr_code value t ++ at_line line (Out t) ∷ []
  stmt_code (Return line value) t at = expr_code value t ++ at_line line (ReturnOp t) ∷ []

  pub stmts_code : {m : _} → Row_of-Stmt m → ℕ → ℕ → List Instruction
  stmts_code end_of-Stmt t at = []
  stmts_code (more_of-Stmt s rest) t at = stmt_code s t at ++ stmts_code rest t (at + length (stmt_code s t at))

-- these instructions, and then a statement's
abbrev pub with_stmt : List Instruction → Stmt → ℕ → List Instruction
with_stmt code s t = code ++ stmt_code s t (length code)

-- a function's body, and the return of 0 at its end
abbrev pub body_code : FunctionDef → List Instruction
body_code f =
    stmt_code f.body f.locals 0 ++ (at_line f.line (Const f.locals 0) ∷ (at_line f.line (ReturnOp f.locals) ∷ []))

-- the number of the type `int(void)`, which every function has: 0 is `int(void*)`
abbrev pub only_kind : ℕ
only_kind = 1

abbrev pub function_code : FunctionDef → PlainFunction
function_code f = record { values = values_of f; parameters = 0; kind = only_kind; instructions = body_code f }

abbrev pub program_code : PlainProgram → PlainCode
program_code program = record { functions = map function_code program.functions; main = program.main }
