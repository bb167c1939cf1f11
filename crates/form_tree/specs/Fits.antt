-- What a typed tree keeps: each local is one of its function's, arithmetic is done in a type that C's
-- promotions leave, and a function's values fit a frame of 256 registers.
use Rattle.std.specs.Prelude.{IsTrue, ℕ, ◌<◌, ◌≤◌, All, length}
use Rattle.filc_num.specs.Integers.{is_promoted}
use Rattle.form_tree.specs.declared.expr.Expr.{Expr, Number, Local, Negate', Chain', end_of-Expr, more_of-Expr, Row_of-Link, end_of-Link, more_of-Link}
use Rattle.form_tree.specs.declared.stmt.LocalDef.{LocalDef}
use Rattle.form_tree.specs.declared.stmt.Stmt.{Stmt, Empty, Assign, While', Block', PutChar, Return, Row_of-Stmt, end_of-Stmt, more_of-Stmt}
use Rattle.form_tree.specs.declared.program.FunctionDef.{FunctionDef}
use Rattle.form_tree.specs.Plain.{PlainProgram}
use Rattle.form_tree.specs.Temps.{values_of}

abbrev mutual
  -- an expression of a function with so many locals
  pub ExprFits : ℕ → Expr → Type 0
  ExprFits locals (Number line ty value) = Unit {0}
  ExprFits locals (Local line ty local) = local < locals
  ExprFits locals (Negate' line ty s (more_of-Expr operand end_of-Expr)) = IsTrue (is_promoted ty) × ExprFits locals operand
  ExprFits locals (Chain' line s (more_of-Expr first end_of-Expr) z links) = ExprFits locals first × LinksFit locals links

  pub LinksFit : {m : _} → ℕ → Row_of-Link m → Type 0
  LinksFit locals end_of-Link = Unit {0}
  LinksFit locals (more_of-Link op ty operand links) = IsTrue (is_promoted ty) × (ExprFits locals operand × LinksFit locals links)

abbrev mutual
  -- a statement of a function with so many locals
  pub StmtFits : ℕ → Stmt → Type 0
  StmtFits locals Empty = Unit {0}
  StmtFits locals (Assign line local value) = (local < locals) × ExprFits locals value
  StmtFits locals (While' line test s (more_of-Stmt body end_of-Stmt)) = ExprFits locals test × StmtFits locals body
  StmtFits locals (Block' declared z body) = All (λ (d : LocalDef). d.local < locals) declared × StmtsFit locals body
  StmtFits locals (PutChar line value) = ExprFits locals value
  StmtFits locals (Return line value) = ExprFits locals value

  pub StmtsFit : {m : _} → ℕ → Row_of-Stmt m → Type 0
  StmtsFit locals end_of-Stmt = Unit {0}
  StmtsFit locals (more_of-Stmt s rest) = StmtFits locals s × StmtsFit locals rest

-- what a function keeps
pub record FunctionFits (f : FunctionDef) : Type 0 where
  pub body : StmtFits f.locals f.body
  pub values : values_of f ≤ 256

-- what a program keeps
pub record IsProgram (program : PlainProgram) : Type 0 where
  pub functions : All FunctionFits program.functions
  pub main : program.main < length program.functions
