-- Values: how many registers a function needs.
--
-- An operand waits in a register of its own while the operands to its right are computed. So an
-- operator needs, for its operand number i counted from 0, i registers more than that operand itself.
use Rattle.std.specs.Prelude.{ℕ, ◌+◌, max}
use Rattle.form_tree.specs.declared.expr.Expr.{Expr, Number, Local, Negate', Chain', end_of-Expr, more_of-Expr, Row_of-Link, end_of-Link, more_of-Link}
use Rattle.form_tree.specs.declared.stmt.Stmt.{Stmt, Empty, Assign, While', Block', PutChar, Return, Row_of-Stmt, end_of-Stmt, more_of-Stmt}
use Rattle.form_tree.specs.declared.program.FunctionDef.{FunctionDef}

abbrev mutual
  -- the temporaries of an expression: 1 for a leaf; a chain is an operator with its left side as operand 0
  pub temps_of : Expr → ℕ
  temps_of (Number line ty value) = 1
  temps_of (Local line ty local) = 1
  temps_of (Negate' line ty s (more_of-Expr operand end_of-Expr)) = temps_of operand
  temps_of (Chain' line s (more_of-Expr first end_of-Expr) z links) = max (temps_of first) (links_temps links)

  -- the greatest need of the operands of a chain after the first
  pub links_temps : {m : _} → Row_of-Link m → ℕ
  links_temps end_of-Link = 0
  links_temps (more_of-Link op ty operand links) = max (1 + temps_of operand) (links_temps links)

abbrev mutual
  -- the greatest temporaries of a statement's expressions; the local of an assignment and the function of a
  -- call are operand 0
  pub stmt_temps : Stmt → ℕ
  stmt_temps Empty = 0
  stmt_temps (Assign line local value) = 1 + temps_of value
  stmt_temps (While' line test s (more_of-Stmt body end_of-Stmt)) = max (temps_of test) (stmt_temps body)
  stmt_temps (Block' locals z body) = stmts_temps body
  stmt_temps (PutChar line value) = 1 + temps_of value
  stmt_temps (Return line value) = temps_of value

  pub stmts_temps : {m : _} → Row_of-Stmt m → ℕ
  stmts_temps end_of-Stmt = 0
  stmts_temps (more_of-Stmt s rest) = max (stmt_temps s) (stmts_temps rest)

-- a function's values: its locals, its greatest temporaries, and 8 spare registers
abbrev pub values_of : FunctionDef → ℕ
values_of f = f.locals + stmt_temps f.body + 8
