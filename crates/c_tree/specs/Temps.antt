-- Values: how many registers a function needs.
--
-- An operand waits in a register of its own while the operands to its right are computed. So operand number
-- i, counted from 0, needs i registers more than it needs itself.
use Rattle.std.specs.Prelude.{ℕ, suc, ◌+◌, ◌-◌, max, Option, Some, None}
use Rattle.c_tree.specs.declared.expr.Expr.{Expr, Apply', Chain', Logic', Choose', Print', Row_of-Expr, end_of-Expr, more_of-Expr, Row_of-Link, end_of-Link, more_of-Link}
use Rattle.c_tree.specs.declared.stmt.Stmt.{Stmt, Run, Block', If', Loop', BreakUnless, Break, Continue, Switch', Return, Row_of-Stmt, end_of-Stmt, more_of-Stmt}
use Rattle.c_tree.specs.declared.program.FunctionDef.{FunctionDef}
use Rattle.filc_num.specs.declared.registers.TheConstants.{SPARE_REGISTERS}

abbrev mutual
  pub temps_of : Expr → ℕ
  temps_of (Apply' line op z operands) = max 1 (operands_temps 0 operands)
  temps_of (Chain' line s (more_of-Expr first end_of-Expr) z links) = max (temps_of first) (links_temps links)
  temps_of (Logic' line all z operands) = max 1 (tests_temps operands)
  temps_of (Choose' line s (more_of-Expr test end_of-Expr) s1 (more_of-Expr one end_of-Expr) s2 (more_of-Expr other end_of-Expr)) =
      max (temps_of test) (max (temps_of one) (temps_of other))
  temps_of (Print' line z operands pieces) = max 1 (operands_temps 0 operands)

  -- operands, of which so many stand before the first
  pub operands_temps : {m : _} → ℕ → Row_of-Expr m → ℕ
  operands_temps i end_of-Expr = 0
  operands_temps i (more_of-Expr e rest) = max (i + temps_of e) (operands_temps (suc i) rest)

  -- operands of which one at a time is there
  pub tests_temps : {m : _} → Row_of-Expr m → ℕ
  tests_temps end_of-Expr = 0
  tests_temps (more_of-Expr e rest) = max (temps_of e) (tests_temps rest)

  -- a link's first operand is what stands before it
  pub links_temps : {m : _} → Row_of-Link m → ℕ
  links_temps end_of-Link = 0
  links_temps (more_of-Link op z operands links) = max (operands_temps 1 operands) (links_temps links)

abbrev pub optional_temps : Option Expr → ℕ
optional_temps None = 0
optional_temps (Some value) = temps_of value

abbrev mutual
  -- the greatest temporaries of a statement's expressions
  pub stmt_temps : Stmt → ℕ
  stmt_temps (Run value) = temps_of value
  stmt_temps (Block' locals z body) = stmts_temps body
  stmt_temps (If' line test s (more_of-Stmt one end_of-Stmt) s1 (more_of-Stmt other end_of-Stmt)) = max (temps_of test) (max (stmt_temps one) (stmt_temps other))
  stmt_temps (Loop' line s (more_of-Stmt body end_of-Stmt) s1 (more_of-Stmt next end_of-Stmt)) = max (stmt_temps body) (stmt_temps next)
  stmt_temps (BreakUnless line test) = temps_of test
  stmt_temps (Break line) = 0
  stmt_temps (Continue line) = 0
  stmt_temps (Switch' line value cases other z body) = max (temps_of value) (stmts_temps body)
  stmt_temps (Return line value) = optional_temps value

  pub stmts_temps : {m : _} → Row_of-Stmt m → ℕ
  stmts_temps end_of-Stmt = 0
  stmts_temps (more_of-Stmt s rest) = max (stmt_temps s) (stmts_temps rest)

-- what a function's locals and body need. Two of the spare registers are for operands that C's text doesn't have: the 1
-- of `++` and `--` in memory, and the address of what an initialiser fills
abbrev pub needed_by : FunctionDef → ℕ
needed_by f = f.locals + stmt_temps f.body + (SPARE_REGISTERS - 2)
