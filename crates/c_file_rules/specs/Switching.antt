-- A switch as the code has it.
use Rattle.std.specs.Prelude.{ℕ, Result, Ok, Err}
use Rattle.filc_num.specs.declared.c_int_type.CIntType.{CIntType}
use Rattle.c_tree.specs.declared.stmt.Stmt.{Stmt}
use Rattle.c_tree.specs.declared.stmt.Stmt.TheVariants as stmt
use Rattle.c_expr_rules.specs.declared.found.Fault.{Fault}
use Rattle.c_file_rules.specs.Statements.{Switched, other_of, local_as}

-- a call's result with the switch that it left
abbrev pub told_switch : Switched → Result (Unit {0}) Fault → Result Switched Fault
told_switch w (Ok x) = Ok w
told_switch w (Err fault) = Err fault

abbrev pub switch_statement : (line local : ℕ) → CIntType → Switched → Stmt
switch_statement line local k w = stmt.Switch line (local_as line local k) w.cases (other_of w) w.statements
