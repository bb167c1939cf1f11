-- A `return` by its line: of its span nothing else is looked at.
use Rattle.std.specs.Prelude.{ℕ, [], ◌∷◌, Option}
use Rattle.c_syntax.specs.declared.expr.Expr.{Expr}
use Rattle.c_tree.specs.declared.stmt.Stmt.{Stmt}
use Rattle.c_tree.specs.declared.stmt.Stmt.TheVariants as stmt
use Rattle.c_expr_rules.specs.Outcomes.{State, Checked, next, by_rules, ◌breaks◌}
use Rattle.c_file_rules.specs.Constructs.{Here}
use Rattle.c_file_rules.specs.Statements.{optional_result, is_bad_return}
use Rattle.c_file_rules.specs.declared.jumps.Inside.{Inside}

abbrev pub return_checked : Here → Inside → State → (line : ℕ) → Option Expr → Checked Stmt
return_checked here i s line e =
    next (optional_result here s i.result e) (λ s value.
    by_rules line (30 breaks is_bad_return s i.result value ∷ []) s (stmt.Return line value))
