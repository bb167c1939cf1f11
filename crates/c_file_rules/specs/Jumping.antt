-- Jumps by their lines: of a jump's span nothing else is looked at.
use Rattle.std.specs.Prelude.{ℕ, not, [], ◌∷◌}
use Rattle.c_tree.specs.declared.stmt.Stmt.{Stmt}
use Rattle.c_tree.specs.declared.stmt.Stmt.TheVariants as stmt
use Rattle.c_expr_rules.specs.Outcomes.{State, Checked, by_rules, ◌breaks◌}
use Rattle.c_file_rules.specs.Statements.{Inside}

abbrev pub break_checked : Inside → State → (line : ℕ) → Checked Stmt
break_checked i s line = by_rules line (28 breaks not i.may_break ∷ []) s (stmt.Break line)

abbrev pub continue_checked : Inside → State → (line : ℕ) → Checked Stmt
continue_checked i s line = by_rules line (29 breaks not i.may_continue ∷ []) s (stmt.Continue line)
