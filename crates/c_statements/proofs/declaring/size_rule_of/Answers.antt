-- The rule of a size is one of two.
use Rattle.std.proofs.Common.{sym, subst}
use Rattle.c_expr_rules.specs.Views.{seen_state}
use Rattle.c_statements.specs.Stated.{IsOfSize}
use Rattle.c_statements.proofs.Declared.{size_rule_low}
use Rattle.c_statements.proofs.declaring.size_rule_of.Goals as goal

pub returns-in-Object-clause-low : goal.returns-in-Object-clause-low
returns-in-Object-clause-low c = subst IsOfSize (sym c.size_rule.ensures) (size_rule_low (seen_state c.args.state.now) c.args.part)
