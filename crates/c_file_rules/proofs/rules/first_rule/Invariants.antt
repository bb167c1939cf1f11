-- The first broken rule of those that are left is that of all.
use Rattle.std.proofs.Common.{◌≡◌, drop}
use Rattle.c_expr_rules.specs.Outcomes.{first_broken}
use Rattle.c_expr_rules.specs.Views.{seen_rules}
use Rattle.c_file_rules.proofs.rules.first_rule.Given as goal

abbrev pub invariant-loop-rule : goal.invariant-loop-rule
invariant-loop-rule l = first_broken (seen_rules (drop l.rule-index l.rules)) ≡ first_broken (seen_rules l.rules)
