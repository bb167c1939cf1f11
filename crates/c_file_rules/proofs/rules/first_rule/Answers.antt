-- The next rule decides where it is broken, and where no rule is left, none is.
use Rattle.std.proofs.Common.{List, sym, ◌∙◌}
use Rattle.std.specs.Prelude.{ℕ, Bool, false, Option}
use Rattle.std.proofs.lemmas.List.{at_drop_all, at_drop_more}
use Rattle.c_rules.specs.declared.rule.Rule.{Rule}
use Rattle.c_rules.specs.declared.rule.Rule.TheVariants.{UnknownName}
use Rattle.c_expr_rules.specs.Outcomes.{first_broken}
use Rattle.c_expr_rules.specs.Views.{seen_rules}
use Rattle.c_file_rules.proofs.rules.first_rule.Goals as goal

abbrev first_of : List (Rule × Bool) → Option ℕ
first_of rules = first_broken (seen_rules rules)

pub returns : goal.returns
returns c = sym (at_drop_all first_of c.args.rules.now c.loop-rule.rule-index c.loop-rule-test.false) ∙ c.loop-rule.invariant

pub returns-then-is_broken : goal.returns-then-is_broken
returns-then-is_broken c =
    let step = at_drop_more first_of c.args.rules.now c.loop-rule.rule-index (UnknownName, false) c.loop-rule-test.true in
    rw c.if-is_broken.true at (sym step ∙ c.loop-rule.invariant)

pub loop-rule-preserved : goal.loop-rule-preserved
loop-rule-preserved c =
    let step = at_drop_more first_of c.args.rules.now c.loop-rule.rule-index (UnknownName, false) c.loop-rule-test.true in
    rw c.if-is_broken.false at (sym step ∙ c.loop-rule.invariant)
