-- What isn't one that converts is none.
use Rattle.std.proofs.Common.{ap, ◌∙◌}
use Rattle.std.specs.Prelude.{not}
use Rattle.c_expr_rules.proofs.Truths.{not_not}
use Rattle.c_expr_rules.proofs.converting.is_refused.Goals as goal

pub returns : goal.returns
returns c = ap not c.converts.ensures ∙ not_not _
