use Rattle.std.proofs.Common.{◌≡◌, refl, sym, ap, ◌∙◌}
use denote.Hole.Carrier
use Rattle.c_syntax.specs.declared.expr.Declarator.{Declarator, out-Declarator}
use Rattle.c_syntax.specs.declared.expr.Core.TheVariants as core
use Rattle.c_syntax.specs.declared.expr.Core.TheBlock.{hidden-the_row-Declarator-0, shape-the_row-Declarator-0}
use Rattle.c_syntax.specs.Values.{core_name}
use Rattle.c_expr_parser.proofs.nodes.core_name.Goals as goal

parens-name : (d : Declarator) → core_name (core.Parens d) ≡ (out-Declarator d).name
unfolding hidden-the_row-Declarator-0 shape-the_row-Declarator-0 Carrier.hidden
parens-name d = refl

pub returns-in-Parens : goal.returns-in-Parens
returns-in-Parens c = ap (λ d. (out-Declarator d).name) c.get.ensures ∙ sym (ap core_name c.in-Parens.is ∙ parens-name c.in-Parens.inner)
