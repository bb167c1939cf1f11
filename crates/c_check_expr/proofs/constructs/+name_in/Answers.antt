-- A name in parentheses is that name.
use Rattle.std.proofs.Common.{sym, ap, ◌∙◌}
use Rattle.c_expr_rules.specs.Expressions.{name_in}
use Rattle.c_check_expr.proofs.Trees.{parens_name}
use Rattle.c_syntax.specs.declared.expr.Expr.{Expr}
use Rattle.c_check_expr.proofs.constructs.+name_in.Goals as goal

pub returns-in-Parens : goal.returns-in-Parens
returns-in-Parens t c =
    c.name_in.ensures ∙ ap (λ (e : Expr). name_in e.kind) c.get.ensures ∙ sym (parens_name c.in-Parens.inner) ∙ sym (ap name_in c.in-Parens.is)
