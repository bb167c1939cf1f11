-- Where its expression breaks a rule, a constant does.
use Rattle.std.proofs.Common.{◌≡◌, ap}
use Rattle.std.specs.Prelude.{Some, Err}
use Rattle.c_syntax.specs.declared.expr.EnumConstant.{EnumConstant, out-EnumConstant}
use Rattle.c_syntax.specs.declared.expr.Expr.{Expr}
use Rattle.c_expr_rules.specs.Contexts.{constant_in, enumeration_constant}
use Rattle.c_expr_rules.specs.Outcomes.{State}
use Rattle.c_expr_rules.specs.Views.{seen_state, Passes}
use Rattle.c_expr_rules.specs.declared.found.Fault.{Fault}
use Rattle.c_check_expr.proofs.Outcomes.{Fails, behind_passed, fails_at}
use Rattle.c_check_expr.proofs.Recursion.{passes_failed}
use Rattle.c_names.specs.Code.{here_at}
use Rattle.c_file_rules.specs.Constructs.{Here}
use Rattle.c_file_rules.specs.declared.parts.Counted.{Counted}
use Rattle.c_type_parts.specs.Lists.{constant_element, constant_by, constant_valued}
use Rattle.c_type_names.proofs.enumerations.constant_found.Goals as goal

constant_fails :
    (here : Here) (s t : State) (counted : Counted) (constant : EnumConstant) (f : Fault) (e : Expr) →
    Passes t (Err f) (enumeration_constant here.around s e) → (out-EnumConstant constant).value ≡ Some e →
    Fails f (constant_element here s counted constant)
constant_fails here s t counted constant f e h is =
    let x = out-EnumConstant constant in
    fails_at f _ _ (ap (constant_by here x.span.line x.name s counted) is)
    (behind_passed t f (enumeration_constant here.around s e) (λ s t. constant_valued here x.name s counted (constant_in t.known)) h)

pub returns-in_err-typed-clause-found : goal.returns-in_err-typed-clause-found
returns-in_err-typed-clause-found g c =
    let here = here_at c.args.scene.now.facts.now (g.S.Surroundings.told c.args.scene.now.around.now) in
    let t = seen_state c.constant_value.new.state in
    let f = c.in_err-typed.field-0.0 in
    passes_failed t c.from_residual.result f _ c.from_residual.ensures.1
    (constant_fails here (seen_state c.args.state.now) t c.args.counted c.args.constant.now f c.in-Some.value c.in_err-typed.ensures.found cc)
