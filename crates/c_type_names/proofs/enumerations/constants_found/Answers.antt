-- The next constant is found behind those before it.
use Rattle.std.proofs.Common.{refl, sym, ◌∙◌}
use Rattle.c_expr_rules.specs.Views.{seen_state}
use Rattle.c_check_expr.proofs.Growing.{grows_on}
use Rattle.c_check_expr.proofs.Outcomes.{fails_at}
use Rattle.c_check_expr.proofs.Recursion.{passes_failed}
use Rattle.c_names.specs.Code.{here_at}
use Rattle.c_type_parts.specs.Lists.{constant_element, constant_list}
use Rattle.c_type_names.proofs.Going.{list_goes, list_fails, list_ends}
use Rattle.c_type_names.proofs.enumerations.constants_found.Goals as goal

pub constants-preserved : goal.constants-preserved
constants-preserved g c =
    let here = here_at c.args.scene.now.facts.now (g.S.Surroundings.told c.args.scene.now.around.now) in
    let step = list_goes (constant_element here) (constant_list here) (λ s a. refl) (λ s a x rest. refl) (seen_state c.constants.state) (seen_state c.constant_found.new.state) c.constants.counted c.in_ok-counted.counted
    c.args.constants.now c.constants.constant-index c.constant-item.result c.constants-test.true c.constant-item.is c.in_ok-counted.ensures.found in
    (sym step ∙ c.constants.invariant.0, grows_on c.args.state.now c.constants.state c.constant_found.new.state c.constants.invariant.1 c.in_ok-counted.ensures.grows)

pub returns-clause-found : goal.returns-clause-found
returns-clause-found g c =
    let here = here_at c.args.scene.now.facts.now (g.S.Surroundings.told c.args.scene.now.around.now) in
    let end = list_ends (constant_element here) (constant_list here) (λ s a. refl) (λ s a x rest. refl) (seen_state c.constants.state) c.constants.counted c.args.constants.now c.constants.constant-index c.constants-test.false in
    sym c.constants.invariant.0 ∙ end

pub returns-in_err-counted-clause-found : goal.returns-in_err-counted-clause-found
returns-in_err-counted-clause-found g c =
    let here = here_at c.args.scene.now.facts.now (g.S.Surroundings.told c.args.scene.now.around.now) in
    let t = seen_state c.constant_found.new.state in
    let f = c.in_err-counted.field-0.0 in
    let stop = list_fails (constant_element here) (constant_list here) (λ s a. refl) (λ s a x rest. refl) (seen_state c.constants.state) t c.constants.counted
    c.args.constants.now c.constants.constant-index c.constant-item.result f c.constants-test.true c.constant-item.is c.in_err-counted.ensures.found in
    passes_failed t c.from_residual.result f _ c.from_residual.ensures.1 (fails_at f _ _ (sym c.constants.invariant.0) stop)
