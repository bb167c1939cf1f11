-- Where its expression breaks a rule, a size does.
use Rattle.c_expr_rules.specs.Contexts.{constant_in, without_fault}
use Rattle.c_expr_rules.specs.Outcomes.{Fine}
use Rattle.c_expr_rules.specs.Views.{seen_state}
use Rattle.c_check_expr.proofs.Outcomes.{behind_passed}
use Rattle.c_check_expr.proofs.Recursion.{passes_failed}
use Rattle.c_file_rules.specs.Declarators.{size_derivation}
use Rattle.c_type_names.proofs.sizes.size_formed.Goals as goal

pub returns-in_err-typed-clause-found : goal.returns-in_err-typed-clause-found
returns-in_err-typed-clause-found g c =
    let t = seen_state c.size_value.new.state in
    let f = c.in_err-typed.field-0.0 in
    passes_failed t c.from_residual.result f _ c.from_residual.ensures.1
    (behind_passed t f (without_fault (g.S.Surroundings.told c.args.scene.now.around.now) (seen_state c.args.state.now) c.args.size.now)
    (λ s x. Fine s (size_derivation x (constant_in x.known))) c.in_err-typed.ensures.found)
