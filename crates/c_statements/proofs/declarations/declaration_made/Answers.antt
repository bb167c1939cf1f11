-- The specifiers come first, and then each declarator.
use Rattle.std.proofs.Common.{List, sym, ap, ◌∙◌, subst}
use Rattle.std.specs.Prelude.{Err}
use Rattle.c_tree.specs.declared.stmt.Stmt.{Stmt}
use Rattle.c_expr_rules.specs.Outcomes.{State, Checked}
use Rattle.c_expr_rules.specs.Views.{seen_state}
use Rattle.c_expr_rules.specs.Views.{Passes}
use Rattle.c_check_expr.proofs.Growing.{grows_on, err_on}
use Rattle.c_check_expr.proofs.Outcomes.{next_goes, behind_passed, fails_at}
use Rattle.c_check_expr.proofs.Recursion.{passes_failed}
use Rattle.c_names.specs.Code.{here_at}
use Rattle.std.proofs.Common.{map, drop, ◌+◌}
use Rattle.c_syntax.specs.declared.file.InitDeclarator.{InitDeclarator}
use Rattle.c_file_rules.specs.Constructs.{in_order}
use Rattle.c_file_rules.specs.Declaring.{init_declared, declaration_checked}
use Rattle.c_file_rules.specs.Specifiers.{Declarators, specifiers_said}
use Rattle.c_file_rules.specs.declared.parts.Said.{Said}
use Rattle.c_statements.proofs.Before.{statements_before, all_before, list_goes, list_fails, list_ends}
use Rattle.c_statements.proofs.declarations.declaration_made.Goals as goal

pub declarators-init : goal.declarators-init
declarators-init g c =
    let here = here_at c.args.scene.now.facts.now (g.S.Surroundings.told c.args.scene.now.around.now) in
    let s = seen_state c.args.state.now in
    let d = c.args.declaration.now in
    let place = c.args.standing in
    let said = c.in_ok-said.said in
    let look = init_declared here place said in
    let inits = c.as_slice-declarators.result.now in
    let s1 = seen_state c.specifiers_said.new.state in
    (ap (λ (xs : List Stmt). statements_before xs (in_order look s1 inits)) c.new-statements.ensures ∙ all_before look s1 inits, c.in_ok-said.ensures.grows)

pub declarators-preserved : goal.declarators-preserved
declarators-preserved g c =
    let here = here_at c.args.scene.now.facts.now (g.S.Surroundings.told c.args.scene.now.around.now) in
    let s = seen_state c.args.state.now in
    let d = c.args.declaration.now in
    let place = c.args.standing in
    let said = c.in_ok-said.said in
    let look = init_declared here place said in
    let inits = c.as_slice-declarators.result.now in
    let s1 = seen_state c.specifiers_said.new.state in
    let t = seen_state c.init_declared.new.state in
    let step = list_goes look (seen_state c.declarators.state) t c.declarators.statements c.in_ok-more.more inits c.declarators.init-index c.init-item.result c.init-item.result c.declarators-test.true c.init-item.is c.in_ok-more.ensures.found in
    (ap (λ (xs : List Stmt). statements_before xs (in_order look t (drop (c.declarators.init-index + 1) inits))) c.in_ok-append.ensures ∙ step ∙ c.declarators.invariant.0, grows_on _ _ _ c.declarators.invariant.1 c.in_ok-more.ensures.grows)

pub returns : goal.returns
returns g c =
    let here = here_at c.args.scene.now.facts.now (g.S.Surroundings.told c.args.scene.now.around.now) in
    let s = seen_state c.args.state.now in
    let d = c.args.declaration.now in
    let place = c.args.standing in
    let said = c.in_ok-said.said in
    let look = init_declared here place said in
    let inits = c.as_slice-declarators.result.now in
    let s1 = seen_state c.specifiers_said.new.state in
    let of = λ (l : List InitDeclarator). specifiers_said here place (Declarators (map (λ (i : InitDeclarator). i.declarator) l)) s d.specifiers in
    let first = of d.declarators in
    let go = λ (s : State) (said : Said). in_order (init_declared here place said) s d.declarators in
    let same = c.as_slice-declarators.ensures in
    record {
      found = next_goes first go s1 said (ap of (sym same) ∙ c.in_ok-said.ensures.found) ∙ ap (λ (l : List InitDeclarator). in_order look s1 l) (sym same) ∙ sym c.declarators.invariant.0 ∙ list_ends look (seen_state c.declarators.state) c.declarators.statements inits c.declarators.init-index c.declarators-test.false;
      grows = c.declarators.invariant.1;
    }

pub returns-in_err-more : goal.returns-in_err-more
returns-in_err-more g c =
    let here = here_at c.args.scene.now.facts.now (g.S.Surroundings.told c.args.scene.now.around.now) in
    let s = seen_state c.args.state.now in
    let d = c.args.declaration.now in
    let place = c.args.standing in
    let said = c.in_ok-said.said in
    let look = init_declared here place said in
    let inits = c.as_slice-declarators.result.now in
    let s1 = seen_state c.specifiers_said.new.state in
    let of = λ (l : List InitDeclarator). specifiers_said here place (Declarators (map (λ (i : InitDeclarator). i.declarator) l)) s d.specifiers in
    let first = of d.declarators in
    let go = λ (s : State) (said : Said). in_order (init_declared here place said) s d.declarators in
    let same = c.as_slice-declarators.ensures in
    let f = c.in_err-more.field-0.0 in
    let t = seen_state c.init_declared.new.state in
    record {
      found = passes_failed t c.from_residual-in_err-more.result f _ c.from_residual-in_err-more.ensures.1 (fails_at f (declaration_checked here place s d) (statements_before c.declarators.statements (in_order look (seen_state c.declarators.state) (drop c.declarators.init-index inits))) (next_goes first go s1 said (ap of (sym same) ∙ c.in_ok-said.ensures.found) ∙ ap (λ (l : List InitDeclarator). in_order look s1 l) (sym same) ∙ sym c.declarators.invariant.0) (list_fails look (seen_state c.declarators.state) t c.declarators.statements inits c.declarators.init-index c.init-item.result c.init-item.result f c.declarators-test.true c.init-item.is c.in_err-more.ensures.found));
      grows = err_on _ c.from_residual-in_err-more.result _ _ c.from_residual-in_err-more.ensures.1;
    }

pub returns-in_err-said : goal.returns-in_err-said
returns-in_err-said g c =
    let here = here_at c.args.scene.now.facts.now (g.S.Surroundings.told c.args.scene.now.around.now) in
    let s = seen_state c.args.state.now in
    let d = c.args.declaration.now in
    let place = c.args.standing in
    let inits = c.as_slice-declarators.result.now in
    let s1 = seen_state c.specifiers_said.new.state in
    let of = λ (l : List InitDeclarator). specifiers_said here place (Declarators (map (λ (i : InitDeclarator). i.declarator) l)) s d.specifiers in
    let first = of d.declarators in
    let go = λ (s : State) (said : Said). in_order (init_declared here place said) s d.declarators in
    let f = c.in_err-said.field-0.0 in
    let t = seen_state c.specifiers_said.new.state in
    let seen = ap of c.as_slice-declarators.ensures in
    record {
      found = passes_failed t c.from_residual.result f _ c.from_residual.ensures.1 (behind_passed t f first go (subst (λ (c : Checked Said). Passes {A = Said} t (Err f) c) seen c.in_err-said.ensures.found));
      grows = err_on _ c.from_residual.result _ _ c.from_residual.ensures.1;
    }
