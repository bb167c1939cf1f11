-- A name is declared by its rules, the lowest first.
use Rattle.std.proofs.Common.{◌≡◌, sym, ap, ◌∙◌}
use Rattle.c_types.specs.declared.ctype.Part.{Part}
use Rattle.c_expr_rules.specs.Outcomes.{State, Fine, first_broken}
use Rattle.c_expr_rules.specs.Views.{seen_state}
use Rattle.c_check_expr.proofs.Growing.{grows_on, err_on}
use Rattle.c_check_expr.proofs.Recursion.{passes_failed}
use Rattle.c_names.specs.Code.{here_at}
use Rattle.c_names.proofs.Stating.{stated_named, again_named}
use Rattle.c_file_rules.specs.Constructs.{number_in}
use Rattle.c_file_rules.specs.Declarators.{size_number}
use Rattle.c_file_rules.specs.Declaring.{declared_rules, behind_declared}
use Rattle.c_statements.specs.Stated.{object_behind}
use Rattle.c_statements.proofs.Declared.{behind_is, rules_are}
use Rattle.c_statements.proofs.Steps.{rules_go, rules_fail}
use Rattle.c_statements.proofs.declarations.stated.Goals as goal

pub returns : goal.returns
returns g c =
    let here = here_at c.args.scene.now.facts.now (g.S.Surroundings.told c.args.scene.now.around.now) in
    let s = seen_state c.args.state.now in
    let h = c.args.heading.now in
    let what = c.args.what in
    let p = c.args.part in
    let line = c.args.heading.now.line in
    let rules = declared_rules here h.standing h.name (λ (s : State) (p : Part). what) s p in
    let go = λ (s : State) (p : Part). Fine (behind_declared here h.line h.name what s) (what, p) in
    let again = c.in_ok-is_again.ensures.again ∙ again_named here.around s h.name what c.spelling.result.now c.spelling.ensures in
    let same : number_in c.name_rule.result ≡ first_broken rules = c.name_rule.ensures ∙ ap first_broken (rules_are here h what s p c.in_ok-is_again.is_again c.is_bad_main-is_bad_main.result (size_number c.size_rule_of-sizeless.result) again c.size_rule_of-sizeless.ensures.rules c.is_bad_main-is_bad_main.ensures) in
    let named = c.in_ok-is_again.ensures.state ∙ stated_named here.around s h.name what c.spelling.result.now c.spelling.ensures in
    record {
      found = rules_go line rules (number_in c.name_rule.result) s p go same c.in_ok-obey_rule.ensures ∙ ap (λ (u : State). Fine u (what, p)) (sym (c.in_ok-add_object.ensures.state ∙ ap (object_behind here line what) named ∙ behind_is here line h.name what s));
      grows = grows_on _ _ _ c.in_ok-is_again.ensures.grows c.in_ok-add_object.ensures.grows;
    }

pub returns-in_err-obey_rule : goal.returns-in_err-obey_rule
returns-in_err-obey_rule g c =
    let here = here_at c.args.scene.now.facts.now (g.S.Surroundings.told c.args.scene.now.around.now) in
    let s = seen_state c.args.state.now in
    let h = c.args.heading.now in
    let what = c.args.what in
    let p = c.args.part in
    let line = c.args.heading.now.line in
    let rules = declared_rules here h.standing h.name (λ (s : State) (p : Part). what) s p in
    let go = λ (s : State) (p : Part). Fine (behind_declared here h.line h.name what s) (what, p) in
    let again = c.in_ok-is_again.ensures.again ∙ again_named here.around s h.name what c.spelling.result.now c.spelling.ensures in
    let same : number_in c.name_rule.result ≡ first_broken rules = c.name_rule.ensures ∙ ap first_broken (rules_are here h what s p c.in_ok-is_again.is_again c.is_bad_main-is_bad_main.result (size_number c.size_rule_of-sizeless.result) again c.size_rule_of-sizeless.ensures.rules c.is_bad_main-is_bad_main.ensures) in
    let f = c.in_err-obey_rule.field-0.0 in
    let t = seen_state c.declare.new.state in
    record {
      found = passes_failed t c.from_residual-in_err-obey_rule.result f _ c.from_residual-in_err-obey_rule.ensures.1 (rules_fail line rules (number_in c.name_rule.result) s p go f same c.in_err-obey_rule.ensures);
      grows = err_on _ c.from_residual-in_err-obey_rule.result _ _ c.from_residual-in_err-obey_rule.ensures.1;
    }
