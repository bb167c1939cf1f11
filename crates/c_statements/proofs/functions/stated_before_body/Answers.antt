-- The rules of a declarator before a body are those of its name with its own among them.
use Rattle.std.proofs.Common.{◌≡◌, ℕ, Bool, List, sym, ap, ap₂, ◌∙◌}
use Rattle.std.specs.Prelude.{not, Option}
use Rattle.c_specifiers.specs.declared.list.Standing.{Standing}
use Rattle.c_specifiers.specs.declared.list.Standing.TheVariants as standing
use Rattle.c_tree.specs.declared.declared.Declared.{Declared}
use Rattle.c_expr_rules.specs.Outcomes.{State, Rule, outcome_of, first_broken, ◌breaks◌}
use Rattle.c_expr_rules.specs.Views.{seen_state}
use Rattle.c_check_expr.proofs.Recursion.{passes_same}
use Rattle.c_names.specs.Code.{here_at}
use Rattle.c_names.proofs.Stating.{stated_named, again_named}
use Rattle.c_file_rules.specs.Constructs.{number_in}
use Rattle.c_file_rules.specs.Declarators.{size_number}
use Rattle.c_file_rules.specs.Declaring.{declared_rules}
use Rattle.c_file_rules.specs.Functions.{merged, function_rules}
use Rattle.c_file_rules.specs.Naming.{declares}
use Rattle.c_file_rules.proofs.Obeying.{obeyed}
use Rattle.c_statements.specs.Bodied.{what_of, stated_before_body}
use Rattle.c_statements.proofs.Declared.{rules_are}
use Rattle.c_types.specs.declared.ctype.Part.{Part}
use Rattle.c_statements.proofs.functions.stated_before_body.Goals as goal

pub returns : goal.returns
returns g c =
    let here = here_at c.args.scene.now.facts.now (g.S.Surroundings.told c.args.scene.now.around.now) in
    let s = seen_state c.args.state.now in
    let h = c.args.heading.now in
    let d = c.args.declarator.now in
    let p = c.args.part in
    let what = c.in_ok-what.what in
    let listed : Rule = 7 breaks not c.is_function_declared-is_listed.result in
    let t = seen_state c.declare.new.state in
    let again = c.in_ok-is_again.ensures.again ∙ again_named here.around s h.name what c.spelling.result.now c.spelling.ensures in
    let own = rules_are here h what s p c.in_ok-is_again.is_again c.is_bad_main-is_bad_main.result (size_number c.size_rule_of-sizeless.result) again c.size_rule_of-sizeless.ensures.rules c.is_bad_main-is_bad_main.ensures in
    let same : number_in c.body_rule.result ≡ first_broken (function_rules here d h.name (what_of here h) s p) = c.body_rule.ensures ∙ ap (λ (rules : List Rule). first_broken (merged rules listed)) own ∙ ap (λ (w : Declared). first_broken (merged (declared_rules here h.standing h.name (λ (s : State) (p : Part). w) s p) listed)) c.in_ok-what.ensures ∙ ap (λ (st : Standing). first_broken (merged (declared_rules here st h.name (what_of here h) s p) listed)) c.requires ∙ ap (λ (b : Bool). first_broken (merged (declared_rules here standing.Definition h.name (what_of here h) s p) (7 breaks not b))) c.is_function_declared-is_listed.ensures in
    let named = c.in_ok-is_again.ensures.state ∙ stated_named here.around s h.name what c.spelling.result.now c.spelling.ensures ∙ ap (λ (w : Declared). declares here.around s h.name w) c.in_ok-what.ensures in
    passes_same t c.obey_rule.result (stated_before_body here h d s p) (outcome_of h.line (number_in c.body_rule.result) t tt) (ap₂ (λ (n : Option ℕ) (u : State). outcome_of h.line n u tt) (sym same) (sym named)) (obeyed t c.obey_rule.result h.line (number_in c.body_rule.result) tt c.obey_rule.ensures)
