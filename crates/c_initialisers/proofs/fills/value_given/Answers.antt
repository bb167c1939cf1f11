-- What is given is given where the value breaks no rule.
use Rattle.std.proofs.Common.{◌≡◌, Bool, not, ◌&&◌, ◌||◌, [], ◌∷◌, is_none, refl, ap, ◌∙◌}
use Rattle.std.specs.Prelude.{Option, Some, None}
use Rattle.c_expr_rules.specs.Converting as converting
use Rattle.c_expr_rules.specs.Converting.{conversion, or_itself}
use Rattle.c_expr_rules.specs.Outcomes.{by_rules, ◌breaks◌}
use Rattle.c_expr_rules.specs.Views.{seen_state}
use Rattle.c_expr_rules.specs.declared.found.Found.TheVariants as found
use Rattle.c_expr_rules.specs.declared.typed.Typed.{Typed}
use Rattle.c_file_rules.specs.Filling.{value_kept}
use Rattle.c_file_rules.specs.Initialising.{then_given, value_rules, value_given, no_value, is_constant}
use Rattle.c_initialisers.proofs.Told.{rules_told}
use Rattle.c_initialisers.proofs.fills.value_given.Goals as goal

same_none : (o : Option Typed) → converting.is_none o ≡ is_none o
same_none None = refl
same_none (Some x) = refl

pub returns-in_ok-give_value-in-Fine : goal.returns-in_ok-give_value-in-Fine
returns-in_ok-give_value-in-Fine g c =
    let around = g.S.Surroundings.told c.args.checker.now.around.now in
    let s = seen_state c.args.state.now in
    let t = c.args.target.now in
    let line = c.args.line in
    let v = c.args.value in
    let made = or_itself v (conversion s c.args.ty v) in
    let rules = λ (a b : Bool). by_rules line (11 breaks a ∷ 18 breaks b ∷ []) s tt in
    let bad = c.is_bad-is_bad.ensures ∙ ap (λ b. b || (t.is_static && not (is_constant c.in_ok-value.value.known))) c.has_no_value-has_none.ensures
    ∙ ap (λ (x : Typed). no_value c.args.ty v || (t.is_static && not (is_constant x.known))) c.in_ok-value.ensures in
    let held = c.in-Fine.ensures s ∙ ap (λ a. rules a c.is_refused-is_refused.result) bad ∙ ap (rules (no_value c.args.ty v || (t.is_static && not (is_constant made.known)))) (c.is_refused-is_refused.ensures ∙ same_none (conversion s c.args.ty v)) in
    rules_told c.args.given.now c.give_value.new.given (value_given around line s t made) t line s
    (c.in_ok-give_value-in-Fine.ensures ∙ ap (λ (x : Typed). then_given c.args.given.now (value_kept around line s t x)) c.in_ok-value.ensures)
    (value_rules t s c.args.ty v) (refl, (refl, tt)) (found.Fine tt) held

pub returns-in-Breaks : goal.returns-in-Breaks
returns-in-Breaks g c =
    let around = g.S.Surroundings.told c.args.checker.now.around.now in
    let s = seen_state c.args.state.now in
    let t = c.args.target.now in
    let line = c.args.line in
    let v = c.args.value in
    let made = or_itself v (conversion s c.args.ty v) in
    let rules = λ (a b : Bool). by_rules line (11 breaks a ∷ 18 breaks b ∷ []) s tt in
    let bad = c.is_bad-is_bad.ensures ∙ ap (λ b. b || (t.is_static && not (is_constant c.in_ok-value.value.known))) c.has_no_value-has_none.ensures
    ∙ ap (λ (x : Typed). no_value c.args.ty v || (t.is_static && not (is_constant x.known))) c.in_ok-value.ensures in
    let held = c.in-Breaks.ensures s ∙ ap (λ a. rules a c.is_refused-is_refused.result) bad ∙ ap (rules (no_value c.args.ty v || (t.is_static && not (is_constant made.known)))) (c.is_refused-is_refused.ensures ∙ same_none (conversion s c.args.ty v)) in
    rules_told c.args.given.now (then_given c.args.given.now (value_kept around line s t made)) (value_given around line s t made) t line s refl
    (value_rules t s c.args.ty v) (refl, (refl, tt)) (found.Breaks c.in-Breaks.broken c.in-Breaks.known) held
