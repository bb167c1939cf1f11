-- An initialiser gives what its items give, each to the next part of what is filled.
use Rattle.std.proofs.Common.{◌≡◌, ℕ, ◌+◌, refl, sym, ap, ◌∙◌}
use Rattle.c_expr_rules.specs.Outcomes.{State}
use Rattle.c_expr_rules.specs.TypedExpressions.{type_at}
use Rattle.c_expr_rules.specs.Views.{seen_state}
use Rattle.c_file_rules.specs.Filling.{giving, told_with, done_with, fill_list}
use Rattle.c_file_rules.specs.Initialising.{filled}
use Rattle.c_file_rules.specs.declared.targets.PartAt.{PartAt}
use Rattle.c_initialisers.specs.Listed.{list_filled, item_filled, count_rules}
use Rattle.c_check_expr.proofs.Growing.{stays, grows_on, on_any, err_on}
use Rattle.c_check_expr.proofs.Outcomes.{fails_at}
use Rattle.c_check_expr.proofs.Joined.{given_fails}
use Rattle.c_check_expr.proofs.Recursion.{gives_same, passes_same}
use Rattle.c_file_rules.specs.Filling.{is_text_among}
use Rattle.c_file_rules.specs.Initialising.{parts_of}
use Rattle.c_file_rules.specs.declared.targets.Target.{Target}
use Rattle.c_file_rules.specs.declared.targets.Given.{Given}
use Rattle.c_expr_rules.specs.Outcomes.{by_rules}
use Rattle.c_types.specs.declared.ctype.CType.{CType}
use Rattle.std.proofs.Common.{true, false, take, length, [], ◌∷◌}
use Rattle.c_initialisers.proofs.Rows.{filled_list, fill_settled}
use Rattle.c_initialisers.proofs.Told.{told_failed, done_failed, done_passed, looked_done, giving_fails, items_fail, item_goes, item_fails, items_end, text_listed, parts_listed, rules_behind}
use Rattle.c_initialisers.proofs.initialising.+initialiser.Goals as goal

pub initialiser_filled-returns-in-Expression : goal.initialiser_filled-returns-in-Expression
initialiser_filled-returns-in-Expression g t c =
    let around = g.S.Surroundings.told c.args.checker.now.around.now in
    let s = seen_state c.args.state.now in
    let to = c.args.target.now in
    record {
      found = gives_same (seen_state c.expression_filled.new.state) (told_with c.expression_filled.new.given c.expression_filled.result) _ _ (ap (λ i. giving c.args.given.now to (filled around to s i)) c.in-Expression.is) c.expression_filled.ensures.found;
      grows = c.expression_filled.ensures.grows;
    }

pub initialiser_filled-returns-in-List : goal.initialiser_filled-returns-in-List
initialiser_filled-returns-in-List g t c =
    let around = g.S.Surroundings.told c.args.checker.now.around.now in
    let s = seen_state c.args.state.now in
    let to = c.args.target.now in
    let before = c.args.given.now in
    let span = c.in-List.span in
    record {
      found = gives_same (seen_state c.list_filled.new.state) (told_with c.list_filled.new.given c.list_filled.result) _ _ (ap (λ i. giving before to (filled around to s i)) c.in-List.is ∙ ap (giving before to) (filled_list around to s span c.in-List.list ∙ ap (list_filled around to s span) (sym c.as_slice.ensures))) c.list_filled.ensures.found;
      grows = c.list_filled.ensures.grows;
    }

pub items_filled-items-init : goal.items_filled-items-init
items_filled-items-init g t c = (refl, refl, stays c.args.state.now)

pub items_filled-items-preserved : goal.items_filled-items-preserved
items_filled-items-preserved g t c =
    let around = g.S.Surroundings.told c.args.checker.now.around.now in
    let l = c.items in (
      item_goes around c.args.target.now c.args.parts.now c.args.items.now l.index l.item-index l.given (seen_state l.state) _ c.copied-part.result c.item-item.result (seen_state c.item_filled.new.state) c.item_filled.new.given c.items-test.true c.item-item.is (c.copied-part.ensures ∙ c.at.ensures) l.invariant.0 c.in_ok-item_filled.ensures.found,
      ap (λ (n : ℕ). n + 1) l.invariant.1,
      grows_on _ _ _ l.invariant.2 c.in_ok-item_filled.ensures.grows,
    )

pub items_filled-returns : goal.items_filled-returns
items_filled-returns g t c =
    let around = g.S.Surroundings.told c.args.checker.now.around.now in
    let l = c.items in
    record {
      found = items_end around c.args.target.now c.args.parts.now c.args.items.now l.index l.item-index l.given (seen_state l.state) _ c.items-test.false l.invariant.0;
      grows = l.invariant.2;
    }

pub items_filled-returns-in_err-item_filled : goal.items_filled-returns-in_err-item_filled
items_filled-returns-in_err-item_filled g t c =
    let around = g.S.Surroundings.told c.args.checker.now.around.now in
    let l = c.items in
    let u = seen_state c.item_filled.new.state in
    let f = c.in_err-item_filled.field-0.0 in
    record {
      found = done_failed u _ c.from_residual.result f _ c.from_residual.ensures.1 (item_fails around c.args.target.now c.args.parts.now c.args.items.now l.index l.item-index l.given (seen_state l.state) _ c.copied-part.result c.item-item.result u f c.items-test.true c.item-item.is (c.copied-part.ensures ∙ c.at.ensures) l.invariant.0 c.in_err-item_filled.ensures.found);
      grows = err_on _ c.from_residual.result _ _ c.from_residual.ensures.1;
    }

-- ---- one item

pub item_filled-returns-in-None : goal.item_filled-returns-in-None
item_filled-returns-in-None g t c =
    let around = g.S.Surroundings.told c.args.checker.now.around.now in
    let s = seen_state c.args.state.now in
    record {
      found = passes_same (seen_state c.look_at.new.state) (done_with c.args.given.now c.look_at.result) _ _ (ap (λ p. giving c.args.given.now c.args.target.now (item_filled around c.args.target.now s p c.args.item.now)) c.in-None.is) (looked_done around c.args.target.now c.args.given.now s (seen_state c.look_at.new.state) c.args.item.now c.look_at.result c.look_at.ensures.found);
      grows = c.look_at.ensures.grows;
    }

pub item_filled-returns-in_ok-found-in-Some : goal.item_filled-returns-in_ok-found-in-Some
item_filled-returns-in_ok-found-in-Some g t c =
    let around = g.S.Surroundings.told c.args.checker.now.around.now in
    let s = seen_state c.args.state.now in
    let u = seen_state c.initialiser_filled.new.state in
    let before = c.args.given.now in
    let to = c.args.target.now in
    let item = c.args.item.now in
    let whole = ap (λ p. giving before to (item_filled around to s p item)) c.in-Some.is
    ∙ ap (λ (i : Target). giving before i (filled around i s item)) (sym c.in_ok-inner-in-Some.ensures) ∙ c.in_ok-found-in-Some.ensures.found in
    record {
      found = passes_same u (done_with c.initialiser_filled.new.given c.passed.result) _ _ whole (done_passed u c.initialiser_filled.new.given c.in_ok-found-in-Some.found c.passed.result (c.passed.ensures u));
      grows = on_any c.passed.result _ _ c.in_ok-found-in-Some.ensures.grows;
    }

pub item_filled-returns-in_err-found-in-Some : goal.item_filled-returns-in_err-found-in-Some
item_filled-returns-in_err-found-in-Some g t c =
    let around = g.S.Surroundings.told c.args.checker.now.around.now in
    let s = seen_state c.args.state.now in
    let u = seen_state c.initialiser_filled.new.state in
    let before = c.args.given.now in
    let to = c.args.target.now in
    let item = c.args.item.now in
    let f = c.in_err-found-in-Some.field-0.0 in
    let whole = ap (λ p. giving before to (item_filled around to s p item)) c.in-Some.is
    ∙ ap (λ (i : Target). giving before i (filled around i s item)) (sym c.in_ok-inner-in-Some.ensures) in
    record {
      found = done_failed u _ c.from_residual-in_err-found-in-Some.result f _ c.from_residual-in_err-found-in-Some.ensures.1 (fails_at f _ _ whole (given_fails u f _ c.in_err-found-in-Some.ensures.found));
      grows = err_on _ c.from_residual-in_err-found-in-Some.result _ _ c.from_residual-in_err-found-in-Some.ensures.1;
    }

-- ---- a list in braces

pub list_filled-returns-then-is_text_list : goal.list_filled-returns-then-is_text_list
list_filled-returns-then-is_text_list g t c =
    let around = g.S.Surroundings.told c.args.checker.now.around.now in
    let s = seen_state c.args.state.now in
    let is : is_text_among s (type_at s c.args.target.now.part.number) c.args.items.now ≡ true =
    ap (λ (ty : CType). is_text_among s ty c.args.items.now) (sym c.type_at-ty.ensures) ∙ sym c.is_text_list.ensures ∙ c.if-is_text_list.true in
    record {
      found = text_listed around c.args.target.now s c.args.span c.args.items.now c.args.given.now is ∙ c.in_ok-items_filled.ensures.found;
      grows = c.in_ok-items_filled.ensures.grows;
    }

pub list_filled-returns-in_err-items_filled : goal.list_filled-returns-in_err-items_filled
list_filled-returns-in_err-items_filled g t c =
    let around = g.S.Surroundings.told c.args.checker.now.around.now in
    let s = seen_state c.args.state.now in
    let u = seen_state c.items_filled.new.state in
    let to = c.args.target.now in
    let items = c.args.items.now in
    let f = c.in_err-items_filled.field-0.0 in
    let one : PartAt = record { offset = 0; part = to.part } in
    let is : is_text_among s (type_at s to.part.number) items ≡ true =
    ap (λ (ty : CType). is_text_among s ty items) (sym c.type_at-ty.ensures) ∙ sym c.is_text_list.ensures ∙ c.if-is_text_list.true in
    record {
      found = told_failed u _ c.from_residual.result f _ c.from_residual.ensures.1 (fails_at f _ _ (text_listed around to s c.args.span items c.args.given.now is)
          (items_fail u f c.args.given.now to (fill_list around to s (one ∷ []) items) (fill_settled around to s (one ∷ []) items) c.in_err-items_filled.ensures.found));
      grows = err_on _ c.from_residual.result _ _ c.from_residual.ensures.1;
    }

pub list_filled-returns : goal.list_filled-returns
list_filled-returns g t c =
    let around = g.S.Surroundings.told c.args.checker.now.around.now in
    let s = seen_state c.args.state.now in
    let u = seen_state c.items_filled-2.new.state in
    let to = c.args.target.now in
    let items = c.args.items.now in
    let is : is_text_among s (type_at s to.part.number) items ≡ false =
    ap (λ (ty : CType). is_text_among s ty items) (sym c.type_at-ty.ensures) ∙ sym c.is_text_list.ensures ∙ c.if-is_text_list.false in
    let parts : c.as_slice.result.now ≡ take (length items) (parts_of s (type_at s to.part.number)) =
    c.as_slice.ensures.value ∙ c.in_ok-parts.ensures ∙ ap (λ (ty : CType). take (length items) (parts_of s ty)) c.type_at-ty.ensures in
    record {
      found = parts_listed around to s c.args.span items c.args.given.now is c.as_slice.result.now parts
          ∙ rules_behind c.args.given.now c.items_filled-2.new.given to c.args.span.line u (fill_list around to s c.as_slice.result.now items) (λ (s : State). count_rules to s (length items)) (λ s. (refl, tt)) c.with_count.result c.in_ok-items_filled-2.ensures.found c.with_count.ensures;
      grows = c.in_ok-items_filled-2.ensures.grows;
    }

pub list_filled-returns-in_err-items_filled-2 : goal.list_filled-returns-in_err-items_filled-2
list_filled-returns-in_err-items_filled-2 g t c =
    let around = g.S.Surroundings.told c.args.checker.now.around.now in
    let s = seen_state c.args.state.now in
    let u = seen_state c.items_filled-2.new.state in
    let to = c.args.target.now in
    let items = c.args.items.now in
    let f = c.in_err-items_filled-2.field-0.0 in
    let is : is_text_among s (type_at s to.part.number) items ≡ false =
    ap (λ (ty : CType). is_text_among s ty items) (sym c.type_at-ty.ensures) ∙ sym c.is_text_list.ensures ∙ c.if-is_text_list.false in
    let parts : c.as_slice.result.now ≡ take (length items) (parts_of s (type_at s to.part.number)) =
    c.as_slice.ensures.value ∙ c.in_ok-parts.ensures ∙ ap (λ (ty : CType). take (length items) (parts_of s ty)) c.type_at-ty.ensures in
    let go = λ (s : State) (g : Given). by_rules c.args.span.line (count_rules to s (length items)) s g in
    record {
      found = told_failed u _ c.from_residual-in_err-items_filled-2.result f _ c.from_residual-in_err-items_filled-2.ensures.1 (fails_at f _ _ (parts_listed around to s c.args.span items c.args.given.now is c.as_slice.result.now parts)
          (giving_fails u f c.args.given.now to (fill_list around to s c.as_slice.result.now items) go c.in_err-items_filled-2.ensures.found));
      grows = err_on _ c.from_residual-in_err-items_filled-2.result _ _ c.from_residual-in_err-items_filled-2.ensures.1;
    }
