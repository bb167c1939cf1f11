-- An expression is what its parts make of it, in their order: where a part breaks a rule, nothing behind it is looked at.
use Rattle.std.proofs.Common.{◌≡◌, ℕ, ◌+◌, ◌-◌, List, true, false, length, take, drop, rules, arith, refl, sym, ap, ap₂, ◌∙◌}
use Rattle.std.specs.Prelude.{Some, None, Err}
use Rattle.std.proofs.lemmas.List.{at_drop_all}
use Rattle.c_types.specs.declared.ctype.Part.{Part}
use Rattle.c_syntax.specs.declared.expr.ExprKind.TheVariants as kind
use Rattle.c_syntax.specs.declared.expr.PostfixKind.TheVariants as postfix
use Rattle.c_expr_rules.specs.Outcomes as o
use Rattle.c_expr_rules.specs.Outcomes.{State, Fine, next, inner, outcome_with, unevaluated}
use Rattle.c_expr_rules.specs.TypedExpressions.{type_at}
use Rattle.c_expr_rules.specs.declared.typed.Typed.{Typed}
use Rattle.c_expr_rules.specs.Reading.{read, read_found, target_found}
use Rattle.c_expr_rules.specs.Operators.{choice}
use Rattle.c_expr_rules.specs.Calls.{no_arguments, wanted_type, argument_to, print_call, bad_print}
use Rattle.c_expr_rules.specs.declared.arguments.Wanted.TheVariants.{Anything}
use Rattle.c_expr_rules.specs.declared.arguments.Arguments.{Arguments}
use Rattle.c_expr_rules.specs.Expressions.{Level, by_level, first_test, logic, with_test, linked_value, second, typed_expression, typed_value, typed_operator, typed_special, special_named, name_in, is_call, prefixed, cast, index, assigned_with, without_use}
use Rattle.c_expr_rules.specs.declared.typed.Tests.{Tests}
use Rattle.c_check_expr.specs.Lists.{seen_level, level_list, link_list, test_list, comma_list, operator_list, argument_list, called, special_list, print_list, begin_kind, behind_first, operand_of, with_link, with_tested, with_second, with_operator, format_in, measured}
use Rattle.c_expr_rules.specs.Views.{seen_state, checked}
use Rattle.c_check_expr.proofs.Outcomes.{next_goes, behind_passed, behind_given, through_given, fails_at}
use Rattle.c_check_expr.proofs.Growing.{stays, grows_on, ok_on, on_any, err_on}
use Rattle.c_check_expr.proofs.Lists.{operator_stops, over_stops, values_before}
use Rattle.c_check_expr.proofs.Trees.{parens_typed, prefix_typed, sizeof_typed, size_typed_at, align_typed_at, cast_typed, conditional_typed, assign_typed, comma_typed, chain_typed, postfix_typed, begin_typed, index_typed, call_typed, special_typed}
use Rattle.c_check_expr.proofs.Recursion.{two_go, second_fails, three_go, third_fails, gives_same, passes_same, gives_failed, passes_failed, value_passes, value_fails, of_kind, over_goes, over_breaks, over_ends, values_all, argument_stops, arguments_go, arguments_fail}
use Rattle.c_check_expr.proofs.Joined.{given_fails, prefixed_stops, with_operator_stops, with_link_stops, with_tested_stops, with_second_stops, none_left, first_left, split_left, begin_none, begin_some, special_stops, call_goes, call_fails, values_none, format_is, print_is_text, print_is_other, level_stops, tests_fail, logic_fails}
use Rattle.c_check_expr.proofs.parts.Checker.+typed.Goals as goal

pub expression-returns-in_ok-inside-in-Parens : goal.expression-returns-in_ok-inside-in-Parens
expression-returns-in_ok-inside-in-Parens g t c =
    let around = g.S.Surroundings.told c.args.self.now.around.now in
    let s = seen_state c.args.state.now in
    let e = c.args.expr.now in
    let inner_is : e.kind ≡ kind.Parens c.get-inner.result.now = cc in
    let whole = of_kind around s e _ inner_is ∙ parens_typed around e.span s c.get-inner.result.now in
    record {
      found = gives_same (seen_state c.expression.new.state) c.inner_found.result _ _ (whole ∙ ap inner c.in_ok-inside-in-Parens.ensures.found) (c.inner_found.ensures (seen_state c.expression.new.state));
      grows = on_any c.inner_found.result _ _ c.in_ok-inside-in-Parens.ensures.grows;
    }

pub expression-returns-in_err-inside-in-Parens : goal.expression-returns-in_err-inside-in-Parens
expression-returns-in_err-inside-in-Parens g t c =
    let around = g.S.Surroundings.told c.args.self.now.around.now in
    let s = seen_state c.args.state.now in
    let e = c.args.expr.now in
    let inner_is : e.kind ≡ kind.Parens c.get-inner.result.now = cc in
    let whole = of_kind around s e _ inner_is ∙ parens_typed around e.span s c.get-inner.result.now in
    let f = c.in_err-inside-in-Parens.field-0.0 in
    record {
      found = gives_failed (seen_state c.expression.new.state) c.from_residual-in_err-inside-in-Parens.result f _ c.from_residual-in_err-inside-in-Parens.ensures.1 (fails_at f _ _ whole (behind_given (seen_state c.expression.new.state) f _ Fine c.in_err-inside-in-Parens.ensures.found));
      grows = err_on _ c.from_residual-in_err-inside-in-Parens.result _ _ c.from_residual-in_err-inside-in-Parens.ensures.1;
    }

pub expression-returns-in_ok-found-in-Prefix : goal.expression-returns-in_ok-found-in-Prefix
expression-returns-in_ok-found-in-Prefix g t c =
    let around = g.S.Surroundings.told c.args.self.now.around.now in
    let s = seen_state c.args.state.now in
    let e = c.args.expr.now in
    let line = c.args.expr.now.span.line in
    let operand = c.get-operand.result.now in
    let is : e.kind ≡ kind.Prefix c.in-Prefix.operator operand = cc in
    let whole = of_kind around s e _ is ∙ prefix_typed around e.span s c.in-Prefix.operator operand ∙ ap (λ l. prefixed line l c.in-Prefix.operator (typed_expression around s operand)) (sym c.local_named-local.ensures) in
    record {
      found = gives_same (seen_state c.prefixed.new.state) c.prefixed.result _ _ (whole ∙ ap (prefixed line c.local_named-local.result c.in-Prefix.operator) c.in_ok-found-in-Prefix.ensures.found) c.prefixed.ensures.found;
      grows = ok_on c.prefixed.result _ _ _ c.in_ok-found-in-Prefix.ensures.grows c.prefixed.ensures.grows;
    }

pub expression-returns-in_err-found-in-Prefix : goal.expression-returns-in_err-found-in-Prefix
expression-returns-in_err-found-in-Prefix g t c =
    let around = g.S.Surroundings.told c.args.self.now.around.now in
    let s = seen_state c.args.state.now in
    let e = c.args.expr.now in
    let line = c.args.expr.now.span.line in
    let operand = c.get-operand.result.now in
    let is : e.kind ≡ kind.Prefix c.in-Prefix.operator operand = cc in
    let whole = of_kind around s e _ is ∙ prefix_typed around e.span s c.in-Prefix.operator operand ∙ ap (λ l. prefixed line l c.in-Prefix.operator (typed_expression around s operand)) (sym c.local_named-local.ensures) in
    let f = c.in_err-found-in-Prefix.field-0.0 in
    record {
      found = gives_failed (seen_state c.expression-in-Prefix.new.state) c.from_residual-in_err-found-in-Prefix.result f _ c.from_residual-in_err-found-in-Prefix.ensures.1 (fails_at f _ _ whole (through_given (seen_state c.expression-in-Prefix.new.state) f _ (prefixed line c.local_named-local.result c.in-Prefix.operator) (prefixed_stops line c.local_named-local.result c.in-Prefix.operator) c.in_err-found-in-Prefix.ensures.found));
      grows = err_on _ c.from_residual-in_err-found-in-Prefix.result _ _ c.from_residual-in_err-found-in-Prefix.ensures.1;
    }

pub expression-returns-in_ok-of_whole-in-SizeofExpr : goal.expression-returns-in_ok-of_whole-in-SizeofExpr
expression-returns-in_ok-of_whole-in-SizeofExpr g t c =
    let around = g.S.Surroundings.told c.args.self.now.around.now in
    let s = seen_state c.args.state.now in
    let e = c.args.expr.now in
    let line = c.args.expr.now.span.line in
    let operand = c.get-whole.result.now in
    let is : e.kind ≡ kind.SizeofExpr operand = cc in
    let whole = of_kind around s e _ is ∙ sizeof_typed around e.span s operand in
    record {
      found = gives_same (seen_state c.measured.new.state) c.measured.result _ _ (whole ∙ ap (measured line operand.span.line s) c.in_ok-of_whole-in-SizeofExpr.ensures.found) (c.measured.ensures.found c.args.state.now c.mark-before.ensures c.in_ok-of_whole-in-SizeofExpr.ensures.grows);
      grows = c.measured.ensures.grows c.args.state.now c.mark-before.ensures c.in_ok-of_whole-in-SizeofExpr.ensures.grows;
    }

pub expression-returns-in_err-of_whole-in-SizeofExpr : goal.expression-returns-in_err-of_whole-in-SizeofExpr
expression-returns-in_err-of_whole-in-SizeofExpr g t c =
    let around = g.S.Surroundings.told c.args.self.now.around.now in
    let s = seen_state c.args.state.now in
    let e = c.args.expr.now in
    let line = c.args.expr.now.span.line in
    let operand = c.get-whole.result.now in
    let is : e.kind ≡ kind.SizeofExpr operand = cc in
    let whole = of_kind around s e _ is ∙ sizeof_typed around e.span s operand in
    let f = c.in_err-of_whole-in-SizeofExpr.field-0.0 in
    record {
      found = gives_failed (seen_state c.expression-in-SizeofExpr.new.state) c.from_residual-in_err-of_whole-in-SizeofExpr.result f _ c.from_residual-in_err-of_whole-in-SizeofExpr.ensures.1 (fails_at f _ _ whole (through_given (seen_state c.expression-in-SizeofExpr.new.state) f _ (measured line operand.span.line s) (λ b. refl) c.in_err-of_whole-in-SizeofExpr.ensures.found));
      grows = err_on _ c.from_residual-in_err-of_whole-in-SizeofExpr.result _ _ c.from_residual-in_err-of_whole-in-SizeofExpr.ensures.1;
    }

pub expression-returns-in-SizeofType : goal.expression-returns-in-SizeofType
expression-returns-in-SizeofType g t c =
    let around = g.S.Surroundings.told c.args.self.now.around.now in
    let s = seen_state c.args.state.now in
    let e = c.args.expr.now in
    let is : e.kind ≡ kind.SizeofType c.get.result.now = cc in
    record {
      found = gives_same (seen_state c.size_of_type.new.state) c.size_of_type.result _ _ (of_kind around s e _ is ∙ size_typed_at around e.span s c.get.result.now) c.size_of_type.ensures.found;
      grows = c.size_of_type.ensures.grows;
    }

pub expression-returns-in-AlignofType : goal.expression-returns-in-AlignofType
expression-returns-in-AlignofType g t c =
    let around = g.S.Surroundings.told c.args.self.now.around.now in
    let s = seen_state c.args.state.now in
    let e = c.args.expr.now in
    let is : e.kind ≡ kind.AlignofType c.get-in-AlignofType.result.now = cc in
    record {
      found = gives_same (seen_state c.align_of_type.new.state) c.align_of_type.result _ _ (of_kind around s e _ is ∙ align_typed_at around e.span s c.get-in-AlignofType.result.now) c.align_of_type.ensures.found;
      grows = c.align_of_type.ensures.grows;
    }

pub value-returns : goal.value-returns
value-returns g t c =
    let around = g.S.Surroundings.told c.args.self.now.around.now in
    let s = seen_state c.args.state.now in
    let e = c.args.expr.now in
    record {
      found = value_passes (seen_state c.expression.new.state) (typed_expression around s e) c.in_ok-found.found c.in_ok-read_found.field-0 c.passed.result c.in_ok-found.ensures.found (c.in_ok-read_found.ensures (seen_state c.expression.new.state)) (c.passed.ensures (seen_state c.expression.new.state));
      grows = on_any c.passed.result _ _ c.in_ok-found.ensures.grows;
    }

pub value-returns-in_err-found : goal.value-returns-in_err-found
value-returns-in_err-found g t c =
    let around = g.S.Surroundings.told c.args.self.now.around.now in
    let s = seen_state c.args.state.now in
    let e = c.args.expr.now in
    let f = c.in_err-found.field-0.0 in
    record {
      found = passes_failed (seen_state c.expression.new.state) c.from_residual.result f _ c.from_residual.ensures.1 (value_fails (seen_state c.expression.new.state) f (typed_expression around s e) c.in_err-found.ensures.found);
      grows = err_on _ c.from_residual.result _ _ c.from_residual.ensures.1;
    }

pub cast_expression-returns : goal.cast_expression-returns
cast_expression-returns g t c =
    let around = g.S.Surroundings.told c.args.self.now.around.now in
    let s = seen_state c.args.state.now in
    let e = c.args.expr.now in
    let line = c.args.expr.now.span.line in
    let ty = c.get-name.result.now in
    let operand = c.get-operand.result.now in
    let is : e.kind ≡ kind.Cast ty operand = cc in
    let whole = of_kind around s e _ is ∙ cast_typed around e.span s ty operand in
    let second = λ (s : State). typed_value around s operand in
    let go = λ (s : State) (part : Part) (u : State) (x : Typed). cast line (type_at u part.number) u x in
    record {
      found = whole ∙ two_go (around.named_type s ty) second go (seen_state c.named_type.new.state) (seen_state c.value.new.state) c.in_ok-part.part c.in_ok-typed.typed _ c.in_ok-part.ensures.found c.in_ok-typed.ensures.found (c.in_ok-cast.ensures ∙ ap (λ ty. cast line ty (seen_state c.value.new.state) c.in_ok-typed.typed) c.type_at-ty.ensures);
      grows = grows_on _ _ _ c.in_ok-part.ensures.grows c.in_ok-typed.ensures.grows;
    }

pub cast_expression-returns-in_err-part : goal.cast_expression-returns-in_err-part
cast_expression-returns-in_err-part g t c =
    let around = g.S.Surroundings.told c.args.self.now.around.now in
    let s = seen_state c.args.state.now in
    let e = c.args.expr.now in
    let line = c.args.expr.now.span.line in
    let ty = c.get-name.result.now in
    let operand = c.get-operand.result.now in
    let is : e.kind ≡ kind.Cast ty operand = cc in
    let whole = of_kind around s e _ is ∙ cast_typed around e.span s ty operand in
    let second = λ (s : State). typed_value around s operand in
    let go = λ (s : State) (part : Part) (u : State) (x : Typed). cast line (type_at u part.number) u x in
    let f = c.in_err-part.field-0.0 in
    record {
      found = gives_failed (seen_state c.named_type.new.state) c.from_residual.result f _ c.from_residual.ensures.1 (fails_at f _ _ whole (behind_passed (seen_state c.named_type.new.state) f (around.named_type s ty) (λ s part. next (second s) (λ u x. go s part u x)) c.in_err-part.ensures.found));
      grows = err_on _ c.from_residual.result _ _ c.from_residual.ensures.1;
    }

pub cast_expression-returns-in_err-typed : goal.cast_expression-returns-in_err-typed
cast_expression-returns-in_err-typed g t c =
    let around = g.S.Surroundings.told c.args.self.now.around.now in
    let s = seen_state c.args.state.now in
    let e = c.args.expr.now in
    let line = c.args.expr.now.span.line in
    let ty = c.get-name.result.now in
    let operand = c.get-operand.result.now in
    let is : e.kind ≡ kind.Cast ty operand = cc in
    let whole = of_kind around s e _ is ∙ cast_typed around e.span s ty operand in
    let second = λ (s : State). typed_value around s operand in
    let go = λ (s : State) (part : Part) (u : State) (x : Typed). cast line (type_at u part.number) u x in
    let f = c.in_err-typed.field-0.0 in
    record {
      found = gives_failed (seen_state c.value.new.state) c.from_residual-in_err-typed.result f _ c.from_residual-in_err-typed.ensures.1 (fails_at f _ _ whole (second_fails (around.named_type s ty) second go (seen_state c.named_type.new.state) (seen_state c.value.new.state) c.in_ok-part.part f c.in_ok-part.ensures.found c.in_err-typed.ensures.found));
      grows = err_on _ c.from_residual-in_err-typed.result _ _ c.from_residual-in_err-typed.ensures.1;
    }

pub conditional_expression-returns : goal.conditional_expression-returns
conditional_expression-returns g t c =
    let around = g.S.Surroundings.told c.args.self.now.around.now in
    let s = seen_state c.args.state.now in
    let e = c.args.expr.now in
    let line = c.args.expr.now.span.line in
    let a = c.get-condition.result.now in
    let x = c.get-then.result.now in
    let y = c.get-otherwise.result.now in
    let is : e.kind ≡ kind.Conditional a x y = cc in
    let whole = of_kind around s e _ is ∙ conditional_typed around e.span s a x y in
    let second = λ (s : State). typed_value around s x in
    let third = λ (s : State). typed_value around s y in
    let go = λ (a x : Typed) (s : State) (y : Typed). choice line a x s y in
    record {
      found = whole ∙ three_go (typed_value around s a) second third go (seen_state c.value.new.state) (seen_state c.value-2.new.state) (seen_state c.value-3.new.state) c.in_ok-test.test c.in_ok-one.one c.in_ok-other.other _ c.in_ok-test.ensures.found c.in_ok-one.ensures.found c.in_ok-other.ensures.found c.in_ok-choice.ensures;
      grows = grows_on _ _ _ c.in_ok-test.ensures.grows (grows_on _ _ _ c.in_ok-one.ensures.grows c.in_ok-other.ensures.grows);
    }

pub conditional_expression-returns-in_err-test : goal.conditional_expression-returns-in_err-test
conditional_expression-returns-in_err-test g t c =
    let around = g.S.Surroundings.told c.args.self.now.around.now in
    let s = seen_state c.args.state.now in
    let e = c.args.expr.now in
    let line = c.args.expr.now.span.line in
    let a = c.get-condition.result.now in
    let x = c.get-then.result.now in
    let y = c.get-otherwise.result.now in
    let is : e.kind ≡ kind.Conditional a x y = cc in
    let whole = of_kind around s e _ is ∙ conditional_typed around e.span s a x y in
    let second = λ (s : State). typed_value around s x in
    let third = λ (s : State). typed_value around s y in
    let go = λ (a x : Typed) (s : State) (y : Typed). choice line a x s y in
    let f = c.in_err-test.field-0.0 in
    record {
      found = gives_failed (seen_state c.value.new.state) c.from_residual.result f _ c.from_residual.ensures.1 (fails_at f _ _ whole (behind_passed (seen_state c.value.new.state) f (typed_value around s a) (λ s a. next (second s) (λ s x. next (third s) (λ s y. go a x s y))) c.in_err-test.ensures.found));
      grows = err_on _ c.from_residual.result _ _ c.from_residual.ensures.1;
    }

pub conditional_expression-returns-in_err-one : goal.conditional_expression-returns-in_err-one
conditional_expression-returns-in_err-one g t c =
    let around = g.S.Surroundings.told c.args.self.now.around.now in
    let s = seen_state c.args.state.now in
    let e = c.args.expr.now in
    let line = c.args.expr.now.span.line in
    let a = c.get-condition.result.now in
    let x = c.get-then.result.now in
    let y = c.get-otherwise.result.now in
    let is : e.kind ≡ kind.Conditional a x y = cc in
    let whole = of_kind around s e _ is ∙ conditional_typed around e.span s a x y in
    let second = λ (s : State). typed_value around s x in
    let third = λ (s : State). typed_value around s y in
    let go = λ (a x : Typed) (s : State) (y : Typed). choice line a x s y in
    let f = c.in_err-one.field-0.0 in
    record {
      found = gives_failed (seen_state c.value-2.new.state) c.from_residual-in_err-one.result f _ c.from_residual-in_err-one.ensures.1 (fails_at f _ _ whole (second_fails (typed_value around s a) second (λ s a u x. next (third u) (λ u y. go a x u y)) (seen_state c.value.new.state) (seen_state c.value-2.new.state) c.in_ok-test.test f c.in_ok-test.ensures.found c.in_err-one.ensures.found));
      grows = err_on _ c.from_residual-in_err-one.result _ _ c.from_residual-in_err-one.ensures.1;
    }

pub conditional_expression-returns-in_err-other : goal.conditional_expression-returns-in_err-other
conditional_expression-returns-in_err-other g t c =
    let around = g.S.Surroundings.told c.args.self.now.around.now in
    let s = seen_state c.args.state.now in
    let e = c.args.expr.now in
    let line = c.args.expr.now.span.line in
    let a = c.get-condition.result.now in
    let x = c.get-then.result.now in
    let y = c.get-otherwise.result.now in
    let is : e.kind ≡ kind.Conditional a x y = cc in
    let whole = of_kind around s e _ is ∙ conditional_typed around e.span s a x y in
    let second = λ (s : State). typed_value around s x in
    let third = λ (s : State). typed_value around s y in
    let go = λ (a x : Typed) (s : State) (y : Typed). choice line a x s y in
    let f = c.in_err-other.field-0.0 in
    record {
      found = gives_failed (seen_state c.value-3.new.state) c.from_residual-in_err-other.result f _ c.from_residual-in_err-other.ensures.1 (fails_at f _ _ whole (third_fails (typed_value around s a) second third go (seen_state c.value.new.state) (seen_state c.value-2.new.state) (seen_state c.value-3.new.state) c.in_ok-test.test c.in_ok-one.one f c.in_ok-test.ensures.found c.in_ok-one.ensures.found c.in_err-other.ensures.found));
      grows = err_on _ c.from_residual-in_err-other.result _ _ c.from_residual-in_err-other.ensures.1;
    }

pub assignment_expression-returns : goal.assignment_expression-returns
assignment_expression-returns g t c =
    let around = g.S.Surroundings.told c.args.self.now.around.now in
    let s = seen_state c.args.state.now in
    let e = c.args.expr.now in
    let line = c.args.expr.now.span.line in
    let a = c.get-left.result.now in
    let v = c.get-value.result.now in
    let o = c.in-Assign.operator in
    let is : e.kind ≡ kind.Assign o a v = cc in
    let whole = of_kind around s e _ is ∙ assign_typed around e.span s o a v in
    let first = target_found (typed_expression around s a) in
    let second = λ (s : State). typed_value around s v in
    let go = λ (s : State) (t : Typed) (u : State) (v : Typed). assigned_with line o t u v in
    record {
      found = whole ∙ two_go first second go (seen_state c.expression.new.state) (seen_state c.value.new.state) c.in_ok-target.target c.in_ok-right.right _ (ap target_found c.in_ok-found.ensures.found ∙ sym (c.target_found.ensures (seen_state c.expression.new.state)) ∙ c.in_ok-target.ensures (seen_state c.expression.new.state)) c.in_ok-right.ensures.found c.in_ok-assigned_with.ensures;
      grows = grows_on _ _ _ c.in_ok-found.ensures.grows c.in_ok-right.ensures.grows;
    }

pub assignment_expression-returns-in_err-found : goal.assignment_expression-returns-in_err-found
assignment_expression-returns-in_err-found g t c =
    let around = g.S.Surroundings.told c.args.self.now.around.now in
    let s = seen_state c.args.state.now in
    let e = c.args.expr.now in
    let line = c.args.expr.now.span.line in
    let a = c.get-left.result.now in
    let v = c.get-value.result.now in
    let o = c.in-Assign.operator in
    let is : e.kind ≡ kind.Assign o a v = cc in
    let whole = of_kind around s e _ is ∙ assign_typed around e.span s o a v in
    let first = target_found (typed_expression around s a) in
    let second = λ (s : State). typed_value around s v in
    let go = λ (s : State) (t : Typed) (u : State) (v : Typed). assigned_with line o t u v in
    let f = c.in_err-found.field-0.0 in
    record {
      found = gives_failed (seen_state c.expression.new.state) c.from_residual.result f _ c.from_residual.ensures.1 (fails_at f _ _ whole (through_given (seen_state c.expression.new.state) f (typed_expression around s a) (λ x. next (target_found x) (λ s t. next (second s) (λ u v. go s t u v))) (λ b. refl) c.in_err-found.ensures.found));
      grows = err_on _ c.from_residual.result _ _ c.from_residual.ensures.1;
    }

pub assignment_expression-returns-in_err-target : goal.assignment_expression-returns-in_err-target
assignment_expression-returns-in_err-target g t c =
    let around = g.S.Surroundings.told c.args.self.now.around.now in
    let s = seen_state c.args.state.now in
    let e = c.args.expr.now in
    let line = c.args.expr.now.span.line in
    let a = c.get-left.result.now in
    let v = c.get-value.result.now in
    let o = c.in-Assign.operator in
    let is : e.kind ≡ kind.Assign o a v = cc in
    let whole = of_kind around s e _ is ∙ assign_typed around e.span s o a v in
    let first = target_found (typed_expression around s a) in
    let second = λ (s : State). typed_value around s v in
    let go = λ (s : State) (t : Typed) (u : State) (v : Typed). assigned_with line o t u v in
    let f = c.in_err-target.field-0.0 in
    record {
      found = gives_failed (seen_state c.expression.new.state) c.from_residual-in_err-target.result f _ c.from_residual-in_err-target.ensures.1 (fails_at f _ _ (whole ∙ ap (λ x. next x (λ s t. next (second s) (λ u v. go s t u v))) (ap target_found c.in_ok-found.ensures.found ∙ sym (c.target_found.ensures (seen_state c.expression.new.state)))) (behind_passed (seen_state c.expression.new.state) f _ (λ s t. next (second s) (λ u v. go s t u v)) (c.in_err-target.ensures (seen_state c.expression.new.state))));
      grows = err_on _ c.from_residual-in_err-target.result _ _ c.from_residual-in_err-target.ensures.1;
    }

pub assignment_expression-returns-in_err-right : goal.assignment_expression-returns-in_err-right
assignment_expression-returns-in_err-right g t c =
    let around = g.S.Surroundings.told c.args.self.now.around.now in
    let s = seen_state c.args.state.now in
    let e = c.args.expr.now in
    let line = c.args.expr.now.span.line in
    let a = c.get-left.result.now in
    let v = c.get-value.result.now in
    let o = c.in-Assign.operator in
    let is : e.kind ≡ kind.Assign o a v = cc in
    let whole = of_kind around s e _ is ∙ assign_typed around e.span s o a v in
    let first = target_found (typed_expression around s a) in
    let second = λ (s : State). typed_value around s v in
    let go = λ (s : State) (t : Typed) (u : State) (v : Typed). assigned_with line o t u v in
    let f = c.in_err-right.field-0.0 in
    record {
      found = gives_failed (seen_state c.value.new.state) c.from_residual-in_err-right.result f _ c.from_residual-in_err-right.ensures.1 (fails_at f _ _ whole (second_fails first second go (seen_state c.expression.new.state) (seen_state c.value.new.state) c.in_ok-target.target f (ap target_found c.in_ok-found.ensures.found ∙ sym (c.target_found.ensures (seen_state c.expression.new.state)) ∙ c.in_ok-target.ensures (seen_state c.expression.new.state)) c.in_err-right.ensures.found));
      grows = err_on _ c.from_residual-in_err-right.result _ _ c.from_residual-in_err-right.ensures.1;
    }

pub first_operator-returns-in_default-operators : goal.first_operator-returns-in_default-operators
first_operator-returns-in_default-operators g t c =
    let around = g.S.Surroundings.told c.args.self.now.around.now in
    let s = seen_state c.args.state.now in
    let e = c.args.expr.now in
    let line = c.args.expr.now.span.line in
    let operand = c.get-operand.result.now in
    let os = c.as_slice-operators.result.now in
    let is : e.kind ≡ kind.Postfix operand os = cc in
    let whole = ap (begin_kind around e.span s) is ∙ begin_typed around e.span s operand os in
    record {
      found = gives_same (seen_state c.expression.new.state) c.expression.result _ _ (whole ∙ begin_none around line s operand os (none_left os (omega arith))) c.expression.ensures.found;
      grows = c.expression.ensures.grows;
    }

pub first_operator-returns-in_default-special_named : goal.first_operator-returns-in_default-special_named
first_operator-returns-in_default-special_named g t c =
    let around = g.S.Surroundings.told c.args.self.now.around.now in
    let s = seen_state c.args.state.now in
    let e = c.args.expr.now in
    let line = c.args.expr.now.span.line in
    let operand = c.get-operand.result.now in
    let os = c.as_slice-operators.result.now in
    let is : e.kind ≡ kind.Postfix operand os = cc in
    let whole = ap (begin_kind around e.span s) is ∙ begin_typed around e.span s operand os in
    let os_is = first_left os c.first-item.result (omega arith) c.first-item.is in
    let not_special : special_named around s (name_in operand.kind) ≡ None = search rules in
    let o = c.first-item.result in
    record {
      found = gives_same (seen_state c.operator.new.state) c.operator.result _ _ (whole ∙ begin_some around line s operand os _ o None os_is (sym not_special) ∙ ap (λ x. typed_operator around line x o.kind) c.in_ok-found.ensures.found) c.operator.ensures.found;
      grows = ok_on c.operator.result _ _ _ c.in_ok-found.ensures.grows c.operator.ensures.grows;
    }

pub first_operator-returns-in_err-found : goal.first_operator-returns-in_err-found
first_operator-returns-in_err-found g t c =
    let around = g.S.Surroundings.told c.args.self.now.around.now in
    let s = seen_state c.args.state.now in
    let e = c.args.expr.now in
    let line = c.args.expr.now.span.line in
    let operand = c.get-operand.result.now in
    let os = c.as_slice-operators.result.now in
    let is : e.kind ≡ kind.Postfix operand os = cc in
    let whole = ap (begin_kind around e.span s) is ∙ begin_typed around e.span s operand os in
    let os_is = first_left os c.first-item.result (omega arith) c.first-item.is in
    let not_special : special_named around s (name_in operand.kind) ≡ None = search rules in
    let o = c.first-item.result in
    let f = c.in_err-found.field-0.0 in
    record {
      found = gives_failed (seen_state c.operand.new.state) c.from_residual.result f _ c.from_residual.ensures.1 (fails_at f _ _ (whole ∙ begin_some around line s operand os _ o None os_is (sym not_special)) (through_given (seen_state c.operand.new.state) f (operand_of around s operand os) (λ x. typed_operator around line x o.kind) (λ b. operator_stops around line b o.kind) c.in_err-found.ensures.found));
      grows = err_on _ c.from_residual.result _ _ c.from_residual.ensures.1;
    }

pub first_operator-returns-in-Call : goal.first_operator-returns-in-Call
first_operator-returns-in-Call g t c =
    let around = g.S.Surroundings.told c.args.self.now.around.now in
    let s = seen_state c.args.state.now in
    let e = c.args.expr.now in
    let line = c.args.expr.now.span.line in
    let operand = c.get-operand.result.now in
    let os = c.as_slice-operators.result.now in
    let is : e.kind ≡ kind.Postfix operand os = cc in
    let whole = ap (begin_kind around e.span s) is ∙ begin_typed around e.span s operand os in
    let os_is = first_left os c.first-item.result (omega arith) c.first-item.is in
    let special_is : special_named around s (name_in operand.kind) ≡ Some c.in-Some.special = sym c.special_named.ensures ∙ c.in-Some.is in
    let o = c.first-item.result in
    let args = c.as_slice.result.now in
    let call_is : o.kind ≡ postfix.Call args = cc in
    record {
      found = gives_same (seen_state c.special_call.new.state) c.special_call.result _ _ (whole ∙ begin_some around line s operand os _ o (Some c.in-Some.special) os_is (sym special_is) ∙ ap (λ k. typed_special around line s c.in-Some.special (operand_of around s operand os) k) call_is ∙ special_typed around line s c.in-Some.special (operand_of around s operand os) args) c.special_call.ensures.found;
      grows = c.special_call.ensures.grows;
    }

pub first_operator-returns-in_ok-operand_found-in-Index : goal.first_operator-returns-in_ok-operand_found-in-Index
first_operator-returns-in_ok-operand_found-in-Index g t c =
    let around = g.S.Surroundings.told c.args.self.now.around.now in
    let s = seen_state c.args.state.now in
    let e = c.args.expr.now in
    let line = c.args.expr.now.span.line in
    let operand = c.get-operand.result.now in
    let os = c.as_slice-operators.result.now in
    let is : e.kind ≡ kind.Postfix operand os = cc in
    let whole = ap (begin_kind around e.span s) is ∙ begin_typed around e.span s operand os in
    let os_is = first_left os c.first-item.result (omega arith) c.first-item.is in
    let special_is : special_named around s (name_in operand.kind) ≡ Some c.in-Some.special = sym c.special_named.ensures ∙ c.in-Some.is in
    let o = c.first-item.result in
    let plain : is_call o.kind ≡ false = search rules in
    record {
      found = gives_same (seen_state c.operand-in-Index.new.state) c.inner_found.result _ _ (whole ∙ begin_some around line s operand os _ o (Some c.in-Some.special) os_is (sym special_is) ∙ special_stops around line s c.in-Some.special (operand_of around s operand os) o.kind plain ∙ ap inner c.in_ok-operand_found-in-Index.ensures.found) (c.inner_found.ensures (seen_state c.operand-in-Index.new.state));
      grows = on_any c.inner_found.result _ _ c.in_ok-operand_found-in-Index.ensures.grows;
    }

pub first_operator-returns-in_err-operand_found-in-Index : goal.first_operator-returns-in_err-operand_found-in-Index
first_operator-returns-in_err-operand_found-in-Index g t c =
    let around = g.S.Surroundings.told c.args.self.now.around.now in
    let s = seen_state c.args.state.now in
    let e = c.args.expr.now in
    let line = c.args.expr.now.span.line in
    let operand = c.get-operand.result.now in
    let os = c.as_slice-operators.result.now in
    let is : e.kind ≡ kind.Postfix operand os = cc in
    let whole = ap (begin_kind around e.span s) is ∙ begin_typed around e.span s operand os in
    let os_is = first_left os c.first-item.result (omega arith) c.first-item.is in
    let special_is : special_named around s (name_in operand.kind) ≡ Some c.in-Some.special = sym c.special_named.ensures ∙ c.in-Some.is in
    let o = c.first-item.result in
    let plain : is_call o.kind ≡ false = search rules in
    let f = c.in_err-operand_found-in-Index.field-0.0 in
    record {
      found = gives_failed (seen_state c.operand-in-Index.new.state) c.from_residual-in_err-operand_found-in-Index.result f _ c.from_residual-in_err-operand_found-in-Index.ensures.1 (fails_at f _ _ (whole ∙ begin_some around line s operand os _ o (Some c.in-Some.special) os_is (sym special_is) ∙ special_stops around line s c.in-Some.special (operand_of around s operand os) o.kind plain) (through_given (seen_state c.operand-in-Index.new.state) f (operand_of around s operand os) inner (λ b. refl) c.in_err-operand_found-in-Index.ensures.found));
      grows = err_on _ c.from_residual-in_err-operand_found-in-Index.result _ _ c.from_residual-in_err-operand_found-in-Index.ensures.1;
    }

pub operand-returns-then-calls_operation : goal.operand-returns-then-calls_operation
operand-returns-then-calls_operation g t c =
    let around = g.S.Surroundings.told c.args.self.now.around.now in
    let s = seen_state c.args.state.now in
    let e = c.args.operand.now in
    let os = c.args.operators.now in
    let called = sym c.calls_operation.ensures ∙ c.if-calls_operation.true in
    record {
      found = gives_same (seen_state c.unused.new.state) c.unused.result _ _ (ap (λ b. without_use b s (typed_expression around s e)) called ∙ ap (without_use true s) c.in_ok-found.ensures.found) (c.unused.ensures.found c.args.state.now c.mark-mark.ensures c.in_ok-found.ensures.grows);
      grows = c.unused.ensures.grows c.args.state.now c.mark-mark.ensures c.in_ok-found.ensures.grows;
    }

pub operand-returns-in_err-found : goal.operand-returns-in_err-found
operand-returns-in_err-found g t c =
    let around = g.S.Surroundings.told c.args.self.now.around.now in
    let s = seen_state c.args.state.now in
    let e = c.args.operand.now in
    let os = c.args.operators.now in
    let called = sym c.calls_operation.ensures ∙ c.if-calls_operation.true in
    let f = c.in_err-found.field-0.0 in
    record {
      found = gives_failed (seen_state c.expression.new.state) c.from_residual.result f _ c.from_residual.ensures.1 (fails_at f _ _ (ap (λ b. without_use b s (typed_expression around s e)) called) (behind_given (seen_state c.expression.new.state) f _ (λ after t. Fine (unevaluated s after) t) c.in_err-found.ensures.found));
      grows = err_on _ c.from_residual.result _ _ c.from_residual.ensures.1;
    }

pub operand-returns : goal.operand-returns
operand-returns g t c =
    let around = g.S.Surroundings.told c.args.self.now.around.now in
    let s = seen_state c.args.state.now in
    let e = c.args.operand.now in
    let os = c.args.operators.now in
    let called = sym c.calls_operation.ensures ∙ c.if-calls_operation.false in
    record {
      found = gives_same (seen_state c.expression-2.new.state) c.expression-2.result _ _ (ap (λ b. without_use b s (typed_expression around s e)) called) c.expression-2.ensures.found;
      grows = c.expression-2.ensures.grows;
    }

pub postfix-operators-init : goal.postfix-operators-init
postfix-operators-init g t c =
    (refl, c.in_ok-found.ensures.grows)

pub postfix-operators-preserved : goal.postfix-operators-preserved
postfix-operators-preserved g t c =
    let around = g.S.Surroundings.told c.args.self.now.around.now in
    let line = c.args.expr.now.span.line in
    let rest = c.behind_first-rest.result.now in
    (over_goes (with_operator around line) rest c.operators.operator-index c.operator-item.result _ _ _ c.operators-test.true c.operator-item.is c.in_ok-found-2.ensures.found c.operators.invariant.0, grows_on _ _ _ c.operators.invariant.1 c.in_ok-found-2.ensures.grows)

pub postfix-returns : goal.postfix-returns
postfix-returns g t c =
    let around = g.S.Surroundings.told c.args.self.now.around.now in
    let s = seen_state c.args.state.now in
    let e = c.args.expr.now in
    let line = c.args.expr.now.span.line in
    let operand = c.in-Postfix.operand in
    let os = c.as_slice.result.now in
    let is : e.kind ≡ kind.Postfix operand os = cc in
    let rest = c.behind_first-rest.result.now in
    let begin = ap (begin_kind around e.span s) is ∙ begin_typed around e.span s operand os in
    let whole = of_kind around s e _ is ∙ postfix_typed around e.span s operand os in
    let first = whole ∙ ap (λ x. operator_list around line x (behind_first os)) (sym begin ∙ c.in_ok-found.ensures.found) ∙ ap (operator_list around line (checked (seen_state c.first_operator.new.state) c.in_ok-found.found)) (sym c.behind_first-rest.ensures) in
    record {
      found = first ∙ over_ends (with_operator around line) rest c.operators.operator-index _ _ c.operators-test.false c.operators.invariant.0;
      grows = c.operators.invariant.1;
    }

pub postfix-returns-in_err-found : goal.postfix-returns-in_err-found
postfix-returns-in_err-found g t c =
    let around = g.S.Surroundings.told c.args.self.now.around.now in
    let s = seen_state c.args.state.now in
    let e = c.args.expr.now in
    let line = c.args.expr.now.span.line in
    let operand = c.in-Postfix.operand in
    let os = c.as_slice.result.now in
    let is : e.kind ≡ kind.Postfix operand os = cc in
    let rest = c.behind_first-rest.result.now in
    let begin = ap (begin_kind around e.span s) is ∙ begin_typed around e.span s operand os in
    let whole = of_kind around s e _ is ∙ postfix_typed around e.span s operand os in
    let f = c.in_err-found.field-0.0 in
    record {
      found = gives_failed (seen_state c.first_operator.new.state) c.from_residual.result f _ c.from_residual.ensures.1 (fails_at f _ _ (whole ∙ ap (λ x. operator_list around line x (behind_first os)) (sym begin)) (through_given (seen_state c.first_operator.new.state) f (begin_kind around e.span s e.kind) (λ x. operator_list around line x (behind_first os)) (λ b. over_stops (with_operator around line) (with_operator_stops around line) b (behind_first os)) c.in_err-found.ensures.found));
      grows = err_on _ c.from_residual.result _ _ c.from_residual.ensures.1;
    }

pub postfix-returns-in_err-found-2 : goal.postfix-returns-in_err-found-2
postfix-returns-in_err-found-2 g t c =
    let around = g.S.Surroundings.told c.args.self.now.around.now in
    let s = seen_state c.args.state.now in
    let e = c.args.expr.now in
    let line = c.args.expr.now.span.line in
    let operand = c.in-Postfix.operand in
    let os = c.as_slice.result.now in
    let is : e.kind ≡ kind.Postfix operand os = cc in
    let rest = c.behind_first-rest.result.now in
    let begin = ap (begin_kind around e.span s) is ∙ begin_typed around e.span s operand os in
    let whole = of_kind around s e _ is ∙ postfix_typed around e.span s operand os in
    let first = whole ∙ ap (λ x. operator_list around line x (behind_first os)) (sym begin ∙ c.in_ok-found.ensures.found) ∙ ap (operator_list around line (checked (seen_state c.first_operator.new.state) c.in_ok-found.found)) (sym c.behind_first-rest.ensures) in
    let f = c.in_err-found-2.field-0.0 in
    record {
      found = gives_failed (seen_state c.operator.new.state) c.from_residual-in_err-found-2.result f _ c.from_residual-in_err-found-2.ensures.1 (fails_at f _ _ first (over_breaks (with_operator around line) (with_operator_stops around line) rest c.operators.operator-index c.operator-item.result _ _ f c.operators-test.true c.operator-item.is (given_fails (seen_state c.operator.new.state) f _ c.in_err-found-2.ensures.found) c.operators.invariant.0));
      grows = err_on _ c.from_residual-in_err-found-2.result _ _ c.from_residual-in_err-found-2.ensures.1;
    }

pub operator-returns-in_ok-index-in-Index : goal.operator-returns-in_ok-index-in-Index
operator-returns-in_ok-index-in-Index g t c =
    let around = g.S.Surroundings.told c.args.self.now.around.now in
    let s = seen_state c.args.state.now in
    let line = c.args.line in
    let found = checked s c.args.found in
    let k = c.args.kind.now in
    let operand = c.get-operand.result.now in
    let is : k ≡ postfix.Index operand = cc in
    let whole = ap (typed_operator around line found) is ∙ index_typed around line found operand in
    let second = λ (s : State). typed_value around s operand in
    let go = λ (s : State) (x : Typed) (u : State) (y : Typed). index line x u y in
    record {
      found = whole ∙ two_go (read_found found) second go s (seen_state c.value.new.state) c.in_ok-x-in-Index.x c.in_ok-y-in-Index.y _ (sym (c.in_ok-read_found-in-Index.ensures s) ∙ c.in_ok-x-in-Index.ensures s) c.in_ok-y-in-Index.ensures.found c.in_ok-index-in-Index.ensures;
      grows = c.in_ok-y-in-Index.ensures.grows;
    }

pub operator-returns-in_err-x-in-Index : goal.operator-returns-in_err-x-in-Index
operator-returns-in_err-x-in-Index g t c =
    let around = g.S.Surroundings.told c.args.self.now.around.now in
    let s = seen_state c.args.state.now in
    let line = c.args.line in
    let found = checked s c.args.found in
    let k = c.args.kind.now in
    let operand = c.get-operand.result.now in
    let is : k ≡ postfix.Index operand = cc in
    let whole = ap (typed_operator around line found) is ∙ index_typed around line found operand in
    let second = λ (s : State). typed_value around s operand in
    let go = λ (s : State) (x : Typed) (u : State) (y : Typed). index line x u y in
    let f = c.in_err-x-in-Index.field-0.0 in
    record {
      found = gives_failed s c.from_residual-in_err-x-in-Index.result f _ c.from_residual-in_err-x-in-Index.ensures.1 (fails_at f _ _ whole (behind_passed s f (read_found found) (λ s x. next (second s) (λ u y. go s x u y)) (passes_same s (Err f) _ _ (sym (c.in_ok-read_found-in-Index.ensures s)) (c.in_err-x-in-Index.ensures s))));
      grows = err_on _ c.from_residual-in_err-x-in-Index.result _ _ c.from_residual-in_err-x-in-Index.ensures.1;
    }

pub operator-returns-in_err-y-in-Index : goal.operator-returns-in_err-y-in-Index
operator-returns-in_err-y-in-Index g t c =
    let around = g.S.Surroundings.told c.args.self.now.around.now in
    let s = seen_state c.args.state.now in
    let line = c.args.line in
    let found = checked s c.args.found in
    let k = c.args.kind.now in
    let operand = c.get-operand.result.now in
    let is : k ≡ postfix.Index operand = cc in
    let whole = ap (typed_operator around line found) is ∙ index_typed around line found operand in
    let second = λ (s : State). typed_value around s operand in
    let go = λ (s : State) (x : Typed) (u : State) (y : Typed). index line x u y in
    let f = c.in_err-y-in-Index.field-0.0 in
    record {
      found = gives_failed (seen_state c.value.new.state) c.from_residual-in_err-y-in-Index.result f _ c.from_residual-in_err-y-in-Index.ensures.1 (fails_at f _ _ whole (second_fails (read_found found) second go s (seen_state c.value.new.state) c.in_ok-x-in-Index.x f (sym (c.in_ok-read_found-in-Index.ensures s) ∙ c.in_ok-x-in-Index.ensures s) c.in_err-y-in-Index.ensures.found));
      grows = err_on _ c.from_residual-in_err-y-in-Index.result _ _ c.from_residual-in_err-y-in-Index.ensures.1;
    }

pub operator-returns-in-Call : goal.operator-returns-in-Call
operator-returns-in-Call g t c =
    let around = g.S.Surroundings.told c.args.self.now.around.now in
    let s = seen_state c.args.state.now in
    let line = c.args.line in
    let found = checked s c.args.found in
    let k = c.args.kind.now in
    let args = c.in-Call.arguments in
    let is : k ≡ postfix.Call args = c.in-Call.is in
    record {
      found = gives_same (seen_state c.called.new.state) c.called.result _ _ (ap (typed_operator around line found) is ∙ call_typed around line found args ∙ ap (called around line found) (sym c.as_slice.ensures)) c.called.ensures.found;
      grows = c.called.ensures.grows;
    }

pub called-returns : goal.called-returns
called-returns g t c =
    let around = g.S.Surroundings.told c.args.self.now.around.now in
    let s = seen_state c.args.state.now in
    let line = c.args.line in
    let found = checked s c.args.found in
    let args = c.args.arguments.now in
    record {
      found = gives_same (seen_state c.arguments.new.state) c.call.result _ _ (call_goes around line found args s (seen_state c.arguments.new.state) c.in_ok-named.named c.in_ok-function.function c.wanted_of-wanted.result c.in_ok-arguments.arguments (c.in_ok-named.ensures s) (sym (c.in_ok-read.ensures s) ∙ c.in_ok-function.ensures s) c.wanted_of-wanted.ensures c.in_ok-arguments.ensures.found) c.call.ensures;
      grows = on_any c.call.result _ _ c.in_ok-arguments.ensures.grows;
    }

pub called-returns-in_err-named : goal.called-returns-in_err-named
called-returns-in_err-named g t c =
    let around = g.S.Surroundings.told c.args.self.now.around.now in
    let s = seen_state c.args.state.now in
    let line = c.args.line in
    let found = checked s c.args.found in
    let args = c.args.arguments.now in
    let f = c.in_err-named.field-0.0 in
    record {
      found = gives_failed s c.from_residual.result f _ c.from_residual.ensures.1 (behind_passed s f found _ (c.in_err-named.ensures s));
      grows = err_on _ c.from_residual.result _ _ c.from_residual.ensures.1;
    }

pub called-returns-in_err-function : goal.called-returns-in_err-function
called-returns-in_err-function g t c =
    let around = g.S.Surroundings.told c.args.self.now.around.now in
    let s = seen_state c.args.state.now in
    let line = c.args.line in
    let found = checked s c.args.found in
    let args = c.args.arguments.now in
    let f = c.in_err-function.field-0.0 in
    record {
      found = gives_failed s c.from_residual-in_err-function.result f _ c.from_residual-in_err-function.ensures.1 (fails_at f _ _ (next_goes found _ s c.in_ok-named.named (c.in_ok-named.ensures s)) (behind_passed s f (read s c.in_ok-named.named) _ (passes_same s (Err f) _ _ (sym (c.in_ok-read.ensures s)) (c.in_err-function.ensures s))));
      grows = err_on _ c.from_residual-in_err-function.result _ _ c.from_residual-in_err-function.ensures.1;
    }

pub called-returns-in_err-arguments : goal.called-returns-in_err-arguments
called-returns-in_err-arguments g t c =
    let around = g.S.Surroundings.told c.args.self.now.around.now in
    let s = seen_state c.args.state.now in
    let line = c.args.line in
    let found = checked s c.args.found in
    let args = c.args.arguments.now in
    let f = c.in_err-arguments.field-0.0 in
    record {
      found = gives_failed (seen_state c.arguments.new.state) c.from_residual-in_err-arguments.result f _ c.from_residual-in_err-arguments.ensures.1 ((call_fails around line found args s (seen_state c.arguments.new.state) c.in_ok-named.named c.in_ok-function.function c.wanted_of-wanted.result f (c.in_ok-named.ensures s) (sym (c.in_ok-read.ensures s) ∙ c.in_ok-function.ensures s) c.wanted_of-wanted.ensures c.in_err-arguments.ensures.found));
      grows = err_on _ c.from_residual-in_err-arguments.result _ _ c.from_residual-in_err-arguments.ensures.1;
    }

pub arguments-arguments-init : goal.arguments-arguments-init
arguments-arguments-init g t c =
    let around = g.S.Surroundings.told c.args.self.now.around.now in
    let s = seen_state c.args.state.now in
    (ap (λ vs. values_before vs (argument_list around c.args.wanted s c.args.arguments.now)) c.new-values.ensures.items ∙ values_none around c.args.wanted s c.args.arguments.now, stays c.args.state.now)

pub arguments-arguments-preserved : goal.arguments-arguments-preserved
arguments-arguments-preserved g t c =
    let around = g.S.Surroundings.told c.args.self.now.around.now in
    let args = c.args.arguments.now in
    let before = seen_state c.arguments.state in
    let item = c.operand-item.result in
    let line = c.operand-item.result.span.line in
    let to = c.wanted_type-to.result in
    (ap₂ (λ vs w. values_before vs (argument_list around w (seen_state c.expression.new.state) (drop (c.arguments.operand-index + 1) args))) c.in_ok-push.ensures.items c.following-wanted.ensures ∙ arguments_go around args c.arguments.operand-index item c.arguments.values.items c.arguments.wanted before (seen_state c.expression.new.state) c.in_ok-passed.field-0 _ c.arguments-test.true c.operand-item.is (ap (λ to. argument_to line to (typed_value around before item)) (sym c.wanted_type-to.ensures) ∙ ap (argument_to line to) (ap read_found c.in_ok-found.ensures.found ∙ sym (c.in_ok-value.ensures (seen_state c.expression.new.state))) ∙ sym c.in_ok-converted.ensures ∙ c.in_ok-passed.ensures (seen_state c.expression.new.state)) c.arguments.invariant.0, grows_on _ _ _ c.arguments.invariant.1 c.in_ok-found.ensures.grows)

pub arguments-returns : goal.arguments-returns
arguments-returns g t c =
    let around = g.S.Surroundings.told c.args.self.now.around.now in
    let args = c.args.arguments.now in
    let before = seen_state c.arguments.state in
    record {
      found = sym c.arguments.invariant.0 ∙ at_drop_all (λ es. values_before c.arguments.values.items (argument_list around c.arguments.wanted before es)) args c.arguments.operand-index c.arguments-test.false ∙ values_all c.arguments.values.items c.arguments.wanted before ∙ ap (λ (vs : List Typed). Fine before (record { values = vs; wanted = c.arguments.wanted })) (sym c.from_vec-values.ensures);
      grows = c.arguments.invariant.1;
    }

pub arguments-returns-in_err-found : goal.arguments-returns-in_err-found
arguments-returns-in_err-found g t c =
    let around = g.S.Surroundings.told c.args.self.now.around.now in
    let args = c.args.arguments.now in
    let before = seen_state c.arguments.state in
    let item = c.operand-item.result in
    let line = c.operand-item.result.span.line in
    let to = c.wanted_type-to.result in
    let f = c.in_err-found.field-0.0 in
    record {
      found = passes_failed (seen_state c.expression.new.state) c.from_residual.result f _ c.from_residual.ensures.1 (arguments_fail around args c.arguments.operand-index item c.arguments.values.items c.arguments.wanted before _ f c.arguments-test.true c.operand-item.is (through_given (seen_state c.expression.new.state) f (typed_expression around before item) (λ x. inner (argument_to line (wanted_type before c.arguments.wanted) (read_found x))) (λ b. ap inner (argument_stops line (wanted_type before c.arguments.wanted) b)) c.in_err-found.ensures.found) c.arguments.invariant.0);
      grows = err_on _ c.from_residual.result _ _ c.from_residual.ensures.1;
    }

pub arguments-returns-in_err-passed : goal.arguments-returns-in_err-passed
arguments-returns-in_err-passed g t c =
    let around = g.S.Surroundings.told c.args.self.now.around.now in
    let args = c.args.arguments.now in
    let before = seen_state c.arguments.state in
    let item = c.operand-item.result in
    let line = c.operand-item.result.span.line in
    let to = c.wanted_type-to.result in
    let f = c.in_err-passed.field-0.0 in
    record {
      found = passes_failed (seen_state c.expression.new.state) c.from_residual-in_err-passed.result f _ c.from_residual-in_err-passed.ensures.1 (arguments_fail around args c.arguments.operand-index item c.arguments.values.items c.arguments.wanted before _ f c.arguments-test.true c.operand-item.is (fails_at f _ _ (ap inner (ap (λ to. argument_to line to (typed_value around before item)) (sym c.wanted_type-to.ensures) ∙ ap (argument_to line to) (ap read_found c.in_ok-found.ensures.found ∙ sym (c.in_ok-value.ensures (seen_state c.expression.new.state))) ∙ sym c.in_ok-converted.ensures)) (behind_passed (seen_state c.expression.new.state) f _ Fine (c.in_err-passed.ensures (seen_state c.expression.new.state)))) c.arguments.invariant.0);
      grows = err_on _ c.from_residual-in_err-passed.result _ _ c.from_residual-in_err-passed.ensures.1;
    }

pub special_call-returns-in-Printing : goal.special_call-returns-in-Printing
special_call-returns-in-Printing g t c =
    let around = g.S.Surroundings.told c.args.self.now.around.now in
    let s = seen_state c.args.state.now in
    let line = c.args.line in
    let args = c.args.arguments.now in
    record {
      found = gives_same (seen_state c.print.new.state) c.print.result _ _ (ap (λ w. special_list around line s w args) c.in-Printing.is) c.print.ensures.found;
      grows = c.print.ensures.grows;
    }

pub print-returns-then-is_text : goal.print-returns-then-is_text
print-returns-then-is_text g t c =
    let around = g.S.Surroundings.told c.args.self.now.around.now in
    let s = seen_state c.args.state.now in
    let line = c.args.line in
    let printer = c.args.printer in
    let args = c.args.arguments.now in
    let item = c.format-item.result in
    let rest = take (length args - 1) (drop 1 args) in
    let args_are = split_left args item (omega arith) c.format-item.is in
    let go = λ (s : State) (bytes : List ℕ) (u : State) (a : Arguments). print_call line printer (around.text item.span.first item.span.last) u a in
    let second = λ (s : State). argument_list around Anything s rest in
    let whole = ap (print_list around printer line s) args_are ∙ print_is_text around printer line s item rest (sym c.is_text.ensures ∙ c.if-is_text.true) in
    record {
      found = whole ∙ two_go (format_in around item.span s) second go s (seen_state c.arguments.new.state) c.in_ok-bytes.bytes c.in_ok-operands.operands _ (c.in_ok-bytes.ensures s) c.in_ok-operands.ensures.found (c.in_ok-print_call.ensures ∙ ap (λ x. print_call line printer x (seen_state c.arguments.new.state) c.in_ok-operands.operands) (c.as_slice.ensures ∙ sym (format_is around item.span s c.in_ok-bytes.bytes (c.in_ok-bytes.ensures s))));
      grows = c.in_ok-operands.ensures.grows;
    }

pub print-returns-in_err-bytes : goal.print-returns-in_err-bytes
print-returns-in_err-bytes g t c =
    let around = g.S.Surroundings.told c.args.self.now.around.now in
    let s = seen_state c.args.state.now in
    let line = c.args.line in
    let printer = c.args.printer in
    let args = c.args.arguments.now in
    let item = c.format-item.result in
    let rest = take (length args - 1) (drop 1 args) in
    let args_are = split_left args item (omega arith) c.format-item.is in
    let go = λ (s : State) (bytes : List ℕ) (u : State) (a : Arguments). print_call line printer (around.text item.span.first item.span.last) u a in
    let second = λ (s : State). argument_list around Anything s rest in
    let whole = ap (print_list around printer line s) args_are ∙ print_is_text around printer line s item rest (sym c.is_text.ensures ∙ c.if-is_text.true) in
    let f = c.in_err-bytes.field-0.0 in
    record {
      found = gives_failed s c.from_residual.result f _ c.from_residual.ensures.1 (fails_at f _ _ whole (behind_passed s f (format_in around item.span s) (λ s bytes. next (second s) (λ u a. go s bytes u a)) (c.in_err-bytes.ensures s)));
      grows = err_on _ c.from_residual.result _ _ c.from_residual.ensures.1;
    }

pub print-returns-in_err-operands : goal.print-returns-in_err-operands
print-returns-in_err-operands g t c =
    let around = g.S.Surroundings.told c.args.self.now.around.now in
    let s = seen_state c.args.state.now in
    let line = c.args.line in
    let printer = c.args.printer in
    let args = c.args.arguments.now in
    let item = c.format-item.result in
    let rest = take (length args - 1) (drop 1 args) in
    let args_are = split_left args item (omega arith) c.format-item.is in
    let go = λ (s : State) (bytes : List ℕ) (u : State) (a : Arguments). print_call line printer (around.text item.span.first item.span.last) u a in
    let second = λ (s : State). argument_list around Anything s rest in
    let whole = ap (print_list around printer line s) args_are ∙ print_is_text around printer line s item rest (sym c.is_text.ensures ∙ c.if-is_text.true) in
    let f = c.in_err-operands.field-0.0 in
    record {
      found = gives_failed (seen_state c.arguments.new.state) c.from_residual-in_err-operands.result f _ c.from_residual-in_err-operands.ensures.1 (fails_at f _ _ whole (second_fails (format_in around item.span s) second go s (seen_state c.arguments.new.state) c.in_ok-bytes.bytes f (c.in_ok-bytes.ensures s) c.in_err-operands.ensures.found));
      grows = err_on _ c.from_residual-in_err-operands.result _ _ c.from_residual-in_err-operands.ensures.1;
    }

pub print-returns : goal.print-returns
print-returns g t c =
    let around = g.S.Surroundings.told c.args.self.now.around.now in
    let s = seen_state c.args.state.now in
    let line = c.args.line in
    let printer = c.args.printer in
    let args = c.args.arguments.now in
    let item = c.format-item.result in
    let rest = take (length args - 1) (drop 1 args) in
    let args_are = split_left args item (omega arith) c.format-item.is in
    let go = λ (s : State) (x : Typed) (u : State) (a : Arguments). bad_print line printer u a in
    let second = λ (s : State). argument_list around Anything s rest in
    let whole = ap (print_list around printer line s) args_are ∙ print_is_other around printer line s item rest (sym c.is_text.ensures ∙ c.if-is_text.false) in
    record {
      found = whole ∙ two_go (typed_value around s item) second go (seen_state c.value.new.state) (seen_state c.arguments-2.new.state) c.in_ok-value.field-0 c.in_ok-arguments.field-0 _ c.in_ok-value.ensures.found c.in_ok-arguments.ensures.found (c.bad_print-2.ensures (seen_state c.arguments-2.new.state) printer c.in_ok-arguments.field-0);
      grows = grows_on _ _ _ c.in_ok-value.ensures.grows c.in_ok-arguments.ensures.grows;
    }

pub print-returns-in_err-value : goal.print-returns-in_err-value
print-returns-in_err-value g t c =
    let around = g.S.Surroundings.told c.args.self.now.around.now in
    let s = seen_state c.args.state.now in
    let line = c.args.line in
    let printer = c.args.printer in
    let args = c.args.arguments.now in
    let item = c.format-item.result in
    let rest = take (length args - 1) (drop 1 args) in
    let args_are = split_left args item (omega arith) c.format-item.is in
    let go = λ (s : State) (x : Typed) (u : State) (a : Arguments). bad_print line printer u a in
    let second = λ (s : State). argument_list around Anything s rest in
    let whole = ap (print_list around printer line s) args_are ∙ print_is_other around printer line s item rest (sym c.is_text.ensures ∙ c.if-is_text.false) in
    let f = c.in_err-value.field-0.0 in
    record {
      found = gives_failed (seen_state c.value.new.state) c.from_residual-in_err-value.result f _ c.from_residual-in_err-value.ensures.1 (fails_at f _ _ whole (behind_passed (seen_state c.value.new.state) f (typed_value around s item) (λ s x. next (second s) (λ u a. go s x u a)) c.in_err-value.ensures.found));
      grows = err_on _ c.from_residual-in_err-value.result _ _ c.from_residual-in_err-value.ensures.1;
    }

pub print-returns-in_err-arguments : goal.print-returns-in_err-arguments
print-returns-in_err-arguments g t c =
    let around = g.S.Surroundings.told c.args.self.now.around.now in
    let s = seen_state c.args.state.now in
    let line = c.args.line in
    let printer = c.args.printer in
    let args = c.args.arguments.now in
    let item = c.format-item.result in
    let rest = take (length args - 1) (drop 1 args) in
    let args_are = split_left args item (omega arith) c.format-item.is in
    let go = λ (s : State) (x : Typed) (u : State) (a : Arguments). bad_print line printer u a in
    let second = λ (s : State). argument_list around Anything s rest in
    let whole = ap (print_list around printer line s) args_are ∙ print_is_other around printer line s item rest (sym c.is_text.ensures ∙ c.if-is_text.false) in
    let f = c.in_err-arguments.field-0.0 in
    record {
      found = gives_failed (seen_state c.arguments-2.new.state) c.from_residual-in_err-arguments.result f _ c.from_residual-in_err-arguments.ensures.1 (fails_at f _ _ whole (second_fails (typed_value around s item) second go (seen_state c.value.new.state) (seen_state c.arguments-2.new.state) c.in_ok-value.field-0 f c.in_ok-value.ensures.found c.in_err-arguments.ensures.found));
      grows = err_on _ c.from_residual-in_err-arguments.result _ _ c.from_residual-in_err-arguments.ensures.1;
    }

pub print-returns-in_default : goal.print-returns-in_default
print-returns-in_default g t c =
    let around = g.S.Surroundings.told c.args.self.now.around.now in
    let s = seen_state c.args.state.now in
    let line = c.args.line in
    let printer = c.args.printer in
    record {
      found = ap (print_list around printer line s) (none_left c.args.arguments.now (omega arith)) ∙ sym (c.bad_print.ensures s printer (no_arguments Anything));
      grows = stays c.args.state.now;
    }

pub chain-links-init : goal.chain-links-init
chain-links-init g t c =
    (refl, c.in_ok-found.ensures.grows)

pub chain-links-preserved : goal.chain-links-preserved
chain-links-preserved g t c =
    let around = g.S.Surroundings.told c.args.self.now.around.now in
    let line = c.args.expr.now.span.line in
    let links = c.as_slice-operators.result.now in
    let item = c.link-item.result in
    let before = seen_state c.links.state in
    let second = λ (s : State). typed_value around s item.operand in
    let go = λ (s : State) (x : Typed) (u : State) (y : Typed). linked_value line item.operator x u y in
    (over_goes (with_link around line) links c.links.link-index item _ _ _ c.links-test.true c.link-item.is (two_go (checked before c.links.found) second go before (seen_state c.value.new.state) c.in_ok-x.x c.in_ok-y.y _ (c.in_ok-x.ensures before) c.in_ok-y.ensures.found c.in_ok-found-2.ensures) c.links.invariant.0, grows_on _ _ _ c.links.invariant.1 c.in_ok-y.ensures.grows)

pub chain-returns-in_default-logical_level : goal.chain-returns-in_default-logical_level
chain-returns-in_default-logical_level g t c =
    let around = g.S.Surroundings.told c.args.self.now.around.now in
    let s = seen_state c.args.state.now in
    let e = c.args.expr.now in
    let line = c.args.expr.now.span.line in
    let first = c.get.result.now in
    let links = c.as_slice-operators.result.now in
    let is : e.kind ≡ kind.Chain first links = cc in
    let v = typed_value around s first in
    let first_is = ap read_found c.in_ok-found.ensures.found ∙ sym (c.in_ok-first.ensures (seen_state c.expression.new.state)) in
    let whole = of_kind around s e _ is ∙ chain_typed around e.span s first links in
    let at_level = λ (l : Level). by_level l (link_list around line v links) (λ all. outcome_with (logic line all) (test_list around line all (outcome_with first_test v) links)) in
    let none : c.logical_level.result ≡ None = search rules in
    let level = sym c.logical_level.ensures ∙ ap seen_level none in
    let plain = whole ∙ ap at_level level ∙ ap (λ x. link_list around line x links) first_is in
    record {
      found = plain ∙ over_ends (with_link around line) links c.links.link-index _ _ c.links-test.false c.links.invariant.0;
      grows = c.links.invariant.1;
    }

pub chain-returns-in_err-found : goal.chain-returns-in_err-found
chain-returns-in_err-found g t c =
    let around = g.S.Surroundings.told c.args.self.now.around.now in
    let s = seen_state c.args.state.now in
    let e = c.args.expr.now in
    let line = c.args.expr.now.span.line in
    let first = c.get.result.now in
    let links = c.as_slice-operators.result.now in
    let is : e.kind ≡ kind.Chain first links = cc in
    let v = typed_value around s first in
    let whole = of_kind around s e _ is ∙ chain_typed around e.span s first links in
    let at_level = λ (l : Level). by_level l (link_list around line v links) (λ all. outcome_with (logic line all) (test_list around line all (outcome_with first_test v) links)) in
    let f = c.in_err-found.field-0.0 in
    record {
      found = gives_failed (seen_state c.expression.new.state) c.from_residual.result f _ c.from_residual.ensures.1 (fails_at f _ _ whole (through_given (seen_state c.expression.new.state) f (typed_expression around s first) (λ x. by_level (level_list links) (link_list around line (read_found x) links) (λ all. outcome_with (logic line all) (test_list around line all (outcome_with first_test (read_found x)) links))) (λ b. level_stops around line (level_list links) links b) c.in_err-found.ensures.found));
      grows = err_on _ c.from_residual.result _ _ c.from_residual.ensures.1;
    }

pub chain-returns-in_err-x : goal.chain-returns-in_err-x
chain-returns-in_err-x g t c =
    let around = g.S.Surroundings.told c.args.self.now.around.now in
    let s = seen_state c.args.state.now in
    let e = c.args.expr.now in
    let line = c.args.expr.now.span.line in
    let first = c.get.result.now in
    let links = c.as_slice-operators.result.now in
    let is : e.kind ≡ kind.Chain first links = cc in
    let v = typed_value around s first in
    let first_is = ap read_found c.in_ok-found.ensures.found ∙ sym (c.in_ok-first.ensures (seen_state c.expression.new.state)) in
    let whole = of_kind around s e _ is ∙ chain_typed around e.span s first links in
    let at_level = λ (l : Level). by_level l (link_list around line v links) (λ all. outcome_with (logic line all) (test_list around line all (outcome_with first_test v) links)) in
    let none : c.logical_level.result ≡ None = search rules in
    let level = sym c.logical_level.ensures ∙ ap seen_level none in
    let plain = whole ∙ ap at_level level ∙ ap (λ x. link_list around line x links) first_is in
    let item = c.link-item.result in
    let before = seen_state c.links.state in
    let second = λ (s : State). typed_value around s item.operand in
    let go = λ (s : State) (x : Typed) (u : State) (y : Typed). linked_value line item.operator x u y in
    let f = c.in_err-x.field-0.0 in
    record {
      found = gives_failed before c.from_residual-in_err-x.result f _ c.from_residual-in_err-x.ensures.1 (fails_at f _ _ plain (over_breaks (with_link around line) (with_link_stops around line) links c.links.link-index item _ _ f c.links-test.true c.link-item.is (behind_passed before f (checked before c.links.found) (λ s x. next (second s) (λ u y. go s x u y)) (c.in_err-x.ensures before)) c.links.invariant.0));
      grows = err_on _ c.from_residual-in_err-x.result _ _ c.from_residual-in_err-x.ensures.1;
    }

pub chain-returns-in_err-y : goal.chain-returns-in_err-y
chain-returns-in_err-y g t c =
    let around = g.S.Surroundings.told c.args.self.now.around.now in
    let s = seen_state c.args.state.now in
    let e = c.args.expr.now in
    let line = c.args.expr.now.span.line in
    let first = c.get.result.now in
    let links = c.as_slice-operators.result.now in
    let is : e.kind ≡ kind.Chain first links = cc in
    let v = typed_value around s first in
    let first_is = ap read_found c.in_ok-found.ensures.found ∙ sym (c.in_ok-first.ensures (seen_state c.expression.new.state)) in
    let whole = of_kind around s e _ is ∙ chain_typed around e.span s first links in
    let at_level = λ (l : Level). by_level l (link_list around line v links) (λ all. outcome_with (logic line all) (test_list around line all (outcome_with first_test v) links)) in
    let none : c.logical_level.result ≡ None = search rules in
    let level = sym c.logical_level.ensures ∙ ap seen_level none in
    let plain = whole ∙ ap at_level level ∙ ap (λ x. link_list around line x links) first_is in
    let item = c.link-item.result in
    let before = seen_state c.links.state in
    let second = λ (s : State). typed_value around s item.operand in
    let go = λ (s : State) (x : Typed) (u : State) (y : Typed). linked_value line item.operator x u y in
    let f = c.in_err-y.field-0.0 in
    record {
      found = gives_failed (seen_state c.value.new.state) c.from_residual-in_err-y.result f _ c.from_residual-in_err-y.ensures.1 (fails_at f _ _ plain (over_breaks (with_link around line) (with_link_stops around line) links c.links.link-index item _ _ f c.links-test.true c.link-item.is (second_fails (checked before c.links.found) second go before (seen_state c.value.new.state) c.in_ok-x.x f (c.in_ok-x.ensures before) c.in_err-y.ensures.found) c.links.invariant.0));
      grows = err_on _ c.from_residual-in_err-y.result _ _ c.from_residual-in_err-y.ensures.1;
    }

pub chain-tests-init : goal.chain-tests-init
chain-tests-init g t c =
    (refl, c.in_ok-found.ensures.grows)

pub chain-tests-preserved : goal.chain-tests-preserved
chain-tests-preserved g t c =
    let around = g.S.Surroundings.told c.args.self.now.around.now in
    let line = c.args.expr.now.span.line in
    let all = c.in-Some.all in
    let links = c.as_slice-operators.result.now in
    let item = c.link-item-in-tests.result in
    let before = seen_state c.tests.state in
    let second = λ (s : State). typed_value around s item.operand in
    let go = λ (s : State) (t : Tests) (u : State) (y : Typed). with_test line all t u y in
    (over_goes (with_tested around line all) links c.tests.link-index item _ _ _ c.tests-test.true c.link-item-in-tests.is (two_go (checked before c.tests.tests) second go before (seen_state c.value-in-tests.new.state) c.in_ok-before.before c.in_ok-operand.operand _ (c.in_ok-before.ensures before) c.in_ok-operand.ensures.found (c.in_ok-tests.ensures (seen_state c.value-in-tests.new.state))) c.tests.invariant.0, grows_on _ _ _ c.tests.invariant.1 c.in_ok-operand.ensures.grows)

pub chain-returns : goal.chain-returns
chain-returns g t c =
    let around = g.S.Surroundings.told c.args.self.now.around.now in
    let s = seen_state c.args.state.now in
    let e = c.args.expr.now in
    let line = c.args.expr.now.span.line in
    let first = c.get.result.now in
    let links = c.as_slice-operators.result.now in
    let is : e.kind ≡ kind.Chain first links = cc in
    let v = typed_value around s first in
    let first_is = ap read_found c.in_ok-found.ensures.found ∙ sym (c.in_ok-first.ensures (seen_state c.expression.new.state)) in
    let whole = of_kind around s e _ is ∙ chain_typed around e.span s first links in
    let at_level = λ (l : Level). by_level l (link_list around line v links) (λ all. outcome_with (logic line all) (test_list around line all (outcome_with first_test v) links)) in
    let all = c.in-Some.all in
    let level = sym c.logical_level.ensures ∙ ap seen_level c.in-Some.is in
    let tests_of = λ (x : o.Checked Typed). outcome_with (logic line all) (test_list around line all (outcome_with first_test x) links) in
    let logical = whole ∙ ap at_level level in
    let begin = logical ∙ ap tests_of (first_is ∙ c.in_ok-passed.ensures (seen_state c.expression.new.state)) ∙ ap (λ t. outcome_with (logic line all) (test_list around line all (o.Fine (seen_state c.expression.new.state) t) links)) (sym (c.in_ok-first_test.ensures (seen_state c.expression.new.state))) in
    record {
      found = begin ∙ ap (outcome_with (logic line all)) (over_ends (with_tested around line all) links c.tests.link-index _ _ c.tests-test.false c.tests.invariant.0) ∙ sym (c.logic_found.ensures (seen_state c.tests.state));
      grows = c.tests.invariant.1;
    }

pub chain-returns-in_err-passed : goal.chain-returns-in_err-passed
chain-returns-in_err-passed g t c =
    let around = g.S.Surroundings.told c.args.self.now.around.now in
    let s = seen_state c.args.state.now in
    let e = c.args.expr.now in
    let line = c.args.expr.now.span.line in
    let first = c.get.result.now in
    let links = c.as_slice-operators.result.now in
    let is : e.kind ≡ kind.Chain first links = cc in
    let v = typed_value around s first in
    let first_is = ap read_found c.in_ok-found.ensures.found ∙ sym (c.in_ok-first.ensures (seen_state c.expression.new.state)) in
    let whole = of_kind around s e _ is ∙ chain_typed around e.span s first links in
    let at_level = λ (l : Level). by_level l (link_list around line v links) (λ all. outcome_with (logic line all) (test_list around line all (outcome_with first_test v) links)) in
    let all = c.in-Some.all in
    let level = sym c.logical_level.ensures ∙ ap seen_level c.in-Some.is in
    let tests_of = λ (x : o.Checked Typed). outcome_with (logic line all) (test_list around line all (outcome_with first_test x) links) in
    let logical = whole ∙ ap at_level level in
    let f = c.in_err-passed.field-0.0 in
    record {
      found = gives_failed (seen_state c.expression.new.state) c.from_residual-in_err-passed.result f _ c.from_residual-in_err-passed.ensures.1 (fails_at f _ _ logical (tests_fail around line all links v (seen_state c.expression.new.state) f level (passes_same (seen_state c.expression.new.state) (Err f) _ _ first_is (c.in_err-passed.ensures (seen_state c.expression.new.state)))));
      grows = err_on _ c.from_residual-in_err-passed.result _ _ c.from_residual-in_err-passed.ensures.1;
    }

pub chain-returns-in_err-before : goal.chain-returns-in_err-before
chain-returns-in_err-before g t c =
    let around = g.S.Surroundings.told c.args.self.now.around.now in
    let s = seen_state c.args.state.now in
    let e = c.args.expr.now in
    let line = c.args.expr.now.span.line in
    let first = c.get.result.now in
    let links = c.as_slice-operators.result.now in
    let is : e.kind ≡ kind.Chain first links = cc in
    let v = typed_value around s first in
    let first_is = ap read_found c.in_ok-found.ensures.found ∙ sym (c.in_ok-first.ensures (seen_state c.expression.new.state)) in
    let whole = of_kind around s e _ is ∙ chain_typed around e.span s first links in
    let at_level = λ (l : Level). by_level l (link_list around line v links) (λ all. outcome_with (logic line all) (test_list around line all (outcome_with first_test v) links)) in
    let all = c.in-Some.all in
    let level = sym c.logical_level.ensures ∙ ap seen_level c.in-Some.is in
    let tests_of = λ (x : o.Checked Typed). outcome_with (logic line all) (test_list around line all (outcome_with first_test x) links) in
    let logical = whole ∙ ap at_level level in
    let begin = logical ∙ ap tests_of (first_is ∙ c.in_ok-passed.ensures (seen_state c.expression.new.state)) ∙ ap (λ t. outcome_with (logic line all) (test_list around line all (o.Fine (seen_state c.expression.new.state) t) links)) (sym (c.in_ok-first_test.ensures (seen_state c.expression.new.state))) in
    let item = c.link-item-in-tests.result in
    let before = seen_state c.tests.state in
    let second = λ (s : State). typed_value around s item.operand in
    let go = λ (s : State) (t : Tests) (u : State) (y : Typed). with_test line all t u y in
    let f = c.in_err-before.field-0.0 in
    record {
      found = gives_failed before c.from_residual-in_err-before.result f _ c.from_residual-in_err-before.ensures.1 (fails_at f _ _ begin (logic_fails line all f _ (over_breaks (with_tested around line all) (with_tested_stops around line all) links c.tests.link-index item _ _ f c.tests-test.true c.link-item-in-tests.is (behind_passed before f (checked before c.tests.tests) (λ s t. next (second s) (λ u y. go s t u y)) (c.in_err-before.ensures before)) c.tests.invariant.0)));
      grows = err_on _ c.from_residual-in_err-before.result _ _ c.from_residual-in_err-before.ensures.1;
    }

pub chain-returns-in_err-operand : goal.chain-returns-in_err-operand
chain-returns-in_err-operand g t c =
    let around = g.S.Surroundings.told c.args.self.now.around.now in
    let s = seen_state c.args.state.now in
    let e = c.args.expr.now in
    let line = c.args.expr.now.span.line in
    let first = c.get.result.now in
    let links = c.as_slice-operators.result.now in
    let is : e.kind ≡ kind.Chain first links = cc in
    let v = typed_value around s first in
    let first_is = ap read_found c.in_ok-found.ensures.found ∙ sym (c.in_ok-first.ensures (seen_state c.expression.new.state)) in
    let whole = of_kind around s e _ is ∙ chain_typed around e.span s first links in
    let at_level = λ (l : Level). by_level l (link_list around line v links) (λ all. outcome_with (logic line all) (test_list around line all (outcome_with first_test v) links)) in
    let all = c.in-Some.all in
    let level = sym c.logical_level.ensures ∙ ap seen_level c.in-Some.is in
    let tests_of = λ (x : o.Checked Typed). outcome_with (logic line all) (test_list around line all (outcome_with first_test x) links) in
    let logical = whole ∙ ap at_level level in
    let begin = logical ∙ ap tests_of (first_is ∙ c.in_ok-passed.ensures (seen_state c.expression.new.state)) ∙ ap (λ t. outcome_with (logic line all) (test_list around line all (o.Fine (seen_state c.expression.new.state) t) links)) (sym (c.in_ok-first_test.ensures (seen_state c.expression.new.state))) in
    let item = c.link-item-in-tests.result in
    let before = seen_state c.tests.state in
    let second = λ (s : State). typed_value around s item.operand in
    let go = λ (s : State) (t : Tests) (u : State) (y : Typed). with_test line all t u y in
    let f = c.in_err-operand.field-0.0 in
    record {
      found = gives_failed (seen_state c.value-in-tests.new.state) c.from_residual-in_err-operand.result f _ c.from_residual-in_err-operand.ensures.1 (fails_at f _ _ begin (logic_fails line all f _ (over_breaks (with_tested around line all) (with_tested_stops around line all) links c.tests.link-index item _ _ f c.tests-test.true c.link-item-in-tests.is (second_fails (checked before c.tests.tests) second go before (seen_state c.value-in-tests.new.state) c.in_ok-before.before f (c.in_ok-before.ensures before) c.in_err-operand.ensures.found) c.tests.invariant.0)));
      grows = err_on _ c.from_residual-in_err-operand.result _ _ c.from_residual-in_err-operand.ensures.1;
    }

pub commas-commas-init : goal.commas-commas-init
commas-commas-init g t c =
    (refl, c.in_ok-found.ensures.grows)

pub commas-commas-preserved : goal.commas-commas-preserved
commas-commas-preserved g t c =
    let around = g.S.Surroundings.told c.args.self.now.around.now in
    let line = c.args.expr.now.span.line in
    let rest = c.as_slice-others.result.now in
    let item = c.next-item.result in
    let before = seen_state c.commas.state in
    let more = λ (s : State). typed_value around s item in
    let go = λ (s : State) (x : Typed) (u : State) (y : Typed). o.Fine u (second line x y) in
    (over_goes (with_second around line) rest c.commas.next-index item _ _ _ c.commas-test.true c.next-item.is (two_go (checked before c.commas.value) more go before (seen_state c.value.new.state) c.in_ok-x.x c.in_ok-y.y _ (c.in_ok-x.ensures before) c.in_ok-y.ensures.found (ap (o.Fine (seen_state c.value.new.state)) c.in_ok-second.ensures)) c.commas.invariant.0, grows_on _ _ _ c.commas.invariant.1 c.in_ok-y.ensures.grows)

pub commas-returns : goal.commas-returns
commas-returns g t c =
    let around = g.S.Surroundings.told c.args.self.now.around.now in
    let s = seen_state c.args.state.now in
    let e = c.args.expr.now in
    let line = c.args.expr.now.span.line in
    let first = c.get.result.now in
    let rest = c.as_slice-others.result.now in
    let is : e.kind ≡ kind.Comma first rest = cc in
    let first_is = ap read_found c.in_ok-found.ensures.found ∙ sym (c.in_ok-value.ensures (seen_state c.expression.new.state)) in
    let whole = of_kind around s e _ is ∙ comma_typed around e.span s first rest in
    let plain = whole ∙ ap (λ x. comma_list around line x rest) first_is in
    record {
      found = plain ∙ over_ends (with_second around line) rest c.commas.next-index _ _ c.commas-test.false c.commas.invariant.0;
      grows = c.commas.invariant.1;
    }

pub commas-returns-in_err-found : goal.commas-returns-in_err-found
commas-returns-in_err-found g t c =
    let around = g.S.Surroundings.told c.args.self.now.around.now in
    let s = seen_state c.args.state.now in
    let e = c.args.expr.now in
    let line = c.args.expr.now.span.line in
    let first = c.get.result.now in
    let rest = c.as_slice-others.result.now in
    let is : e.kind ≡ kind.Comma first rest = cc in
    let whole = of_kind around s e _ is ∙ comma_typed around e.span s first rest in
    let f = c.in_err-found.field-0.0 in
    record {
      found = gives_failed (seen_state c.expression.new.state) c.from_residual.result f _ c.from_residual.ensures.1 (fails_at f _ _ whole (through_given (seen_state c.expression.new.state) f (typed_expression around s first) (λ x. comma_list around line (read_found x) rest) (λ b. over_stops (with_second around line) (with_second_stops around line) b rest) c.in_err-found.ensures.found));
      grows = err_on _ c.from_residual.result _ _ c.from_residual.ensures.1;
    }

pub commas-returns-in_err-x : goal.commas-returns-in_err-x
commas-returns-in_err-x g t c =
    let around = g.S.Surroundings.told c.args.self.now.around.now in
    let s = seen_state c.args.state.now in
    let e = c.args.expr.now in
    let line = c.args.expr.now.span.line in
    let first = c.get.result.now in
    let rest = c.as_slice-others.result.now in
    let is : e.kind ≡ kind.Comma first rest = cc in
    let first_is = ap read_found c.in_ok-found.ensures.found ∙ sym (c.in_ok-value.ensures (seen_state c.expression.new.state)) in
    let whole = of_kind around s e _ is ∙ comma_typed around e.span s first rest in
    let plain = whole ∙ ap (λ x. comma_list around line x rest) first_is in
    let item = c.next-item.result in
    let before = seen_state c.commas.state in
    let more = λ (s : State). typed_value around s item in
    let go = λ (s : State) (x : Typed) (u : State) (y : Typed). o.Fine u (second line x y) in
    let f = c.in_err-x.field-0.0 in
    record {
      found = gives_failed before c.from_residual-in_err-x.result f _ c.from_residual-in_err-x.ensures.1 (fails_at f _ _ plain (over_breaks (with_second around line) (with_second_stops around line) rest c.commas.next-index item _ _ f c.commas-test.true c.next-item.is (behind_passed before f (checked before c.commas.value) (λ s x. next (more s) (λ u y. go s x u y)) (c.in_err-x.ensures before)) c.commas.invariant.0));
      grows = err_on _ c.from_residual-in_err-x.result _ _ c.from_residual-in_err-x.ensures.1;
    }

pub commas-returns-in_err-y : goal.commas-returns-in_err-y
commas-returns-in_err-y g t c =
    let around = g.S.Surroundings.told c.args.self.now.around.now in
    let s = seen_state c.args.state.now in
    let e = c.args.expr.now in
    let line = c.args.expr.now.span.line in
    let first = c.get.result.now in
    let rest = c.as_slice-others.result.now in
    let is : e.kind ≡ kind.Comma first rest = cc in
    let first_is = ap read_found c.in_ok-found.ensures.found ∙ sym (c.in_ok-value.ensures (seen_state c.expression.new.state)) in
    let whole = of_kind around s e _ is ∙ comma_typed around e.span s first rest in
    let plain = whole ∙ ap (λ x. comma_list around line x rest) first_is in
    let item = c.next-item.result in
    let before = seen_state c.commas.state in
    let more = λ (s : State). typed_value around s item in
    let go = λ (s : State) (x : Typed) (u : State) (y : Typed). o.Fine u (second line x y) in
    let f = c.in_err-y.field-0.0 in
    record {
      found = gives_failed (seen_state c.value.new.state) c.from_residual-in_err-y.result f _ c.from_residual-in_err-y.ensures.1 (fails_at f _ _ plain (over_breaks (with_second around line) (with_second_stops around line) rest c.commas.next-index item _ _ f c.commas-test.true c.next-item.is (second_fails (checked before c.commas.value) more go before (seen_state c.value.new.state) c.in_ok-x.x f (c.in_ok-x.ensures before) c.in_err-y.ensures.found) c.commas.invariant.0));
      grows = err_on _ c.from_residual-in_err-y.result _ _ c.from_residual-in_err-y.ensures.1;
    }
