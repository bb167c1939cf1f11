-- Each part of a tree needs what its one part needs, or the greatest need of a list.
use Rattle.std.proofs.Common.{sym, ap, ◌∙◌}
use Rattle.c_syntax.specs.declared.expr.SpecifierKind.TheVariants as specifier
use Rattle.c_expr_rules.specs.Temporaries.{temporaries_in, temporaries_of, operator_temporaries, type_temporaries, specifier_temporaries, member_temporaries, declarator_temporaries, core_temporaries, suffix_temporaries}
use Rattle.c_temporaries.specs.TemporaryLists.{as_u64, most_of_operators, most_of_arguments, most_of_links, most_of_seconds, most_of_specifiers, most_of_members, most_of_constants, most_of_declarators, most_of_parameters}
use Rattle.c_temporaries.proofs.TemporaryTrees.{parens_needs, prefix_needs, sizeof_needs, postfix_needs, cast_needs, chain_needs, conditional_needs, assign_needs, comma_needs, call_needs, declares_needs, specifiers_needs, atomic_needs, record_needs, enum_needs, core_needs, array_needs, function_needs}
use Rattle.c_temporaries.proofs.Most.{greater_count, count_behind}
use Rattle.c_temporaries.proofs.temporaries.+temporaries.Goals as goal

pub temporaries_of-returns-in-Parens : goal.temporaries_of-returns-in-Parens
temporaries_of-returns-in-Parens t c =
    let all = ap temporaries_of c.get.ensures ∙ sym (parens_needs c.in-Parens.operand) ∙ ap temporaries_in (sym c.in-Parens.is) in
    c.temporaries_of.ensures ∙ ap as_u64 all

pub temporaries_of-returns-in-SizeofExpr : goal.temporaries_of-returns-in-SizeofExpr
temporaries_of-returns-in-SizeofExpr t c =
    let all = ap temporaries_of c.get-in-SizeofExpr.ensures ∙ sym (sizeof_needs c.in-SizeofExpr.operand) ∙ ap temporaries_in (sym c.in-SizeofExpr.is) in
    c.temporaries_of-in-SizeofExpr.ensures ∙ ap as_u64 all

pub temporaries_of-returns-in-Prefix : goal.temporaries_of-returns-in-Prefix
temporaries_of-returns-in-Prefix t c =
    let all = ap temporaries_of c.get-in-Prefix.ensures ∙ sym (prefix_needs c.in-Prefix.operator c.in-Prefix.operand) ∙ ap temporaries_in (sym c.in-Prefix.is) in
    c.temporaries_of-in-Prefix.ensures ∙ ap as_u64 all

pub operator_temporaries-returns-in-Call : goal.operator_temporaries-returns-in-Call
operator_temporaries-returns-in-Call t c =
    let all = ap (most_of_arguments 1) c.as_slice.ensures ∙ sym (call_needs c.in-Call.arguments) ∙ ap operator_temporaries (sym c.in-Call.is) in
    c.arguments_temporaries.ensures ∙ ap as_u64 all

pub specifiers_temporaries-returns : goal.specifiers_temporaries-returns
specifiers_temporaries-returns t c =
    let all = ap most_of_specifiers c.as_slice.ensures ∙ sym (specifiers_needs c.args.specifiers.now) in
    c.list_temporaries.ensures ∙ ap as_u64 all

pub specifier_temporaries-returns-in-Atomic : goal.specifier_temporaries-returns-in-Atomic
specifier_temporaries-returns-in-Atomic t c =
    let all = ap type_temporaries c.get.ensures ∙ sym (atomic_needs c.in-Atomic.name) ∙ ap specifier_temporaries (sym c.in-Atomic.is) in
    c.type_temporaries.ensures ∙ ap as_u64 all

pub specifier_temporaries-returns-in-Some : goal.specifier_temporaries-returns-in-Some
specifier_temporaries-returns-in-Some t c =
    let whole = c.in-Record.is ∙ ap (specifier.Record c.in-Record.kind c.in-Record.tag) c.in-Some.is in
    let all = ap most_of_members c.as_slice.ensures ∙ sym (record_needs c.in-Record.kind c.in-Record.tag c.in-Some.list) ∙ ap specifier_temporaries (sym whole) in
    c.members_temporaries.ensures ∙ ap as_u64 all

pub specifier_temporaries-returns-in-Some-constants : goal.specifier_temporaries-returns-in-Some-constants
specifier_temporaries-returns-in-Some-constants t c =
    let whole = c.in-Enum.is ∙ ap (specifier.Enum c.in-Enum.tag) c.in-Some-constants.is in
    let all = ap most_of_constants c.as_slice-in-Some-constants.ensures ∙ sym (enum_needs c.in-Enum.tag c.in-Some-constants.list) ∙ ap specifier_temporaries (sym whole) in
    c.constants_temporaries.ensures ∙ ap as_u64 all

pub core_temporaries-returns-in-Parens : goal.core_temporaries-returns-in-Parens
core_temporaries-returns-in-Parens t c =
    let all = ap declarator_temporaries c.get.ensures ∙ sym (core_needs c.in-Parens.inner) ∙ ap core_temporaries (sym c.in-Parens.is) in
    c.declarator_temporaries.ensures ∙ ap as_u64 all

pub suffix_temporaries-returns-in-Array : goal.suffix_temporaries-returns-in-Array
suffix_temporaries-returns-in-Array t c =
    let all = sym (array_needs c.in-Array.size) ∙ ap suffix_temporaries (sym c.in-Array.is) in
    c.optional_temporaries.ensures ∙ ap as_u64 all

pub suffix_temporaries-returns-in-Function : goal.suffix_temporaries-returns-in-Function
suffix_temporaries-returns-in-Function t c =
    let all = ap most_of_parameters c.as_slice.ensures ∙ sym (function_needs c.in-Function.parameters c.in-Function.scope) ∙ ap suffix_temporaries (sym c.in-Function.is) in
    c.parameters_temporaries.ensures ∙ ap as_u64 all

pub temporaries_of-returns-in-Postfix : goal.temporaries_of-returns-in-Postfix
temporaries_of-returns-in-Postfix t c =
    let whole = ap temporaries_in c.in-Postfix.is ∙ postfix_needs c.in-Postfix.operand c.in-Postfix.operators in
    let one = c.temporaries_of-in-Postfix.ensures ∙ ap (λ x. as_u64 (temporaries_of x)) c.get-in-Postfix.ensures in
    let other = c.operators_temporaries.ensures ∙ ap (λ x. as_u64 (most_of_operators x)) c.as_slice.ensures in
    greater_count _ _ _ _ _ one other c.max-in-Postfix.ensures ∙ ap as_u64 (sym whole)

pub temporaries_of-returns-in-Cast : goal.temporaries_of-returns-in-Cast
temporaries_of-returns-in-Cast t c =
    let whole = ap temporaries_in c.in-Cast.is ∙ cast_needs c.in-Cast.ty c.in-Cast.operand in
    let one = c.type_temporaries-in-Cast.ensures ∙ ap (λ x. as_u64 (type_temporaries x)) c.get-in-Cast.ensures in
    let other = c.temporaries_of-in-Cast.ensures ∙ ap (λ x. as_u64 (temporaries_of x)) c.get-in-Cast-2.ensures in
    greater_count _ _ _ _ _ one other c.max-in-Cast.ensures ∙ ap as_u64 (sym whole)

pub temporaries_of-returns-in-Chain : goal.temporaries_of-returns-in-Chain
temporaries_of-returns-in-Chain t c =
    let whole = ap temporaries_in c.in-Chain.is ∙ chain_needs c.in-Chain.first c.in-Chain.links in
    let one = c.temporaries_of-in-Chain.ensures ∙ ap (λ x. as_u64 (temporaries_of x)) c.get-in-Chain.ensures in
    let other = c.links_temporaries.ensures ∙ ap (λ x. as_u64 (most_of_links x)) c.as_slice-in-Chain.ensures in
    greater_count _ _ _ _ _ one other c.max-in-Chain.ensures ∙ ap as_u64 (sym whole)

pub temporaries_of-returns-in-Comma : goal.temporaries_of-returns-in-Comma
temporaries_of-returns-in-Comma t c =
    let whole = ap temporaries_in c.in-Comma.is ∙ comma_needs c.in-Comma.first c.in-Comma.rest in
    let one = c.temporaries_of-in-Comma.ensures ∙ ap (λ x. as_u64 (temporaries_of x)) c.get-in-Comma.ensures in
    let other = c.seconds_temporaries.ensures ∙ ap (λ x. as_u64 (most_of_seconds x)) c.as_slice-in-Comma.ensures in
    greater_count _ _ _ _ _ one other c.max-in-Comma.ensures ∙ ap as_u64 (sym whole)

pub temporaries_of-returns-in-Conditional : goal.temporaries_of-returns-in-Conditional
temporaries_of-returns-in-Conditional t c =
    let whole = ap temporaries_in c.in-Conditional.is ∙ conditional_needs c.in-Conditional.condition c.in-Conditional.then c.in-Conditional.otherwise in
    let then = c.temporaries_of-in-Conditional.ensures ∙ ap (λ x. as_u64 (temporaries_of x)) c.get-in-Conditional.ensures in
    let one = count_behind 1 _ _ _ then c.saturating_add-one.ensures in
    let otherwise = c.temporaries_of-in-Conditional-2.ensures ∙ ap (λ x. as_u64 (temporaries_of x)) c.get-in-Conditional-2.ensures in
    let other = count_behind 2 _ _ _ otherwise c.saturating_add-other.ensures in
    let test = c.temporaries_of-in-Conditional-3.ensures ∙ ap (λ x. as_u64 (temporaries_of x)) c.get-in-Conditional-3.ensures in
    let both = greater_count _ _ _ _ _ one other c.max-in-Conditional.ensures in
    greater_count _ _ _ _ _ test both c.max-in-Conditional-2.ensures ∙ ap as_u64 (sym whole)

pub temporaries_of-returns-in-Assign : goal.temporaries_of-returns-in-Assign
temporaries_of-returns-in-Assign t c =
    let whole = ap temporaries_in c.in-Assign.is ∙ assign_needs c.in-Assign.operator c.in-Assign.target c.in-Assign.value in
    let value = c.temporaries_of-in-Assign.ensures ∙ ap (λ x. as_u64 (temporaries_of x)) c.get-in-Assign.ensures in
    let right = count_behind 1 _ _ _ value c.saturating_add-right.ensures in
    let target = c.temporaries_of-in-Assign-2.ensures ∙ ap (λ x. as_u64 (temporaries_of x)) c.get-in-Assign-2.ensures in
    greater_count _ _ _ _ _ target right c.max-in-Assign.ensures ∙ ap as_u64 (sym whole)

pub member_temporaries-returns-in-Declares : goal.member_temporaries-returns-in-Declares
member_temporaries-returns-in-Declares t c =
    let whole = ap member_temporaries c.in-Declares.is ∙ declares_needs c.in-Declares.span c.in-Declares.specifiers c.in-Declares.declarators in
    let all = c.declarators_temporaries.ensures ∙ ap (λ x. as_u64 (most_of_declarators x)) c.as_slice.ensures in
    greater_count _ _ _ _ _ c.specifiers_temporaries-specified.ensures all c.max.ensures ∙ ap as_u64 (sym whole)
