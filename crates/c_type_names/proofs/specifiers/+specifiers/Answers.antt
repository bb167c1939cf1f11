-- A type name is what its parts make of it, in their order: where a part breaks a rule, nothing behind it is looked at.
use Rattle.std.proofs.Common.{◌≡◌, false, length, [], refl, sym, ap, ap₂, ◌∙◌, arith}
use Rattle.std.specs.Prelude.{Some}
use Rattle.c_syntax.specs.declared.expr.Core.TheVariants as core
use Rattle.c_syntax.specs.declared.expr.Member.TheVariants as member
use Rattle.c_syntax.specs.declared.expr.Parameter.{out-Parameter}
use Rattle.c_syntax.specs.declared.expr.SpecifierKind.TheVariants as kind
use Rattle.c_syntax.specs.declared.expr.SuffixKind.TheVariants as suffix
use Rattle.c_syntax.specs.declared.expr.TypeName.{out-TypeName}
use Rattle.c_specifiers.specs.declared.list.Standing.TheVariants as standing
use Rattle.c_expr_rules.specs.Outcomes.{Fine, next}
use Rattle.c_expr_rules.specs.Views.{seen_state}
use Rattle.c_check_expr.proofs.Growing.{stays, grows_on, ok_on, err_on}
use Rattle.c_check_expr.proofs.Outcomes.{next_goes, behind_passed, fails_at}
use Rattle.c_check_expr.proofs.Recursion.{passes_same, passes_failed}
use Rattle.c_names.specs.Code.{here_at}
use Rattle.c_file_rules.specs.Declarators.{line_of}
use Rattle.c_file_rules.specs.Specifiers.{specifier_found, member_found, core_formed}
use Rattle.c_file_rules.specs.Tags.{no_members, type_to_list, record_found}
use Rattle.c_type_parts.specs.Lists.{seen_follows, specifier_list, member_list, member_declared, member_declarator_list, suffix_list, suffix_list_on, suffix_made, parameter_list}
use Rattle.c_type_names.proofs.Behind.{atomic_behind, declarators_behind, as_before, joined_behind, suffixes_behind, array_behind, function_behind}
use Rattle.c_type_names.proofs.Blocks.{block_grows}
use Rattle.c_type_names.proofs.Chains.{goes, stops}
use Rattle.c_type_names.proofs.Going.{list_goes, list_fails, list_stops_at, list_ends}
use Rattle.c_type_names.proofs.Steps.{said_is, said_fails, typed_is, typed_fails, type_fails_said, type_fails_formed, type_fails_typed, type_goes, list_said, list_stops, member_fails_formed, member_fails_typed, member_fails_rules, member_goes, parameter_fails_said, parameter_fails_formed, parameter_found_is, parameter_found_fails, function_is_found, suffix_with, suffix_goes, suffix_one, suffix_one_fails, parameter_with, parameter_goes, parameter_one, parameter_one_stops, parameter_one_fails, joined_is, own_fails}
use Rattle.c_type_names.proofs.SpecifierTrees.{atomic_is, record_is, enum_is, declares_is, asserts_is, parens_formed, formed_is, size_is, function_is}
use Rattle.c_type_names.proofs.specifiers.+specifiers.Goals as goal

pub type_said-returns : goal.type_said-returns
type_said-returns g t c =
    let here = here_at c.args.scene.now.facts.now (g.S.Surroundings.told c.args.scene.now.around.now) in
    let s = seen_state c.args.state.now in
    let name = c.args.name.now in
    record {
      found = type_goes here s name (seen_state c.specifiers_said.new.state) c.in_ok-said.said (said_is here s (out-TypeName name).specifiers c.place_of-place.result.standing standing.TypeName c.place_of-place.result.follows c.place_of-place.ensures.standing c.place_of-place.ensures.follows (seen_state c.specifiers_said.new.state) c.in_ok-said.said c.in_ok-said.ensures.found) (seen_state c.formed.new.state) c.in_ok-formed.formed c.in_ok-formed.ensures.found (seen_state c.declared_type.new.state) c.in_ok-ty.ty (typed_is (line_of (out-TypeName name).declarator) (seen_state c.formed.new.state) c.in_ok-said.said.ty c.in_ok-formed.formed.derivations c.as_slice-derivations.result.now c.as_slice-derivations.ensures (seen_state c.declared_type.new.state) c.in_ok-ty.ty c.in_ok-ty.ensures.found);
      grows = grows_on _ _ _ c.in_ok-said.ensures.grows (grows_on _ _ _ c.in_ok-formed.ensures.grows c.in_ok-ty.ensures.grows);
    }

pub type_said-returns-in_err-said : goal.type_said-returns-in_err-said
type_said-returns-in_err-said g t c =
    let here = here_at c.args.scene.now.facts.now (g.S.Surroundings.told c.args.scene.now.around.now) in
    let s = seen_state c.args.state.now in
    let name = c.args.name.now in
    let f = c.in_err-said.field-0.0 in
    record {
      found = passes_failed (seen_state c.specifiers_said.new.state) c.from_residual.result f _ c.from_residual.ensures.1 (type_fails_said here s name (seen_state c.specifiers_said.new.state) f (said_fails here s (out-TypeName name).specifiers c.place_of-place.result.standing standing.TypeName c.place_of-place.result.follows c.place_of-place.ensures.standing c.place_of-place.ensures.follows (seen_state c.specifiers_said.new.state) f c.in_err-said.ensures.found));
      grows = err_on _ c.from_residual.result _ _ c.from_residual.ensures.1;
    }

pub type_said-returns-in_err-formed : goal.type_said-returns-in_err-formed
type_said-returns-in_err-formed g t c =
    let here = here_at c.args.scene.now.facts.now (g.S.Surroundings.told c.args.scene.now.around.now) in
    let s = seen_state c.args.state.now in
    let name = c.args.name.now in
    let f = c.in_err-formed.field-0.0 in
    record {
      found = passes_failed (seen_state c.formed.new.state) c.from_residual-in_err-formed.result f _ c.from_residual-in_err-formed.ensures.1 (type_fails_formed here s name (seen_state c.specifiers_said.new.state) c.in_ok-said.said (said_is here s (out-TypeName name).specifiers c.place_of-place.result.standing standing.TypeName c.place_of-place.result.follows c.place_of-place.ensures.standing c.place_of-place.ensures.follows (seen_state c.specifiers_said.new.state) c.in_ok-said.said c.in_ok-said.ensures.found) (seen_state c.formed.new.state) f c.in_err-formed.ensures.found);
      grows = err_on _ c.from_residual-in_err-formed.result _ _ c.from_residual-in_err-formed.ensures.1;
    }

pub type_said-returns-in_err-ty : goal.type_said-returns-in_err-ty
type_said-returns-in_err-ty g t c =
    let here = here_at c.args.scene.now.facts.now (g.S.Surroundings.told c.args.scene.now.around.now) in
    let s = seen_state c.args.state.now in
    let name = c.args.name.now in
    let f = c.in_err-ty.field-0.0 in
    record {
      found = passes_failed (seen_state c.declared_type.new.state) c.from_residual-in_err-ty.result f _ c.from_residual-in_err-ty.ensures.1 (type_fails_typed here s name (seen_state c.specifiers_said.new.state) c.in_ok-said.said (said_is here s (out-TypeName name).specifiers c.place_of-place.result.standing standing.TypeName c.place_of-place.result.follows c.place_of-place.ensures.standing c.place_of-place.ensures.follows (seen_state c.specifiers_said.new.state) c.in_ok-said.said c.in_ok-said.ensures.found) (seen_state c.formed.new.state) c.in_ok-formed.formed c.in_ok-formed.ensures.found (seen_state c.declared_type.new.state) f (typed_fails (line_of (out-TypeName name).declarator) (seen_state c.formed.new.state) c.in_ok-said.said.ty c.in_ok-formed.formed.derivations c.as_slice-derivations.result.now c.as_slice-derivations.ensures (seen_state c.declared_type.new.state) f c.in_err-ty.ensures.found));
      grows = err_on _ c.from_residual-in_err-ty.result _ _ c.from_residual-in_err-ty.ensures.1;
    }

pub specifiers_said-specifiers-init : goal.specifiers_said-specifiers-init
specifiers_said-specifiers-init g t c =
    let here = here_at c.args.scene.now.facts.now (g.S.Surroundings.told c.args.scene.now.around.now) in
    let s = seen_state c.args.state.now in
    let specifiers = c.args.specifiers.now in
    let list = c.as_slice-list.result.now in
    let alone = c.is_tag_alone-is_alone.result in
    (ap (λ p. specifier_list here alone s p list) c.no_parts-parts.ensures, stays c.args.state.now)

pub specifiers_said-specifiers-preserved : goal.specifiers_said-specifiers-preserved
specifiers_said-specifiers-preserved g t c =
    let here = here_at c.args.scene.now.facts.now (g.S.Surroundings.told c.args.scene.now.around.now) in
    let s = seen_state c.args.state.now in
    let specifiers = c.args.specifiers.now in
    let list = c.as_slice-list.result.now in
    let alone = c.is_tag_alone-is_alone.result in
    (sym (list_goes (λ s p x. specifier_found here alone s p x.kind) (specifier_list here alone) (λ s a. refl) (λ s a x rest. refl) (seen_state c.specifiers.state) (seen_state c.specifier_found.new.state) c.specifiers.parts c.in_ok-parts.parts list c.specifiers.specifier-index c.specifier-item.result c.specifiers-test.true c.specifier-item.is c.in_ok-parts.ensures.found) ∙ c.specifiers.invariant.0, grows_on _ _ _ c.specifiers.invariant.1 c.in_ok-parts.ensures.grows)

pub specifiers_said-returns : goal.specifiers_said-returns
specifiers_said-returns g t c =
    let here = here_at c.args.scene.now.facts.now (g.S.Surroundings.told c.args.scene.now.around.now) in
    let s = seen_state c.args.state.now in
    let specifiers = c.args.specifiers.now in
    let list = c.as_slice-list.result.now in
    let alone = c.is_tag_alone-is_alone.result in
    record {
      found = passes_same (seen_state c.specified.new.state) c.specified.result _ _ (list_said here c.args.place.standing (seen_follows c.args.place.follows) s (seen_state c.specifiers.state) specifiers list alone c.as_slice-list.ensures c.is_tag_alone-is_alone.ensures c.specifiers.parts c.with_declared-parts.result c.in_ok-before.before c.in_ok-names_here.field-0 (sym c.specifiers.invariant.0 ∙ list_ends (λ s p x. specifier_found here alone s p x.kind) (specifier_list here alone) (λ s a. refl) (λ s a x rest. refl) (seen_state c.specifiers.state) c.specifiers.parts list c.specifiers.specifier-index c.specifiers-test.false) c.in_ok-before.ensures c.in_ok-names_here.ensures c.with_declared-parts.ensures) c.specified.ensures.found;
      grows = ok_on c.specified.result _ _ _ c.specifiers.invariant.1 c.specified.ensures.grows;
    }

pub specifiers_said-returns-in_err-parts : goal.specifiers_said-returns-in_err-parts
specifiers_said-returns-in_err-parts g t c =
    let here = here_at c.args.scene.now.facts.now (g.S.Surroundings.told c.args.scene.now.around.now) in
    let s = seen_state c.args.state.now in
    let specifiers = c.args.specifiers.now in
    let list = c.as_slice-list.result.now in
    let alone = c.is_tag_alone-is_alone.result in
    let f = c.in_err-parts.field-0.0 in
    record {
      found = passes_failed (seen_state c.specifier_found.new.state) c.from_residual-in_err-parts.result f _ c.from_residual-in_err-parts.ensures.1 (list_stops here c.args.place.standing (seen_follows c.args.place.follows) s (seen_state c.specifiers.state) specifiers list alone c.as_slice-list.ensures c.is_tag_alone-is_alone.ensures f (fails_at f _ _ (sym c.specifiers.invariant.0) (list_fails (λ s p x. specifier_found here alone s p x.kind) (specifier_list here alone) (λ s a. refl) (λ s a x rest. refl) (seen_state c.specifiers.state) (seen_state c.specifier_found.new.state) c.specifiers.parts list c.specifiers.specifier-index c.specifier-item.result f c.specifiers-test.true c.specifier-item.is c.in_err-parts.ensures.found)));
      grows = err_on _ c.from_residual-in_err-parts.result _ _ c.from_residual-in_err-parts.ensures.1;
    }

pub specifier_found-returns-in_ok-said-in-Atomic : goal.specifier_found-returns-in_ok-said-in-Atomic
specifier_found-returns-in_ok-said-in-Atomic g t c =
    let here = here_at c.args.scene.now.facts.now (g.S.Surroundings.told c.args.scene.now.around.now) in
    let s = seen_state c.args.state.now in
    let k = c.args.kind.now in
    let alone = c.args.is_alone in
    let p = c.args.parts in
    let name = c.get.result.now in
    let is : k ≡ kind.Atomic name = cc in
    let whole = ap (specifier_found here alone s p) is ∙ atomic_is here alone s p name in
    record {
      found = whole ∙ goes _ (atomic_behind p) (seen_state c.type_said.new.state) c.in_ok-said-in-Atomic.said _ c.in_ok-said-in-Atomic.ensures.found (ap (Fine (seen_state c.type_said.new.state)) (sym c.atomic_found.ensures));
      grows = c.in_ok-said-in-Atomic.ensures.grows;
    }

pub specifier_found-returns-in_err-said-in-Atomic : goal.specifier_found-returns-in_err-said-in-Atomic
specifier_found-returns-in_err-said-in-Atomic g t c =
    let here = here_at c.args.scene.now.facts.now (g.S.Surroundings.told c.args.scene.now.around.now) in
    let s = seen_state c.args.state.now in
    let k = c.args.kind.now in
    let alone = c.args.is_alone in
    let p = c.args.parts in
    let name = c.get.result.now in
    let is : k ≡ kind.Atomic name = cc in
    let whole = ap (specifier_found here alone s p) is ∙ atomic_is here alone s p name in
    let f = c.in_err-said-in-Atomic.field-0.0 in
    record {
      found = passes_failed (seen_state c.type_said.new.state) c.from_residual.result f _ c.from_residual.ensures.1 (fails_at f _ _ whole (behind_passed (seen_state c.type_said.new.state) f _ (atomic_behind p) c.in_err-said-in-Atomic.ensures.found));
      grows = err_on _ c.from_residual.result _ _ c.from_residual.ensures.1;
    }

pub specifier_found-returns-in_ok-seen-in-Some : goal.specifier_found-returns-in_ok-seen-in-Some
specifier_found-returns-in_ok-seen-in-Some g t c =
    let here = here_at c.args.scene.now.facts.now (g.S.Surroundings.told c.args.scene.now.around.now) in
    let s = seen_state c.args.state.now in
    let k = c.args.kind.now in
    let alone = c.args.is_alone in
    let p = c.args.parts in
    let members = c.as_slice.result.now in
    let word = c.in-Record.kind in
    let tag = c.in-Record.tag in
    let is : k ≡ kind.Record word tag (Some members) = c.in-Record.is ∙ ap (kind.Record word tag) (c.in-Some.is ∙ ap Some (sym c.as_slice.ensures)) in
    let whole = ap (specifier_found here alone s p) is ∙ record_is here alone s p word tag members in
    record {
      found = passes_same (seen_state c.record_found.new.state) c.record_found.result _ _ (whole ∙ ap₂ (λ s n. next (member_list here s no_members members) (record_found here word tag n p)) (sym (c.in_ok-number-in-Some.ensures.state ∙ ap (λ k. (type_to_list here s k tag).0) c.tag_of-in-Some.ensures)) (sym (c.in_ok-number-in-Some.ensures.number ∙ ap (λ k. (type_to_list here s k tag).1) c.tag_of-in-Some.ensures)) ∙ next_goes _ (record_found here word tag c.in_ok-number-in-Some.number p) (seen_state c.members_found.new.state) c.in_ok-seen-in-Some.seen c.in_ok-seen-in-Some.ensures.found) c.record_found.ensures.found;
      grows = ok_on c.record_found.result _ _ _ (grows_on _ _ _ c.in_ok-number-in-Some.ensures.grows c.in_ok-seen-in-Some.ensures.grows) c.record_found.ensures.grows;
    }

pub specifier_found-returns-in_err-seen-in-Some : goal.specifier_found-returns-in_err-seen-in-Some
specifier_found-returns-in_err-seen-in-Some g t c =
    let here = here_at c.args.scene.now.facts.now (g.S.Surroundings.told c.args.scene.now.around.now) in
    let s = seen_state c.args.state.now in
    let k = c.args.kind.now in
    let alone = c.args.is_alone in
    let p = c.args.parts in
    let members = c.as_slice.result.now in
    let word = c.in-Record.kind in
    let tag = c.in-Record.tag in
    let is : k ≡ kind.Record word tag (Some members) = cc in
    let whole = ap (specifier_found here alone s p) is ∙ record_is here alone s p word tag members in
    let f = c.in_err-seen-in-Some.field-0.0 in
    record {
      found = passes_failed (seen_state c.members_found.new.state) c.from_residual-in_err-seen-in-Some.result f _ c.from_residual-in_err-seen-in-Some.ensures.1 (fails_at f _ _ (whole ∙ ap₂ (λ s n. next (member_list here s no_members members) (record_found here word tag n p)) (sym (c.in_ok-number-in-Some.ensures.state ∙ ap (λ k. (type_to_list here s k tag).0) c.tag_of-in-Some.ensures)) (sym (c.in_ok-number-in-Some.ensures.number ∙ ap (λ k. (type_to_list here s k tag).1) c.tag_of-in-Some.ensures))) (behind_passed (seen_state c.members_found.new.state) f _ (record_found here word tag c.in_ok-number-in-Some.number p) c.in_err-seen-in-Some.ensures.found));
      grows = err_on _ c.from_residual-in_err-seen-in-Some.result _ _ c.from_residual-in_err-seen-in-Some.ensures.1;
    }

pub specifier_found-returns-in-Enum : goal.specifier_found-returns-in-Enum
specifier_found-returns-in-Enum g t c =
    let here = here_at c.args.scene.now.facts.now (g.S.Surroundings.told c.args.scene.now.around.now) in
    let s = seen_state c.args.state.now in
    let k = c.args.kind.now in
    let alone = c.args.is_alone in
    let p = c.args.parts in
    let is : k ≡ kind.Enum c.in-Enum.tag c.in-Enum.constants = cc in
    record {
      found = passes_same (seen_state c.enumeration.new.state) c.enumeration.result _ _ (ap (specifier_found here alone s p) is ∙ enum_is here alone s p c.in-Enum.tag c.in-Enum.constants) c.enumeration.ensures.found;
      grows = c.enumeration.ensures.grows;
    }

pub members_found-members-init : goal.members_found-members-init
members_found-members-init g t c =
    let here = here_at c.args.scene.now.facts.now (g.S.Surroundings.told c.args.scene.now.around.now) in
    let s = seen_state c.args.state.now in
    let members = c.args.members.now in
    (ap (λ ms. member_list here s (record { members = ms; declares = false }) members) c.new.ensures, stays c.args.state.now)

pub members_found-members-preserved : goal.members_found-members-preserved
members_found-members-preserved g t c =
    let here = here_at c.args.scene.now.facts.now (g.S.Surroundings.told c.args.scene.now.around.now) in
    let s = seen_state c.args.state.now in
    let members = c.args.members.now in
    (sym (list_goes (member_found here) (member_list here) (λ s a. refl) (λ s a x rest. refl) (seen_state c.members.state) (seen_state c.member_found.new.state) c.members.seen c.in_ok-seen.seen members c.members.member-index c.member-item.result c.members-test.true c.member-item.is c.in_ok-seen.ensures.found) ∙ c.members.invariant.0, grows_on _ _ _ c.members.invariant.1 (c.in_ok-seen.ensures.grows))

pub members_found-returns : goal.members_found-returns
members_found-returns g t c =
    let here = here_at c.args.scene.now.facts.now (g.S.Surroundings.told c.args.scene.now.around.now) in
    let s = seen_state c.args.state.now in
    let members = c.args.members.now in
    record {
      found = sym c.members.invariant.0 ∙ list_ends (member_found here) (member_list here) (λ s a. refl) (λ s a x rest. refl) (seen_state c.members.state) c.members.seen members c.members.member-index c.members-test.false;
      grows = c.members.invariant.1;
    }

pub members_found-returns-in_err-seen : goal.members_found-returns-in_err-seen
members_found-returns-in_err-seen g t c =
    let here = here_at c.args.scene.now.facts.now (g.S.Surroundings.told c.args.scene.now.around.now) in
    let s = seen_state c.args.state.now in
    let members = c.args.members.now in
    let f = c.in_err-seen.field-0.0 in
    record {
      found = passes_failed (seen_state c.member_found.new.state) c.from_residual.result f _ c.from_residual.ensures.1 (fails_at f _ _ (sym c.members.invariant.0) (list_fails (member_found here) (member_list here) (λ s a. refl) (λ s a x rest. refl) (seen_state c.members.state) (seen_state c.member_found.new.state) c.members.seen members c.members.member-index c.member-item.result f c.members-test.true c.member-item.is c.in_err-seen.ensures.found));
      grows = err_on _ c.from_residual.result _ _ c.from_residual.ensures.1;
    }

pub member_found-returns-in_ok-said-in-Declares : goal.member_found-returns-in_ok-said-in-Declares
member_found-returns-in_ok-said-in-Declares g t c =
    let here = here_at c.args.scene.now.facts.now (g.S.Surroundings.told c.args.scene.now.around.now) in
    let s = seen_state c.args.state.now in
    let m = c.args.member.now in
    let so_far = c.args.seen in
    let specifiers = c.in-Declares.specifiers in
    let declarators = c.as_slice.result.now in
    let is : m ≡ member.Declares c.in-Declares.span specifiers declarators = cc in
    let whole = ap (member_found here s so_far) is ∙ declares_is here s so_far c.in-Declares.span specifiers declarators in
    record {
      found = passes_same (seen_state c.member_declarators.new.state) c.member_declarators.result _ _ (whole ∙ next_goes _ (declarators_behind here so_far declarators) (seen_state c.specifiers_said.new.state) c.in_ok-said-in-Declares.said (said_is here s specifiers c.place_of-place.result.standing standing.Member c.place_of-place.result.follows c.place_of-place.ensures.standing c.place_of-place.ensures.follows (seen_state c.specifiers_said.new.state) c.in_ok-said-in-Declares.said c.in_ok-said-in-Declares.ensures.found) ∙ ap (λ seen. member_declarator_list here (seen_state c.specifiers_said.new.state) c.in_ok-said-in-Declares.said.ty seen declarators) (sym c.also_declares-seen.ensures)) c.member_declarators.ensures.found;
      grows = ok_on c.member_declarators.result _ _ _ c.in_ok-said-in-Declares.ensures.grows c.member_declarators.ensures.grows;
    }

pub member_found-returns-in_err-said-in-Declares : goal.member_found-returns-in_err-said-in-Declares
member_found-returns-in_err-said-in-Declares g t c =
    let here = here_at c.args.scene.now.facts.now (g.S.Surroundings.told c.args.scene.now.around.now) in
    let s = seen_state c.args.state.now in
    let m = c.args.member.now in
    let so_far = c.args.seen in
    let specifiers = c.in-Declares.specifiers in
    let declarators = c.in-Declares.declarators in
    let is : m ≡ member.Declares c.in-Declares.span specifiers declarators = cc in
    let whole = ap (member_found here s so_far) is ∙ declares_is here s so_far c.in-Declares.span specifiers declarators in
    let f = c.in_err-said-in-Declares.field-0.0 in
    record {
      found = passes_failed (seen_state c.specifiers_said.new.state) c.from_residual.result f _ c.from_residual.ensures.1 (fails_at f _ _ whole (behind_passed (seen_state c.specifiers_said.new.state) f _ (declarators_behind here so_far declarators) (said_fails here s specifiers c.place_of-place.result.standing standing.Member c.place_of-place.result.follows c.place_of-place.ensures.standing c.place_of-place.ensures.follows (seen_state c.specifiers_said.new.state) f c.in_err-said-in-Declares.ensures.found)));
      grows = err_on _ c.from_residual.result _ _ c.from_residual.ensures.1;
    }

pub member_found-returns-in_ok-assertion_value-in-Asserts : goal.member_found-returns-in_ok-assertion_value-in-Asserts
member_found-returns-in_ok-assertion_value-in-Asserts g t c =
    let here = here_at c.args.scene.now.facts.now (g.S.Surroundings.told c.args.scene.now.around.now) in
    let s = seen_state c.args.state.now in
    let m = c.args.member.now in
    let so_far = c.args.seen in
    let a = c.in-Asserts.assertion in
    let is : m ≡ member.Asserts a = cc in
    let whole = ap (member_found here s so_far) is ∙ asserts_is here s so_far a in
    record {
      found = whole ∙ goes _ (as_before so_far) (seen_state c.assertion_value.new.state) _ _ c.in_ok-assertion_value-in-Asserts.ensures.found refl;
      grows = c.in_ok-assertion_value-in-Asserts.ensures.grows;
    }

pub member_found-returns-in_err-assertion_value-in-Asserts : goal.member_found-returns-in_err-assertion_value-in-Asserts
member_found-returns-in_err-assertion_value-in-Asserts g t c =
    let here = here_at c.args.scene.now.facts.now (g.S.Surroundings.told c.args.scene.now.around.now) in
    let s = seen_state c.args.state.now in
    let m = c.args.member.now in
    let so_far = c.args.seen in
    let a = c.in-Asserts.assertion in
    let is : m ≡ member.Asserts a = cc in
    let whole = ap (member_found here s so_far) is ∙ asserts_is here s so_far a in
    let f = c.in_err-assertion_value-in-Asserts.field-0.0 in
    record {
      found = passes_failed (seen_state c.assertion_value.new.state) c.from_residual-in_err-assertion_value-in-Asserts.result f _ c.from_residual-in_err-assertion_value-in-Asserts.ensures.1 (fails_at f _ _ whole (behind_passed (seen_state c.assertion_value.new.state) f _ (as_before so_far) c.in_err-assertion_value-in-Asserts.ensures.found));
      grows = err_on _ c.from_residual-in_err-assertion_value-in-Asserts.result _ _ c.from_residual-in_err-assertion_value-in-Asserts.ensures.1;
    }

pub member_declarators-declarators-init : goal.member_declarators-declarators-init
member_declarators-declarators-init g t c =
    let here = here_at c.args.scene.now.facts.now (g.S.Surroundings.told c.args.scene.now.around.now) in
    let s = seen_state c.args.state.now in
    let base = c.args.base in
    let declarators = c.args.declarators.now in
    (ap (λ seen. member_declarator_list here s base seen declarators) refl, stays c.args.state.now)

pub member_declarators-declarators-preserved : goal.member_declarators-declarators-preserved
member_declarators-declarators-preserved g t c =
    let here = here_at c.args.scene.now.facts.now (g.S.Surroundings.told c.args.scene.now.around.now) in
    let s = seen_state c.args.state.now in
    let base = c.args.base in
    let declarators = c.args.declarators.now in
    let d = c.declarator-item.result in
    (sym (list_goes (λ s so_far d. member_declared here s base so_far d) (λ s so_far ds. member_declarator_list here s base so_far ds) (λ s a. refl) (λ s a x rest. refl) (seen_state c.declarators.state) (seen_state c.declared_type.new.state) c.declarators.seen c.in_ok-seen.seen declarators c.declarators.declarator-index d c.declarators-test.true c.declarator-item.is (member_goes here (seen_state c.declarators.state) base c.declarators.seen d (seen_state c.formed.new.state) c.in_ok-formed.formed c.in_ok-formed.ensures.found (seen_state c.declared_type.new.state) c.in_ok-part.part (typed_is (line_of d) (seen_state c.formed.new.state) base c.in_ok-formed.formed.derivations c.as_slice.result.now c.as_slice.ensures (seen_state c.declared_type.new.state) c.in_ok-part.part c.in_ok-part.ensures.found) c.in_ok-part-2.part c.in_ok-seen.seen c.in_ok-part-2.ensures c.in_ok-seen.ensures)) ∙ c.declarators.invariant.0, grows_on _ _ _ c.declarators.invariant.1 (grows_on _ _ _ c.in_ok-formed.ensures.grows c.in_ok-part.ensures.grows))

pub member_declarators-returns : goal.member_declarators-returns
member_declarators-returns g t c =
    let here = here_at c.args.scene.now.facts.now (g.S.Surroundings.told c.args.scene.now.around.now) in
    let s = seen_state c.args.state.now in
    let base = c.args.base in
    let declarators = c.args.declarators.now in
    record {
      found = sym c.declarators.invariant.0 ∙ list_ends (λ s so_far d. member_declared here s base so_far d) (λ s so_far ds. member_declarator_list here s base so_far ds) (λ s a. refl) (λ s a x rest. refl) (seen_state c.declarators.state) c.declarators.seen declarators c.declarators.declarator-index c.declarators-test.false;
      grows = c.declarators.invariant.1;
    }

pub member_declarators-returns-in_err-formed : goal.member_declarators-returns-in_err-formed
member_declarators-returns-in_err-formed g t c =
    let here = here_at c.args.scene.now.facts.now (g.S.Surroundings.told c.args.scene.now.around.now) in
    let s = seen_state c.args.state.now in
    let base = c.args.base in
    let declarators = c.args.declarators.now in
    let d = c.declarator-item.result in
    let f = c.in_err-formed.field-0.0 in
    record {
      found = passes_failed (seen_state c.formed.new.state) c.from_residual.result f _ c.from_residual.ensures.1 (fails_at f _ _ (sym c.declarators.invariant.0) (list_stops_at (λ s so_far d. member_declared here s base so_far d) (λ s so_far ds. member_declarator_list here s base so_far ds) (λ s a. refl) (λ s a x rest. refl) (seen_state c.declarators.state) c.declarators.seen declarators c.declarators.declarator-index c.declarator-item.result f c.declarators-test.true c.declarator-item.is (member_fails_formed here (seen_state c.declarators.state) base c.declarators.seen d (seen_state c.formed.new.state) f c.in_err-formed.ensures.found)));
      grows = err_on _ c.from_residual.result _ _ c.from_residual.ensures.1;
    }

pub member_declarators-returns-in_err-part : goal.member_declarators-returns-in_err-part
member_declarators-returns-in_err-part g t c =
    let here = here_at c.args.scene.now.facts.now (g.S.Surroundings.told c.args.scene.now.around.now) in
    let s = seen_state c.args.state.now in
    let base = c.args.base in
    let declarators = c.args.declarators.now in
    let d = c.declarator-item.result in
    let f = c.in_err-part.field-0.0 in
    record {
      found = passes_failed (seen_state c.declared_type.new.state) c.from_residual-in_err-part.result f _ c.from_residual-in_err-part.ensures.1 (fails_at f _ _ (sym c.declarators.invariant.0) (list_stops_at (λ s so_far d. member_declared here s base so_far d) (λ s so_far ds. member_declarator_list here s base so_far ds) (λ s a. refl) (λ s a x rest. refl) (seen_state c.declarators.state) c.declarators.seen declarators c.declarators.declarator-index c.declarator-item.result f c.declarators-test.true c.declarator-item.is (member_fails_typed here (seen_state c.declarators.state) base c.declarators.seen d (seen_state c.formed.new.state) c.in_ok-formed.formed c.in_ok-formed.ensures.found (seen_state c.declared_type.new.state) f (typed_fails (line_of d) (seen_state c.formed.new.state) base c.in_ok-formed.formed.derivations c.as_slice.result.now c.as_slice.ensures (seen_state c.declared_type.new.state) f c.in_err-part.ensures.found))));
      grows = err_on _ c.from_residual-in_err-part.result _ _ c.from_residual-in_err-part.ensures.1;
    }

pub member_declarators-returns-in_err-part-2 : goal.member_declarators-returns-in_err-part-2
member_declarators-returns-in_err-part-2 g t c =
    let here = here_at c.args.scene.now.facts.now (g.S.Surroundings.told c.args.scene.now.around.now) in
    let s = seen_state c.args.state.now in
    let base = c.args.base in
    let declarators = c.args.declarators.now in
    let d = c.declarator-item.result in
    let f = c.in_err-part-2.field-0.0 in
    record {
      found = passes_failed (seen_state c.declared_type.new.state) c.from_residual-in_err-part-2.result f _ c.from_residual-in_err-part-2.ensures.1 (fails_at f _ _ (sym c.declarators.invariant.0) (list_stops_at (λ s so_far d. member_declared here s base so_far d) (λ s so_far ds. member_declarator_list here s base so_far ds) (λ s a. refl) (λ s a x rest. refl) (seen_state c.declarators.state) c.declarators.seen declarators c.declarators.declarator-index c.declarator-item.result f c.declarators-test.true c.declarator-item.is (member_fails_rules here (seen_state c.declarators.state) base c.declarators.seen d (seen_state c.formed.new.state) c.in_ok-formed.formed c.in_ok-formed.ensures.found (seen_state c.declared_type.new.state) c.in_ok-part.part (typed_is (line_of d) (seen_state c.formed.new.state) base c.in_ok-formed.formed.derivations c.as_slice.result.now c.as_slice.ensures (seen_state c.declared_type.new.state) c.in_ok-part.part c.in_ok-part.ensures.found) f c.in_err-part-2.ensures)));
      grows = err_on _ c.from_residual-in_err-part-2.result _ _ c.from_residual-in_err-part-2.ensures.1;
    }

pub formed-returns : goal.formed-returns
formed-returns g t c =
    let here = here_at c.args.scene.now.facts.now (g.S.Surroundings.told c.args.scene.now.around.now) in
    let s = seen_state c.args.state.now in
    let d = c.args.declarator.now in
    let whole = formed_is here s d in
    record {
      found = whole ∙ goes _ (suffixes_behind here d) (seen_state c.core_formed.new.state) c.in_ok-inside.inside _ c.in_ok-inside.ensures.found (goes _ (joined_behind d c.in_ok-inside.inside) (seen_state c.suffixes_formed.new.state) c.in_ok-own.own _ (ap (λ xs. suffix_list here (seen_state c.core_formed.new.state) xs) (sym c.as_slice.ensures) ∙ c.in_ok-own.ensures.found) (joined_is d c.in_ok-inside.inside c.in_ok-own.own (seen_state c.suffixes_formed.new.state) c.as_slice-2.result.now c.in_ok-joined.field-0 c.as_slice-2.ensures c.in_ok-joined.ensures));
      grows = grows_on _ _ _ c.in_ok-inside.ensures.grows c.in_ok-own.ensures.grows;
    }

pub formed-returns-in_err-inside : goal.formed-returns-in_err-inside
formed-returns-in_err-inside g t c =
    let here = here_at c.args.scene.now.facts.now (g.S.Surroundings.told c.args.scene.now.around.now) in
    let s = seen_state c.args.state.now in
    let d = c.args.declarator.now in
    let whole = formed_is here s d in
    let f = c.in_err-inside.field-0.0 in
    record {
      found = passes_failed (seen_state c.core_formed.new.state) c.from_residual.result f _ c.from_residual.ensures.1 (fails_at f _ _ whole (behind_passed (seen_state c.core_formed.new.state) f _ (suffixes_behind here d) c.in_err-inside.ensures.found));
      grows = err_on _ c.from_residual.result _ _ c.from_residual.ensures.1;
    }

pub formed-returns-in_err-own : goal.formed-returns-in_err-own
formed-returns-in_err-own g t c =
    let here = here_at c.args.scene.now.facts.now (g.S.Surroundings.told c.args.scene.now.around.now) in
    let s = seen_state c.args.state.now in
    let d = c.args.declarator.now in
    let whole = formed_is here s d in
    let f = c.in_err-own.field-0.0 in
    record {
      found = passes_failed (seen_state c.suffixes_formed.new.state) c.from_residual-in_err-own.result f _ c.from_residual-in_err-own.ensures.1 (fails_at f _ _ whole (stops _ (suffixes_behind here d) (seen_state c.core_formed.new.state) c.in_ok-inside.inside f c.in_ok-inside.ensures.found (own_fails here d c.in_ok-inside.inside (seen_state c.core_formed.new.state) (seen_state c.suffixes_formed.new.state) f c.as_slice.result.now c.as_slice.ensures c.in_err-own.ensures.found)));
      grows = err_on _ c.from_residual-in_err-own.result _ _ c.from_residual-in_err-own.ensures.1;
    }

pub suffixes_formed-suffixes-init : goal.suffixes_formed-suffixes-init
suffixes_formed-suffixes-init g t c =
    let here = here_at c.args.scene.now.facts.now (g.S.Surroundings.told c.args.scene.now.around.now) in
    let s = seen_state c.args.state.now in
    let suffixes = c.args.suffixes.now in
    (ap (λ own. suffix_list_on here s own suffixes) c.plain-own.ensures, stays c.args.state.now)

pub suffixes_formed-suffixes-preserved : goal.suffixes_formed-suffixes-preserved
suffixes_formed-suffixes-preserved g t c =
    let here = here_at c.args.scene.now.facts.now (g.S.Surroundings.told c.args.scene.now.around.now) in
    let s = seen_state c.args.state.now in
    let suffixes = c.args.suffixes.now in
    (sym (list_goes (suffix_with here) (suffix_list_on here) (λ s a. refl) (suffix_goes here) (seen_state c.suffixes.state) (seen_state c.suffix_formed.new.state) c.suffixes.own c.in_ok-own.own suffixes c.suffixes.suffix-index c.suffix-item.result c.suffixes-test.true c.suffix-item.is (suffix_one here (seen_state c.suffixes.state) (seen_state c.suffix_formed.new.state) c.suffixes.own c.in_ok-own.own c.suffix-item.result c.in_ok-one.one c.in_ok-one.ensures.found c.in_ok-own.ensures)) ∙ c.suffixes.invariant.0, grows_on _ _ _ c.suffixes.invariant.1 c.in_ok-one.ensures.grows)

pub suffixes_formed-returns : goal.suffixes_formed-returns
suffixes_formed-returns g t c =
    let here = here_at c.args.scene.now.facts.now (g.S.Surroundings.told c.args.scene.now.around.now) in
    let s = seen_state c.args.state.now in
    let suffixes = c.args.suffixes.now in
    record {
      found = sym c.suffixes.invariant.0 ∙ list_ends (suffix_with here) (suffix_list_on here) (λ s a. refl) (suffix_goes here) (seen_state c.suffixes.state) c.suffixes.own suffixes c.suffixes.suffix-index c.suffixes-test.false;
      grows = c.suffixes.invariant.1;
    }

pub suffixes_formed-returns-in_err-one : goal.suffixes_formed-returns-in_err-one
suffixes_formed-returns-in_err-one g t c =
    let here = here_at c.args.scene.now.facts.now (g.S.Surroundings.told c.args.scene.now.around.now) in
    let s = seen_state c.args.state.now in
    let suffixes = c.args.suffixes.now in
    let f = c.in_err-one.field-0.0 in
    record {
      found = passes_failed (seen_state c.suffix_formed.new.state) c.from_residual.result f _ c.from_residual.ensures.1 (fails_at f _ _ (sym c.suffixes.invariant.0) (list_stops_at (suffix_with here) (suffix_list_on here) (λ s a. refl) (suffix_goes here) (seen_state c.suffixes.state) c.suffixes.own suffixes c.suffixes.suffix-index c.suffix-item.result f c.suffixes-test.true c.suffix-item.is (suffix_one_fails here (seen_state c.suffixes.state) (seen_state c.suffix_formed.new.state) c.suffixes.own c.suffix-item.result f c.in_err-one.ensures.found)));
      grows = err_on _ c.from_residual.result _ _ c.from_residual.ensures.1;
    }

pub core_formed-returns-in-Parens : goal.core_formed-returns-in-Parens
core_formed-returns-in-Parens g t c =
    let here = here_at c.args.scene.now.facts.now (g.S.Surroundings.told c.args.scene.now.around.now) in
    let s = seen_state c.args.state.now in
    let k = c.args.core.now in
    let inside = c.get.result.now in
    let is : k ≡ core.Parens inside = cc in
    record {
      found = passes_same (seen_state c.formed.new.state) c.formed.result _ _ (ap (core_formed here s) is ∙ parens_formed here s inside) c.formed.ensures.found;
      grows = c.formed.ensures.grows;
    }

pub suffix_formed-returns-in_ok-size_formed-in-Some : goal.suffix_formed-returns-in_ok-size_formed-in-Some
suffix_formed-returns-in_ok-size_formed-in-Some g t c =
    let here = here_at c.args.scene.now.facts.now (g.S.Surroundings.told c.args.scene.now.around.now) in
    let s = seen_state c.args.state.now in
    let k = c.args.kind.now in
    let size = c.in-Some.size in
    let is : k ≡ suffix.Array (Some size) = c.in-Array.is ∙ ap suffix.Array c.in-Some.is in
    let whole = ap (suffix_made here s) is ∙ size_is here s size in
    record {
      found = whole ∙ goes _ array_behind (seen_state c.size_formed.new.state) _ _ c.in_ok-size_formed-in-Some.ensures.found refl;
      grows = c.in_ok-size_formed-in-Some.ensures.grows;
    }

pub suffix_formed-returns-in_err-size_formed-in-Some : goal.suffix_formed-returns-in_err-size_formed-in-Some
suffix_formed-returns-in_err-size_formed-in-Some g t c =
    let here = here_at c.args.scene.now.facts.now (g.S.Surroundings.told c.args.scene.now.around.now) in
    let s = seen_state c.args.state.now in
    let k = c.args.kind.now in
    let size = c.in-Some.size in
    let is : k ≡ suffix.Array (Some size) = cc in
    let whole = ap (suffix_made here s) is ∙ size_is here s size in
    let f = c.in_err-size_formed-in-Some.field-0.0 in
    record {
      found = passes_failed (seen_state c.size_formed.new.state) c.from_residual.result f _ c.from_residual.ensures.1 (fails_at f _ _ whole (behind_passed (seen_state c.size_formed.new.state) f _ array_behind c.in_err-size_formed-in-Some.ensures.found));
      grows = err_on _ c.from_residual.result _ _ c.from_residual.ensures.1;
    }

pub suffix_formed-returns-in_ok-function_suffix-in-Function : goal.suffix_formed-returns-in_ok-function_suffix-in-Function
suffix_formed-returns-in_ok-function_suffix-in-Function g t c =
    let here = here_at c.args.scene.now.facts.now (g.S.Surroundings.told c.args.scene.now.around.now) in
    let s = seen_state c.args.state.now in
    let k = c.args.kind.now in
    let parameters = c.as_slice.result.now in
    let is : k ≡ suffix.Function parameters c.in-Function.scope = cc in
    let whole = ap (suffix_made here s) is ∙ function_is here s parameters c.in-Function.scope ∙ ap (λ s. next (parameter_list here s [] parameters) function_behind) (sym c.in_ok-enter-in-Function.ensures.state) in
    record {
      found = whole ∙ goes _ function_behind (seen_state c.parameters_found.new.state) c.in_ok-listed-in-Function.listed _ c.in_ok-listed-in-Function.ensures.found (function_is_found c.parameters_found.new.state (record c.parameters_found.new.state { scopes = c.leave_with.new.self }) c.function_suffix.new.state c.in_ok-scope-in-Function.scope c.in_ok-listed-in-Function.listed c.in_ok-function_suffix-in-Function.field-0 (ap (λ names. record c.parameters_found.new.state { scopes = names }) c.in_ok-scope-in-Function.ensures.ok) c.in_ok-scope-in-Function.ensures.scope c.in_ok-function_suffix-in-Function.ensures.state c.in_ok-function_suffix-in-Function.ensures.found);
      grows = block_grows c.args.state.now c.enter.new.state c.parameters_found.new.state (record c.parameters_found.new.state { scopes = c.leave_with.new.self }) c.function_suffix.new.state c.in_ok-enter-in-Function.ensures.lists c.in_ok-enter-in-Function.ensures.depth c.in_ok-listed-in-Function.ensures.grows (ap (λ names. record c.parameters_found.new.state { scopes = names }) c.in_ok-scope-in-Function.ensures.ok) c.in_ok-function_suffix-in-Function.ensures.grows;
    }

pub suffix_formed-returns-in_err-listed-in-Function : goal.suffix_formed-returns-in_err-listed-in-Function
suffix_formed-returns-in_err-listed-in-Function g t c =
    let here = here_at c.args.scene.now.facts.now (g.S.Surroundings.told c.args.scene.now.around.now) in
    let s = seen_state c.args.state.now in
    let k = c.args.kind.now in
    let parameters = c.as_slice.result.now in
    let is : k ≡ suffix.Function parameters c.in-Function.scope = cc in
    let whole = ap (suffix_made here s) is ∙ function_is here s parameters c.in-Function.scope ∙ ap (λ s. next (parameter_list here s [] parameters) function_behind) (sym c.in_ok-enter-in-Function.ensures.state) in
    let f = c.in_err-listed-in-Function.field-0.0 in
    record {
      found = passes_failed (seen_state c.parameters_found.new.state) c.from_residual-in_err-listed-in-Function.result f _ c.from_residual-in_err-listed-in-Function.ensures.1 (fails_at f _ _ whole (behind_passed (seen_state c.parameters_found.new.state) f _ function_behind c.in_err-listed-in-Function.ensures.found));
      grows = err_on _ c.from_residual-in_err-listed-in-Function.result _ _ c.from_residual-in_err-listed-in-Function.ensures.1;
    }

pub suffix_formed-leave_with-requires : goal.suffix_formed-leave_with-requires
suffix_formed-leave_with-requires g t c =
    let here = here_at c.args.scene.now.facts.now (g.S.Surroundings.told c.args.scene.now.around.now) in
    omega (arith, c.in_ok-enter-in-Function.ensures.inside, c.in_ok-listed-in-Function.ensures.grows.depth)

pub parameters_found-parameters-init : goal.parameters_found-parameters-init
parameters_found-parameters-init g t c =
    let here = here_at c.args.scene.now.facts.now (g.S.Surroundings.told c.args.scene.now.around.now) in
    let s = seen_state c.args.state.now in
    let parameters = c.args.parameters.now in
    (ap (λ so_far. parameter_list here s so_far parameters) c.new-listed.ensures, stays c.args.state.now)

pub parameters_found-parameters-preserved : goal.parameters_found-parameters-preserved
parameters_found-parameters-preserved g t c =
    let here = here_at c.args.scene.now.facts.now (g.S.Surroundings.told c.args.scene.now.around.now) in
    let s = seen_state c.args.state.now in
    let parameters = c.args.parameters.now in
    (sym (list_goes (parameter_with here) (parameter_list here) (λ s a. refl) (parameter_goes here) (seen_state c.parameters.state) (seen_state c.parameter_found.new.state) c.parameters.listed c.push.new.self parameters c.parameters.parameter-index c.parameter-item.result c.parameters-test.true c.parameter-item.is (parameter_one here (seen_state c.parameters.state) c.parameters.listed c.parameter-item.result (seen_state c.parameter_found.new.state) c.push.new.self c.in_ok-one.one (parameter_found_is here (seen_state c.parameters.state) (seen_state c.specifiers_said.new.state) (seen_state c.formed.new.state) (length c.parameters.listed) c.in_ok-index.index c.parameter-item.result c.in_ok-said.said c.in_ok-formed.formed (c.in_ok-index.ensures ∙ c.len.ensures) (said_is here (seen_state c.parameters.state) (out-Parameter c.parameter-item.result).specifiers c.place_of-place.result.standing standing.Parameter c.place_of-place.result.follows c.place_of-place.ensures.standing c.place_of-place.ensures.follows (seen_state c.specifiers_said.new.state) c.in_ok-said.said c.in_ok-said.ensures.found) c.in_ok-formed.ensures.found (seen_state c.parameter_found.new.state) c.in_ok-one.one c.in_ok-one.ensures.found) c.in_ok-push.ensures.ok)) ∙ c.parameters.invariant.0, grows_on _ _ _ c.parameters.invariant.1 (grows_on _ _ _ c.in_ok-said.ensures.grows (grows_on _ _ _ c.in_ok-formed.ensures.grows c.in_ok-one.ensures.grows)))

pub parameters_found-returns : goal.parameters_found-returns
parameters_found-returns g t c =
    let here = here_at c.args.scene.now.facts.now (g.S.Surroundings.told c.args.scene.now.around.now) in
    let s = seen_state c.args.state.now in
    let parameters = c.args.parameters.now in
    record {
      found = sym c.parameters.invariant.0 ∙ list_ends (parameter_with here) (parameter_list here) (λ s a. refl) (parameter_goes here) (seen_state c.parameters.state) c.parameters.listed parameters c.parameters.parameter-index c.parameters-test.false;
      grows = c.parameters.invariant.1;
    }

pub parameters_found-returns-in_err-said : goal.parameters_found-returns-in_err-said
parameters_found-returns-in_err-said g t c =
    let here = here_at c.args.scene.now.facts.now (g.S.Surroundings.told c.args.scene.now.around.now) in
    let s = seen_state c.args.state.now in
    let parameters = c.args.parameters.now in
    let f = c.in_err-said.field-0.0 in
    record {
      found = passes_failed (seen_state c.specifiers_said.new.state) c.from_residual.result f _ c.from_residual.ensures.1 (fails_at f _ _ (sym c.parameters.invariant.0) (list_stops_at (parameter_with here) (parameter_list here) (λ s a. refl) (parameter_goes here) (seen_state c.parameters.state) c.parameters.listed parameters c.parameters.parameter-index c.parameter-item.result f c.parameters-test.true c.parameter-item.is (parameter_one_stops here (seen_state c.parameters.state) c.parameters.listed c.parameter-item.result f (parameter_fails_said here (seen_state c.parameters.state) (length c.parameters.listed) c.parameter-item.result (seen_state c.specifiers_said.new.state) f (said_fails here (seen_state c.parameters.state) (out-Parameter c.parameter-item.result).specifiers c.place_of-place.result.standing standing.Parameter c.place_of-place.result.follows c.place_of-place.ensures.standing c.place_of-place.ensures.follows (seen_state c.specifiers_said.new.state) f c.in_err-said.ensures.found)))));
      grows = err_on _ c.from_residual.result _ _ c.from_residual.ensures.1;
    }

pub parameters_found-returns-in_err-formed : goal.parameters_found-returns-in_err-formed
parameters_found-returns-in_err-formed g t c =
    let here = here_at c.args.scene.now.facts.now (g.S.Surroundings.told c.args.scene.now.around.now) in
    let s = seen_state c.args.state.now in
    let parameters = c.args.parameters.now in
    let f = c.in_err-formed.field-0.0 in
    record {
      found = passes_failed (seen_state c.formed.new.state) c.from_residual-in_err-formed.result f _ c.from_residual-in_err-formed.ensures.1 (fails_at f _ _ (sym c.parameters.invariant.0) (list_stops_at (parameter_with here) (parameter_list here) (λ s a. refl) (parameter_goes here) (seen_state c.parameters.state) c.parameters.listed parameters c.parameters.parameter-index c.parameter-item.result f c.parameters-test.true c.parameter-item.is (parameter_one_stops here (seen_state c.parameters.state) c.parameters.listed c.parameter-item.result f (parameter_fails_formed here (seen_state c.parameters.state) (length c.parameters.listed) c.parameter-item.result (seen_state c.specifiers_said.new.state) c.in_ok-said.said (said_is here (seen_state c.parameters.state) (out-Parameter c.parameter-item.result).specifiers c.place_of-place.result.standing standing.Parameter c.place_of-place.result.follows c.place_of-place.ensures.standing c.place_of-place.ensures.follows (seen_state c.specifiers_said.new.state) c.in_ok-said.said c.in_ok-said.ensures.found) (seen_state c.formed.new.state) f c.in_err-formed.ensures.found))));
      grows = err_on _ c.from_residual-in_err-formed.result _ _ c.from_residual-in_err-formed.ensures.1;
    }

pub parameters_found-returns-in_err-one : goal.parameters_found-returns-in_err-one
parameters_found-returns-in_err-one g t c =
    let here = here_at c.args.scene.now.facts.now (g.S.Surroundings.told c.args.scene.now.around.now) in
    let s = seen_state c.args.state.now in
    let parameters = c.args.parameters.now in
    let f = c.in_err-one.field-0.0 in
    record {
      found = passes_failed (seen_state c.parameter_found.new.state) c.from_residual-in_err-one.result f _ c.from_residual-in_err-one.ensures.1 (fails_at f _ _ (sym c.parameters.invariant.0) (list_stops_at (parameter_with here) (parameter_list here) (λ s a. refl) (parameter_goes here) (seen_state c.parameters.state) c.parameters.listed parameters c.parameters.parameter-index c.parameter-item.result f c.parameters-test.true c.parameter-item.is (parameter_one_fails here (seen_state c.parameters.state) c.parameters.listed c.parameter-item.result (seen_state c.parameter_found.new.state) f (parameter_found_fails here (seen_state c.parameters.state) (seen_state c.specifiers_said.new.state) (seen_state c.formed.new.state) (length c.parameters.listed) c.in_ok-index.index c.parameter-item.result c.in_ok-said.said c.in_ok-formed.formed (c.in_ok-index.ensures ∙ c.len.ensures) (said_is here (seen_state c.parameters.state) (out-Parameter c.parameter-item.result).specifiers c.place_of-place.result.standing standing.Parameter c.place_of-place.result.follows c.place_of-place.ensures.standing c.place_of-place.ensures.follows (seen_state c.specifiers_said.new.state) c.in_ok-said.said c.in_ok-said.ensures.found) c.in_ok-formed.ensures.found (seen_state c.parameter_found.new.state) f c.in_err-one.ensures.found))));
      grows = err_on _ c.from_residual-in_err-one.result _ _ c.from_residual-in_err-one.ensures.1;
    }
