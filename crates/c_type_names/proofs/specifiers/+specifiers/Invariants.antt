-- The recursion ends since each part nests less than what it stands in. A list is no deeper than its deepest element, so what
-- goes over one ranks above what looks at an element.
--
-- In each loop what is found so far, with the rest of the list, is what all of the list gives.
use Rattle.std.proofs.Common.{◌≡◌, ◌+◌, ◌*◌, [], drop}
use Rattle.c_expr_rules.specs.Views.{seen_state, Grows}
use Rattle.c_names.specs.Code.{here_at}
use Rattle.c_type_parts.specs.Lists.{specifier_list, member_list, member_declarator_list, suffix_list, suffix_list_on, parameter_list}
use Rattle.c_file_rules.specs.Specifiers.{no_parts}
use Rattle.c_file_rules.specs.Tags.{no_members}
use Rattle.c_type_names.proofs.specifiers.+specifiers.Given as goal

abbrev pub decreases-type_said : goal.decreases-type_said
decreases-type_said g l = 8 * goal.size-type_said g l

abbrev pub decreases-specifier_found : goal.decreases-specifier_found
decreases-specifier_found g l = 8 * goal.size-specifier_found g l + 1

abbrev pub decreases-specifiers_said : goal.decreases-specifiers_said
decreases-specifiers_said g l = 8 * goal.size-specifiers_said g l + 2

abbrev pub decreases-formed : goal.decreases-formed
decreases-formed g l = 8 * goal.size-formed g l + 3

abbrev pub decreases-suffix_formed : goal.decreases-suffix_formed
decreases-suffix_formed g l = 8 * goal.size-suffix_formed g l + 4

abbrev pub decreases-core_formed : goal.decreases-core_formed
decreases-core_formed g l = 8 * goal.size-core_formed g l + 4

abbrev pub decreases-suffixes_formed : goal.decreases-suffixes_formed
decreases-suffixes_formed g l = 8 * goal.size-suffixes_formed g l + 5

abbrev pub decreases-parameters_found : goal.decreases-parameters_found
decreases-parameters_found g l = 8 * goal.size-parameters_found g l + 6

abbrev pub decreases-member_declarators : goal.decreases-member_declarators
decreases-member_declarators g l = 8 * goal.size-member_declarators g l + 6

abbrev pub decreases-member_found : goal.decreases-member_found
decreases-member_found g l = 8 * goal.size-member_found g l + 6

abbrev pub decreases-members_found : goal.decreases-members_found
decreases-members_found g l = 8 * goal.size-members_found g l + 7

abbrev pub invariant-specifiers_said-specifiers : goal.invariant-specifiers_said-specifiers
invariant-specifiers_said-specifiers g l =
    let here = here_at l.scene.facts.now (g.S.Surroundings.told l.scene.around.now) in
    (specifier_list here l.is_alone (seen_state l.state) l.parts (drop l.specifier-index l.list)
    ≡ specifier_list here l.is_alone (seen_state l.fn.state) no_parts l.list)
    × Grows l.fn.state l.state

abbrev pub invariant-members_found-members : goal.invariant-members_found-members
invariant-members_found-members g l =
    let here = here_at l.scene.facts.now (g.S.Surroundings.told l.scene.around.now) in
    (member_list here (seen_state l.state) l.seen (drop l.member-index l.members)
    ≡ member_list here (seen_state l.fn.state) no_members l.members)
    × Grows l.fn.state l.state

abbrev pub invariant-member_declarators-declarators : goal.invariant-member_declarators-declarators
invariant-member_declarators-declarators g l =
    let here = here_at l.scene.facts.now (g.S.Surroundings.told l.scene.around.now) in
    (member_declarator_list here (seen_state l.state) l.base l.seen (drop l.declarator-index l.declarators)
    ≡ member_declarator_list here (seen_state l.fn.state) l.base l.fn.seen l.declarators)
    × Grows l.fn.state l.state

abbrev pub invariant-suffixes_formed-suffixes : goal.invariant-suffixes_formed-suffixes
invariant-suffixes_formed-suffixes g l =
    let here = here_at l.scene.facts.now (g.S.Surroundings.told l.scene.around.now) in
    (suffix_list_on here (seen_state l.state) l.own (drop l.suffix-index l.suffixes)
    ≡ suffix_list here (seen_state l.fn.state) l.suffixes)
    × Grows l.fn.state l.state

abbrev pub invariant-parameters_found-parameters : goal.invariant-parameters_found-parameters
invariant-parameters_found-parameters g l =
    let here = here_at l.scene.facts.now (g.S.Surroundings.told l.scene.around.now) in
    (parameter_list here (seen_state l.state) l.listed (drop l.parameter-index l.parameters)
    ≡ parameter_list here (seen_state l.fn.state) [] l.parameters)
    × Grows l.fn.state l.state
