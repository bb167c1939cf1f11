-- The greatest need so far and that of the rest of a list are that of all of it. The recursion ends by the trees' depth.
use Rattle.std.proofs.Common.{◌≡◌, ◌+◌, max, drop}
use Rattle.c_temporaries.specs.TemporaryLists.{as_u64, most_of_operators, most_of_arguments, most_of_links, most_of_seconds, most_of_specifiers, most_of_members, most_of_constants, most_of_declarators, most_of_suffixes, most_of_parameters}
use Rattle.c_temporaries.proofs.temporaries.+temporaries.Given as goal

abbrev pub invariant-operators_temporaries-operators : goal.invariant-operators_temporaries-operators
invariant-operators_temporaries-operators l = max (as_u64 (most_of_operators (drop l.operator-index l.operators))) l.most ≡ as_u64 (most_of_operators l.operators)

abbrev pub invariant-links_temporaries-links : goal.invariant-links_temporaries-links
invariant-links_temporaries-links l = max (as_u64 (most_of_links (drop l.link-index l.links))) l.most ≡ as_u64 (most_of_links l.links)

abbrev pub invariant-seconds_temporaries-rest : goal.invariant-seconds_temporaries-rest
invariant-seconds_temporaries-rest l = max (as_u64 (most_of_seconds (drop l.next-index l.rest))) l.most ≡ as_u64 (most_of_seconds l.rest)

abbrev pub invariant-list_temporaries-specifiers : goal.invariant-list_temporaries-specifiers
invariant-list_temporaries-specifiers l = max (as_u64 (most_of_specifiers (drop l.specifier-index l.specifiers))) l.most ≡ as_u64 (most_of_specifiers l.specifiers)

abbrev pub invariant-members_temporaries-members : goal.invariant-members_temporaries-members
invariant-members_temporaries-members l = max (as_u64 (most_of_members (drop l.member-index l.members))) l.most ≡ as_u64 (most_of_members l.members)

abbrev pub invariant-constants_temporaries-constants : goal.invariant-constants_temporaries-constants
invariant-constants_temporaries-constants l = max (as_u64 (most_of_constants (drop l.constant-index l.constants))) l.most ≡ as_u64 (most_of_constants l.constants)

abbrev pub invariant-declarators_temporaries-declarators : goal.invariant-declarators_temporaries-declarators
invariant-declarators_temporaries-declarators l = max (as_u64 (most_of_declarators (drop l.declarator-index l.declarators))) l.most ≡ as_u64 (most_of_declarators l.declarators)

abbrev pub invariant-suffixes_temporaries-suffixes : goal.invariant-suffixes_temporaries-suffixes
invariant-suffixes_temporaries-suffixes l = max (as_u64 (most_of_suffixes (drop l.suffix-index l.suffixes))) l.most ≡ as_u64 (most_of_suffixes l.suffixes)

abbrev pub invariant-parameters_temporaries-parameters : goal.invariant-parameters_temporaries-parameters
invariant-parameters_temporaries-parameters l = max (as_u64 (most_of_parameters (drop l.parameter-index l.parameters))) l.most ≡ as_u64 (most_of_parameters l.parameters)

abbrev pub invariant-arguments_temporaries-arguments : goal.invariant-arguments_temporaries-arguments
invariant-arguments_temporaries-arguments l =
    (max (as_u64 (most_of_arguments (l.argument-index + 1) (drop l.argument-index l.arguments))) l.most ≡ as_u64 (most_of_arguments 1 l.arguments))
    × (l.index ≡ as_u64 (l.argument-index + 1))
