-- The greatest of what the parts need is what the function needs, and a u32 holds it or doesn't.
use Rattle.std.proofs.Common.{ap, ◌∙◌}
use Rattle.c_file_rules.specs.Values.{greatest, item_temporaries, function_temporaries}
use Rattle.c_temporaries.specs.TemporaryLists.{as_u64}
use Rattle.c_temporaries.proofs.Most.{greater_count, whole_count}
use Rattle.c_temporaries.proofs.needs.function_temporaries.Goals as goal

pub returns : goal.returns
returns c =
    let body = c.temporaries_in-body.ensures ∙ ap (λ x. as_u64 (greatest item_temporaries x)) c.as_slice.ensures in
    let inner = greater_count _ _ _ _ _ c.declarator_temporaries-declared.ensures body c.max.ensures in
    let all = greater_count _ _ _ _ _ c.specifiers_temporaries-specified.ensures inner c.max-2.ensures in
    whole_count _ _ (function_temporaries c.args.function.now) all c.in_32_bits.ensures
