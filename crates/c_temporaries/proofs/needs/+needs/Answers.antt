-- A statement needs what its parts need, and a block the greatest need of what stands in it.
use Rattle.std.proofs.Common.{sym, ap, ◌∙◌}
use Rattle.c_file_rules.specs.Values.{greatest, kind_temporaries, item_temporaries, switch_item_temporaries}
use Rattle.c_temporaries.specs.Needs.{statement_temporaries, otherwise_temporaries}
use Rattle.c_temporaries.specs.TemporaryLists.{as_u64}
use Rattle.c_temporaries.proofs.Most.{greater_count}
use Rattle.c_temporaries.proofs.StatementNeeds.{block_needs, if_needs, while_needs, do_needs, for_needs, switch_needs}
use Rattle.c_temporaries.proofs.needs.+needs.Goals as goal

pub in_statement-returns-in-Block : goal.in_statement-returns-in-Block
in_statement-returns-in-Block t c =
    let all = ap (greatest item_temporaries) c.as_slice.ensures ∙ sym (block_needs c.in-Block.block) ∙ ap kind_temporaries (sym c.in-Block.is) in
    c.temporaries_in.ensures ∙ ap as_u64 all

pub in_statement-returns-in-If : goal.in_statement-returns-in-If
in_statement-returns-in-If t c =
    let whole = ap kind_temporaries c.in-If.is ∙ if_needs c.in-If.condition c.in-If.then c.in-If.otherwise in
    let one = c.in_statement-one.ensures ∙ ap (λ x. as_u64 (statement_temporaries x)) c.get.ensures in
    let both = greater_count _ _ _ _ _ one c.in_otherwise-other.ensures c.max.ensures in
    greater_count _ _ _ _ _ c.temporaries_of-in-If.ensures both c.max-in-If.ensures ∙ ap as_u64 (sym whole)

pub in_statement-returns-in-While : goal.in_statement-returns-in-While
in_statement-returns-in-While t c =
    let whole = ap kind_temporaries c.in-While.is ∙ while_needs c.in-While.condition c.in-While.body in
    let inner = c.in_statement.ensures ∙ ap (λ x. as_u64 (statement_temporaries x)) c.get-in-While.ensures in
    greater_count _ _ _ _ _ c.temporaries_of-in-While.ensures inner c.max-in-While.ensures ∙ ap as_u64 (sym whole)

pub in_statement-returns-in-Do : goal.in_statement-returns-in-Do
in_statement-returns-in-Do t c =
    let whole = ap kind_temporaries c.in-Do.is ∙ do_needs c.in-Do.body c.in-Do.condition in
    let inner = c.in_statement-in-Do.ensures ∙ ap (λ x. as_u64 (statement_temporaries x)) c.get-in-Do.ensures in
    greater_count _ _ _ _ _ c.temporaries_of-in-Do.ensures inner c.max-in-Do.ensures ∙ ap as_u64 (sym whole)

pub in_statement-returns-in-For : goal.in_statement-returns-in-For
in_statement-returns-in-For t c =
    let whole = ap kind_temporaries c.in-For.is ∙ for_needs c.in-For.start c.in-For.condition c.in-For.step c.in-For.body in
    let inner = c.in_statement-in-For.ensures ∙ ap (λ x. as_u64 (statement_temporaries x)) c.get-in-For.ensures in
    let turn = greater_count _ _ _ _ _ c.optional_temporaries.ensures inner c.max-turn.ensures in
    let tested = greater_count _ _ _ _ _ c.optional_temporaries-in-For.ensures turn c.max-tested.ensures in
    greater_count _ _ _ _ _ c.in_start.ensures tested c.max-in-For.ensures ∙ ap as_u64 (sym whole)

pub in_statement-returns-in-Switch : goal.in_statement-returns-in-Switch
in_statement-returns-in-Switch t c =
    let whole = ap kind_temporaries c.in-Switch.is ∙ switch_needs c.in-Switch.value c.in-Switch.items in
    let all = c.in_switch.ensures ∙ ap (λ x. as_u64 (greatest switch_item_temporaries x)) c.as_slice-in-Switch.ensures in
    greater_count _ _ _ _ _ c.temporaries_of-in-Switch.ensures all c.max-in-Switch.ensures ∙ ap as_u64 (sym whole)

pub in_otherwise-returns-in-Some : goal.in_otherwise-returns-in-Some
in_otherwise-returns-in-Some t c =
    let all = ap statement_temporaries c.get.ensures ∙ ap otherwise_temporaries (sym c.in-Some.is) in
    c.in_statement.ensures ∙ ap as_u64 all
