-- The rule of the tag comes first, and then that of the members.
use Rattle.std.proofs.Common.{◌≡◌, sym, ap, ◌∙◌}
use Rattle.std.specs.Prelude.{Option, Some, None, Ok, Err}
use Rattle.c_types.specs.declared.entry.Tag.{Tag}
use Rattle.c_rules.specs.declared.rule.Rule.{Rule}
use Rattle.c_rules.specs.declared.rule.Rule.TheVariants as rule
use Rattle.c_declarations.specs.Specified.{lowest}
use Rattle.c_expr_rules.specs.Views.{seen_state}
use Rattle.c_names.specs.Code.{here_at}
use Rattle.c_file_rules.specs.Tags.{kind_of_word, tag_rule, part_or, laid_out}
use Rattle.c_type_parts.specs.Laid.{seen_layout}
use Rattle.c_type_parts.proofs.Records.{empty_is_laid, empty_rule, full_rule, no_member, some_member}
use Rattle.c_type_parts.proofs.members.laid_type.Goals as goal

pub returns-then-is_empty-clause-state : goal.returns-then-is_empty-clause-state
returns-then-is_empty-clause-state g c =
    let members = c.args.members.now in
    c.in_ok-lay_out_nothing.ensures.state ∙ sym (empty_is_laid (seen_state c.args.state.now) c.args.word c.args.number members (no_member members c.if-is_empty.ensures))

pub returns-then-is_empty-clause-found : goal.returns-then-is_empty-clause-found
returns-then-is_empty-clause-found g c =
    let here = here_at c.args.scene.now.facts.now (g.S.Surroundings.told c.args.scene.now.around.now) in
    let s = seen_state c.args.state.now in
    let members = c.args.members.now in
    let own : c.tag_rule-own.result ≡ tag_rule here s (kind_of_word c.args.word) c.args.tag =
    c.tag_rule-own.ensures ∙ ap (λ (k : Tag). tag_rule here s k c.args.tag) c.tag_of.ensures in
    c.part_or.ensures
    ∙ ap (λ (r : Option Rule). part_or r c.args.number)
    (c.lowest.ensures ∙ ap (λ (o : Option Rule). lowest o (Some rule.BadMember)) own ∙ sym (empty_rule here s c.args.word c.args.tag members (no_member members c.if-is_empty.ensures)))

pub returns-in_ok-lay_out-in-Ok-clause-state : goal.returns-in_ok-lay_out-in-Ok-clause-state
returns-in_ok-lay_out-in-Ok-clause-state g c =
    let s = seen_state c.args.state.now in
    c.in_ok-lay_out-in-Ok.ensures.state ∙ (λ i. laid_out (c.tag_of-in-Ok.ensures i) c.args.number s c.args.members.now ((sym (ap seen_layout c.in-Ok.is) ∙ c.in_ok-laid.ensures) i))

pub returns-in_ok-lay_out-in-Ok-clause-found : goal.returns-in_ok-lay_out-in-Ok-clause-found
returns-in_ok-lay_out-in-Ok-clause-found g c =
    let here = here_at c.args.scene.now.facts.now (g.S.Surroundings.told c.args.scene.now.around.now) in
    let s = seen_state c.args.state.now in
    let members = c.args.members.now in
    let own : c.tag_rule-own.result ≡ tag_rule here s (kind_of_word c.args.word) c.args.tag =
    c.tag_rule-own.ensures ∙ ap (λ (k : Tag). tag_rule here s k c.args.tag) c.tag_of.ensures in
    c.part_or-in-Ok.ensures
    ∙ ap (λ (r : Option Rule). part_or r c.args.number)
    (c.lowest-in-Ok.ensures ∙ ap (λ (o : Option Rule). lowest o None) own
    ∙ sym (full_rule here s c.args.word c.args.tag members (seen_layout (Ok c.in-Ok.layout)) (some_member members c.if-is_empty.ensures) (sym (ap seen_layout c.in-Ok.is) ∙ c.in_ok-laid.ensures)))

pub returns-in-Err-clause-state : goal.returns-in-Err-clause-state
returns-in-Err-clause-state g c =
    ap (laid_out (kind_of_word c.args.word) c.args.number (seen_state c.args.state.now) c.args.members.now) (sym (ap seen_layout c.in-Err.is) ∙ c.in_ok-laid.ensures)

pub returns-in-Err-clause-found : goal.returns-in-Err-clause-found
returns-in-Err-clause-found g c =
    let here = here_at c.args.scene.now.facts.now (g.S.Surroundings.told c.args.scene.now.around.now) in
    let s = seen_state c.args.state.now in
    let members = c.args.members.now in
    let own : c.tag_rule-own.result ≡ tag_rule here s (kind_of_word c.args.word) c.args.tag =
    c.tag_rule-own.ensures ∙ ap (λ (k : Tag). tag_rule here s k c.args.tag) c.tag_of.ensures in
    c.part_or-in-Err.ensures
    ∙ ap (λ (r : Option Rule). part_or r c.args.number)
    (c.lowest-in-Err.ensures ∙ (λ i. lowest (own i) (c.rule_of_fault.ensures i))
    ∙ sym (full_rule here s c.args.word c.args.tag members (Err c.in-Err.fault) (some_member members c.if-is_empty.ensures) (sym (ap seen_layout c.in-Err.is) ∙ c.in_ok-laid.ensures)))
