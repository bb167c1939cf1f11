-- A structure or union at the end of its list of members.
use Rattle.std.proofs.Common.{◌≡◌, ◌==◌, ℕ, ◌<◌, List, [], ◌∷◌, length, Bool, true, false, refl, sym, ap, ◌∙◌, eqb-true, arith}
use Rattle.std.specs.BTreeMap.{BTreeMap, Updates}
use Rattle.std.specs.Ordering.{nat_cmp}
use Rattle.std.specs.Prelude.{◌||◌, Option, Some, None, is_some, Result, Ok, Err}
use Rattle.c_syntax.specs.declared.words.RecordKind.{RecordKind}
use Rattle.c_types.specs.declared.ctype.Part.{Part}
use Rattle.c_types.specs.declared.ctype.TypeFault.{TypeFault}
use Rattle.c_types.specs.declared.entry.Entry.{Entry}
use Rattle.c_types.specs.declared.entry.Tag.{Tag}
use Rattle.c_types.specs.Extensions.{completed}
use Rattle.c_types.specs.Layouts.{Layout}
use Rattle.c_rules.specs.declared.rule.Rule.{Rule as CRule}
use Rattle.c_rules.specs.declared.rule.Rule.TheVariants as rule
use Rattle.c_tree.specs.declared.declared.Declared.{Declared}
use Rattle.c_declarations.specs.Specified.{lowest}
use Rattle.c_expr_rules.specs.Outcomes.{State, Fine}
use Rattle.c_expr_rules.specs.Views.{seen_state}
use Rattle.c_expr_rules.specs.declared.state.Contents.{Contents}
use Rattle.c_expr_rules.specs.declared.state.State.{State as Kept}
use Rattle.c_file_rules.specs.Constructs.{Here}
use Rattle.c_file_rules.specs.Naming.{with_types}
use Rattle.c_file_rules.specs.Tags.{kind_of_word, tag_declared, named_tag, tag_rule, with_part, part_or, record_found, record_rule, laid_out, layout_rule, members_layout, contents_with, with_contents}
use Rattle.c_file_rules.specs.declared.parts.Parts.{Parts}
use Rattle.c_file_rules.specs.declared.member_list.MemberSeen.{MemberSeen}
use Rattle.c_file_rules.specs.declared.member_list.MembersSeen.{MembersSeen}
use Rattle.c_type_parts.specs.Laid.{no_contents}
use Rattle.c_type_parts.proofs.Laying.{contents_are_put}
use Rattle.c_type_parts.proofs.Completed.{nothing_laid}

-- contents that are put, and types that are completed, lay members out
pub members_are_laid :
    (old : Kept) (after : BTreeMap ℕ Contents) (types : List Entry) (kind : Tag) (number : ℕ) (c : Contents) (members : List MemberSeen) (l : Layout) →
    Updates nat_cmp old.contents after number (Some c) → c ≡ contents_with (seen_state old) members l.offsets →
    types ≡ completed old.types kind number l.size l.align →
    seen_state (record old { contents = after; types = types }) ≡ laid_out kind number (seen_state old) members (Ok l)
members_are_laid old after types kind number c members l put is complete =
    (λ i. with_types (complete i) (contents_are_put old after number c put i))
    ∙ ap (λ c. with_types (completed old.types kind number l.size l.align) (with_contents number c (seen_state old))) is

-- without members
pub empty_is_laid :
    (s : State) (w : RecordKind) (number : ℕ) (members : List MemberSeen) → members ≡ [] →
    laid_out (kind_of_word w) number s members (members_layout s w members) ≡ with_contents number no_contents s
empty_is_laid s w number members e =
    ap (λ ms. laid_out (kind_of_word w) number s ms (members_layout s w ms)) e ∙ nothing_laid s w number

pub empty_rule :
    (here : Here) (s : State) (w : RecordKind) (name : Option ℕ) (members : List MemberSeen) → members ≡ [] →
    record_rule here s w name members ≡ lowest (tag_rule here s (kind_of_word w) name) (Some rule.BadMember)
empty_rule here s w name members e = ap (record_rule here s w name) e

-- with members
pub full_rule :
    (here : Here) (s : State) (w : RecordKind) (name : Option ℕ) (members : List MemberSeen) (laid : Result Layout TypeFault) → 0 < length members →
    laid ≡ members_layout s w members → record_rule here s w name members ≡ lowest (tag_rule here s (kind_of_word w) name) (layout_rule laid)
full_rule here s w name [] laid h e = absurd (omega (arith, h))
full_rule here s w name (m ∷ ms) laid h e = ap (λ l. lowest (tag_rule here s (kind_of_word w) name) (layout_rule l)) (sym e)

pub record_is_found :
    (here : Here) (s after new : State) (word : RecordKind) (name : Option ℕ) (number : ℕ) (so_far parts : Parts) (seen : MembersSeen) (members : List MemberSeen)
    (found : Result Part CRule) (what : Declared) (declares : Bool) →
    members ≡ seen.members → after ≡ laid_out (kind_of_word word) number s members (members_layout s word members) →
    found ≡ part_or (record_rule here s word name members) number → what ≡ tag_declared (kind_of_word word) number true →
    new ≡ named_tag here after name what → declares ≡ (is_some name || seen.declares) → parts ≡ with_part declares found so_far →
    record_found here word name number so_far s seen ≡ Fine new parts
record_is_found here s after new word name number so_far parts seen members found what declares ms laid rule tag named also is =
    let own = members_layout s word seen.members in
    let a : after ≡ laid_out (kind_of_word word) number s seen.members own =
    laid ∙ ap (λ (ms : List MemberSeen). laid_out (kind_of_word word) number s ms (members_layout s word ms)) ms in
    let f : found ≡ part_or (record_rule here s word name seen.members) number =
    rule ∙ ap (λ (ms : List MemberSeen). part_or (record_rule here s word name ms) number) ms in
    let n : new ≡ named_tag here (laid_out (kind_of_word word) number s seen.members own) name (tag_declared (kind_of_word word) number true) =
    named ∙ (λ i. named_tag here (a i) name (tag i)) in
    let p : parts ≡ with_part (is_some name || seen.declares) (part_or (record_rule here s word name seen.members) number) so_far =
    is ∙ (λ i. with_part (also i) (f i) so_far) in
    sym (λ i. Fine (n i) (p i))

-- whether there is a member, by the length of the list
pub no_member : {A : Type 0} (xs : List A) → true ≡ (length xs == 0) → xs ≡ []
no_member [] e = refl
no_member (x ∷ xs) e = let none = eqb-true (length (x ∷ xs)) 0 (sym e) in absurd (omega (arith, none))

pub some_member : {A : Type 0} (xs : List A) → false ≡ (length xs == 0) → 0 < length xs
some_member [] e = cc
some_member (x ∷ xs) e = omega arith
