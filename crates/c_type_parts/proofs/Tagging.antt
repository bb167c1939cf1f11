-- Tags by their letters as by their numbers, and what a list of members or constants declares at its end.
use Rattle.std.proofs.Common.{◌≡◌, ℕ, List, Bool, true, false, sym, ap, ◌∙◌}
use Rattle.std.specs.Prelude.{◌||◌, Option, Some, None, is_some}
use Rattle.c_syntax.specs.declared.words.RecordKind.{RecordKind}
use Rattle.c_types.specs.declared.entry.Entry.{Entry}
use Rattle.c_types.specs.declared.entry.Tag.{Tag}
use Rattle.c_types.specs.declared.entry.Tag.TheVariants as tag
use Rattle.c_types.specs.Extensions.{new_tag_type}
use Rattle.c_rules.specs.declared.rule.Rule.{Rule as CRule}
use Rattle.c_tree.specs.declared.declared.Declared.{Declared}
use Rattle.c_expr_rules.specs.Outcomes.{State, Checked, Fine}
use Rattle.c_file_rules.specs.Constructs.{Here}
use Rattle.c_file_rules.specs.Naming.{with_types}
use Rattle.c_file_rules.specs.Tags.{kind_of_word, tag_declared, named_tag, new_tag, with_part, part_or, enum_rule, enum_found, record_found, record_rule, laid_out, members_layout}
use Rattle.c_file_rules.specs.declared.parts.Parts.{Parts}
use Rattle.c_file_rules.specs.declared.parts.Counted.{Counted}
use Rattle.c_file_rules.specs.declared.member_list.MembersSeen.{MembersSeen}
use Rattle.c_names.specs.Named.{stated}
use Rattle.c_names.proofs.Stating.{stated_named}

-- declared by its letters
pub tag_stated :
    (here : Here) (s new : State) (name : ℕ) (what : Declared) (letters : List ℕ) → letters ≡ here.around.spelling name → new ≡ stated letters what s →
    new ≡ named_tag here s (Some name) what
tag_stated here s new name what letters e h = h ∙ stated_named here.around s name what letters e

-- a new type with its tag
pub tag_is_new :
    (here : Here) (s new : State) (kind : Tag) (name : Option ℕ) (types : List Entry) (number : ℕ) (what : Declared) →
    types ≡ (new_tag_type s.table kind).0 → number ≡ (new_tag_type s.table kind).1 → what ≡ tag_declared kind number false →
    new ≡ named_tag here (with_types types s) name what → new ≡ (new_tag here s kind name).0
tag_is_new here s new kind name types number what grown gives is h =
    h ∙ (λ i. named_tag here (with_types (grown i) s) name ((is ∙ ap (λ n. tag_declared kind n false) gives) i))

pub enum_is_found :
    (here : Here) (s new : State) (name : Option ℕ) (so_far found : Parts) (c : Counted) (types : List Entry) (number : ℕ) (broken : Option CRule) →
    types ≡ (new_tag_type s.table tag.Enumeration).0 → number ≡ (new_tag_type s.table tag.Enumeration).1 → broken ≡ enum_rule here s name c →
    new ≡ named_tag here (with_types types s) name (tag_declared tag.Enumeration number true) → found ≡ with_part true (part_or broken number) so_far →
    enum_found here name so_far s c ≡ Fine new found
enum_is_found here s new name so_far found c types number broken grown gives rule after is =
    let made = new_tag_type s.table tag.Enumeration in
    let a : new ≡ named_tag here (with_types made.0 s) name (tag_declared tag.Enumeration made.1 true) =
    after ∙ (λ i. named_tag here (with_types (grown i) s) name (tag_declared tag.Enumeration (gives i) true)) in
    let b : found ≡ with_part true (part_or (enum_rule here s name c) made.1) so_far =
    is ∙ (λ i. with_part true (part_or (rule i) (gives i)) so_far) in
    sym (λ i. Fine (a i) (b i))
