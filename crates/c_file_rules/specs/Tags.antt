-- Tags, members of structures and unions, and constants of enumerations (C11 6.7.2.1 to 6.7.2.3).
use Rattle.std.specs.Prelude.{ℕ, suc, ◌+◌, ◌%◌, ◌^◌, ◌==◌, ◌&&◌, ◌||◌, Bool, true, false, not, is_some, List, [], ◌∷◌, ◌++◌, map, length, if◌then◌else◌, Option, Some, None, Result, Ok, Err}
use Rattle.std.specs.List.{list_any}
use Rattle.std.specs.Option.{option_or}
use Rattle.filc_num.specs.declared.integer.IntType.TheVariants.{I32}
use Rattle.filc_num.specs.Integers.{convert_of}
use Rattle.c_syntax.specs.declared.words.RecordKind.{RecordKind}
use Rattle.c_syntax.specs.declared.words.RecordKind.TheVariants.{Struct, Union as UnionWord}
use Rattle.c_types.specs.declared.ctype.CType.{CType}
use Rattle.c_types.specs.declared.ctype.CType.TheVariants.{ArrayOf}
use Rattle.c_types.specs.declared.ctype.Part.{Part}
use Rattle.c_types.specs.declared.ctype.TypeFault.{TypeFault}
use Rattle.c_types.specs.declared.entry.Tag.{Tag}
use Rattle.c_types.specs.declared.entry.Tag.TheVariants as tag
use Rattle.c_types.specs.declared.layouts.Form.{Form}
use Rattle.c_types.specs.declared.layouts.Form.TheVariants as form
use Rattle.c_types.specs.Layouts.{Layout, layout_of}
use Rattle.c_rules.specs.declared.rule.Rule.{Rule as CRule}
use Rattle.c_rules.specs.declared.rule.Rule.TheVariants as rule
use Rattle.c_tree.specs.declared.declared.Declared.{Declared}
use Rattle.c_tree.specs.declared.declared.Declared.TheVariants as declared
use Rattle.c_specifiers.specs.declared.names.NameFault.{NameFault}
use Rattle.c_specifiers.specs.NamesOfTypes.{tag_type, same_tag}
use Rattle.c_type_rules.specs.Members.{rule_of_member, rule_of_room, member_types}
use Rattle.c_declarations.specs.Specified.{lowest}
use Rattle.c_expr_rules.specs.Outcomes.{State, Checked, Fine, Rule, by_rules, ◌breaks◌}
use Rattle.c_expr_rules.specs.declared.state.MemberPlace.{MemberPlace}
use Rattle.c_expr_rules.specs.declared.state.Contents.{Contents}
use Rattle.c_expr_rules.specs.TypedExpressions.{type_at, is_const, record_number, part_of}
use Rattle.c_expr_rules.specs.declared.typed.Typed.{Typed}
use Rattle.c_expr_rules.specs.Operators.{has_const, contents_of}
use Rattle.c_file_rules.specs.Types.{new_tag_type, completed}
use Rattle.c_file_rules.specs.Naming.{is_again, declares, tag_visible, tag_here, with_types}
use Rattle.c_file_rules.specs.Constructs.{Here, when}
use Rattle.c_file_rules.specs.Declarators.{size_number}
-- of a list of specifiers so far: the first specifier that is a type by itself, what is broken, and whether a tag or a
-- constant is declared
pub use Rattle.c_file_rules.specs.declared.parts.Parts.{Parts}
-- a member, and the members so far with whether a tag or a constant is declared in them
pub use Rattle.c_file_rules.specs.declared.member_list.MemberSeen.{MemberSeen}
pub use Rattle.c_file_rules.specs.declared.member_list.MembersSeen.{MembersSeen}
-- the value of the next constant without an expression, and whether one with an expression was declared again
pub use Rattle.c_file_rules.specs.declared.parts.Counted.{Counted}

-- ---- tags (6.7.2.3)

abbrev pub kind_of_word : RecordKind → Tag
kind_of_word Struct = tag.Structure
kind_of_word UnionWord = tag.Union

abbrev pub form_of_word : RecordKind → Form
form_of_word Struct = form.Structure
form_of_word UnionWord = form.Union

abbrev pub tag_declared : Tag → (number : ℕ) → (is_listed : Bool) → Declared
tag_declared kind number is_listed = declared.Tag (record { kind = kind; ty = number; is_listed = is_listed })

abbrev pub named_tag : Here → State → Option ℕ → Declared → State
named_tag here s None what = s
named_tag here s (Some name) what = declares here.around s name what

-- a new type, by its tag where it has one
abbrev pub new_tag : Here → State → Tag → Option ℕ → State × ℕ
new_tag here s kind name =
    let made = new_tag_type s.table kind in
    (named_tag here (with_types made.0 s) name (tag_declared kind made.1 false), made.1)

abbrev pub broken_in : Result Part CRule → Option CRule
broken_in (Ok part) = None
broken_in (Err r) = Some r

abbrev pub with_part : Bool → Result Part CRule → Parts → Parts
with_part declares found p =
    record {
      whole = option_or p.whole (Some found);
      broken = lowest p.broken (broken_in found);
      declares = p.declares || declares;
    }

abbrev pub number_of_tag : Here → State → Tag → ℕ → Option ℕ → State × ℕ
number_of_tag here s kind name (Some number) = (s, number)
number_of_tag here s kind name None = new_tag here s kind (Some name)

-- a tag without a list names what is visible, or else is new in its scope
abbrev pub tag_named : Here → State → Tag → ℕ → Parts → Result (Option ℕ) NameFault → State × Parts
tag_named here s kind name so_far (Err fault) = (s, with_part true (Err rule.WrongTag) so_far)
tag_named here s kind name so_far (Ok found) =
    let number = number_of_tag here s kind name found in (number.0, with_part true (Ok (part_of number.1 0)) so_far)

-- alone, with nothing beside it, `struct s;` is of this scope (6.7.2.3p7)
abbrev pub tag_meant : Here → State → (is_alone : Bool) → ℕ → Option Declared
tag_meant here s is_alone name = if is_alone then tag_here here.around s name else tag_visible here.around s name

abbrev pub tag_alone : Here → State → (is_alone : Bool) → Tag → Option ℕ → Parts → State × Parts
tag_alone here s is_alone kind None so_far = (s, so_far)
tag_alone here s is_alone kind (Some name) so_far =
    tag_named here s kind name so_far (tag_type kind (tag_meant here s is_alone name))

-- a list is of this scope's tag, which it may have only once, and of the same kind
abbrev pub tag_to_list : Here → State → Tag → ℕ → Option Declared → State × ℕ
tag_to_list here s kind name (Some (declared.Tag t)) =
    if same_tag kind t.kind && not t.is_listed then (s, t.ty) else new_tag here s kind None
tag_to_list here s kind name d = new_tag here s kind (Some name)

abbrev pub type_to_list : Here → State → Tag → Option ℕ → State × ℕ
type_to_list here s kind None = new_tag here s kind None
type_to_list here s kind (Some name) = tag_to_list here s kind name (tag_here here.around s name)

abbrev pub rule_of_tag : Tag → Option Declared → Option CRule
rule_of_tag kind (Some (declared.Tag t)) =
    lowest (when t.is_listed rule.DeclaredAgain) (when (not (same_tag kind t.kind)) rule.WrongTag)
rule_of_tag kind d = None

abbrev pub tag_rule : Here → State → Tag → Option ℕ → Option CRule
tag_rule here s kind None = None
tag_rule here s kind (Some name) = rule_of_tag kind (tag_here here.around s name)

-- ---- members (6.7.2.1)

abbrev pub no_members : MembersSeen
no_members = record { members = []; declares = false }

abbrev pub with_member : List MemberSeen → MembersSeen → MembersSeen
with_member more seen = record seen { members = seen.members ++ more }

abbrev pub has_member : ℕ → List MemberSeen → Bool
has_member name members = list_any (λ (m : MemberSeen). m.name == name) members

abbrev pub named_member : Option ℕ → Part → List MemberSeen
named_member None p = []
named_member (Some name) p = record { name = name; part = p } ∷ []

abbrev pub is_member_again : Option ℕ → List MemberSeen → Bool
is_member_again None members = false
is_member_again (Some name) members = has_member name members

-- a member is no function, has a size, and a name of its own
abbrev pub member_rules : Option ℕ → List MemberSeen → State → Part → List Rule
member_rules name members s p =
    size_number (lowest (rule_of_member (type_at s p.number)) (when (is_member_again name members) rule.BadMember))

-- a const member, an array of const elements, or an aggregate with such a member. It goes through so many arrays, which
-- are no more than there are types
abbrev pub is_const_type : ℕ → State → (quals : ℕ) → CType → Bool
is_const_type (suc n) s quals (ArrayOf a) =
    is_const_type n s a.element.qualifiers.0 (type_at s a.element.number)
is_const_type n s quals ty = is_const quals || has_const (contents_of s (record_number ty))

abbrev pub is_const_member : State → Part → Bool
is_const_member s p = is_const_type (length s.table) s p.qualifiers.0 (type_at s p.number)

abbrev pub are_placed : List MemberSeen → List ℕ → List MemberPlace
are_placed (m ∷ members) (offset ∷ offsets) =
    record { name = m.name; part = m.part; offset = offset } ∷ are_placed members offsets
are_placed _ _ = []

abbrev pub contents_with : State → List MemberSeen → List ℕ → Contents
contents_with s members offsets =
    record {
      members = are_placed members offsets;
      has_const = list_any
          (λ (m : MemberSeen). is_const_member s m.part) members;
    }

abbrev pub with_contents : ℕ → Contents → State → State
with_contents number c s = record s { contents = (λ n. if n == number then Some c else s.contents n) }

abbrev pub laid_out : Tag → ℕ → State → List MemberSeen → Result Layout TypeFault → State
laid_out kind number s members (Err fault) = s
laid_out kind number s members (Ok l) =
    with_types (completed s.table kind number l.size l.align) (with_contents number
    (contents_with s members l.offsets) s)

abbrev pub layout_rule : Result Layout TypeFault → Option CRule
layout_rule (Ok l) = None
layout_rule (Err fault) = rule_of_room (Err fault)

abbrev pub members_layout : State → RecordKind → List MemberSeen → Result Layout TypeFault
members_layout s word members =
    layout_of (form_of_word word) (member_types s.table (map (λ (m : MemberSeen). m.part) members))

abbrev pub is_empty_list : List MemberSeen → Bool
is_empty_list [] = true
is_empty_list (m ∷ members) = false

-- the list of members at its end: the tag is declared again or of another kind, the whole is too large, or there is no
-- member
abbrev pub record_rule : Here → State → RecordKind → Option ℕ → List MemberSeen → Option CRule
record_rule here s word name members =
    lowest (tag_rule here s (kind_of_word word) name)
    (if is_empty_list members then Some rule.BadMember else layout_rule (members_layout s word members))

abbrev pub part_or : Option CRule → ℕ → Result Part CRule
part_or None number = Ok (part_of number 0)
part_or (Some r) number = Err r

abbrev pub record_found : Here → RecordKind → Option ℕ → ℕ → Parts → State → MembersSeen → Checked Parts
record_found here word name number so_far s seen =
    let found = part_or (record_rule here s word name seen.members) number in
    let after = laid_out (kind_of_word word) number s seen.members (members_layout s word seen.members) in
    Fine (named_tag here after name (tag_declared (kind_of_word word) number true))
    (with_part (is_some name || seen.declares) found so_far)

-- ---- enumeration constants (6.7.2.2)

abbrev pub after_constant : ℕ → ℕ
after_constant v = (v + 1) % 2 ^ 64

-- one without an expression: its name is the construct. Behind the greatest int none is left
abbrev pub counted_constant : Here → (line name : ℕ) → State → Counted → Checked Counted
counted_constant here line name s c =
    by_rules line (2 breaks is_again here.around s name (declared.Constant c.value) ∷
    10 breaks (c.value == 2147483648) ∷ [])
    (declares here.around s name (declared.Constant c.value)) (record c { value = after_constant c.value })

abbrev pub valued_constant : Here → (name : ℕ) → State → Counted → Option ℕ → Typed → Checked Counted
valued_constant here name s c None t = Fine s c
valued_constant here name s c (Some v) t =
    let kept = convert_of v I32 in
    Fine (declares here.around s name (declared.Constant kept))
    (record {
      value = after_constant kept;
      is_again = c.is_again || is_again here.around s name (declared.Constant kept);
    })

abbrev pub enum_rule : Here → State → Option ℕ → Counted → Option CRule
enum_rule here s name c = lowest (when c.is_again rule.DeclaredAgain) (tag_rule here s tag.Enumeration name)

-- the tag is declared by its list, at its end (6.7.2.3p3)
abbrev pub enum_found : Here → Option ℕ → Parts → State → Counted → Checked Parts
enum_found here name so_far s c =
    let found = enum_rule here s name c in
    let made = new_tag_type s.table tag.Enumeration in
    Fine (named_tag here (with_types made.0 s) name (tag_declared tag.Enumeration made.1 true))
    (with_part true (part_or found made.1) so_far)
