-- What a text and a member are, after the table of types has grown.
use Rattle.std.proofs.Common.{◌≡◌, [], ◌∷◌, ◌+◌, List, length, ap, ◌∙◌}
use Rattle.std.specs.Prelude.{ℕ, Bool, false, Some}
use Rattle.filc_num.specs.declared.statics.StaticHalf.TheVariants as half
use Rattle.c_types.specs.declared.entry.Entry.{Entry}
use Rattle.c_types.specs.declared.ctype.Part.{Part}
use Rattle.c_types.specs.declared.qualifier_set.Qualifiers.{Qualifiers}
use Rattle.c_tree.specs.declared.operation.Operation.TheVariants as op
use Rattle.c_expr_rules.specs.declared.known.Known.TheVariants as known
use Rattle.c_expr_rules.specs.declared.state.State.{State}
use Rattle.c_expr_rules.specs.declared.state.MemberPlace.{MemberPlace}
use Rattle.c_expr_rules.specs.Outcomes as o
use Rattle.c_expr_rules.specs.Outcomes.{by_rules, ◌breaks◌}
use Rattle.c_expr_rules.specs.TypedExpressions.{Typed, part_of}
use Rattle.c_expr_rules.specs.Expressions.{Around, in_memory, with_literal, is_too_long, text_in, text_typed, part_at, part_with, member_part, member_value}
use Rattle.c_expr_rules.specs.Views.{seen_state}

abbrev part_with_quals : ℕ → Qualifiers → Part
part_with_quals number q = record { number = number; qualifiers = q }

-- a text's object, in a state of which all is known but that it is the one after
abbrev text_at : ℕ → List ℕ → o.State → ℕ → o.State → o.Checked Typed
text_at line bytes s number after =
    by_rules line (5 breaks is_too_long bytes ∷ []) after (in_memory after line (part_of number 0) false (op.Static s.next_static) (known.Address (half.Object s.next_static) 0))

pub text_is :
    (around : Around) (line : ℕ) (bytes : List ℕ) (s after : o.State) (table : List Entry) (number n : ℕ) (q : Qualifiers) (b : Bool) (typed : Typed) (answer : o.Checked Typed) →
    n ≡ length bytes + 1 → (table, number) ≡ around.char_array s.table n → after ≡ record (with_literal bytes s) { table = table } → q.0 ≡ 0 → b ≡ is_too_long bytes →
    typed ≡ in_memory after line (part_with_quals number q) false (op.Static s.next_static) (known.Address (half.Object s.next_static) 0) →
    answer ≡ by_rules line (5 breaks b ∷ []) after typed → answer ≡ text_typed around line bytes s
text_is around line bytes s after table number n q b typed answer n-is made after-is q-is b-is typed-is answer-is =
    answer-is
    ∙ ap (λ t. by_rules line (5 breaks b ∷ []) after t) typed-is
    ∙ ap (λ b. by_rules line (5 breaks b ∷ []) after (in_memory after line (part_with_quals number q) false (op.Static s.next_static) (known.Address (half.Object s.next_static) 0))) b-is
    ∙ ap (λ n. by_rules line (5 breaks is_too_long bytes ∷ []) after (in_memory after line (part_of number n) false (op.Static s.next_static) (known.Address (half.Object s.next_static) 0))) q-is
    ∙ ap (text_at line bytes s number) after-is
    ∙ ap (text_in line bytes s) (made ∙ ap (around.char_array s.table) n-is)

pub value_of_part :
    (around : Around) (line : ℕ) (old new : State) (whole : Typed) (m : MemberPlace) (part : Part) (t : Typed) →
    (new.types, part) ≡ member_part around (seen_state old) whole.quals.0 m.part → new ≡ record old { types = new.types } →
    t ≡ part_at line (seen_state new) whole m.offset part → (seen_state new, t) ≡ member_value around line (seen_state old) whole (Some m)
value_of_part around line old new whole m part t made rest t-is =
    ap (λ (t : Typed). (seen_state new, t)) t-is
    ∙ ap (λ (x : o.State). (x, part_at line x whole m.offset part)) (ap seen_state rest)
    ∙ ap (part_with line (seen_state old) whole m.offset) made
