-- Members one after the other, each at its offset.
use Rattle.std.proofs.Common.{◌≡◌, ℕ, ◌+◌, ◌<◌, ◌≤◌, List, [], ◌∷◌, ◌++◌, length, get_or, drop, refl, sym, ap, ◌∙◌, append_assoc, arith, length-drop}
use Rattle.std.proofs.lemmas.List.{drop_more, append-nil}
use Rattle.std.specs.Prelude.{min}
use Rattle.c_expr_rules.specs.declared.state.MemberPlace.{MemberPlace}
use Rattle.c_file_rules.specs.declared.member_list.MemberSeen.{MemberSeen}
use Rattle.c_file_rules.specs.Tags.{are_placed}

none_placed : (ms : List MemberSeen) (os : List ℕ) → min (length ms) (length os) ≤ 0 → are_placed ms os ≡ []
none_placed [] os h = refl
none_placed (m ∷ ms) [] h = refl
none_placed (m ∷ ms) (o ∷ os) h = absurd (omega (arith, h))

-- behind the shorter of the lists nothing is placed
pub all_placed :
    (so_far : List MemberPlace) (ms : List MemberSeen) (os : List ℕ) (i : ℕ) → min (length ms) (length os) ≤ i →
    so_far ++ are_placed (drop i ms) (drop i os) ≡ are_placed ms os → so_far ≡ are_placed ms os
all_placed so_far ms os i end h =
    let none : min (length (drop i ms)) (length (drop i os)) ≤ 0 = omega (arith, end, length-drop i ms, length-drop i os) in
    sym (append-nil so_far) ∙ ap (λ rest. so_far ++ rest) (sym (none_placed (drop i ms) (drop i os) none)) ∙ h

pub one_more_placed :
    (so_far more : List MemberPlace) (ms : List MemberSeen) (os : List ℕ) (i : ℕ) (m : MemberSeen) (o : ℕ) →
    i < length ms → i < length os → m ≡ get_or ms i m → o ≡ get_or os i 0 →
    more ≡ so_far ++ record { name = m.name; part = m.part; offset = o } ∷ [] →
    so_far ++ are_placed (drop i ms) (drop i os) ≡ are_placed ms os → more ++ are_placed (drop (i + 1) ms) (drop (i + 1) os) ≡ are_placed ms os
one_more_placed so_far more ms os i m o below within member offset pushed h =
    let place : MemberPlace = record { name = m.name; part = m.part; offset = o } in
    let first : drop i ms ≡ m ∷ drop (i + 1) ms = drop_more ms i m below ∙ ap (λ x. x ∷ drop (i + 1) ms) (sym member) in
    let its : drop i os ≡ o ∷ drop (i + 1) os = drop_more os i 0 within ∙ ap (λ x. x ∷ drop (i + 1) os) (sym offset) in
    ap (λ xs. xs ++ are_placed (drop (i + 1) ms) (drop (i + 1) os)) pushed
    ∙ append_assoc so_far (place ∷ []) (are_placed (drop (i + 1) ms) (drop (i + 1) os))
    ∙ ap (λ rest. so_far ++ rest) (sym (λ j. are_placed (first j) (its j)))
    ∙ h
