-- The parts of a type, as many as there are and the first of them.
use Rattle.std.proofs.Common.{◌≡◌, ℕ, zero, suc, ◌+◌, ◌-◌, ◌<◌, ◌≤◌, min, List, [], ◌∷◌, ◌++◌, length, take, map, refl, sym, ap, ◌∙◌, arith, append_assoc}
use Rattle.std.proofs.lemmas.List.{append-nil, take-map, take_min, length-map}
use Rattle.c_types.specs.declared.ctype.Part.{Part}
use Rattle.c_expr_rules.specs.declared.state.MemberPlace.{MemberPlace}
use Rattle.c_file_rules.specs.Initialising.{PartAt, elements_from, first_alone, member_part_at}

-- an element from this offset on
abbrev element : ℕ → Part → PartAt
element offset e = record { offset = offset; part = e }

pub length_of_elements : (count offset bytes : ℕ) (e : Part) → length (elements_from count offset bytes e) ≡ count
length_of_elements zero offset bytes e = refl
length_of_elements (suc n) offset bytes e = ap suc (length_of_elements n (offset + bytes) bytes e)

pub length_of_first : (xs : List PartAt) → length (first_alone xs) ≡ min (length xs) 1
length_of_first [] = omega arith
length_of_first (x ∷ xs) = omega arith

none_taken : (n : ℕ) → take {A = PartAt} n [] ≡ []
none_taken zero = refl
none_taken (suc n) = refl

pub first_taken : (n : ℕ) (xs : List PartAt) → take (min n 1) xs ≡ take n (first_alone xs)
first_taken zero [] = refl
first_taken zero (x ∷ xs) = refl
first_taken (suc n) [] = let e : min (suc n) 1 ≡ 1 = omega arith in ap (λ (k : ℕ). take {A = PartAt} k []) e
first_taken (suc n) (x ∷ xs) =
    let e : min (suc n) 1 ≡ 1 = omega arith in
    ap (λ k. take k (x ∷ xs)) e ∙ ap (λ ys. x ∷ ys) (sym (none_taken n))

pub elements_taken : (n count offset bytes : ℕ) (e : Part) → elements_from (min count n) offset bytes e ≡ take n (elements_from count offset bytes e)
elements_taken zero zero offset bytes e = ap (λ k. elements_from k offset bytes e) (let z : min zero zero ≡ 0 = omega arith in z)
elements_taken zero (suc count) offset bytes e = ap (λ k. elements_from k offset bytes e) (let z : min (suc count) zero ≡ 0 = omega arith in z)
elements_taken (suc n) zero offset bytes e = ap (λ k. elements_from k offset bytes e) (let z : min zero (suc n) ≡ 0 = omega arith in z)
elements_taken (suc n) (suc count) offset bytes e =
    let first : PartAt = record { offset = offset; part = e } in
    ap (λ k. elements_from k offset bytes e) (let z : min (suc count) (suc n) ≡ suc (min count n) = omega arith in z)
    ∙ ap (λ (ys : List PartAt). first ∷ ys) (elements_taken n count (offset + bytes) bytes e)

-- an element more, behind those that are there
pub element_more : (parts : List PartAt) (count index offset bytes : ℕ) (e : Part) (all : List PartAt) → index < count
    → parts ++ elements_from (count - index) offset bytes e ≡ all
    → (parts ++ (element offset e ∷ [])) ++ elements_from (count - (index + 1)) (offset + bytes) bytes e ≡ all
element_more parts count index offset bytes e all less h =
    let z : suc (count - (index + 1)) ≡ count - index = omega arith in
    let first : PartAt = record { offset = offset; part = e } in
    append_assoc parts (first ∷ []) (elements_from (count - (index + 1)) (offset + bytes) bytes e)
    ∙ ap (λ k. parts ++ elements_from k offset bytes e) z ∙ h

pub no_element : (parts : List PartAt) (count index offset bytes : ℕ) (e : Part) (all : List PartAt) → count ≤ index
    → parts ++ elements_from (count - index) offset bytes e ≡ all → parts ≡ all
no_element parts count index offset bytes e all past h =
    let z : 0 ≡ count - index = omega arith in
    sym (append-nil parts) ∙ ap (λ k. parts ++ elements_from k offset bytes e) z ∙ h

-- the first members
pub members_taken : (n : ℕ) (members : List MemberPlace) → map member_part_at (take (min (length members) n) members) ≡ take n (map member_part_at members)
members_taken n members =
    let e : min (length members) n ≡ min n (length members) = omega arith in
    ap (λ k. map member_part_at (take k members)) e ∙ ap (map member_part_at) (take_min n members) ∙ sym (take-map member_part_at n members)
