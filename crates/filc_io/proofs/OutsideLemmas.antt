-- Bytes that are appended or given one part after another.
use Rattle.std.proofs.Common.{◌≡◌, ℕ, ◌+◌, ◌-◌, ◌≤◌, List, [], ◌++◌, Option, Some, None, IfSome, IsSomeAnd, length, take, drop, subst, refl, ap, sym, ◌∙◌, append_assoc, append-nil, arith, length-drop}
use Rattle.std.specs.List.{find}
use Rattle.std.specs.Option.{option_map}
use Rattle.std.specs.Str.{bytes_eq}
use Rattle.std.proofs.lemmas.List.{take_all, length-take}
use Rattle.std.proofs.Math.Seq.{take-add}
use Rattle.filc_io.specs.Outside.{append, file_named}

-- to append nothing changes nothing
pub append-nothing : (taken : Option (List ℕ)) → append taken [] ≡ taken
append-nothing None = refl
append-nothing (Some bytes) = ap Some (append-nil bytes)

-- two parts, one after the other
pub append-append : (taken : Option (List ℕ)) (xs ys : List ℕ) → append (append taken xs) ys ≡ append taken (xs ++ ys)
append-append None xs ys = refl
append-append (Some bytes) xs ys = ap Some (append_assoc bytes xs ys)

-- a text's first m bytes, and then n more of it
pub append-more : (taken : Option (List ℕ)) (bytes : List ℕ) (m n : ℕ) → append (append taken (take m bytes)) (take n (drop m bytes)) ≡ append taken (take (m + n) bytes)
append-more taken bytes m n = append-append taken (take m bytes) (take n (drop m bytes)) ∙ ap (append taken) (sym (take-add m n bytes))

-- the same, where the rest of the text was offered as a slice of its own
pub append-offered : (taken : Option (List ℕ)) (bytes : List ℕ) (m n : ℕ) → append (append taken (take m bytes)) (take n (take (length bytes - m) (drop m bytes))) ≡ append taken (take (m + n) bytes)
append-offered taken bytes m n =
    let short : length (drop m bytes) ≤ length bytes - m = omega (arith, length-drop m bytes) in
    ap (λ rest. append (append taken (take m bytes)) (take n rest)) (take_all _ (drop m bytes) short) ∙ append-more taken bytes m n

-- the front of the file that was found is the front of the file of that name
pub file_named-found :
    (name : List ℕ) (files : List (List ℕ × List ℕ)) (file : List ℕ × List ℕ) (front bytes : List ℕ) (n : ℕ) →
    Some file ≡ find (λ f. bytes_eq f.0 name) files → bytes ≡ file.1 → front ≡ take n bytes →
    IsSomeAnd (file_named name files) (λ b. front ≡ take n b)
file_named-found name files file front bytes n found is_file is_front =
    let P : Option (List ℕ × List ℕ) → Type 0 = λ o. IsSomeAnd (option_map (λ f. f.1) o) (λ b. front ≡ take n b) in
    subst P found (is_front ∙ ap (take n) is_file)

-- the front of what a reader has left is all that it gives up to a limit
pub front_of_left :
    (left : Option (List ℕ)) (limit : ℕ) (before read front : List ℕ) → before ≡ [] →
    IfSome (option_map (take limit) left) (λ bytes. read ≡ before ++ bytes) → front ≡ take limit read →
    IfSome left (λ bytes. front ≡ take limit bytes)
front_of_left None limit before read front none given is = tt
front_of_left (Some bytes) limit before read front none given is =
    is ∙ (ap (take limit) (given ∙ ap (λ start. start ++ take limit bytes) none) ∙ take_all limit (take limit bytes) (omega (arith, length-take limit bytes)))
