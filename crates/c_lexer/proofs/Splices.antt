-- Lemmas on splices: one step at a place.
use Rattle.std.proofs.Common.{◌≡◌, ℕ, ◌+◌, ◌<◌, ◌≤◌, ◌&&◌, List, [], ◌∷◌, ◌++◌, Bool, true, false, nat_lt, refl, arith, length, drop, get_or, ap, sym, ◌∙◌, add-one, drop-cons, drop-drop, append_assoc, append-nil, ◌==◌}
use Rattle.std.proofs.lemmas.Bool.{ltb-true, ltb-false, eqb-true, and_parts}
use Rattle.std.proofs.lemmas.List.{drop_all}
use Rattle.c_lexer.specs.Classes.{line_feed, backslash}
use Rattle.c_lexer.specs.Source.{is_splice, without_splices, lines_ended, lines_of, splice_at}

-- a byte and what stands behind it begin with a splice
abbrev begins_splice : ℕ → List ℕ → Bool
begins_splice a [] = false
begins_splice a (b ∷ rest) = is_splice a b

pub begins_splice-drop : (file : List ℕ) (at : ℕ) → begins_splice (get_or file at 0) (drop (at + 1) file) ≡ splice_at file at
begins_splice-drop file at =
    let P : Bool → Type 0 = λ t. nat_lt (at + 1) (length file) ≡ t → begins_splice (get_or file at 0) (drop (at + 1) file) ≡ (t && is_splice (get_or file at 0) (get_or file (at + 1) 0)) in
    elim (nat_lt (at + 1) (length file)) as P [
      | true ↦ λ h. let lt : at + 1 < length file = ltb-true (at + 1) (length file) h in ap (begins_splice (get_or file at 0)) (drop-cons file (at + 1) 0 lt)
      | false ↦ λ h. ap (begins_splice (get_or file at 0)) (drop_all (at + 1) file (ltb-false (at + 1) (length file) h))
    ] refl

pub at_place : (file : List ℕ) (at : ℕ) → at < length file → drop at file ≡ get_or file at 0 ∷ drop (at + 1) file
at_place file at h = drop-cons file at 0 h ∙ ap (λ k. get_or file at 0 ∷ drop k file) (sym (add-one at))

pub two_on : (file : List ℕ) (at : ℕ) → drop 1 (drop (at + 1) file) ≡ drop (at + 2) file
two_on file at = drop-drop 1 (at + 1) file ∙ ap (λ k. drop k file) (omega arith)

pub without_splices-byte : (a : ℕ) (rest : List ℕ) → begins_splice a rest ≡ false → without_splices (a ∷ rest) ≡ a ∷ without_splices rest
unfolding without_splices
without_splices-byte a [] h = refl
without_splices-byte a (b ∷ rest) h = rw h refl

pub lines_of-byte : (library : Bool) (line a : ℕ) (rest : List ℕ) → begins_splice a rest ≡ false → lines_of library line (a ∷ rest) ≡ line ∷ lines_of library (line + lines_ended library a) rest
unfolding lines_of
lines_of-byte library line a [] h = refl
lines_of-byte library line a (b ∷ rest) h = rw h refl

pub without_splices-splice : (a : ℕ) (rest : List ℕ) → begins_splice a rest ≡ true → without_splices (a ∷ rest) ≡ without_splices (drop 1 rest)
unfolding without_splices
without_splices-splice a [] h = cc
without_splices-splice a (b ∷ rest) h = rw h refl

-- the second byte of a splice is a line feed
splice_feed : (a b : ℕ) → is_splice a b ≡ true → b ≡ line_feed
splice_feed a b h = eqb-true b line_feed (and_parts (a == backslash) (b == line_feed) h).1

pub lines_of-splice : (library : Bool) (line a : ℕ) (rest : List ℕ) → begins_splice a rest ≡ true → lines_of library line (a ∷ rest) ≡ lines_of library (line + lines_ended library line_feed) (drop 1 rest)
unfolding lines_of
lines_of-splice library line a [] h = cc
lines_of-splice library line a (b ∷ rest) h =
    rw h (ap (λ c. lines_of library (line + lines_ended library c) rest) (splice_feed a b h))

pub joined_at_splice : (file bytes whole : List ℕ) (at : ℕ) → at < length file → true ≡ splice_at file at → bytes ++ without_splices (drop at file) ≡ whole → bytes ++ without_splices (drop (at + 2) file) ≡ whole
joined_at_splice file bytes whole at h is e =
    let here = ap without_splices (at_place file at h) ∙ without_splices-splice (get_or file at 0) (drop (at + 1) file) (begins_splice-drop file at ∙ sym is) ∙ ap without_splices (two_on file at) in
    ap (λ rest. bytes ++ rest) (sym here) ∙ e

-- one element more at the end, and what is left behind it
pub pushed : (old new left left_before whole : List ℕ) (x : ℕ) → new ≡ old ++ x ∷ [] → left_before ≡ x ∷ left → old ++ left_before ≡ whole → new ++ left ≡ whole
pushed old new left left_before whole x is before e =
    ap (λ xs. xs ++ left) is ∙ append_assoc old (x ∷ []) left ∙ ap (λ xs. old ++ xs) (sym before) ∙ e

pub joined_at_byte : (file : List ℕ) (at : ℕ) → at < length file → false ≡ splice_at file at → without_splices (drop at file) ≡ get_or file at 0 ∷ without_splices (drop (at + 1) file)
joined_at_byte file at h is =
    ap without_splices (at_place file at h) ∙ without_splices-byte (get_or file at 0) (drop (at + 1) file) (begins_splice-drop file at ∙ sym is)

pub joined_end : (file bytes whole : List ℕ) (at : ℕ) → length file ≤ at → bytes ++ without_splices (drop at file) ≡ whole → bytes ≡ whole
unfolding without_splices
joined_end file bytes whole at h e = sym (append-nil bytes) ∙ ap (λ rest. bytes ++ without_splices rest) (sym (drop_all at file h)) ∙ e
