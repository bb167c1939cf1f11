-- Seats: whether an entry is being expanded is known from its seat (a sparse set).
use Rattle.std.proofs.Common.{◌≡◌, ◌≢◌, ℕ, zero, suc, ◌<◌, ◌≤◌, nat_lt, nat_eq, ◌==◌, ◌||◌, Bool, true, false, List, [], ◌∷◌, ◌++◌, length, get_or, set, refl, sym, ap, ◌∙◌, ⊎_elim, arith, eq-eqb, length-append}
use Rattle.std.specs.Prelude.{reverse}
use Rattle.std.proofs.lemmas.Bool.{false≢true, le-ltb, cases_lt}
use Rattle.std.proofs.lemmas.List.{reverse-append, get_or_append_left, get_or_push, get_or-set_same, get_or-set_other}
use Rattle.std.proofs.lemmas.Bool.Decides.{nat_tests}
use Rattle.c_preproc.specs.declared.expander.Frame.{Frame}
use Rattle.c_preproc.specs.Code.Expander.{is_one_of, entries_of, AreSeated}

or_true : (b : Bool) → (b || true) ≡ true
or_true true = refl
or_true false = refl

from_test : (p q : ℕ) → (p == q) ≡ true → p ≡ q
from_test p q h = grind (arith, nat_tests)

pub open_by_place : (xs : List ℕ) (k place : ℕ) → k < length xs → get_or xs k 0 ≡ place → is_one_of xs place ≡ true
open_by_place [] k place h is = absurd (omega arith)
open_by_place (x ∷ xs) zero place h is = ap (λ b. b || is_one_of xs place) (eq-eqb x place is)
open_by_place (x ∷ xs) (suc k) place h is = ap (λ b. (x == place) || b) (open_by_place xs k place (omega arith) is) ∙ or_true (x == place)

pub place_of_open : (xs : List ℕ) (place : ℕ) → is_one_of xs place ≡ true → (k : ℕ) × (k < length xs) × (get_or xs k 0 ≡ place)
place_of_open [] place h = absurd (false≢true h)
place_of_open (x ∷ xs) place h = by (place_of_open xs place) (x == place) refl h
  where
    by : (is_one_of xs place ≡ true → (k : ℕ) × (k < length xs) × (get_or xs k 0 ≡ place)) → (b : Bool) → (x == place) ≡ b → (b || is_one_of xs place) ≡ true → (k : ℕ) × (k < length (x ∷ xs)) × (get_or (x ∷ xs) k 0 ≡ place)
    by behind true e g = (zero, omega arith, from_test x place e)
    by behind false e g = let deep = behind g in (suc deep.0, omega (arith, deep.1), deep.2)

pub seat_in : (seats xs : List ℕ) (place : ℕ) → AreSeated seats xs → get_or seats place 0 < length xs → nat_eq (get_or xs (get_or seats place 0) 0) place ≡ is_one_of xs place
seat_in seats xs place seated less = by (is_one_of xs place) refl (get_or xs (get_or seats place 0) 0 == place) refl
  where
    by : (o : Bool) → is_one_of xs place ≡ o → (b : Bool) → (get_or xs (get_or seats place 0) 0 == place) ≡ b → b ≡ o
    by true e b g =
        let at = place_of_open xs place e in
        let there : get_or seats place 0 ≡ at.0 = ap (λ p. get_or seats p 0) (sym at.2) ∙ seated at.0 at.1 in
        sym g ∙ eq-eqb (get_or xs (get_or seats place 0) 0) place (ap (λ k. get_or xs k 0) there ∙ at.2)
    by false e true g = absurd (false≢true (sym e ∙ open_by_place xs (get_or seats place 0) place less (from_test _ _ g)))
    by false e false g = refl

pub seat_past : (seats xs : List ℕ) (place : ℕ) → AreSeated seats xs → length xs ≤ get_or seats place 0 → nat_lt (get_or seats place 0) (length xs) ≡ is_one_of xs place
seat_past seats xs place seated past = le-ltb (get_or seats place 0) (length xs) past ∙ sym (by (is_one_of xs place) refl)
  where
    by : (o : Bool) → is_one_of xs place ≡ o → is_one_of xs place ≡ false
    by true e =
        let at = place_of_open xs place e in
        let there : get_or seats place 0 ≡ at.0 = ap (λ p. get_or seats p 0) (sym at.2) ∙ seated at.0 at.1 in
        absurd (omega (arith, at.1))
    by false e = e

-- ---- frames

pub length-entries_of : (fs : List Frame) → length (entries_of fs) ≡ length fs
length-entries_of [] = refl
length-entries_of (f ∷ fs) = ap suc (length-entries_of fs)

pub entry_at : (fs : List Frame) (k : ℕ) (f : Frame) → k < length fs → get_or (entries_of fs) k 0 ≡ (get_or fs k f).entry
entry_at [] k f h = absurd (omega arith)
entry_at (g ∷ fs) zero f h = refl
entry_at (g ∷ fs) (suc k) f h = entry_at fs k f (omega arith)

pub entries_of-push : (fs : List Frame) (f : Frame) → entries_of (fs ++ f ∷ []) ≡ entries_of fs ++ f.entry ∷ []
entries_of-push [] f = refl
entries_of-push (g ∷ fs) f = ap (λ es. g.entry ∷ es) (entries_of-push fs f)

pub is_one_of-push : (xs : List ℕ) (p q : ℕ) → is_one_of (xs ++ p ∷ []) q ≡ ((p == q) || is_one_of xs q)
is_one_of-push [] p q = refl
is_one_of-push (x ∷ xs) p q = ap (λ b. (x == q) || b) (is_one_of-push xs p q) ∙ swap_or (x == q) (p == q) (is_one_of xs q)
  where
    swap_or : (a b c : Bool) → (a || (b || c)) ≡ (b || (a || c))
    swap_or true true c = refl
    swap_or true false c = refl
    swap_or false true c = refl
    swap_or false false c = refl

-- the order of frames doesn't matter
pub is_one_of-reverse : (fs : List Frame) (p : ℕ) → is_one_of (entries_of (reverse fs)) p ≡ is_one_of (entries_of fs) p
is_one_of-reverse [] p = refl
is_one_of-reverse (f ∷ fs) p =
    ap (λ gs. is_one_of (entries_of gs) p) (reverse-append (f ∷ []) fs)
    ∙ ap (λ es. is_one_of es p) (entries_of-push (reverse fs) f)
    ∙ is_one_of-push (entries_of (reverse fs)) f.entry p
    ∙ ap (λ b. (f.entry == p) || b) (is_one_of-reverse fs p)

-- one more frame
pub seated-push : (seats xs : List ℕ) (place : ℕ) → is_one_of xs place ≡ false → place < length seats → AreSeated seats xs → AreSeated (set seats place (length xs)) (xs ++ place ∷ [])
seated-push seats xs place closed there seated k h = ⊎_elim before last (cases_lt k (length xs))
  where
    before : k < length xs → get_or (set seats place (length xs)) (get_or (xs ++ place ∷ []) k 0) 0 ≡ k
    before less =
        let at : get_or (xs ++ place ∷ []) k 0 ≡ get_or xs k 0 = get_or_append_left xs (place ∷ []) 0 k less in
        let apart : get_or xs k 0 ≢ place = λ e. false≢true (sym closed ∙ open_by_place xs k place less e) in
        ap (λ p. get_or (set seats place (length xs)) p 0) at ∙ get_or-set_other seats place (get_or xs k 0) (length xs) 0 apart ∙ seated k less

    last : length xs ≤ k → get_or (set seats place (length xs)) (get_or (xs ++ place ∷ []) k 0) 0 ≡ k
    last past =
        let here : length xs ≡ k = omega (arith, length-append xs (place ∷ []), h) in
        let at : get_or (xs ++ place ∷ []) k 0 ≡ place = get_or_push xs place 0 k here in
        ap (λ p. get_or (set seats place (length xs)) p 0) at ∙ get_or-set_same seats place (length xs) 0 there ∙ here

-- one frame less, whose entry is no other's
pub seated-less : (seats xs : List ℕ) (place : ℕ) → AreSeated seats (xs ++ place ∷ []) → AreSeated seats xs
seated-less seats xs place seated k h =
    ap (λ p. get_or seats p 0) (sym (get_or_append_left xs (place ∷ []) 0 k h)) ∙ seated k (omega (arith, length-append xs (place ∷ [])))

pub apart-less : (seats xs : List ℕ) (place : ℕ) → AreSeated seats (xs ++ place ∷ []) → is_one_of xs place ≡ false
apart-less seats xs place seated = by (is_one_of xs place) refl
  where
    by : (b : Bool) → is_one_of xs place ≡ b → b ≡ false
    by false e = refl
    by true e =
        let at = place_of_open xs place e in
        let one : get_or seats place 0 ≡ at.0 = ap (λ p. get_or seats p 0) (sym at.2) ∙ seated-less seats xs place seated at.0 at.1 in
        let two : get_or seats place 0 ≡ length xs =
        ap (λ p. get_or seats p 0) (sym (get_or_push xs place 0 (length xs) refl)) ∙ seated (length xs) (omega (arith, length-append xs (place ∷ []))) in
        absurd (omega (arith, at.1))
