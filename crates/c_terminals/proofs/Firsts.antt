-- The first word with a text, in a list that grows.
use Rattle.std.proofs.Common.{◌≡◌, ℕ, zero, suc, ◌+◌, ◌<◌, cond, Bool, true, false, List, [], ◌∷◌, ◌++◌, length, get_or, take, drop, Option, Some, None, unwrap_or, refl, sym, ap, ◌∙◌, arith}
use Rattle.std.specs.List.{slice_get}
use Rattle.std.specs.Option.{option_map}
use Rattle.std.proofs.lemmas.Grind.{take_at_read}
use Rattle.std.proofs.lemmas.List.{take-append-drop, length-take-le}
use Rattle.std.proofs.lemmas.Option.{slice_get_within, slice_get-get_or}
use Rattle.c_lexer.specs.declared.token.Token.{Token}
use Rattle.c_terminals.specs.Lexemes.{first_with, has_text}

-- the first of two that is there
abbrev pub or_else : Option ℕ → Option ℕ → Option ℕ
or_else None other = other
or_else (Some n) other = Some n

raised : (a b : Option ℕ) → option_map suc (or_else a b) ≡ or_else (option_map suc a) (option_map suc b)
raised None b = refl
raised (Some n) b = refl

raised_last : (b : Bool) (n : ℕ) → option_map suc (cond b (Some n) None) ≡ cond b (Some (suc n)) None
raised_last true n = refl
raised_last false n = refl

pub or_none : (a : Option ℕ) → or_else a None ≡ a
or_none None = refl
or_none (Some n) = refl

-- one token more
pub first-push : (bytes : List ℕ) (ts : List Token) (t : Token) (text : List ℕ) → first_with bytes (ts ++ t ∷ []) text ≡ or_else (first_with bytes ts text) (cond (has_text bytes text t) (Some (length ts)) None)
unfolding first_with
first-push bytes [] t text = refl
first-push bytes (x ∷ ts) t text = by (has_text bytes text x) (first-push bytes ts t text)
  where
    by : (b : Bool) → first_with bytes (ts ++ t ∷ []) text ≡ or_else (first_with bytes ts text) (cond (has_text bytes text t) (Some (length ts)) None)
        → cond b (Some 0) (option_map suc (first_with bytes (ts ++ t ∷ []) text)) ≡ or_else (cond b (Some 0) (option_map suc (first_with bytes ts text))) (cond (has_text bytes text t) (Some (suc (length ts))) None)
    by true deep = refl
    by false deep =
        ap (option_map suc) deep
        ∙ raised (first_with bytes ts text) (cond (has_text bytes text t) (Some (length ts)) None)
        ∙ ap (or_else (option_map suc (first_with bytes ts text))) (raised_last (has_text bytes text t) (length ts))

-- what is found in a front is found in the whole
found_before : (bytes : List ℕ) (ts vs : List Token) (text : List ℕ) → or_else (first_with bytes ts text) (first_with bytes (ts ++ vs) text) ≡ first_with bytes (ts ++ vs) text
unfolding first_with
found_before bytes [] vs text = refl
found_before bytes (x ∷ ts) vs text = by (has_text bytes text x) (found_before bytes ts vs text)
  where
    by : (b : Bool) → or_else (first_with bytes ts text) (first_with bytes (ts ++ vs) text) ≡ first_with bytes (ts ++ vs) text
        → or_else (cond b (Some 0) (option_map suc (first_with bytes ts text))) (cond b (Some 0) (option_map suc (first_with bytes (ts ++ vs) text))) ≡ cond b (Some 0) (option_map suc (first_with bytes (ts ++ vs) text))
    by true deep = refl
    by false deep = sym (raised (first_with bytes ts text) (first_with bytes (ts ++ vs) text)) ∙ ap (option_map suc) deep

pub first-front : (bytes : List ℕ) (ts : List Token) (i : ℕ) (text : List ℕ) (n : ℕ) → first_with bytes (take i ts) text ≡ Some n → first_with bytes ts text ≡ Some n
first-front bytes ts i text n h =
    let whole = take-append-drop i ts in
    ap (λ us. first_with bytes us text) (sym whole)
    ∙ sym (found_before bytes (take i ts) (drop i ts) text)
    ∙ ap (λ o. or_else o (first_with bytes (take i ts ++ drop i ts) text)) h

-- a text that a word of the list has is found
pub first-there : (bytes : List ℕ) (ts : List Token) (k : ℕ) (t : Token) (text : List ℕ) → slice_get ts k ≡ Some t → has_text bytes text t ≡ true → (other : Option ℕ) → or_else (first_with bytes ts text) other ≡ first_with bytes ts text
unfolding first_with
first-there bytes [] k t text there h other = absurd (none_some there)
  where
    none_some : None ≡ Some t → ⊥
    none_some e = cc
first-there bytes (x ∷ ts) zero t text there h other =
    let same : x ≡ t = ap (λ o. unwrap_or o x) there in
    let found : has_text bytes text x ≡ true = ap (has_text bytes text) same ∙ h in
    rw found refl
first-there bytes (x ∷ ts) (suc k) t text there h other =
    by (has_text bytes text x) (first_with bytes ts text) (first-there bytes ts k t text there h (Some 0))
  where
    none_some : (n : ℕ) → None ≡ Some n → ⊥
    none_some n e = cc

    by : (b : Bool) (o : Option ℕ) → or_else o (Some 0) ≡ o → or_else (cond b (Some 0) (option_map suc o)) other ≡ cond b (Some 0) (option_map suc o)
    by true o e = refl
    by false None e = absurd (none_some 0 (sym e))
    by false (Some n) e = refl

-- ---- the front of a list

some_same : (x y : Token) → Some x ≡ Some y → x ≡ y
some_same x y h = ap (λ o. unwrap_or o x) h

pub taken : (ts : List Token) (i : ℕ) (t : Token) → slice_get ts i ≡ Some t → take (i + 1) ts ≡ take i ts ++ t ∷ []
taken ts i t there =
    let within = slice_get_within ts i t there in
    let same = some_same (get_or ts i t) t (sym (slice_get-get_or ts i t within) ∙ there) in
    (take_at_read ts i t within).1 ∙ ap (λ x. take i ts ++ x ∷ []) same

pub taken_length : (ts : List Token) (i : ℕ) (t : Token) → slice_get ts i ≡ Some t → length (take i ts) ≡ i
taken_length ts i t there =
    let within = slice_get_within ts i t there in
    length-take-le i ts (omega arith)

-- a place before is in the front
pub in_front : (ts : List Token) (i k : ℕ) (t : Token) → k < i → slice_get ts k ≡ Some t → slice_get (take i ts) k ≡ Some t
in_front [] i k t less there = absurd (none_some there)
  where
    none_some : None ≡ Some t → ⊥
    none_some e = cc
in_front (x ∷ ts) zero k t less there = absurd (omega (arith, less))
in_front (x ∷ ts) (suc i) zero t less there = there
in_front (x ∷ ts) (suc i) (suc k) t less there = in_front ts i k t (omega (arith, less)) there
