-- Depth: more than there are macros changes nothing.
use Rattle.std.proofs.Common.{◌≡◌, ℕ, zero, suc, ◌<◌, ◌≤◌, Bool, true, false, cond, not, List, [], ◌∷◌, ◌++◌, length, filter, Option, Some, None, refl, sym, ap, ◌∙◌, arith}
use Rattle.std.specs.List.{flat_map}
use Rattle.std.specs.Option.{option_map, option_map_or}
use Rattle.c_lexer.specs.declared.token.Token.{Token}
use Rattle.c_preproc.specs.Texts.{text_of, same_text, is_name}
use Rattle.c_preproc.specs.Macros.{Macro, macro_of, without, body_for, replacement, replacement_of}
use Rattle.c_preproc.specs.Law.{NamesAreReplaced}

pub flat_map-same : (f g : Token → List Token) (tokens : List Token) → ((t : Token) → f t ≡ g t) → flat_map f tokens ≡ flat_map g tokens
flat_map-same f g [] same = refl
flat_map-same f g (t ∷ tokens) same = ap (λ ts. ts ++ flat_map f tokens) (same t) ∙ ap (λ ts. g t ++ ts) (flat_map-same f g tokens same)

pub length-filter_le : (p : Macro → Bool) (macros : List Macro) → length (filter p macros) ≤ length macros
length-filter_le p [] = omega arith
length-filter_le p (m ∷ macros) = by (p m) (length-filter_le p macros)
  where
    by : (b : Bool) → length (filter p macros) ≤ length macros → length (cond b (m ∷ filter p macros) (filter p macros)) ≤ length (m ∷ macros)
    by true h = omega arith
    by false h = omega arith

-- a macro that is found is gone without its name
pub length-without : (macros : List Macro) (name : List ℕ) (m : Macro) → macro_of macros name ≡ Some m → length (without macros name) < length macros
length-without [] name m found = cc
length-without (x ∷ macros) name m found = by (same_text x.name name) refl (length-without macros name m) (length-filter_le (λ macro. not (same_text macro.name name)) macros)
  where
    by : (b : Bool) → same_text x.name name ≡ b → (macro_of macros name ≡ Some m → length (without macros name) < length macros) → length (without macros name) ≤ length macros → length (without (x ∷ macros) name) < length (x ∷ macros)
    by true e deep le = rw e (omega arith)
    by false e deep le =
        let less = deep (ap (λ b. cond b (Some x) (macro_of macros name)) (sym e) ∙ found) in
        rw e (omega arith)

-- a token has a body only if there is its macro
body_found : (bytes : List ℕ) (macros : List Macro) (t : Token) (body : List Token) → body_for bytes macros t ≡ Some body → (m : Macro) × (macro_of macros (text_of bytes t) ≡ Some m)
body_found bytes macros t body h = by (is_name t) (macro_of macros (text_of bytes t)) refl h
  where
    by : (b : Bool) (o : Option Macro) → macro_of macros (text_of bytes t) ≡ o → cond b (option_map (λ macro. macro.body) o) None ≡ Some body → (m : Macro) × (macro_of macros (text_of bytes t) ≡ Some m)
    by true None e g = cc
    by true (Some m) e g = (m, e)
    by false o e g = cc

pub length-body : (bytes : List ℕ) (macros : List Macro) (t : Token) (body : List Token) → body_for bytes macros t ≡ Some body → length (without macros (text_of bytes t)) < length macros
length-body bytes macros t body h = let found = body_found bytes macros t body h in length-without macros (text_of bytes t) found.0 found.1

-- without macros a token stays
pub none_there : (k : ℕ) (bytes : List ℕ) (macros : List Macro) (t : Token) → length macros ≤ 0 → replacement k bytes macros t ≡ t ∷ []
unfolding replacement
none_there zero bytes macros t h = refl
none_there (suc k) bytes macros t h = by (body_for bytes macros t) refl
  where
    by : (o : Option (List Token)) → body_for bytes macros t ≡ o → option_map_or (flat_map (replacement k bytes (without macros (text_of bytes t)))) o (t ∷ []) ≡ t ∷ []
    by None e = refl
    by (Some body) e = let less = length-body bytes macros t body e in absurd (omega arith)

-- two depths that are both enough
depths : (n k : ℕ) (bytes : List ℕ) (macros : List Macro) (t : Token) → length macros ≤ n → length macros ≤ k → replacement n bytes macros t ≡ replacement k bytes macros t
unfolding replacement
depths zero k bytes macros t h g = sym (none_there k bytes macros t h)
depths (suc n) zero bytes macros t h g = none_there (suc n) bytes macros t g
depths (suc n) (suc k) bytes macros t h g = by (body_for bytes macros t) refl (depths n k bytes (without macros (text_of bytes t)))
  where
    by : (o : Option (List Token)) → body_for bytes macros t ≡ o → ((u : Token) → length (without macros (text_of bytes t)) ≤ n → length (without macros (text_of bytes t)) ≤ k → replacement n bytes (without macros (text_of bytes t)) u ≡ replacement k bytes (without macros (text_of bytes t)) u) → option_map_or (flat_map (replacement n bytes (without macros (text_of bytes t)))) o (t ∷ []) ≡ option_map_or (flat_map (replacement k bytes (without macros (text_of bytes t)))) o (t ∷ [])
    by None e deep = refl
    by (Some body) e deep =
        let less = length-body bytes macros t body e in
        flat_map-same _ _ body (λ u. deep u (omega arith) (omega arith))

pub names_are_replaced : NamesAreReplaced
unfolding replacement
names_are_replaced bytes macros t =
    depths (length macros) (suc (length macros)) bytes macros t (omega arith) (omega arith)
    ∙ by (body_for bytes macros t) refl
  where
    by : (o : Option (List Token)) → body_for bytes macros t ≡ o → option_map_or (flat_map (replacement (length macros) bytes (without macros (text_of bytes t)))) o (t ∷ []) ≡ option_map_or (flat_map (replacement_of bytes (without macros (text_of bytes t)))) o (t ∷ [])
    by None e = refl
    by (Some body) e =
        let less = length-body bytes macros t body e in
        flat_map-same _ _ body (λ u. depths (length macros) (length (without macros (text_of bytes t))) bytes (without macros (text_of bytes t)) u (omega arith) (omega arith))
