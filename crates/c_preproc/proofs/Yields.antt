-- What is kept yields: the tokens that stand for an entry's tokens, or its name, wherever no kept entry is hidden.
use Rattle.std.proofs.Common.{◌≡◌, ℕ, ◌||◌, ◌==◌, Bool, true, false, List, [], ◌∷◌, ◌++◌, Some, None, refl, sym, ap, ◌∙◌, arith}
use Rattle.std.proofs.lemmas.Bool.{false≢true}
use Rattle.std.proofs.lemmas.Bool.Decides.{nat_tests}
use Rattle.std.proofs.lemmas.Grind.{flat_map-append}
use Rattle.std.proofs.lemmas.List.{append-nil}
use Rattle.c_lexer.specs.declared.token.Token.{Token}
use Rattle.c_preproc.specs.Texts.{text_of}
use Rattle.c_preproc.specs.Macros.{Macro, without, replacement_of}
use Rattle.c_preproc.specs.Code.Table.{IsIndexed, body_at}
use Rattle.c_preproc.specs.Code.Expander.{Setting, LeavesOut, NameYields, Yields, but_for, entry_of, is_one_of}
use Rattle.c_preproc.proofs.LeftOut.{but_for_open, entry_leads, goes, leaves_out_more, stays}

-- wherever no kept entry is hidden the token is replaced by these
abbrev pub TokenYields : Setting → (ℕ → Bool) → Token → List Token → Type 0
TokenYields s kept token out =
    (hidden : List ℕ) (macros : List Macro) → LeavesOut s hidden macros → ((entry : ℕ) → is_one_of hidden entry ≡ true → kept entry ≡ false)
    → replacement_of s.bytes macros token ≡ out

-- each of the old ones is one of the new ones
abbrev pub AtLeast : (ℕ → Bool) → (ℕ → Bool) → Type 0
AtLeast kept more = (entry : ℕ) → kept entry ≡ true → more entry ≡ true

none_kept : (kept more : ℕ → Bool) → AtLeast kept more → (entry : ℕ) → more entry ≡ false → kept entry ≡ false
none_kept kept more least entry h = by (kept entry) refl
  where
    by : (b : Bool) → kept entry ≡ b → b ≡ false
    by false e = refl
    by true e = absurd (false≢true (sym h ∙ least entry e))

pub yields_more : (s : Setting) (kept more : ℕ → Bool) (tokens out : List Token) → AtLeast kept more → Yields s kept tokens out → Yields s more tokens out
yields_more s kept more tokens out least h hidden macros leaves apart = h hidden macros leaves (λ entry one. none_kept kept more least entry (apart entry one))

pub name_yields_more : (s : Setting) (kept more : ℕ → Bool) (entry : ℕ) (out : List Token) → AtLeast kept more → NameYields s kept entry out → NameYields s more entry out
name_yields_more s kept more entry out least h hidden macros leaves apart = h hidden macros leaves (λ other one. none_kept kept more least other (apart other one))

pub yields_nothing : (s : Setting) (kept : ℕ → Bool) → Yields s kept [] []
yields_nothing s kept hidden macros leaves apart = refl

pub yields_push : (s : Setting) (kept : ℕ → Bool) (tokens out more : List Token) (t : Token) → Yields s kept tokens out → TokenYields s kept t more → Yields s kept (tokens ++ t ∷ []) (out ++ more)
yields_push s kept tokens out more t before one hidden macros leaves apart =
    flat_map-append (replacement_of s.bytes macros) tokens (t ∷ [])
    ∙ ap (λ ts. ts ++ (replacement_of s.bytes macros t ++ [])) (before hidden macros leaves apart)
    ∙ ap (λ ts. out ++ ts) (append-nil (replacement_of s.bytes macros t) ∙ one hidden macros leaves apart)

-- a token that is no macro's name
pub plain_yields : (s : Setting) (kept : ℕ → Bool) (t : Token) → entry_of s t ≡ None → TokenYields s kept t (t ∷ [])
plain_yields s kept t none hidden macros leaves apart = stays s hidden macros leaves t (ap (but_for hidden) none)

pub token_yields : (s : Setting) (kept : ℕ → Bool) (t : Token) (entry : ℕ) (out : List Token) → entry_of s t ≡ Some entry → NameYields s kept entry out → TokenYields s kept t out
token_yields s kept t entry out names h hidden macros leaves apart = h hidden macros leaves apart t names

-- an entry whose tokens yield these, where it isn't kept itself, does so where it is
pub entry_yields : (s : Setting) → IsIndexed s.places s.entries → (kept more : ℕ → Bool) (entry : ℕ) (out : List Token)
    → kept entry ≡ false → more entry ≡ true → AtLeast kept more → Yields s kept (body_at s.entries entry) out → NameYields s more entry out
entry_yields s indexed kept more entry out old new least h hidden macros leaves apart t names =
    goes s hidden macros leaves t entry (ap (but_for hidden) names ∙ but_for_open hidden entry shown)
    ∙ h (entry ∷ hidden) (without macros (text_of s.bytes t)) (leaves_out_more s indexed hidden macros (text_of s.bytes t) entry (entry_leads s t entry names) leaves) none
  where
    shown : is_one_of hidden entry ≡ false
    shown = by (is_one_of hidden entry) refl
      where
        by : (b : Bool) → is_one_of hidden entry ≡ b → b ≡ false
        by false e = refl
        by true e = absurd (false≢true (sym (apart entry e) ∙ new))

    none : (other : ℕ) → is_one_of (entry ∷ hidden) other ≡ true → kept other ≡ false
    none other one = by (entry == other) refl one
      where
        by : (b : Bool) → (entry == other) ≡ b → (b || is_one_of hidden other) ≡ true → kept other ≡ false
        by true e g = let same : entry ≡ other = grind (arith, nat_tests) in ap kept (sym same) ∙ old
        by false e g = none_kept kept more least other (apart other g)
