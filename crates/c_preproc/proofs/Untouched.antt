-- Tokens that no directive and no macro touches.
use Rattle.std.proofs.Common.{codes, ◌≡◌, ℕ, ◌+◌, ◌≤◌, ◌&&◌, List, [], ◌∷◌, ◌++◌, Bool, true, false, not, length, map, None, Ok, refl, ap, sym, ◌∙◌, arith, append_assoc, length-append}
use Rattle.std.proofs.lemmas.Bool.{and_parts, le-ltb}
use Rattle.std.proofs.lemmas.List.{append-nil}
use Rattle.std.specs.List.{list_all}
use Rattle.c_lexer.specs.declared.token.Token.{Token}
use Rattle.c_preproc.specs.Texts.{text_of, same_text, is_name, is_punctuator}
use Rattle.c_preproc.specs.Directives.{Plain, blocks_of}
use Rattle.c_preproc.specs.Macros.{expansion_of_token, replacement}
use Rattle.c_preproc.specs.Groups.{unbalanced_line}
use Rattle.c_preproc.specs.Outcomes.{and_then}
use Rattle.c_preproc.specs.Expansion.{State, after_blocks, after_token, filc_macro, first_fault, first_state, token_limit, with_digits}
use Rattle.c_preproc.specs.Law.{is_untouched, ExpandsToItself, UntouchedTokensStay}
use Rattle.c_preproc.proofs.Lists.{and_false}

pub not_true : (b : Bool) → not b ≡ true → b ≡ false
not_true true h = cc
not_true false h = refl

untouched_blocks : (texts : List ℕ) (tokens : List Token) → list_all (is_untouched texts) tokens ≡ true → blocks_of texts 0 tokens ≡ map Plain tokens
unfolding blocks_of
untouched_blocks texts [] h = refl
untouched_blocks texts (token ∷ tokens) h =
    let both = and_parts (is_untouched texts token) (list_all (is_untouched texts) tokens) h in
    let no_hash = not_true (is_punctuator texts token (codes "#")) (and_parts (not (is_punctuator texts token (codes "#"))) _ both.0).0 in
    let behind = untouched_blocks texts tokens both.1 in
    rw (no_hash, and_false, behind) refl

pub untouched_balance : (texts : List ℕ) (tokens : List Token) → unbalanced_line texts [] (map Plain tokens) ≡ None
unfolding unbalanced_line
untouched_balance texts [] = refl
untouched_balance texts (token ∷ tokens) = untouched_balance texts tokens

untouched_token : (bytes texts : List ℕ) (token : Token) → (is_name token && same_text (codes "__FILC__") (text_of texts token)) ≡ false → expansion_of_token texts (filc_macro bytes ∷ []) token ≡ token ∷ []
unfolding replacement
untouched_token bytes texts token h =
    by_name (is_name token) (same_text (codes "__FILC__") (text_of texts token)) refl refl h
  where
    by_name : (n s : Bool) → is_name token ≡ n → same_text (codes "__FILC__") (text_of texts token) ≡ s → (n && s) ≡ false → expansion_of_token texts (filc_macro bytes ∷ []) token ≡ token ∷ []
    by_name false s e f g = rw e refl
    by_name true false e f g = rw (e, f) refl
    by_name true true e f g = cc

-- the first state with tokens behind it
abbrev with_out : List ℕ → List ℕ → List Token → State
with_out bytes texts out = record { definitions = record { bytes = texts; macros = filc_macro bytes ∷ [] }; groups = []; out = out }

untouched_after : (bytes texts : List ℕ) (out tokens : List Token) → length out + length tokens ≤ token_limit → list_all (is_untouched texts) tokens ≡ true → after_blocks (with_out bytes texts out) (map Plain tokens) ≡ Ok (with_out bytes texts (out ++ tokens))
unfolding after_blocks
untouched_after bytes texts out [] few h = ap (λ ts. Ok (with_out bytes texts ts)) (sym (append-nil out))
untouched_after bytes texts out (token ∷ tokens) few h =
    let both = and_parts (is_untouched texts token) (list_all (is_untouched texts) tokens) h in
    let one = and_parts (not (is_punctuator texts token (codes "#"))) _ both.0 in
    let fits = le-ltb token_limit (length out + 1) (omega arith) in
    let step : after_token (with_out bytes texts out) token ≡ Ok (with_out bytes texts (out ++ token ∷ [])) = rw (not_true _ one.0, untouched_token bytes texts token (not_true _ one.1), fits) refl in
    ap (λ r. and_then r (λ after. after_blocks after (map Plain tokens))) step
    ∙ untouched_after bytes texts (out ++ token ∷ []) tokens (omega (arith, length-append out (token ∷ []))) both.1
    ∙ ap (λ ts. Ok (with_out bytes texts ts)) (append_assoc out (token ∷ []) tokens)

pub expands_to_itself : (bytes : List ℕ) (tokens : List Token) → ExpandsToItself bytes tokens
expands_to_itself bytes tokens few h =
    let texts = with_digits bytes in
    let blocks = untouched_blocks texts tokens h in
    ap (λ bs. first_fault (unbalanced_line texts [] bs) (and_then (after_blocks (first_state bytes) bs) (λ state. Ok state.out))) blocks
    ∙ ap (λ line. first_fault line (and_then (after_blocks (first_state bytes) (map Plain tokens)) (λ state. Ok state.out))) (untouched_balance texts tokens)
    ∙ ap (λ r. and_then r (λ state. Ok state.out)) (untouched_after bytes texts [] tokens (omega arith) h)

pub untouched_tokens_stay : UntouchedTokensStay
untouched_tokens_stay bytes tokens few h = expands_to_itself bytes tokens few h
