-- A definition that no directive follows: its name is replaced.
use Rattle.std.proofs.Common.{codes, ◌≡◌, ℕ, ◌+◌, ◌≤◌, ◌&&◌, List, [], ◌∷◌, ◌++◌, Bool, true, false, not, cond, refl, ap, sym, ◌∙◌, arith, append_assoc, length-append, length, drop, map, Some, None, Ok}
use Rattle.std.specs.List.{flat_map, list_all}
use Rattle.std.specs.Option.{option_map, option_map_or}
use Rattle.std.proofs.lemmas.Bool.{and_parts, le-ltb}
use Rattle.std.proofs.lemmas.List.{append-nil}
use Rattle.c_lexer.specs.declared.token.Token.{Token}
use Rattle.c_preproc.specs.declared.directives.DirectiveWord.TheVariants.{Define}
use Rattle.c_preproc.specs.Texts.{is_name, is_punctuator, same_text, text_of}
use Rattle.c_preproc.specs.Directives.{Plain, Directive, directive_word}
use Rattle.c_preproc.specs.Groups.{after_step, opens_after, step_of, unbalanced_line}
use Rattle.c_preproc.specs.Macros.{Macro, expansion_of_token, placed_at, replacement_of, without}
use Rattle.c_preproc.specs.Outcomes.{and_then}
use Rattle.c_preproc.specs.Expansion.{State, after_blocks, after_directive, after_token, define, filc_macro, first_fault, first_state, has_parameters, hash_line, token_limit, with_digits}
use Rattle.c_preproc.specs.Law.{DefinitionsReplace, in_place_of, is_filc, is_untouched}
use Rattle.c_preproc.proofs.Depth.{names_are_replaced}
use Rattle.c_preproc.proofs.Untouched.{not_true, untouched_balance}

module _ (bytes : List ℕ) (name : Token) (body : List Token) where
  abbrev texts : List ℕ
  texts = with_digits bytes

  abbrev macro : Macro
  macro = record { name = text_of texts name; body = body }

  abbrev macros : List Macro
  macros = macro ∷ (filc_macro bytes ∷ [])

  -- where only __FILC__ is a macro no other token is replaced
  stays_alone : (t : Token) → is_filc texts t ≡ false → replacement_of texts (filc_macro bytes ∷ []) t ≡ t ∷ []
  stays_alone t h =
      names_are_replaced texts (filc_macro bytes ∷ []) t
      ∙ ap (λ o. option_map_or (flat_map (replacement_of texts (without (filc_macro bytes ∷ []) (text_of texts t)))) o (t ∷ [])) (by (is_name t) (same_text (codes "__FILC__") (text_of texts t)) h)
    where
      by : (n s : Bool) → (n && s) ≡ false → cond n (option_map (λ m. m.body) (cond s (Some (filc_macro bytes)) None)) None ≡ None
      by true true e = cc
      by true false e = refl
      by false s e = refl

  all_stay_alone : (tokens : List Token) → list_all (is_untouched texts) tokens ≡ true → flat_map (replacement_of texts (filc_macro bytes ∷ [])) tokens ≡ tokens
  all_stay_alone [] h = refl
  all_stay_alone (t ∷ tokens) h =
      let both = and_parts (is_untouched texts t) (list_all (is_untouched texts) tokens) h in
      let free = not_true _ (and_parts (not (is_punctuator texts t (codes "#"))) _ both.0).1 in
      rw (stays_alone t free, all_stay_alone tokens both.1) refl

  -- the state behind the definition, with tokens put out
  abbrev with_out : List Token → State
  with_out out = record { definitions = record { bytes = texts; macros = macros }; groups = []; out = out }

  module _ (unhashed : list_all (is_untouched texts) body ≡ true) where
    -- what stands for a token that is not the macro of the beginning
    stands_for : (t : Token) → is_filc texts t ≡ false → expansion_of_token texts macros t ≡ in_place_of texts name body t
    stands_for t h =
        ap (map (placed_at t)) (names_are_replaced texts macros t)
        ∙ by (is_name t) (same_text (text_of texts name) (text_of texts t)) (same_text (codes "__FILC__") (text_of texts t)) refl refl h
      where
        gone : same_text (text_of texts name) (text_of texts t) ≡ true → same_text (codes "__FILC__") (text_of texts t) ≡ false → without macros (text_of texts t) ≡ filc_macro bytes ∷ []
        gone same other = rw (same, other) refl

        by : (n s f : Bool) → same_text (text_of texts name) (text_of texts t) ≡ s → same_text (codes "__FILC__") (text_of texts t) ≡ f → (n && f) ≡ false
            → map (placed_at t) (option_map_or (flat_map (replacement_of texts (without macros (text_of texts t)))) (cond n (option_map (λ m. m.body) (cond s (Some macro) (cond f (Some (filc_macro bytes)) None))) None) (t ∷ [])) ≡ cond (n && s) (map (placed_at t) body) (t ∷ [])
        by false s f e g h = refl
        by true s true e g h = cc
        by true false false e g h = refl
        by true true false e g h = ap (λ ms. map (placed_at t) (flat_map (replacement_of texts ms) body)) (gone e g) ∙ ap (map (placed_at t)) (all_stay_alone body unhashed)

    tokens_after : (out tokens : List Token) → list_all (is_untouched texts) tokens ≡ true → length out + length (flat_map (in_place_of texts name body) tokens) ≤ token_limit → after_blocks (with_out out) (map Plain tokens) ≡ Ok (with_out (out ++ flat_map (in_place_of texts name body) tokens))
    unfolding after_blocks
    tokens_after out [] h few = ap (λ ts. Ok (with_out ts)) (sym (append-nil out))
    tokens_after out (t ∷ tokens) h few =
        let both = and_parts (is_untouched texts t) (list_all (is_untouched texts) tokens) h in
        let parts = and_parts (not (is_punctuator texts t (codes "#"))) _ both.0 in
        let more = in_place_of texts name body t in
        let size = length-append more (flat_map (in_place_of texts name body) tokens) in
        let fits = le-ltb token_limit (length out + length more) (omega (arith, few, size)) in
        let step : after_token (with_out out) t ≡ Ok (with_out (out ++ more)) = rw (not_true _ parts.0, stands_for t (not_true _ parts.1), fits) refl in
        ap (λ r. and_then r (λ after. after_blocks after (map Plain tokens))) step
        ∙ tokens_after (out ++ more) tokens both.1 (omega (arith, few, size, length-append out more))
        ∙ ap (λ ts. Ok (with_out ts)) (append_assoc out more (flat_map (in_place_of texts name body) tokens))

no_hash_line : (texts : List ℕ) (tokens : List Token) → list_all (is_untouched texts) tokens ≡ true → hash_line texts tokens ≡ None
no_hash_line texts [] h = refl
no_hash_line texts (t ∷ tokens) h =
    let both = and_parts (is_untouched texts t) (list_all (is_untouched texts) tokens) h in
    rw (not_true _ (and_parts (not (is_punctuator texts t (codes "#"))) _ both.0).0) (no_hash_line texts tokens both.1)

-- the definition is carried out
defines : (bytes : List ℕ) (line : ℕ) (name : Token) (body : List Token) → is_name name ≡ true → has_parameters (with_digits bytes) name body ≡ false → is_filc (with_digits bytes) name ≡ false → list_all (is_untouched (with_digits bytes)) body ≡ true → define line (first_state bytes) (name ∷ body) ≡ Ok (with_out bytes name body [])
defines bytes line name body named plain other unhashed =
    let new : same_text (codes "__FILC__") (text_of (with_digits bytes) name) ≡ false = ap (λ b. b && same_text (codes "__FILC__") (text_of (with_digits bytes) name)) (sym named) ∙ other in
    rw (named, plain, new, no_hash_line (with_digits bytes) body unhashed) refl

definition_after : (bytes : List ℕ) (name : Token) (body : List Token) (hash : Token) (line : List Token) → directive_word (with_digits bytes) line ≡ Define → drop 1 line ≡ name ∷ body → is_name name ≡ true → has_parameters (with_digits bytes) name body ≡ false → is_filc (with_digits bytes) name ≡ false → list_all (is_untouched (with_digits bytes)) body ≡ true → after_directive hash.line (first_state bytes) line ≡ Ok (with_out bytes name body [])
definition_after bytes name body hash line word tokens named plain other unhashed = rw (word, tokens) (defines bytes hash.line name body named plain other unhashed)

balance_after : (texts : List ℕ) (hash : Token) (line tokens : List Token) → directive_word texts line ≡ Define → unbalanced_line texts [] (Directive hash line ∷ map Plain tokens) ≡ None
unfolding unbalanced_line
balance_after texts hash line tokens word =
    ap (λ w. after_step (step_of w []) hash.line (unbalanced_line texts (opens_after hash.line w []) (map Plain tokens))) word ∙ untouched_balance texts tokens

blocks_after : (bytes : List ℕ) (hash : Token) (line : List Token) (tokens : List Token) → after_blocks (first_state bytes) (Directive hash line ∷ map Plain tokens) ≡ and_then (after_directive hash.line (first_state bytes) line) (λ after. after_blocks after (map Plain tokens))
unfolding after_blocks
blocks_after bytes hash line tokens = refl

pub definitions_replace : DefinitionsReplace
definitions_replace bytes name body tokens (Plain t) definition other unhashed untouched few = absurd definition.directive
definitions_replace bytes name body tokens (Directive hash line) definition other unhashed untouched few =
    let not_filc = not_true _ (and_parts (not (is_punctuator (with_digits bytes) name (codes "#"))) _ other).1 in
    ap (λ o. first_fault o (and_then (after_blocks (first_state bytes) (Directive hash line ∷ map Plain tokens)) (λ state. Ok state.out))) (balance_after (with_digits bytes) hash line tokens definition.directive.0)
    ∙ ap (λ r. and_then r (λ (state : State). Ok state.out))
    (blocks_after bytes hash line tokens
    ∙ ap (λ r. and_then r (λ after. after_blocks after (map Plain tokens))) (definition_after bytes name body hash line definition.directive.0 definition.directive.1 definition.named definition.plain not_filc unhashed)
    ∙ tokens_after bytes name body unhashed [] tokens untouched (omega (arith, few)))
