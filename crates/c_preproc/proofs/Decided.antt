-- Conditions: the tokens in hand with each `defined` decided, before those of what is left; and expansions one behind another.
use Rattle.std.proofs.Common.{codes, ◌≡◌, ℕ, zero, suc, ◌+◌, ◌≤◌, List, [], ◌∷◌, ◌++◌, Bool, true, false, refl, ap, sym, ◌∙◌, length, drop, Option, Some, None, Result, Ok, Err, append_assoc}
use Rattle.std.proofs.lemmas.List.{append-nil, drop_all}
use Rattle.std.specs.Option.{option_map}
use Rattle.c_lexer.specs.declared.token.Token.{Token}
use Rattle.c_preproc.specs.declared.fault.PreFault.{PreFault}
use Rattle.c_lexer.specs.declared.token.TokenKind.TheVariants.{Name}
use Rattle.c_preproc.specs.Texts.{is_word}
use Rattle.c_preproc.specs.Macros.{Definitions}
use Rattle.c_preproc.specs.Outcomes.{and_then}
use Rattle.c_preproc.specs.Expansion.{operand_of_defined, decided_of, is_defined, truth_token, with_expansion, with_expansions}

abbrev pub blank : Token
blank = record { kind = Name; line = 0; start = 0; end = 0; first = false; library = false }

-- tokens, and those behind them
abbrev pub behind : List Token → Option (List Token) → Option (List Token)
behind tokens o = option_map (λ more. tokens ++ more) o

behind-push : (tokens : List Token) (t : Token) (o : Option (List Token)) → behind (tokens ++ t ∷ []) o ≡ behind tokens (option_map (λ more. t ∷ more) o)
behind-push tokens t None = refl
behind-push tokens t (Some more) = ap Some (append_assoc tokens (t ∷ []) more)

decided_of-inside : (d : Definitions) (inside : ℕ) (tokens : List Token) → decided_of d inside tokens ≡ decided_of d 0 (drop inside tokens)
unfolding decided_of
decided_of-inside d zero tokens = refl
decided_of-inside d (suc inside) [] = refl
decided_of-inside d (suc inside) (t ∷ tokens) = decided_of-inside d inside tokens

-- a token that isn't `defined`
pub on_word : (d : Definitions) (tokens after : List Token) (whole : Option (List Token)) (rest ahead : List Token) (t : Token) → rest ≡ t ∷ ahead → is_word d.bytes t (codes "defined") ≡ false → after ≡ tokens ++ t ∷ []
    → behind tokens (decided_of d 0 rest) ≡ whole → behind after (decided_of d 0 ahead) ≡ whole
unfolding decided_of
on_word d tokens after whole rest ahead t is e after_is told =
    ap (λ ts. behind ts (decided_of d 0 ahead)) after_is ∙ behind-push tokens t (decided_of d 0 ahead)
    ∙ ap (behind tokens) (front e) ∙ ap (λ ts. behind tokens (decided_of d 0 ts)) (sym is) ∙ told
  where
    front : is_word d.bytes t (codes "defined") ≡ false → option_map (λ more. t ∷ more) (decided_of d 0 ahead) ≡ decided_of d 0 (t ∷ ahead)
    front e = rw e refl

-- `defined` with its name
pub on_defined : (d : Definitions) (tokens after : List Token) (whole : Option (List Token)) (rest ahead left : List Token) (t name number : Token) (count : ℕ) → rest ≡ t ∷ ahead → is_word d.bytes t (codes "defined") ≡ true → operand_of_defined d.bytes ahead ≡ Some (name, count)
    → number ≡ truth_token d.bytes (is_defined d name) t → after ≡ tokens ++ number ∷ [] → left ≡ drop count ahead
    → behind tokens (decided_of d 0 rest) ≡ whole → behind after (decided_of d 0 left) ≡ whole
unfolding decided_of
on_defined d tokens after whole rest ahead left t name number count is e asks number_is after_is lefts told =
    ap (λ ts. behind after (decided_of d 0 ts)) lefts
    ∙ ap (λ ts. behind ts (decided_of d 0 (drop count ahead))) after_is ∙ behind-push tokens number (decided_of d 0 (drop count ahead))
    ∙ ap (behind tokens) (ap (λ n. option_map (λ more. n ∷ more) (decided_of d 0 (drop count ahead))) number_is ∙ ap (option_map (λ more. truth_token d.bytes (is_defined d name) t ∷ more)) (sym (decided_of-inside d count ahead)) ∙ front e asks)
    ∙ ap (λ ts. behind tokens (decided_of d 0 ts)) (sym is) ∙ told
  where
    front : is_word d.bytes t (codes "defined") ≡ true → operand_of_defined d.bytes ahead ≡ Some (name, count) → option_map (λ more. truth_token d.bytes (is_defined d name) t ∷ more) (decided_of d count ahead) ≡ decided_of d 0 (t ∷ ahead)
    front e asks = rw (e, asks) refl

-- `defined` without one
pub on_nameless : (d : Definitions) (tokens : List Token) (whole : Option (List Token)) (rest ahead : List Token) (t : Token) → rest ≡ t ∷ ahead → is_word d.bytes t (codes "defined") ≡ true → operand_of_defined d.bytes ahead ≡ None → behind tokens (decided_of d 0 rest) ≡ whole → whole ≡ None
unfolding decided_of
on_nameless d tokens whole rest ahead t is e asks told = sym told ∙ ap (λ ts. behind tokens (decided_of d 0 ts)) is ∙ ap (behind tokens) (front e asks)
  where
    front : is_word d.bytes t (codes "defined") ≡ true → operand_of_defined d.bytes ahead ≡ None → decided_of d 0 (t ∷ ahead) ≡ None
    front e asks = rw (e, asks) refl

-- the end
pub on_last : (d : Definitions) (tokens : List Token) (whole : Option (List Token)) (rest : List Token) → rest ≡ [] → behind tokens (decided_of d 0 rest) ≡ whole → whole ≡ Some tokens
unfolding decided_of
on_last d tokens whole rest is told = sym told ∙ ap (λ ts. behind tokens (decided_of d 0 ts)) is ∙ ap Some (append-nil tokens)

pub first_behind : (decided : List Token) (o : Option (List Token)) → decided ≡ [] → behind decided o ≡ o
first_behind decided None none = refl
first_behind decided (Some more) none = ap (λ ts. Some (ts ++ more)) none

-- ---- expansions, one behind another

-- a token's expansion fits
pub on_expansion : (d d' : Definitions) (tokens : List Token) (i : ℕ) (t : Token) (out more : List Token) (whole : Result (List Token) PreFault) → d' ≡ d → drop i tokens ≡ t ∷ drop (i + 1) tokens → with_expansion d' t out ≡ Ok more → with_expansions d (drop i tokens) out ≡ whole → with_expansions d (drop (i + 1) tokens) more ≡ whole
unfolding with_expansions
on_expansion d d' tokens i t out more whole same is fits told =
    sym (ap (λ r. and_then r (with_expansions d (drop (i + 1) tokens))) (ap (λ e. with_expansion e t out) (sym same) ∙ fits))
    ∙ ap (λ ts. with_expansions d ts out) (sym is) ∙ told

pub on_expansion_fault : (d d' : Definitions) (tokens : List Token) (i : ℕ) (t : Token) (out : List Token) (why : PreFault) (whole : Result (List Token) PreFault) → d' ≡ d → drop i tokens ≡ t ∷ drop (i + 1) tokens → with_expansion d' t out ≡ Err why → with_expansions d (drop i tokens) out ≡ whole → whole ≡ Err why
unfolding with_expansions
on_expansion_fault d d' tokens i t out why whole same is fails told =
    sym told ∙ ap (λ ts. with_expansions d ts out) is ∙ ap (λ r. and_then r (with_expansions d (drop (i + 1) tokens))) (ap (λ e. with_expansion e t out) (sym same) ∙ fails)

pub on_last_expansion : (d : Definitions) (tokens : List Token) (i : ℕ) (out : List Token) (whole : Result (List Token) PreFault) → length tokens ≤ i → with_expansions d (drop i tokens) out ≡ whole → whole ≡ Ok out
unfolding with_expansions
on_last_expansion d tokens i out whole h told = sym told ∙ ap (λ ts. with_expansions d ts out) (drop_all i tokens h)

-- ---- the bytes as the code has them

pub word_in : (bytes texts : List ℕ) (t : Token) (b : Bool) → bytes ≡ texts → is_word bytes t (codes "defined") ≡ b → is_word texts t (codes "defined") ≡ b
word_in bytes texts t b same h = ap (λ bs. is_word bs t (codes "defined")) (sym same) ∙ h

pub operand_in : (bytes texts : List ℕ) (tokens : List Token) (o : Option (Token × ℕ)) → bytes ≡ texts → operand_of_defined bytes tokens ≡ o → operand_of_defined texts tokens ≡ o
operand_in bytes texts tokens o same h = ap (λ bs. operand_of_defined bs tokens) (sym same) ∙ h
