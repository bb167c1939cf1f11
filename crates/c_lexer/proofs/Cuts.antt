-- The law of the recursion: the tokens that it gives are what the bytes are cut into.
use Rattle.std.proofs.Common.{◌≡◌, ◌==◌, ◌||◌, IsTrue, get_or, ℕ, zero, suc, ◌+◌, ◌<◌, ◌≤◌, List, [], ◌∷◌, ◌++◌, Bool, true, false, length, take, drop, refl, ap, sym, ◌∙◌, arith, subst, length-append, length-drop, length-take-le, Ok, Err}
use Rattle.std.proofs.lemmas.List.{take-append-drop}
use Rattle.std.proofs.Math.Seq.{take-add}
use Rattle.c_lexer.specs.declared.front.Front.{Front}
use Rattle.c_lexer.specs.declared.front.Front.TheVariants as front
use Rattle.c_lexer.specs.declared.token.Token.{Token}
use Rattle.c_lexer.specs.declared.token.TokenKind.{TokenKind}
use Rattle.c_lexer.specs.declared.token.TokenKind.TheVariants.{End}
use Rattle.c_lexer.specs.Classes.{is_blank}
use Rattle.c_lexer.specs.Front.{front_of}
use Rattle.c_lexer.specs.Law.{IsBlank, AreBlanks, no_blank, one_more, IsToken, begins_comment, IsCutInto}
use Rattle.c_lexer.specs.Tokens.{Outcome, with_token, token_at, after_front, tokens_from}
use Rattle.c_lexer.proofs.Fronts.{GoodFront, front_good, front_longest, front_no_comment}
use Rattle.c_lexer.proofs.Scanning.{tokens_from-inside}

-- a blank more in front
cut_blank : (at : ℕ) (blank rest all : List ℕ) (tokens : List Token) → all ≡ blank ++ rest → IsBlank blank rest → IsCutInto (at + length blank) rest tokens → IsCutInto at all tokens
cut_blank at blank rest all [] e is cut = cut
cut_blank at blank rest all (token ∷ []) e is cut = record {
  blanks = one_more blank rest all e is cut.blanks;
  starts = omega (arith, cut.starts, ap length e, length-append blank rest);
  stops = cut.stops;
  kind = cut.kind;
}
cut_blank at blank rest all (token ∷ next ∷ tokens) e is cut =
    let first = cut.2 in (
      cut.0,
      cut.1,
      record {
        blanks = one_more blank rest all e is first.blanks;
        starts = omega (arith, first.starts, ap length e, length-append blank rest);
        stops = first.stops;
        kind = first.kind;
        longest = first.longest;
        no_comment = first.no_comment;
      },
      cut.3,
    )

-- a token in front
cut_token : (at more : ℕ) (first : ℕ) (rest : List ℕ) (token : Token) (tokens : List Token) → more ≤ length rest → token.start ≡ at → token.end ≡ at + 1 + more → IsToken token.kind (first ∷ take more rest) → ((n : ℕ) (other : TokenKind) → more < n → n ≤ length rest → IsToken other (first ∷ take n rest) → ⊥) → begins_comment (first ∷ rest) ≡ false → IsCutInto (at + 1 + more) (drop more rest) tokens → IsCutInto at (first ∷ rest) (token ∷ tokens)
cut_token at more first rest token [] h start end kind longest no_comment cut = absurd cut
cut_token at more first rest token (next ∷ tokens) h start end kind longest no_comment cut =
    let whole : (first ∷ take more rest) ++ drop more rest ≡ first ∷ rest = ap (λ xs. first ∷ xs) (take-append-drop more rest) in
    let B : List ℕ → Type 0 = λ xs. AreBlanks ((first ∷ take more rest) ++ drop more rest) xs in
    let C : ℕ → Type 0 = λ k. IsCutInto k (drop more rest) (next ∷ tokens) in
    let taken = length-take-le more rest h in (
      first ∷ take more rest,
      drop more rest,
      record {
        blanks = subst B whole no_blank;
        starts = omega (arith, taken, length-drop more rest);
        stops = omega (arith, taken);
        kind = kind;
        longest = λ n other positive within is. longest (more + n) other (omega arith) (omega (arith, length-drop more rest)) (subst (IsToken other) (ap (λ xs. first ∷ xs) (sym (take-add more n rest))) is);
        no_comment = subst (λ xs. begins_comment xs ≡ false) (sym whole) no_comment;
      },
      subst C (sym end) cut,
    )

-- a list that begins with the token
with_ok : (token : Token) (outcome : Outcome) (tokens : List Token) → with_token token outcome ≡ Ok tokens → (behind : List Token) × (outcome ≡ Ok behind) × (tokens ≡ token ∷ behind)
with_ok token (Ok behind) tokens h = let e : token ∷ behind ≡ tokens = cc in (behind, refl, sym e)
with_ok token (Err f) tokens h = cc

-- the outcome of one front and what stands behind it
cut_front : (library : Bool) (line at : ℕ) (first : Bool) (b : ℕ) (rest : List ℕ) (f : Front) (behind : Bool → ℕ → Outcome) (tokens : List Token)
    → front_of library b rest ≡ f → GoodFront b rest f → after_front library line at first f behind ≡ Ok tokens
    → ((next : Bool) (more : ℕ) (ts : List Token) → more ≤ length rest → behind next more ≡ Ok ts → IsCutInto (at + 1 + more) (drop more rest) ts)
    → IsCutInto at (b ∷ rest) tokens
cut_front library line at first b rest front.LineEnd behind tokens e good h cut =
    let C : ℕ → Type 0 = λ k. IsCutInto k rest tokens in
    cut_blank at (b ∷ []) rest (b ∷ rest) tokens refl (line_end good) (subst C (omega arith) (cut true 0 tokens (omega arith) h))
  where
    line_end : b ≡ 10 → IsBlank (b ∷ []) rest
    line_end e = subst (λ c. IsTrue (c == 10 || is_blank c)) (sym e) refl
cut_front library line at first b rest (front.Blank more) behind tokens e good h cut =
    let C : ℕ → Type 0 = λ k. IsCutInto k (drop more rest) tokens in
    cut_blank at (b ∷ take more rest) (drop more rest) (b ∷ rest) tokens (ap (λ xs. b ∷ xs) (sym (take-append-drop more rest))) good.0
    (subst C (omega (arith, length-take-le more rest good.1)) (cut first more tokens good.1 h))
cut_front library line at first b rest (front.Token kind more) behind tokens e good h cut =
    let token = token_at library line first kind at (at + 1 + more) in
    let parts = with_ok token (behind false more) tokens h in
    let longest = λ (n : ℕ) (other : TokenKind) (less : more < n) (within : n ≤ length rest) (is : IsToken other (b ∷ take n rest)). front_longest library b rest kind more n other e less within is in
    subst (IsCutInto at (b ∷ rest)) (sym parts.2) (cut_token at more b rest token parts.0 good.1 refl refl good.0 longest (front_no_comment library b rest kind more e) (cut false more parts.0 good.1 parts.1))
cut_front library line at first b rest front.Bad behind tokens e good h cut = cc
cut_front library line at first b rest front.Unclosed behind tokens e good h cut = cc
cut_front library line at first b rest front.Literal behind tokens e good h cut = cc

cut_from : (fuel : ℕ) (library : Bool) (last : ℕ) (lines : List ℕ) (at : ℕ) (first : Bool) (xs : List ℕ) (tokens : List Token) → length xs ≤ fuel → tokens_from library last lines at first 0 xs ≡ Ok tokens → IsCutInto at xs tokens
unfolding tokens_from
cut_from fuel library last lines at first [] tokens h e =
    let is : token_at library last first End at at ∷ [] ≡ tokens = cc in
    subst (IsCutInto at []) is (record { blanks = no_blank; starts = omega arith; stops = refl; kind = refl })
cut_from zero library last lines at first (b ∷ rest) tokens h e = absurd (omega arith)
cut_from (suc fuel) library last lines at first (b ∷ rest) tokens h e =
    cut_front library (get_or lines at 0) at first b rest (front_of library b rest) (λ next more. tokens_from library last lines (at + 1) next more rest) tokens refl (front_good library b rest) e
    (λ next more ts within is. cut_from fuel library last lines (at + 1 + more) next (drop more rest) ts (omega (arith, length-drop more rest)) (sym (tokens_from-inside library last lines (at + 1) next more rest within) ∙ is))

-- the bytes are cut into the tokens that the recursion gives
pub cut_into_tokens : (library : Bool) (last : ℕ) (lines bytes : List ℕ) (tokens : List Token) → tokens_from library last lines 0 true 0 bytes ≡ Ok tokens → IsCutInto 0 bytes tokens
cut_into_tokens library last lines bytes tokens e = cut_from (length bytes) library last lines 0 true bytes tokens (omega arith) e
