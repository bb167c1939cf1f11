-- Blocks of what is left of a token list.
use Rattle.std.proofs.Common.{codes, ◌≡◌, ℕ, zero, suc, ◌&&◌, ◌||◌, ◌≤◌, ◌++◌, not, cond, List, [], ◌∷◌, Bool, true, false, refl, ap, sym, subst, ◌∙◌, ◌+◌, arith, length, take, drop}
use Rattle.std.specs.List.{take_while, prefix_len}
use Rattle.std.proofs.lemmas.List.{length-take, take_min}
use Rattle.c_lexer.specs.declared.token.Token.{Token}
use Rattle.c_lexer.specs.declared.token.TokenKind.TheVariants.{End}
use Rattle.c_preproc.specs.Texts.{is_punctuator, same_kind}
use Rattle.c_preproc.specs.Law.{BlocksEndWithLines, begins_line}
use Rattle.c_preproc.specs.Directives.{Plain, Directive, blocks_of, rest_of_line}

-- the tokens of a line have no End
abbrev pub stands_behind : Token → Bool
stands_behind token = not token.first && not (same_kind token.kind End)

-- the tokens inside a directive are passed over
pub blocks_of-inside : (bytes : List ℕ) (inside : ℕ) (tokens : List Token) → blocks_of bytes inside tokens ≡ blocks_of bytes 0 (drop inside tokens)
unfolding blocks_of
blocks_of-inside bytes zero tokens = refl
blocks_of-inside bytes (suc inside) [] = refl
blocks_of-inside bytes (suc inside) (token ∷ tokens) = blocks_of-inside bytes inside tokens

-- the items that pass at the front are a front
pub take_while-front : {X : Type 0} (p : X → Bool) (xs : List X) → take_while p xs ≡ take (length (take_while p xs)) xs
take_while-front p xs =
    sym (ap (λ n. take n xs) (length-take (prefix_len p xs) xs) ∙ take_min (prefix_len p xs) xs)

pub take_while-pass : {X : Type 0} (p : X → Bool) (x : X) (xs : List X) → p x ≡ true → take_while p (x ∷ xs) ≡ x ∷ take_while p xs
take_while-pass p x xs e =
    let more : 1 + prefix_len p xs ≡ suc (prefix_len p xs) = omega arith in
    rw e (ap (λ n. take n (x ∷ xs)) more)

pub take_while-stop : {X : Type 0} (p : X → Bool) (x : X) (xs : List X) → p x ≡ false → take_while p (x ∷ xs) ≡ []
take_while-stop p x xs e = rw e refl

-- a token that begins no directive
pub plain_front : (bytes : List ℕ) (token : Token) (behind : List Token) → (token.first && is_punctuator bytes token (codes "#")) ≡ false → blocks_of bytes 0 (token ∷ behind) ≡ Plain token ∷ blocks_of bytes 0 behind
unfolding blocks_of
plain_front bytes token behind e = rw e refl

-- one that begins a directive
pub directive_front : (bytes : List ℕ) (token : Token) (behind : List Token) (count : ℕ) → (token.first && is_punctuator bytes token (codes "#")) ≡ true → count ≡ length (rest_of_line behind) → blocks_of bytes 0 (token ∷ behind) ≡ Directive token (take count behind) ∷ blocks_of bytes 0 (drop count behind)
unfolding blocks_of
directive_front bytes token behind count e is =
    let P : List Token → Type 0 = λ line. blocks_of bytes 0 (token ∷ behind) ≡ Directive token line ∷ blocks_of bytes 0 (drop count behind) in
    let Q : ℕ → Type 0 = λ n. blocks_of bytes 0 (token ∷ behind) ≡ Directive token (take n behind) ∷ blocks_of bytes 0 (drop n behind) in
    subst Q (sym is)
    (rw e (ap (λ line. Directive token line ∷ blocks_of bytes (length (rest_of_line behind)) behind) (take_while-front _ behind)
    ∙ ap (λ rest. Directive token (take (length (rest_of_line behind)) behind) ∷ rest) (blocks_of-inside bytes (length (rest_of_line behind)) behind)))

-- ---- lines

-- the rest of a line ends where a new line begins
rest_of_line-line : (tokens more : List Token) → begins_line more ≡ true → rest_of_line (tokens ++ more) ≡ rest_of_line tokens
rest_of_line-line [] [] h = refl
rest_of_line-line [] (m ∷ more) h = take_while-stop stands_behind m more (by m.first (same_kind m.kind End) h)
  where
    by : (first end : Bool) → (first || end) ≡ true → (not first && not end) ≡ false
    by true end e = refl
    by false true e = refl
    by false false e = cc
rest_of_line-line (t ∷ tokens) more h = by (stands_behind t) refl (rest_of_line-line tokens more h)
  where
    by : (b : Bool) → stands_behind t ≡ b → rest_of_line (tokens ++ more) ≡ rest_of_line tokens → rest_of_line (t ∷ (tokens ++ more)) ≡ rest_of_line (t ∷ tokens)
    by true e deep = take_while-pass stands_behind t (tokens ++ more) e ∙ ap (λ ts. t ∷ ts) deep ∙ sym (take_while-pass stands_behind t tokens e)
    by false e deep = take_while-stop stands_behind t (tokens ++ more) e ∙ sym (take_while-stop stands_behind t tokens e)

rest_within : (tokens : List Token) → length (rest_of_line tokens) ≤ length tokens
rest_within [] = omega arith
rest_within (t ∷ tokens) = by (stands_behind t) refl (rest_within tokens)
  where
    by : (b : Bool) → stands_behind t ≡ b → length (rest_of_line tokens) ≤ length tokens → length (rest_of_line (t ∷ tokens)) ≤ length (t ∷ tokens)
    by true e deep = let is = ap length (take_while-pass stands_behind t tokens e) in omega (arith, is, deep)
    by false e deep = let is = ap length (take_while-stop stands_behind t tokens e) in omega (arith, is)

inside_line : (texts : List ℕ) (inside : ℕ) (tokens more : List Token) → inside ≤ length tokens → begins_line more ≡ true → blocks_of texts inside (tokens ++ more) ≡ blocks_of texts inside tokens ++ blocks_of texts 0 more
unfolding blocks_of
inside_line texts zero [] more within h = refl
inside_line texts (suc inside) [] more within h = absurd (omega arith)
inside_line texts (suc inside) (t ∷ tokens) more within h = inside_line texts inside tokens more (omega arith) h
inside_line texts zero (t ∷ tokens) more within h =
    by (λ (inside : ℕ) (less : inside ≤ length tokens). inside_line texts inside tokens more less h) (t.first && is_punctuator texts t (codes "#"))
  where
    by : ((inside : ℕ) → inside ≤ length tokens → blocks_of texts inside (tokens ++ more) ≡ blocks_of texts inside tokens ++ blocks_of texts 0 more) → (b : Bool)
        → cond b (Directive t (rest_of_line (tokens ++ more)) ∷ blocks_of texts (length (rest_of_line (tokens ++ more))) (tokens ++ more)) (Plain t ∷ blocks_of texts 0 (tokens ++ more))
        ≡ cond b (Directive t (rest_of_line tokens) ∷ blocks_of texts (length (rest_of_line tokens)) tokens) (Plain t ∷ blocks_of texts 0 tokens) ++ blocks_of texts 0 more
    by deep true =
        ap (λ line. Directive t line ∷ blocks_of texts (length line) (tokens ++ more)) (rest_of_line-line tokens more h)
        ∙ ap (λ blocks. Directive t (rest_of_line tokens) ∷ blocks) (deep (length (rest_of_line tokens)) (rest_within tokens))
    by deep false = ap (λ blocks. Plain t ∷ blocks) (deep 0 (omega arith))

pub blocks_end_with_lines : BlocksEndWithLines
blocks_end_with_lines texts tokens more h = inside_line texts 0 tokens more (omega arith) h
