-- The steps that replacing a token takes: more than its macro's tokens take together.
use Rattle.std.proofs.Common.{◌≡◌, ℕ, zero, suc, ◌+◌, ◌≤◌, List, [], ◌∷◌, length, Option, Some, None, refl, arith}
use Rattle.std.specs.List.{sum_by}
use Rattle.std.specs.Option.{option_map_or}
use Rattle.std.proofs.lemmas.List.Sums.{sum_by-cons}
use Rattle.c_lexer.specs.declared.token.Token.{Token}
use Rattle.c_preproc.specs.Texts.{text_of}
use Rattle.c_preproc.specs.Macros.{Macro, body_for, without}
use Rattle.c_preproc.specs.Code.Expander.{effort, effort_of}
use Rattle.c_preproc.proofs.Depth.{length-body}

sum_by_le : (f g : Token → ℕ) (tokens : List Token) → ((t : Token) → f t ≤ g t) → sum_by f tokens ≤ sum_by g tokens
sum_by_le f g [] h = omega arith
sum_by_le f g (t ∷ tokens) h = omega (arith, sum_by-cons f t tokens, sum_by-cons g t tokens, h t, sum_by_le f g tokens h)

pub effort_some : (n : ℕ) (bytes : List ℕ) (macros : List Macro) (t : Token) → 1 ≤ effort n bytes macros t
unfolding effort
effort_some zero bytes macros t = omega arith
effort_some (suc n) bytes macros t = by (body_for bytes macros t)
  where
    by : (o : Option (List Token)) → 1 ≤ option_map_or (λ body. 2 + sum_by (effort n bytes (without macros (text_of bytes t))) body) o 1
    by None = omega arith
    by (Some body) = omega arith

-- more depth takes no fewer steps
effort_more : (n k : ℕ) (bytes : List ℕ) (macros : List Macro) (t : Token) → n ≤ k → effort n bytes macros t ≤ effort k bytes macros t
unfolding effort
effort_more zero k bytes macros t h = effort_some k bytes macros t
effort_more (suc n) zero bytes macros t h = absurd (omega arith)
effort_more (suc n) (suc k) bytes macros t h = by (body_for bytes macros t) (effort_more n k bytes (without macros (text_of bytes t)))
  where
    by : (o : Option (List Token)) → ((u : Token) → n ≤ k → effort n bytes (without macros (text_of bytes t)) u ≤ effort k bytes (without macros (text_of bytes t)) u)
        → option_map_or (λ body. 2 + sum_by (effort n bytes (without macros (text_of bytes t))) body) o 1 ≤ option_map_or (λ body. 2 + sum_by (effort k bytes (without macros (text_of bytes t))) body) o 1
    by None deep = omega arith
    by (Some body) deep =
        let all = sum_by_le (effort n bytes (without macros (text_of bytes t))) (effort k bytes (without macros (text_of bytes t))) body (λ u. deep u (omega arith)) in
        omega arith

pub effort_inside : (bytes : List ℕ) (macros : List Macro) (t : Token) (body : List Token) → body_for bytes macros t ≡ Some body → 2 + sum_by (effort_of bytes (without macros (text_of bytes t))) body ≤ effort_of bytes macros t
unfolding effort
effort_inside bytes macros t body h = by (length macros) refl
  where
    by : (n : ℕ) → length macros ≡ n → 2 + sum_by (effort_of bytes (without macros (text_of bytes t))) body ≤ effort n bytes macros t
    by zero e = let less = length-body bytes macros t body h in absurd (omega arith)
    by (suc n) e =
        let less = length-body bytes macros t body h in
        let all = sum_by_le (effort_of bytes (without macros (text_of bytes t))) (effort n bytes (without macros (text_of bytes t))) body (λ u. effort_more (length (without macros (text_of bytes t))) n bytes (without macros (text_of bytes t)) u (omega arith)) in
        rw h (omega arith)
