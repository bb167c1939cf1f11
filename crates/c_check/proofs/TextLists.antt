-- Texts side by side, token by token; and bodies by their names.
use Rattle.std.proofs.Common.{◌≡◌, ℕ, suc, ◌+◌, ◌-◌, ◌<◌, ◌≤◌, cond, List, [], ◌∷◌, ◌++◌, length, get_or, drop, Some, None, refl, sym, ap, ◌∙◌, append_assoc, append-nil, arith}
use Rattle.std.specs.Prelude.{slice_get}
use Rattle.std.specs.Str.{bytes_eq}
use Rattle.std.proofs.lemmas.List.{at_drop_more, at_drop_all}
use Rattle.std.proofs.lemmas.Option.{slice_get-get_or}
use Rattle.c_file_rules.specs.Files.{body_spelled}
use Rattle.c_check.specs.Tokens.{PlainTokens, bytes_at, bytes_from, text_between, is_spelled}

pub no_text : (t : PlainTokens) (first last : ℕ) → last < first → text_between t first last ≡ []
unfolding bytes_from
no_text t first last h =
    let e : suc last - first ≡ 0 = omega arith in
    ap (λ n. bytes_from t n first) e

from_suc : (t : PlainTokens) (n k place next : ℕ) → k ≡ suc n → next ≡ suc place → bytes_from t k place ≡ bytes_at t place ++ bytes_from t n next
unfolding bytes_from
from_suc t n k place next e f =
    ap (λ m. bytes_from t m place) e ∙ ap (λ p. bytes_at t place ++ bytes_from t n p) (sym f)

from_none : (t : PlainTokens) (k place : ℕ) → k ≡ 0 → bytes_from t k place ≡ []
unfolding bytes_from
from_none t k place e = ap (λ n. bytes_from t n place) e

-- one text more
pub text_on : (t : PlainTokens) (token last : ℕ) (done next more : List ℕ) → token < last → next ≡ done ++ more → more ≡ bytes_at t token
    → next ++ bytes_from t (suc last - (token + 1)) (token + 1) ≡ done ++ bytes_from t (suc last - token) token
text_on t token last done next more h e f =
    let rest = bytes_from t (suc last - (token + 1)) (token + 1) in
    ap (λ xs. xs ++ rest) (e ∙ ap (λ m. done ++ m) f)
    ∙ append_assoc done (bytes_at t token) rest
    ∙ ap (λ xs. done ++ xs)
    (sym (from_suc t (suc last - (token + 1)) (suc last - token) token (token + 1) (omega arith) (omega arith)))

-- the last text
pub text_end : (t : PlainTokens) (token last : ℕ) (done next more : List ℕ) → token ≡ last → next ≡ done ++ more → more ≡ bytes_at t last
    → next ≡ done ++ bytes_from t (suc last - token) token
text_end t token last done next more h e f =
    let g : bytes_from t (suc last - token) token ≡ bytes_at t token ++ bytes_from t 0 (token + 1) = from_suc t 0 (suc last - token) token (token + 1) (omega arith) (omega arith) in
    let n : bytes_at t token ++ bytes_from t 0 (token + 1) ≡ bytes_at t token =
    ap (λ xs. bytes_at t token ++ xs) (from_none t 0 (token + 1) refl) ∙ append-nil (bytes_at t token) in
    e ∙ ap (λ m. done ++ m) (f ∙ ap (bytes_at t) (sym h) ∙ sym (g ∙ n))

-- ---- bodies

spelled_first : (spelling : ℕ → List ℕ) (letters : List ℕ) (n next name : ℕ) (rest : List ℕ) → next ≡ suc n
    → body_spelled spelling letters n (name ∷ rest)
    ≡ cond (is_spelled spelling letters (Some name)) (Some n) (body_spelled spelling letters next rest)
spelled_first spelling letters n next name rest e =
    ap (λ m. cond (bytes_eq (spelling name) letters) (Some n) (body_spelled spelling letters m rest)) (sym e)

pub spelled_on : (spelling : ℕ → List ℕ) (letters bodies : List ℕ) (n : ℕ) → n < length bodies
    → body_spelled spelling letters n (drop n bodies)
    ≡ cond (is_spelled spelling letters (slice_get bodies n)) (Some n) (body_spelled spelling letters (n + 1) (drop (n + 1) bodies))
spelled_on spelling letters bodies n h =
    at_drop_more (body_spelled spelling letters n) bodies n 0 h
    ∙ spelled_first spelling letters n (n + 1) (get_or bodies n 0) (drop (n + 1) bodies) (omega arith)
    ∙ ap (λ o. cond (is_spelled spelling letters o) (Some n) (body_spelled spelling letters (n + 1) (drop (n + 1) bodies)))
    (sym (slice_get-get_or bodies n 0 h))

pub spelled_end : (spelling : ℕ → List ℕ) (letters bodies : List ℕ) (n : ℕ) → length bodies ≤ n
    → body_spelled spelling letters n (drop n bodies) ≡ None
spelled_end spelling letters bodies n h = at_drop_all (body_spelled spelling letters n) bodies n h
