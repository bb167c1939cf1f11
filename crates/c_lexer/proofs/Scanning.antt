-- Lemmas on the pass: what one front at a place makes of the outcome.
use Rattle.std.proofs.Common.{◌≡◌, ℕ, zero, suc, ◌+◌, ◌<◌, ◌≤◌, ◌&&◌, List, [], ◌∷◌, ◌++◌, Bool, true, false, not, nat_le, refl, arith, length, drop, get_or, ap, sym, ◌∙◌, drop-drop, length-drop, Ok, Err}
use Rattle.std.proofs.lemmas.Bool.{le-leb, and_parts}
use Rattle.std.proofs.lemmas.List.{drop_all}
use Rattle.std.specs.List.{list_all}
use Rattle.c_lexer.specs.declared.fault.LexFault.{LexFault}
use Rattle.c_lexer.specs.declared.front.Front.{Front}
use Rattle.c_lexer.specs.declared.front.Front.TheVariants as front
use Rattle.c_lexer.specs.declared.token.Token.{Token}
use Rattle.c_lexer.specs.declared.token.TokenKind.{TokenKind}
use Rattle.c_lexer.specs.declared.token.TokenKind.TheVariants.{End}
use Rattle.c_lexer.specs.Front.{front_of}
use Rattle.c_lexer.specs.List.{is_end, ends_once}
use Rattle.c_lexer.specs.Tokens.{Outcome, with_token, token_at, after_front, tokens_from}

-- tokens, and then an outcome
abbrev pub prepend : List Token → Outcome → Outcome
prepend [] outcome = outcome
prepend (token ∷ tokens) outcome = with_token token (prepend tokens outcome)

prepend-snoc : (tokens : List Token) (token : Token) (outcome : Outcome) → prepend (tokens ++ token ∷ []) outcome ≡ prepend tokens (with_token token outcome)
prepend-snoc [] token outcome = refl
prepend-snoc (t ∷ tokens) token outcome = ap (with_token t) (prepend-snoc tokens token outcome)

prepend-fault : (tokens : List Token) (f : LexFault) → prepend tokens (Err f) ≡ Err f
prepend-fault [] f = refl
prepend-fault (t ∷ tokens) f = ap (with_token t) (prepend-fault tokens f)

prepend-ok : (tokens behind : List Token) → prepend tokens (Ok behind) ≡ Ok (tokens ++ behind)
prepend-ok [] behind = refl
prepend-ok (t ∷ tokens) behind = ap (with_token t) (prepend-ok tokens behind)

-- the bytes inside a front are passed over
pub tokens_from-inside : (library : Bool) (last : ℕ) (lines : List ℕ) (at : ℕ) (first : Bool) (inside : ℕ) (xs : List ℕ) → inside ≤ length xs → tokens_from library last lines at first inside xs ≡ tokens_from library last lines (at + inside) first 0 (drop inside xs)
unfolding tokens_from
tokens_from-inside library last lines at first zero xs h = ap (λ k. tokens_from library last lines k first 0 xs) (omega arith)
tokens_from-inside library last lines at first (suc inside) [] h = absurd (omega arith)
tokens_from-inside library last lines at first (suc inside) (x ∷ xs) h =
    tokens_from-inside library last lines (at + 1) first inside xs (omega arith)
    ∙ ap (λ k. tokens_from library last lines k first 0 (drop inside xs)) (omega arith)

-- what stands at the front
abbrev pub front_at : Bool → List ℕ → Front
front_at library text = front_of library (get_or text 0 0) (drop 1 text)

tokens_from-front : (library : Bool) (last : ℕ) (lines : List ℕ) (at : ℕ) (first : Bool) (text : List ℕ) → 0 < length text → tokens_from library last lines at first 0 text ≡ after_front library (get_or lines at 0) at first (front_at library text) (λ first inside. tokens_from library last lines (at + 1) first inside (drop 1 text))
unfolding tokens_from
tokens_from-front library last lines at first [] h = absurd (omega arith)
tokens_from-front library last lines at first (b ∷ rest) h = refl

-- the outcome of what stands behind a front
behind_front : (library : Bool) (last : ℕ) (lines : List ℕ) (at : ℕ) (first : Bool) (more : ℕ) (bytes : List ℕ) → at + 1 + more ≤ length bytes → tokens_from library last lines (at + 1) first more (drop 1 (drop at bytes)) ≡ tokens_from library last lines (at + 1 + more) first 0 (drop (at + 1 + more) bytes)
behind_front library last lines at first more bytes h =
    let on : drop 1 (drop at bytes) ≡ drop (at + 1) bytes = drop-drop 1 at bytes ∙ ap (λ k. drop k bytes) (omega arith) in
    let all : drop more (drop (at + 1) bytes) ≡ drop (at + 1 + more) bytes = drop-drop more (at + 1) bytes ∙ ap (λ k. drop k bytes) (omega arith) in
    ap (tokens_from library last lines (at + 1) first more) on
    ∙ tokens_from-inside library last lines (at + 1) first more (drop (at + 1) bytes) (omega (arith, length-drop (at + 1) bytes))
    ∙ ap (tokens_from library last lines (at + 1 + more) first 0) all

-- a front of white space or of a comment
pub on_blank : (library : Bool) (last : ℕ) (lines : List ℕ) (at stop : ℕ) (first next : Bool) (more : ℕ) (bytes : List ℕ) (tokens : List Token) (whole : Outcome) (f : Front) → stop ≡ at + 1 + more → stop ≤ length bytes → f ≡ front_at library (drop at bytes) → ((behind : Bool → ℕ → Outcome) → after_front library (get_or lines at 0) at first f behind ≡ behind next more) → prepend tokens (tokens_from library last lines at first 0 (drop at bytes)) ≡ whole → prepend tokens (tokens_from library last lines stop next 0 (drop stop bytes)) ≡ whole
on_blank library last lines at stop first next more bytes tokens whole f stop_is h is goes e =
    let behind : Bool → ℕ → Outcome = λ first inside. tokens_from library last lines (at + 1) first inside (drop 1 (drop at bytes)) in
    let here = tokens_from-front library last lines at first (drop at bytes) (omega (arith, length-drop at bytes)) ∙ ap (λ f. after_front library (get_or lines at 0) at first f behind) (sym is) ∙ goes behind ∙ behind_front library last lines at next more bytes (omega arith) in
    ap (λ k. prepend tokens (tokens_from library last lines k next 0 (drop k bytes))) stop_is ∙ ap (prepend tokens) (sym here) ∙ e

-- a token
pub on_token : (library : Bool) (last : ℕ) (lines : List ℕ) (at stop : ℕ) (first : Bool) (kind : TokenKind) (more : ℕ) (bytes : List ℕ) (tokens after : List Token) (whole : Outcome) → stop ≡ at + 1 + more → stop ≤ length bytes → front.Token kind more ≡ front_at library (drop at bytes) → after ≡ tokens ++ token_at library (get_or lines at 0) first kind at (at + 1 + more) ∷ [] → prepend tokens (tokens_from library last lines at first 0 (drop at bytes)) ≡ whole → prepend after (tokens_from library last lines stop false 0 (drop stop bytes)) ≡ whole
on_token library last lines at stop first kind more bytes tokens after whole stop_is h is after_is e =
    let token = token_at library (get_or lines at 0) first kind at (at + 1 + more) in
    let behind : Bool → ℕ → Outcome = λ first inside. tokens_from library last lines (at + 1) first inside (drop 1 (drop at bytes)) in
    let left = tokens_from library last lines (at + 1 + more) false 0 (drop (at + 1 + more) bytes) in
    let here : tokens_from library last lines at first 0 (drop at bytes) ≡ with_token token left = tokens_from-front library last lines at first (drop at bytes) (omega (arith, length-drop at bytes)) ∙ ap (λ f. after_front library (get_or lines at 0) at first f behind) (sym is) ∙ ap (with_token token) (behind_front library last lines at false more bytes (omega arith)) in
    ap (λ k. prepend after (tokens_from library last lines k false 0 (drop k bytes))) stop_is
    ∙ ap (λ ts. prepend ts left) after_is ∙ prepend-snoc tokens token left ∙ ap (prepend tokens) (sym here) ∙ e

-- a fault
pub on_fault : (library : Bool) (last : ℕ) (lines : List ℕ) (at : ℕ) (first : Bool) (bytes : List ℕ) (tokens : List Token) (whole : Outcome) (f : Front) (why : LexFault) → at < length bytes → f ≡ front_at library (drop at bytes) → ((behind : Bool → ℕ → Outcome) → after_front library (get_or lines at 0) at first f behind ≡ Err why) → prepend tokens (tokens_from library last lines at first 0 (drop at bytes)) ≡ whole → whole ≡ Err why
on_fault library last lines at first bytes tokens whole f why h is goes e =
    let behind : Bool → ℕ → Outcome = λ first inside. tokens_from library last lines (at + 1) first inside (drop 1 (drop at bytes)) in
    let here = tokens_from-front library last lines at first (drop at bytes) (omega (arith, length-drop at bytes)) ∙ ap (λ f. after_front library (get_or lines at 0) at first f behind) (sym is) ∙ goes behind in
    sym e ∙ ap (prepend tokens) here ∙ prepend-fault tokens why

-- the end
pub on_end : (library : Bool) (last : ℕ) (lines : List ℕ) (at : ℕ) (first : Bool) (bytes : List ℕ) (tokens after : List Token) (whole : Outcome) → length bytes ≤ at → after ≡ tokens ++ token_at library last first End at at ∷ [] → prepend tokens (tokens_from library last lines at first 0 (drop at bytes)) ≡ whole → whole ≡ Ok after
unfolding tokens_from
on_end library last lines at first bytes tokens after whole h after_is e =
    let end = token_at library last first End at at in
    sym e ∙ ap (λ xs. prepend tokens (tokens_from library last lines at first 0 xs)) (drop_all at bytes h) ∙ prepend-ok tokens (end ∷ []) ∙ ap Ok (sym after_is)

-- one token more at the end keeps what holds of each
pub all_more : (test : Token → Bool) (tokens after : List Token) (token : Token) → after ≡ tokens ++ token ∷ [] → list_all test tokens ≡ true → test token ≡ true → list_all test after ≡ true
all_more test tokens after token is all one = ap (list_all test) is ∙ snoc tokens all
  where
    snoc : (ts : List Token) → list_all test ts ≡ true → list_all test (ts ++ token ∷ []) ≡ true
    snoc [] h = rw one refl
    snoc (t ∷ ts) h = let p = and_parts (test t) (list_all test ts) h in rw (p.0, snoc ts p.1) refl

-- a token from `start` to `end` is a slice
pub is_slice : (size start end : ℕ) → start ≤ end → end ≤ size → (nat_le start end && nat_le end size) ≡ true
is_slice size start end a b = rw (le-leb start end a, le-leb end size b) refl

-- an End behind tokens that are none
pub ends : (tokens after : List Token) (token : Token) → after ≡ tokens ++ token ∷ [] → list_all (λ t. not (is_end t.kind)) tokens ≡ true → is_end token.kind ≡ true → ends_once after ≡ true
ends tokens after token is all one = ap ends_once is ∙ snoc tokens all
  where
    snoc : (ts : List Token) → list_all (λ t. not (is_end t.kind)) ts ≡ true → ends_once (ts ++ token ∷ []) ≡ true
    snoc [] h = one
    snoc (t ∷ []) h = let p = and_parts (not (is_end t.kind)) true h in rw (p.0, one) refl
    snoc (t ∷ u ∷ ts) h =
        let p = and_parts (not (is_end t.kind)) (list_all (λ t. not (is_end t.kind)) (u ∷ ts)) h in
        rw (p.0, snoc (u ∷ ts) p.1) refl
