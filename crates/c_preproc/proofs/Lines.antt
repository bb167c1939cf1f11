-- Lines of an expansion: they never fall, and each is that of a token which was there.
use Rattle.std.proofs.Common.{◌≡◌, ℕ, ◌≤◌, ◌==◌, nat_le, List, [], ◌∷◌, ◌++◌, Bool, true, refl, ap, sym, subst, ◌∙◌, arith, append_assoc, map, Ok, ⊎_elim, eq-eqb}
use Rattle.std.specs.List.{list_all, list_any}
use Rattle.std.proofs.lemmas.Bool.{and_parts, le-leb, leb-true, or_right}
use Rattle.std.proofs.lemmas.List.{append-nil, map-append}
use Rattle.c_lexer.specs.declared.token.Token.{Token}
use Rattle.c_preproc.specs.Directives.{rest_of_line}
use Rattle.c_preproc.specs.Macros.{placed_at, replacement_of}
use Rattle.c_preproc.specs.Expansion.{State, after_directive, after_token, first_state, with_digits}
use Rattle.c_preproc.specs.Law.{LinesAreOfTheFile, LinesNeverFall, lines_of, never_fall}
use Rattle.c_preproc.proofs.Lists.{all_append}
use Rattle.c_preproc.proofs.Carried.{Follows, any_token, directive_follows, kept}
use Rattle.c_preproc.proofs.Ends.{Expands, blocks_keep, token_gives, tokens_keep}
use Rattle.c_preproc.proofs.Settled.{expansion_then}

-- ---- lists of lines

from_parts : (a b : ℕ) (lines : List ℕ) → a ≤ b → never_fall (b ∷ lines) ≡ true → never_fall (a ∷ b ∷ lines) ≡ true
from_parts a b lines low h = rw (le-leb a b low, h) refl

-- one line less
fewer_lines : (front behind : List ℕ) (n : ℕ) → never_fall (front ++ n ∷ behind) ≡ true → never_fall (front ++ behind) ≡ true
fewer_lines [] [] n h = refl
fewer_lines [] (b ∷ behind) n h = (and_parts (nat_le n b) (never_fall (b ∷ behind)) h).1
fewer_lines (a ∷ []) [] n h = refl
fewer_lines (a ∷ []) (b ∷ behind) n h =
    let first = and_parts (nat_le a n) (never_fall (n ∷ b ∷ behind)) h in
    let second = and_parts (nat_le n b) (never_fall (b ∷ behind)) first.1 in
    from_parts a b behind (omega (arith, leb-true a n first.0, leb-true n b second.0)) second.1
fewer_lines (a ∷ c ∷ front) behind n h =
    let both = and_parts (nat_le a c) (never_fall (c ∷ (front ++ n ∷ behind))) h in
    rw (both.0, fewer_lines (c ∷ front) behind n both.1) refl

-- a line once more
line_again : (front behind : List ℕ) (n : ℕ) → never_fall (front ++ n ∷ behind) ≡ true → never_fall (front ++ n ∷ n ∷ behind) ≡ true
line_again [] behind n h = from_parts n n behind (omega arith) h
line_again (a ∷ []) behind n h =
    let both = and_parts (nat_le a n) (never_fall (n ∷ behind)) h in
    rw (both.0, from_parts n n behind (omega arith) both.1) refl
line_again (a ∷ c ∷ front) behind n h =
    let both = and_parts (nat_le a c) (never_fall (c ∷ (front ++ n ∷ behind))) h in
    rw (both.0, line_again (c ∷ front) behind n both.1) refl

-- a line as often as there are tokens
line_repeated : (front behind : List ℕ) (name : Token) (more : List Token) → never_fall (front ++ name.line ∷ behind) ≡ true → never_fall (front ++ (lines_of (map (placed_at name) more) ++ behind)) ≡ true
line_repeated front behind name [] h = fewer_lines front behind name.line h
line_repeated front behind name (t ∷ more) h =
    let again = ap never_fall (append_assoc front (name.line ∷ []) (name.line ∷ behind)) ∙ line_again front behind name.line h in
    sym (ap never_fall (append_assoc front (name.line ∷ []) (lines_of (map (placed_at name) more) ++ behind))) ∙ line_repeated (front ++ name.line ∷ []) behind name more again

-- ---- they never fall

abbrev InOrder : List Token → State → Type 0
InOrder rest s = never_fall (lines_of s.out ++ lines_of rest) ≡ true

directive_out : (s s' : State) (line : ℕ) (tokens : List Token) → after_directive line s tokens ≡ Ok s' → s'.out ≡ s.out
directive_out s s' line tokens e = (kept (Follows (λ t. true) s) _ s' (directive_follows (λ t. true) s line tokens (any_token tokens)) e).out

token_in_order : (s s' : State) (t : Token) (rest : List Token) → InOrder (t ∷ rest) s → after_token s t ≡ Ok s' → InOrder rest s'
token_in_order s s' t rest h e = ⊎_elim (λ same. subst (InOrder rest) (sym same) (fewer_lines (lines_of s.out) (lines_of rest) t.line h)) expanded (token_gives s s' t e)
  where
    expanded : Expands s s' t → InOrder rest s'
    expanded x =
        let more = replacement_of s.definitions.bytes s.definitions.macros t in
        ap (λ ts. never_fall (lines_of ts ++ lines_of rest)) x.out
        ∙ ap (λ ls. never_fall (ls ++ lines_of rest)) (map-append (λ u. u.line) s.out (map (placed_at t) more))
        ∙ ap never_fall (append_assoc (lines_of s.out) (lines_of (map (placed_at t) more)) (lines_of rest))
        ∙ line_repeated (lines_of s.out) (lines_of rest) t more h

pub lines_never_fall : LinesNeverFall
lines_never_fall bytes tokens out rising e =
    let last = expansion_then bytes tokens out e in
    let keeps = tokens_keep InOrder (λ s t rest h. fewer_lines (lines_of s.out) (lines_of rest) t.line h) token_in_order
    (λ s s' line t rest h is. ap (λ ts. never_fall (lines_of ts ++ lines_of rest)) (directive_out s s' line (rest_of_line rest) is) ∙ fewer_lines (lines_of s.out) (lines_of rest) t.line h)
    (with_digits bytes) 0 tokens (first_state bytes) rising in
    let all : never_fall (lines_of last.0.out ++ []) ≡ true = kept (InOrder []) _ last.0 keeps last.1 in
    ap (λ ts. never_fall (lines_of ts)) (sym last.2) ∙ ap never_fall (sym (append-nil (lines_of last.0.out))) ∙ all

-- ---- they are of the file

abbrev is_line_in : List ℕ → Token → Bool
is_line_in lines t = list_any (λ line. line == t.line) lines

with_a_line : (n : ℕ) (lines : List ℕ) (tokens : List Token) → list_all (is_line_in lines) tokens ≡ true → list_all (is_line_in (n ∷ lines)) tokens ≡ true
with_a_line n lines [] h = refl
with_a_line n lines (t ∷ tokens) h =
    let both = and_parts (is_line_in lines t) (list_all (is_line_in lines) tokens) h in
    rw (or_right (n == t.line) (is_line_in lines t) both.0, with_a_line n lines tokens both.1) refl

own_lines : (tokens : List Token) → list_all (is_line_in (lines_of tokens)) tokens ≡ true
own_lines [] = refl
own_lines (t ∷ tokens) = rw (eq-eqb t.line t.line refl, with_a_line t.line (lines_of tokens) tokens (own_lines tokens)) refl

placed_lines : (lines : List ℕ) (name : Token) (tokens : List Token) → is_line_in lines name ≡ true → list_all (is_line_in lines) (map (placed_at name) tokens) ≡ true
placed_lines lines name [] h = refl
placed_lines lines name (t ∷ tokens) h = rw (h, placed_lines lines name tokens h) refl

pub lines_are_of_the_file : LinesAreOfTheFile
lines_are_of_the_file bytes tokens out e =
    let last = expansion_then bytes tokens out e in
    let keeps = blocks_keep (is_line_in (lines_of tokens)) (λ s. list_all (is_line_in (lines_of tokens)) s.out ≡ true) at_token
    (λ s s' line ts h all is. ap (list_all (is_line_in (lines_of tokens))) (directive_out s s' line ts is) ∙ h)
    (with_digits bytes) 0 tokens (first_state bytes) (own_lines tokens) refl in
    ap (list_all (is_line_in (lines_of tokens))) (sym last.2) ∙ kept (λ s. list_all (is_line_in (lines_of tokens)) s.out ≡ true) _ last.0 keeps last.1
  where
    at_token : (s s' : State) (t : Token) → list_all (is_line_in (lines_of tokens)) s.out ≡ true → is_line_in (lines_of tokens) t ≡ true → after_token s t ≡ Ok s' → list_all (is_line_in (lines_of tokens)) s'.out ≡ true
    at_token s s' t h one is = ⊎_elim (λ same. ap (λ x. list_all (is_line_in (lines_of tokens)) x.out) same ∙ h)
        (λ (x : Expands s s' t). ap (list_all (is_line_in (lines_of tokens))) x.out ∙ all_append (is_line_in (lines_of tokens)) s.out _ h (placed_lines (lines_of tokens) t (replacement_of s.definitions.bytes s.definitions.macros t) one)) (token_gives s s' t is)
