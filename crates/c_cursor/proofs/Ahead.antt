-- The next token, and what it is.
use Rattle.std.proofs.Common.{◌≡◌, ℕ, zero, suc, ◌+◌, ◌≤◌, ◌<◌, Bool, true, false, cond, List, [], ◌∷◌, length, get_or, drop, refl, sym, ap, ◌∙◌, arith}
use Rattle.std.specs.Prelude.{◌||◌, ◌&&◌, Some, None, slice_get}
use Rattle.std.proofs.lemmas.Option.{slice_get_within, get_or_from_slice_get, slice_get-get_or}
use Rattle.std.proofs.Math.Seq.{drop-cons}
use Rattle.std.proofs.Math.ListN.{drop_of_length-le}
use Rattle.std.specs.List.{list_any}
use Rattle.c_parts.specs.Production.{two_of, line_at}
use Rattle.c_parts.specs.declared.terminal.Terminal.{Terminal}
use Rattle.c_parts.specs.declared.terminal.Terminal.TheVariants as t
use Rattle.c_parts.specs.declared.lexeme.Lexeme.{Lexeme}
use Rattle.c_parts.specs.Scopes.{State, next}
use Rattle.c_parts.specs.Terminals.{is}
use Rattle.c_cursor.specs.Input.{behind, lines_of}
use Rattle.c_parts.specs.Kinds.{kind, kind_of, Kinds, member, has, told}
use Rattle.c_parts.specs.Reading.{Test, ahead, ahead_two, Took, Refused, Syntax, accept, take_one}

pub kind_other : (named typed : Bool) (behind x : Terminal) → (x ≡ t.Name → ⊥) → (x ≡ t.LeftParen → ⊥) → (x ≡ t.Comma → ⊥) → kind_of named typed behind x ≡ x
kind_other named typed behind t.Name a b c = absurd (a refl)
kind_other named typed behind t.LeftParen a b c = absurd (b refl)
kind_other named typed behind t.Comma a b c = absurd (c refl)
kind_other named typed behind _ a b c = refl

pub any_member : (k : Terminal) (ks : Kinds) → list_any (λ other. is k other) ks ≡ member k ks
any_member k [] = refl
any_member k (x ∷ ks) = ap (λ b. is k x || b) (any_member k ks)

pub drop_some : (tokens : List Lexeme) (i : ℕ) (x : Lexeme) → slice_get tokens i ≡ Some x → drop i tokens ≡ x ∷ drop (i + 1) tokens
drop_some tokens i x e =
    let within : i < length tokens = slice_get_within tokens i x e in
    drop-cons tokens i x within ∙ ap (λ y. y ∷ drop (suc i) tokens) (get_or_from_slice_get tokens i x x e) ∙ ap (λ k. x ∷ drop k tokens) (let k : suc i ≡ i + 1 = omega arith in k)

past : (tokens : List Lexeme) (i : ℕ) → slice_get tokens i ≡ None → (i < length tokens → ⊥)
past [] i e h = omega (arith, h)
past (y ∷ tokens) i e h = let k : slice_get (y ∷ tokens) i ≡ Some (get_or (y ∷ tokens) i y) = slice_get-get_or (y ∷ tokens) i y h in let f : None ≡ Some (get_or (y ∷ tokens) i y) = sym e ∙ k in cc

pub drop_none : (tokens : List Lexeme) (i : ℕ) → slice_get tokens i ≡ None → drop i tokens ≡ []
drop_none tokens i e = drop_of_length-le tokens (let h : i < length tokens → ⊥ = past tokens i e in omega (arith, h))

pub ahead_some : (test : Test) (n : State) (tokens : List Lexeme) (i : ℕ) (x : Lexeme) → slice_get tokens i ≡ Some x → ahead test n (drop i tokens) ≡ test n x
ahead_some test n tokens i x e = ap (λ l. ahead test n l) (drop_some tokens i x e)

pub ahead_none : (test : Test) (n : State) (tokens : List Lexeme) (i : ℕ) → slice_get tokens i ≡ None → ahead test n (drop i tokens) ≡ false
ahead_none test n tokens i e = ap (λ l. ahead test n l) (drop_none tokens i e)

pub two_some : (first second : Kinds) (n : State) (tokens : List Lexeme) (i : ℕ) (x y : Lexeme) → slice_get tokens i ≡ Some x → slice_get tokens (i + 1) ≡ Some y
    → ahead_two (two_of first second) n (drop i tokens) ≡ (has first n x && has second (next n x) y)
two_some first second n tokens i x y e f =
    ap (λ l. ahead_two (two_of first second) n l) (drop_some tokens i x e ∙ ap (λ l. x ∷ l) (drop_some tokens (i + 1) y f))

pub two_last : (first second : Kinds) (n : State) (tokens : List Lexeme) (i : ℕ) (x : Lexeme) → slice_get tokens i ≡ Some x → slice_get tokens (i + 1) ≡ None
    → ahead_two (two_of first second) n (drop i tokens) ≡ false
two_last first second n tokens i x e f = ap (λ l. ahead_two (two_of first second) n l) (drop_some tokens i x e ∙ ap (λ l. x ∷ l) (drop_none tokens (i + 1) f))

pub two_none : (first second : Kinds) (n : State) (tokens : List Lexeme) (i : ℕ) → slice_get tokens i ≡ None → ahead_two (two_of first second) n (drop i tokens) ≡ false
two_none first second n tokens i e = ap (λ l. ahead_two (two_of first second) n l) (drop_none tokens i e)

pub taken_yes : (ks : Kinds) (n : State) (tokens : List Lexeme) (i : ℕ) (x : Lexeme) → slice_get tokens i ≡ Some x → ahead (has ks) n (drop i tokens) ≡ true
    → take_one (told ks) n (drop i tokens) ≡ Took x (drop (i + 1) tokens) (next n x)
taken_yes ks n tokens i x e h =
    ap (λ l. take_one (told ks) n l) (drop_some tokens i x e) ∙ ap (λ b. accept (cond b (Some x) None) x (drop (i + 1) tokens) n) (sym (ahead_some (has ks) n tokens i x e) ∙ h)

pub taken_no : (ks : Kinds) (n : State) (ts : List Lexeme) → ahead (has ks) n ts ≡ false → take_one (told ks) n ts ≡ Refused Syntax ts
taken_no ks n [] h = refl
taken_no ks n (t ∷ ts) h = ap (λ b. accept (cond b (Some t) None) t ts n) h

pub behind_next : (n : State) (x y : Lexeme) → kind (behind x.terminal n) y ≡ kind (next n x) y
unfolding kind
behind_next n x y = refl

pub two_at : (first second : Kinds) (n : State) (tokens : List Lexeme) (i : ℕ) (x y : Lexeme) → slice_get tokens i ≡ Some x → slice_get tokens (i + 1) ≡ Some y
    → member (kind n x) first ≡ true → ahead_two (two_of first second) n (drop i tokens) ≡ member (kind (behind x.terminal n) y) second
two_at first second n tokens i x y e f h =
    two_some first second n tokens i x y e f ∙ ap (λ b. b && has second (next n x) y) h ∙ ap (λ k. member k second) (sym (behind_next n x y))

pub two_off : (first second : Kinds) (n : State) (tokens : List Lexeme) (i : ℕ) (x y : Lexeme) → slice_get tokens i ≡ Some x → slice_get tokens (i + 1) ≡ Some y
    → member (kind n x) first ≡ false → ahead_two (two_of first second) n (drop i tokens) ≡ false
two_off first second n tokens i x y e f h = two_some first second n tokens i x y e f ∙ ap (λ b. b && has second (next n x) y) h

-- ---- lines

lines-at : (tokens : List Lexeme) (i : ℕ) (d : Lexeme) → i < length tokens → get_or (lines_of tokens) i 0 ≡ (get_or tokens i d).line
lines-at [] i d h = absurd (omega (arith, h))
lines-at (y ∷ tokens) zero d h = refl
lines-at (y ∷ tokens) (suc i) d h = lines-at tokens i d (omega (arith, h))

pub lines-past : (tokens : List Lexeme) (i : ℕ) → length tokens ≤ i → get_or (lines_of tokens) i 0 ≡ 0
lines-past [] i h = refl
lines-past (y ∷ tokens) zero h = absurd (omega (arith, h))
lines-past (y ∷ tokens) (suc i) h = lines-past tokens i (omega (arith, h))

pub line_some : (tokens : List Lexeme) (i : ℕ) (x : Lexeme) → slice_get tokens i ≡ Some x → line_at (lines_of tokens) i ≡ x.line
line_some tokens i x e = lines-at tokens i x (slice_get_within tokens i x e) ∙ ap (λ y. y.line) (get_or_from_slice_get tokens i x x e)

pub line_none : (tokens : List Lexeme) (i : ℕ) → slice_get tokens i ≡ None → line_at (lines_of tokens) i ≡ 0
line_none tokens i e = lines-past tokens i (let h : i < length tokens → ⊥ = past tokens i e in omega (arith, h))
