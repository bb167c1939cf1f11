-- What a function that reads a whole list has returned is right.
use Rattle.std.proofs.Common.{◌≡◌, ◌-◌, List, length, sym, ap, ◌∙◌}
use Rattle.std.specs.Prelude.{Err}
use Rattle.c_parts.specs.declared.lexeme.Lexeme.{Lexeme}
use Rattle.c_parts.specs.Reading.{Why, Syntax, Deep, Answer, Took, Refused}
use Rattle.c_cursor.specs.Input.{Input, Gives, answer, start_of}
use Rattle.c_cursor.specs.declared.fault.Fault.{Fault}
use Rattle.c_cursor.specs.declared.fault.Fault.TheVariants as fault
use Rattle.c_expr_parser.specs.Refusals.{IsRight, refusal_of}
use Rattle.c_syntax.specs.Spelling.{Nesting, Spells, IsRightlyRefused, most_nesting}
use Rattle.c_syntax.proofs.Claimed.{IsRead, whole-right, behind-right, refused-right}

-- from a cursor at the first token
module _ {X : Type 0} (p : Nesting X) (read : IsRead p) (i j : Input) (ts : List Lexeme) (rest : i.rest ≡ ts) (state : i.state ≡ start_of ts) where
  at-start : (a : Answer X) → answer (p most_nesting).read i ≡ a → (p most_nesting).read (start_of ts) ts ≡ a
  at-start a e = sym (ap (λ l. (p most_nesting).read i.state l) rest ∙ ap (λ n. (p most_nesting).read n ts) state) ∙ e

  pub is_spelled : (x : X) → answer (p most_nesting).read i ≡ Took x j.rest j.state → length j.rest ≡ 0 → Spells p most_nesting (start_of ts) ts x
  is_spelled x e none = whole-right p read (start_of ts) ts j.rest x j.state (at-start (Took x j.rest j.state) e) none

  pub is_refused_behind : (x : X) → answer (p most_nesting).read i ≡ Took x j.rest j.state → (length j.rest ≡ 0 → ⊥) → IsRightlyRefused p Syntax (start_of ts) ts (length ts - length j.rest)
  is_refused_behind x e some = behind-right p read (start_of ts) ts j.rest x j.state (at-start (Took x j.rest j.state) e) some

  pub is_refused : (why : Why) → answer (p most_nesting).read i ≡ Refused why j.rest → IsRightlyRefused p why (start_of ts) ts (length ts - length j.rest)
  is_refused why e = refused-right p read why (start_of ts) ts j.rest (at-start (Refused why j.rest) e)

  -- whichever fault it is
  pub is_right : (f : Fault) → Gives (answer (p most_nesting).read i) (Err f) j → IsRight p (start_of ts) ts (refusal_of f (length ts - length j.rest))
  is_right fault.Syntax e = is_refused Syntax e
  is_right fault.Deep e = is_refused Deep e
  is_right fault.NoMemory e = tt
