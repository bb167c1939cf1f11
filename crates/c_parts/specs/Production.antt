-- Productions: a part of the grammar with what reads it, and the terminals that this goes by. Each way to join parts is
-- one to join productions.
use Rattle.std.specs.Prelude.{ℕ, ◌-◌, Bool, true, false, if◌then◌else◌, ◌||◌, ◌&&◌, List, [], ◌∷◌, ◌++◌, slice_index, Option, Some, None}
use Rattle.c_parts.specs.declared.terminal.Terminal.{Terminal}
use Rattle.c_parts.specs.declared.terminal.Terminal.TheVariants as t
use Rattle.c_parts.specs.declared.lexeme.Lexeme.{Lexeme}
use Rattle.c_parts.specs.declared.span.Span.{Span}
use Rattle.c_parts.specs.Scopes.{State, Scope, next, with_scopes, with_names, with_specifiers, entered, innermost}
use Rattle.c_parts.specs.Kinds.{Kinds, member, has, IsToken, told}
use Rattle.c_parts.specs.Part as part
use Rattle.c_parts.specs.Part.{Part, one, ◌&>◌, ◌⊔◌, shaped}
use Rattle.c_parts.specs.Reading as reading
use Rattle.c_parts.specs.Reading.{Reader, take_one, in_turn, in_turn_by, either, either_two, reshape, repeat, carried, pure, refuse, deep_if, ahead}

-- What a production begins with, what may go on with it behind its end, and whether it is never empty.
pub record Shape : Type 0 where
  pub starts : Kinds
  pub goes_on : Kinds
  pub solid : Bool

pub record Production (X : Type 0) : Type 1 where
  pub part : Part X
  pub read : Reader X
  pub shape : Shape

-- ---- tokens

-- a token of one of these kinds
abbrev pub lexeme : Kinds → Production Lexeme
lexeme ks = record { part = one (IsToken ks); read = take_one (told ks); shape = record { starts = ks; goes_on = []; solid = true } }

-- ---- one production, and then another

abbrev pub joined : Shape → Shape → Shape
joined a b = record {
  starts = if a.solid then a.starts else (a.starts ++ b.starts);
  goes_on = if b.solid then b.goes_on else (b.goes_on ++ a.goes_on);
  solid = a.solid || b.solid;
}

infixr 6 ◌&◌
abbrev pub ◌&◌ : {A B : Type 0} → Production A → Production B → Production (A × B)
a & b = record { part = a.part &> (λ x. b.part); read = in_turn a.read b.read; shape = joined a.shape b.shape }

-- ---- either of two

abbrev pub either_shape : Shape → Shape → Shape
either_shape a b = record { starts = a.starts ++ b.starts; goes_on = a.goes_on ++ (if b.solid then b.goes_on else (b.goes_on ++ a.starts)); solid = a.solid && b.solid }

infixr 5 ◌or◌
abbrev pub ◌or◌ : {A : Type 0} → Production A → Production A → Production A
a or b = record { part = a.part ⊔ b.part; read = either (has a.shape.starts) a.read b.read; shape = either_shape a.shape b.shape }

-- two tokens, of these kinds and of those
abbrev pub two_of : Kinds → Kinds → State → Lexeme → Lexeme → Bool
two_of first second n token behind = has first n token && has second (next n token) behind

-- either of two that may begin alike: the first where a token of these kinds and one of those come next
abbrev pub told_apart : {A : Type 0} → Kinds → Kinds → Production A → Production A → Production A
told_apart first second a b = record {
  part = a.part ⊔ b.part;
  read = either_two (two_of first second) a.read b.read;
  shape = record { starts = b.shape.starts; goes_on = a.shape.goes_on ++ b.shape.goes_on; solid = true };
}

-- ---- values

abbrev pub made : {A B : Type 0} → (A → B) → Production A → Production B
made f a = record { part = part.made f a.part; read = reading.change f a.read; shape = a.shape }

-- a token of one of these kinds, as the value that the function gives
abbrev pub token : {X : Type 0} → Kinds → (Lexeme → X) → Production X
token ks f = made f (lexeme ks)

abbrev pub mark : Lexeme → Unit {0}
mark token = tt

-- a token that has no value
abbrev pub sign : Terminal → Production (Unit {0})
sign terminal = token (terminal ∷ []) mark

-- the line of the token of this number, and 0 behind the last
abbrev pub line_at : List ℕ → ℕ → ℕ
line_at lines place = slice_index lines place

-- from the state before to the state behind
abbrev pub span_of : State → State → Span
span_of n k = record { line = line_at n.lines n.place; first = n.place; last = k.place - 1 }

-- with its span
abbrev pub spanned : {A : Type 0} → Production A → Production (Span × A)
spanned a = record {
  part = shaped (λ n. n) (λ n x k. (span_of n k, x)) (λ n x k. k) a.part;
  read = reshape (λ n. n) (λ n x k. (span_of n k, x)) (λ n x k. k) a.read;
  shape = a.shape;
}

-- ---- any number, and at most one

abbrev pub many : {A : Type 0} → Production A → Production (List A)
many a = record {
  part = part.many a.part;
  read = repeat (has a.shape.starts) a.read;
  shape = record { starts = a.shape.starts; goes_on = a.shape.goes_on ++ a.shape.starts; solid = false };
}

abbrev pub nothing : {A : Type 0} → A → Production A
nothing x = record { part = part.nothing x; read = pure x; shape = record { starts = []; goes_on = []; solid = false } }

abbrev pub optional : {A : Type 0} → Production A → Production (Option A)
optional a = made Some a or nothing None

-- with both terminals that a typedef can be, where one is there
abbrev pub with_typedefs : Kinds → Kinds
with_typedefs ks = if member t.TypedefName ks || member t.TypedefBehindType ks then t.TypedefName ∷ t.TypedefBehindType ∷ ks else ks

-- with all three that a name can be, where one is there
abbrev pub with_all_names : Kinds → Kinds
with_all_names ks = if member t.Name ks || (member t.TypedefName ks || member t.TypedefBehindType ks) then t.Name ∷ t.TypedefName ∷ t.TypedefBehindType ∷ ks else ks

-- ---- names in scope: behind it a name may be another terminal than it was

-- what its value declares is in scope behind it; the state says whether as a typedef
abbrev pub declares : {A : Type 0} → (Bool → A → Scope) → Production A → Production A
declares f a = record {
  part = shaped (λ n. n) (λ n x k. x) (λ n x k. with_scopes k (with_names (f k.typedef x) k.scopes)) a.part;
  read = reshape (λ n. n) (λ n x k. x) (λ n x k. with_scopes k (with_names (f k.typedef x) k.scopes)) a.read;
  shape = record { starts = a.shape.starts; goes_on = with_all_names a.shape.goes_on; solid = a.shape.solid };
}

-- It is a scope of its own, in which so much is declared from the beginning.
abbrev pub scoped_with : {A : Type 0} → Scope → Production A → Production A
scoped_with scope a = record {
  part = shaped (entered scope) (λ n x k. x) (λ n x k. with_scopes k n.scopes) a.part;
  read = reshape (entered scope) (λ n x k. x) (λ n x k. with_scopes k n.scopes) a.read;
  shape = record { starts = with_all_names a.shape.starts; goes_on = with_all_names a.shape.goes_on; solid = a.shape.solid };
}

abbrev pub scoped : {A : Type 0} → Production A → Production A
scoped a = record {
  part = shaped (entered []) (λ n x k. x) (λ n x k. with_scopes k n.scopes) a.part;
  read = reshape (entered []) (λ n x k. x) (λ n x k. with_scopes k n.scopes) a.read;
  shape = record { starts = a.shape.starts; goes_on = with_all_names a.shape.goes_on; solid = a.shape.solid };
}

-- a scope of its own, with what is declared in it
abbrev pub collected : {A : Type 0} → Production A → Production (A × Scope)
collected a = record {
  part = shaped (entered []) (λ n x k. (x, innermost k.scopes)) (λ n x k. with_scopes k n.scopes) a.part;
  read = reshape (entered []) (λ n x k. (x, innermost k.scopes)) (λ n x k. with_scopes k n.scopes) a.read;
  shape = record { starts = a.shape.starts; goes_on = with_all_names a.shape.goes_on; solid = a.shape.solid };
}

-- ---- specifiers

-- a specifier, whose value says whether it is a type, and whether it is the word `typedef`
abbrev pub specifies : {A : Type 0} → (A → Bool) → (A → Bool) → Production A → Production A
specifies is_type is_typedef a = record {
  part = shaped (λ n. n) (λ n x k. x) (λ n x k. with_specifiers k (k.typed || is_type x) (k.typedef || is_typedef x)) a.part;
  read = reshape (λ n. n) (λ n x k. x) (λ n x k. with_specifiers k (k.typed || is_type x) (k.typedef || is_typedef x)) a.read;
  shape = record { starts = a.shape.starts; goes_on = with_typedefs a.shape.goes_on; solid = a.shape.solid };
}

-- specifiers, at first none, and what they are for; behind it the specifiers before count again
abbrev pub specified : {A : Type 0} → Production A → Production A
specified a = record {
  part = shaped (λ n. with_specifiers n false false) (λ n x k. x) (λ n x k. with_specifiers k n.typed n.typedef) a.part;
  read = reshape (λ n. with_specifiers n false false) (λ n x k. x) (λ n x k. with_specifiers k n.typed n.typedef) a.read;
  shape = record { starts = with_typedefs a.shape.starts; goes_on = with_typedefs a.shape.goes_on; solid = a.shape.solid };
}

-- ---- what opens

-- what stands one deeper: a part with what reads it
pub record Nested (X : Type 0) : Type 1 where
  pub part : Part X
  pub read : Reader X

abbrev pub nested : {X : Type 0} → Production X → Nested X
nested a = record { part = a.part; read = a.read }

-- it begins with these and may go on with those
abbrev pub opened : {X : Type 0} → Kinds → Kinds → Nested X → Production X
opened starts goes_on inside = record { part = inside.part; read = inside.read; shape = record { starts = starts; goes_on = goes_on; solid = true } }

-- where nothing may be open: what begins it is too deep
abbrev pub outside : {X : Type 0} → Kinds → Nested X
outside starts = record { part = part.never; read = refuse (deep_if (has starts)) }

-- the same, said to begin and to go on with these: with no fewer than it does
abbrev pub said : {X : Type 0} → Shape → Production X → Production X
said shape a = record { part = a.part; read = a.read; shape = shape }

-- ---- one production, or some of it and more behind

abbrev pub carries : {A B : Type 0} → (A → Bool) → (A × B → A) → Production A → Production A → Production B → Production A
carries is_some f a some more = record {
  part = a.part ⊔ part.made f (some.part &> (λ x. more.part));
  read = carried is_some (has more.shape.starts) a.read more.read f;
  shape = record { starts = a.shape.starts; goes_on = a.shape.goes_on ++ (more.shape.starts ++ more.shape.goes_on); solid = true };
}
