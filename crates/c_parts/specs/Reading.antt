-- Reading with one token ahead, as functions on lists.
use Rattle.std.specs.Prelude.{ℕ, zero, suc, Bool, false, ◌&&◌, if◌then◌else◌, List, [], ◌∷◌, length, Option, Some, None}
use Rattle.c_parts.specs.declared.lexeme.Lexeme.{Lexeme}
use Rattle.c_parts.specs.Scopes.{State, next}

pub data Why : Type 0 where
  Syntax : Why
  Deep : Why

-- A value with the tokens after it and the state there, or why the first of the tokens left isn't taken.
pub data Answer (X : Type 0) : Type 0 where
  Took : X → List Lexeme → State → Answer X
  Refused : Why → List Lexeme → Answer X

abbrev pub Reader : Type 0 → Type 0
Reader X = State → List Lexeme → Answer X

abbrev pub left_of : {X : Type 0} → Answer X → List Lexeme
left_of (Took x rest m) = rest
left_of (Refused why rest) = rest

abbrev pub and_then : {A B : Type 0} → Answer A → (A → Reader B) → Answer B
and_then (Took a rest m) f = f a m rest
and_then (Refused why rest) f = Refused why rest

abbrev pub pure : {A : Type 0} → A → Reader A
pure a = λ n ts. Took a ts n

infixl 10 ◌>>=◌
abbrev pub ◌>>=◌ : {A B : Type 0} → Reader A → (A → Reader B) → Reader B
r >>= f = λ n ts. and_then (r n ts) f

abbrev pub Test : Type 0
Test = State → Lexeme → Bool

-- whether the next token passes a test
abbrev pub ahead : Test → State → List Lexeme → Bool
ahead test n [] = false
ahead test n (t ∷ ts) = test n t

abbrev pub accept : {X : Type 0} → Option X → Lexeme → List Lexeme → State → Answer X
accept (Some x) t ts n = Took x ts (next n t)
accept None t ts n = Refused Syntax (t ∷ ts)

-- one token, as the value that the function gives for it
abbrev pub take_one : {X : Type 0} → (State → Lexeme → Option X) → Reader X
take_one f n [] = Refused Syntax []
take_one f n (t ∷ ts) = accept (f n t) t ts n

abbrev pub in_turn_by : {A B : Type 0} → Reader A → (A → Reader B) → Reader (A × B)
in_turn_by r s = r >>= λ a. s a >>= λ b. pure (a, b)

abbrev pub in_turn : {A B : Type 0} → Reader A → Reader B → Reader (A × B)
in_turn r s = in_turn_by r (λ a. s)

abbrev pub either : {A : Type 0} → Test → Reader A → Reader A → Reader A
either test r s n ts = if ahead test n ts then r n ts else s n ts

abbrev pub shape_of : {A B : Type 0} → (State → A → State → B) → (State → A → State → State) → State → Answer A → Answer B
shape_of f g n (Took x rest k) = Took (f n x k) rest (g n x k)
shape_of f g n (Refused why rest) = Refused why rest

abbrev pub reshape : {A B : Type 0} → (State → State) → (State → A → State → B) → (State → A → State → State) → Reader A → Reader B
reshape b f g r n ts = shape_of f g n (r (b n) ts)

abbrev pub change : {A B : Type 0} → (A → B) → Reader A → Reader B
change f r = reshape (λ n. n) (λ n x k. f x) (λ n x k. k) r

-- any number of a part, at most a count of them
abbrev pub times : {A : Type 0} → Test → Reader A → ℕ → Reader (List A)
times test r zero n ts = Took [] ts n
times test r (suc k) n ts = if ahead test n ts then and_then (r n ts) (λ a. times test r k >>= λ more. pure (a ∷ more)) else Took [] ts n

abbrev pub repeat : {A : Type 0} → Test → Reader A → Reader (List A)
repeat test r n ts = times test r (length ts) n ts

abbrev pub refuse : {X : Type 0} → (State → List Lexeme → Why) → Reader X
refuse why n ts = Refused (why n ts) ts

-- too deep where the token may begin what has no room
abbrev pub deep_if : Test → State → List Lexeme → Why
deep_if starts n ts = if ahead starts n ts then Deep else Syntax

-- whether the next two tokens pass a test
abbrev pub ahead_two : (State → Lexeme → Lexeme → Bool) → State → List Lexeme → Bool
ahead_two test n [] = false
ahead_two test n (t ∷ []) = false
ahead_two test n (t ∷ u ∷ ts) = test n t u

abbrev pub either_two : {A : Type 0} → (State → Lexeme → Lexeme → Bool) → Reader A → Reader A → Reader A
either_two test r s n ts = if ahead_two test n ts then r n ts else s n ts

-- one part, and where it may go on and a token says so, another after it
abbrev pub carried : {A B : Type 0} → (A → Bool) → Test → Reader A → Reader B → (A × B → A) → Reader A
carried lone ops r s f = r >>= λ a k after. if lone a && ahead ops k after then and_then (s k after) (λ b. pure (f (a, b))) else Took a after k
