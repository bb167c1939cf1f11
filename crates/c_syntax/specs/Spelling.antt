-- What is claimed of expressions and files, in the words of the grammar alone.
use Rattle.std.specs.Prelude.{◌≡◌, ℕ, ◌+◌, List, [], ◌∷◌, ◌++◌, length}
use Rattle.c_parts.specs.declared.terminal.Terminal.TheVariants as t
use Rattle.c_parts.specs.declared.lexeme.Lexeme.{Lexeme}
use Rattle.c_parts.specs.Scopes.{State}
use Rattle.c_parts.specs.Production.{Production, ◌&◌, made, sign}
use Rattle.c_parts.specs.Reading.{Why, Syntax, Deep}
use Rattle.c_syntax.specs.declared.expr.Expr.{Expr}
use Rattle.c_syntax.specs.declared.file.File.{File}
use Rattle.c_syntax.specs.Grammar.{expression, inner}
use Rattle.c_syntax.specs.Files.{file, bodies}

-- how many constructs may be open at once
abbrev pub most_nesting : ℕ
most_nesting = 200

-- a production, by how many constructs may be open at once
abbrev pub Nesting : Type 0 → Type 1
Nesting X = ℕ → Production X

-- an expression; an expression and the End behind it; a file, which has its End
abbrev pub expressions : Nesting Expr
expressions d = expression (inner d)

abbrev pub whole_expressions : Nesting Expr
whole_expressions d = made (λ x. x.0) (expression (inner d) & sign t.End)

abbrev pub files : Nesting File
files d = file (inner d) (bodies d)

-- Where so many constructs may be open at once, the list spells the value.
pub record Spells {X : Type 0} (p : Nesting X) (nesting : ℕ) (n : State) (ts : List Lexeme) (x : X) : Type 0 where
  pub after : State
  pub spells : (p nesting).part.Spells n ts x after

-- the list is a viable prefix: it begins one that spells a value
abbrev pub Begins : {X : Type 0} → Nesting X → ℕ → State → List Lexeme → Type 0
Begins p nesting n ts = (p nesting).part.Front n ts

-- Refused with Syntax, the tokens up to and with the first that is left begin no list that spells a value, at any depth;
-- where none is left, the list spells none. Refused with Deep, they begin one, but more is open than may be.
abbrev pub IsRefusedAt : {X : Type 0} → Nesting X → Why → State → List Lexeme → List Lexeme → Type 0
IsRefusedAt {X} p Syntax n us [] = (d : ℕ) (x : X) → Spells p d n us x → ⊥
IsRefusedAt {X} p Syntax n us (t ∷ rest) = (d : ℕ) → Begins p d n (us ++ t ∷ []) → ⊥
IsRefusedAt {X} p Deep n us [] = ⊥
IsRefusedAt {X} p Deep n us (t ∷ rest) = (Begins p most_nesting n (us ++ t ∷ []) → ⊥) × Begins p (2 + most_nesting) n (us ++ t ∷ [])

-- The list is refused at the token of this number: those before begin one that spells a value, and with this one they
-- don't.
pub record IsRefused {X : Type 0} (p : Nesting X) (why : Why) (n : State) (ts : List Lexeme) (place : ℕ) : Type 0 where
  pub before : List Lexeme
  pub rest : List Lexeme
  pub whole : ts ≡ before ++ rest
  pub many : length before ≡ place
  pub begins : Begins p most_nesting n before
  pub at : IsRefusedAt p why n before rest

-- The list spells no value of so much nesting, and is refused for this reason at the token of this number.
abbrev pub IsRightlyRefused : {X : Type 0} → Nesting X → Why → State → List Lexeme → ℕ → Type 0
IsRightlyRefused {X} p why n ts place = IsRefused p why n ts place × ((x : X) → Spells p most_nesting n ts x → ⊥)

-- ---- laws

-- A list spells at most one value, however deep it nests.
abbrev pub HaveOneTree : {X : Type 0} → Nesting X → Type 0
HaveOneTree {X} p = (d e : ℕ) (n m k : State) (ts : List Lexeme) (x y : X) → (p d).part.Spells n ts x m → (p e).part.Spells n ts y k → x ≡ y

-- A list that spells a value begins one that does.
abbrev pub SpelledBegin : {X : Type 0} → Nesting X → Type 0
SpelledBegin {X} p = (d : ℕ) (n m : State) (ts : List Lexeme) (x : X) → (p d).part.Spells n ts x m → (p d).part.Front n ts

-- What begins a viable prefix is one.
abbrev pub PrefixesBegin : {X : Type 0} → Nesting X → Type 0
PrefixesBegin p = (d : ℕ) (n : State) (us vs : List Lexeme) → (p d).part.Front n (us ++ vs) → (p d).part.Front n us

-- What a list spells it spells where more may be open.
abbrev pub NestingGrows : {X : Type 0} → Nesting X → Type 0
NestingGrows {X} p = (d k : ℕ) (n m : State) (ts : List Lexeme) (x : X) → (p d).part.Spells n ts x m → (p (2 + d + k)).part.Spells n ts x m
