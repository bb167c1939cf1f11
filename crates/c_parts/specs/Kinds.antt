-- What a token is where it stands, and sets of terminals.
use Rattle.std.specs.Prelude.{◌≡◌, ℕ, Bool, true, false, if◌then◌else◌, not, ◌||◌, ◌&&◌, eqb, List, [], ◌∷◌, Option, Some, None}
use Rattle.c_parts.specs.declared.terminal.Terminal.{Terminal}
use Rattle.c_parts.specs.declared.terminal.Terminal.TheVariants as t
use Rattle.c_parts.specs.declared.lexeme.Lexeme.{Lexeme}
use Rattle.c_parts.specs.Terminals.{code, is}
use Rattle.c_parts.specs.Scopes.{State, is_typedef}

-- A name is a terminal of its own where it is a typedef, and so are a parenthesis behind `_Atomic` and a comma behind
-- a comma.
abbrev pub kind_of : Bool → Bool → Terminal → Terminal → Terminal
kind_of named typed behind t.Name = if named then (if typed then t.TypedefBehindType else t.TypedefName) else t.Name
kind_of named typed behind t.LeftParen = if is behind t.Atomic then t.AtomicParen else t.LeftParen
kind_of named typed behind t.Comma = if is behind t.Comma then t.SecondComma else t.Comma
kind_of named typed behind terminal = terminal

-- what a token is where it stands
unfoldable pub kind : State → Lexeme → Terminal
kind n token = kind_of (is_typedef token.name n.scopes) n.typed n.behind token.terminal

-- a set of terminals
abbrev pub Kinds : Type 0
Kinds = List Terminal

abbrev pub has_code : ℕ → Kinds → Bool
has_code x [] = false
has_code x (y ∷ ys) = eqb x (code y) || has_code x ys

abbrev pub member : Terminal → Kinds → Bool
member x ks = has_code (code x) ks

-- whether the token is of one of these kinds
abbrev pub has : Kinds → State → Lexeme → Bool
has ks n token = member (kind n token) ks

abbrev pub IsToken : Kinds → State → Lexeme → Lexeme → Type 0
IsToken ks n token x = (has ks n token ≡ true) × (x ≡ token)

abbrev pub told : Kinds → State → Lexeme → Option Lexeme
told ks n token = if has ks n token then Some token else None

-- no kind is in both
abbrev pub disjoint : Kinds → Kinds → Bool
disjoint [] bs = true
disjoint (a ∷ rest) bs = not (member a bs) && disjoint rest bs

abbrev pub subset : Kinds → Kinds → Bool
subset [] bs = true
subset (a ∷ rest) bs = member a bs && subset rest bs
