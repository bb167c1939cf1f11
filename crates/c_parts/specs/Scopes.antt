-- The typedef names in scope, and what else goes through every part of the grammar.
use Rattle.std.specs.Prelude.{ℕ, suc, Bool, false, if◌then◌else◌, ◌||◌, ◌&&◌, eqb, List, [], ◌∷◌, ◌++◌}
use Rattle.c_parts.specs.declared.terminal.Terminal.{Terminal}
use Rattle.c_parts.specs.declared.lexeme.Lexeme.{Lexeme}
use Rattle.c_parts.specs.declared.lexeme.Binding.{Binding}

-- what a scope declares, the last first
abbrev pub Scope : Type 0
Scope = List Binding

abbrev pub declares_name : ℕ → Scope → Bool
declares_name x [] = false
declares_name x (b ∷ scope) = eqb x b.name || declares_name x scope

abbrev pub declares_typedef : ℕ → Scope → Bool
declares_typedef x [] = false
declares_typedef x (b ∷ scope) = (eqb x b.name && b.is_typedef) || declares_typedef x scope

-- A name is a typedef where the innermost scope that declares it declares it as one.
abbrev pub is_typedef : ℕ → List Scope → Bool
is_typedef x [] = false
is_typedef x (scope ∷ outer) = if declares_name x scope then declares_typedef x scope else is_typedef x outer

-- more names in the innermost scope
abbrev pub with_names : Scope → List Scope → List Scope
with_names [] scopes = scopes
with_names (b ∷ more) [] = (b ∷ more) ∷ []
with_names (b ∷ more) (scope ∷ outer) = ((b ∷ more) ++ scope) ∷ outer

-- What goes through every part: the scopes, the innermost first; whether the specifiers before have a type, and
-- whether they have the word `typedef`; whether the token before is `_Atomic`; the number of the next token; and the
-- line of each token of the whole list.
pub record State : Type 0 where
  pub scopes : List Scope
  pub typed : Bool
  pub typedef : Bool
  pub behind : Terminal
  pub place : ℕ
  pub lines : List ℕ

-- the state behind a token
abbrev pub next : State → Lexeme → State
next n token = record { scopes = n.scopes; typed = n.typed; typedef = n.typedef; behind = token.terminal; place = suc n.place; lines = n.lines }

-- the same with other scopes
abbrev pub with_scopes : State → List Scope → State
with_scopes n scopes = record { scopes = scopes; typed = n.typed; typedef = n.typedef; behind = n.behind; place = n.place; lines = n.lines }

-- the same behind other specifiers
abbrev pub with_specifiers : State → Bool → Bool → State
with_specifiers n typed typedef = record { scopes = n.scopes; typed = typed; typedef = typedef; behind = n.behind; place = n.place; lines = n.lines }

-- a scope that declares so much is entered
abbrev pub entered : Scope → State → State
entered scope n = with_scopes n (scope ∷ n.scopes)

-- what the scopes round the innermost one are
abbrev pub outer_scopes : List Scope → List Scope
outer_scopes [] = []
outer_scopes (scope ∷ outer) = outer

abbrev pub innermost : List Scope → Scope
innermost [] = []
innermost (scope ∷ outer) = scope
