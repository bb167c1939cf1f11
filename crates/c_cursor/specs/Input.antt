-- What a cursor shows, and what a function that reads from it returns.
use Rattle.std.specs.Prelude.{◌≡◌, ℕ, ◌-◌, Bool, false, ◌||◌, List, [], ◌∷◌, Result, Ok, Err}
use Rattle.c_parts.specs.declared.lexeme.Lexeme.{Lexeme}
use Rattle.c_parts.specs.declared.span.Span.{Span}
use Rattle.c_parts.specs.declared.terminal.Terminal.{Terminal}
use Rattle.c_parts.specs.declared.terminal.Terminal.TheVariants as t
use Rattle.c_parts.specs.Scopes.{State, Scope, with_specifiers, with_scopes, with_names, outer_scopes}
use Rattle.c_parts.specs.Reading.{Why, Syntax, Deep, Answer, Took, Refused, Reader}
use Rattle.c_parts.specs.Production.{line_at}
use Rattle.c_cursor.specs.declared.marks.Start.{Start}
use Rattle.c_cursor.specs.declared.marks.Before.{Before}
use Rattle.c_cursor.specs.declared.fault.Fault.{Fault}
use Rattle.c_cursor.specs.declared.fault.Fault.TheVariants as fault

-- the tokens that are left, and the state at the first of them
pub record Input : Type 0 where
  pub rest : List Lexeme
  pub state : State

abbrev pub lines_of : List Lexeme → List ℕ
lines_of [] = []
lines_of (token ∷ tokens) = token.line ∷ lines_of tokens

-- the state before a list of tokens: one scope, that declares nothing
abbrev pub start_of : List Lexeme → State
start_of tokens = record { scopes = [] ∷ []; typed = false; typedef = false; behind = t.End; place = 0; lines = lines_of tokens }

-- what a reader answers from here
abbrev pub answer : {X : Type 0} → Reader X → Input → Answer X
answer r i = r i.state i.rest

-- What a function returned, and where it left the cursor, is what reading answers, unless memory ran out. Where it is
-- refused, the cursor stands at the token that is refused.
abbrev pub Gives : {X : Type 0} → Answer X → Result X Fault → Input → Type 0
Gives a (Ok x) new = a ≡ Took x new.rest new.state
Gives a (Err fault.Syntax) new = a ≡ Refused Syntax new.rest
Gives a (Err fault.Deep) new = a ≡ Refused Deep new.rest
Gives a (Err fault.NoMemory) new = Unit {0}

-- the same input in another state
abbrev pub in_state : Input → State → Input
in_state i state = record { rest = i.rest; state = state }

-- where a node begins with the next token
abbrev pub start_at : State → Start
start_at n = record { line = line_at n.lines n.place; first = n.place }

-- from there to the token before
abbrev pub span_from : Start → Input → Span
span_from start i = record { line = start.line; first = start.first; last = i.state.place - 1 }

abbrev pub before_of : State → Before
before_of n = record { typed = n.typed; typedef = n.typedef }

abbrev pub specified : Bool → Bool → State → State
specified is_type is_typedef n = with_specifiers n (n.typed || is_type) (n.typedef || is_typedef)

abbrev pub declared : Scope → State → State
declared more n = with_scopes n (with_names more n.scopes)

abbrev pub left_scope : State → State
left_scope n = with_scopes n (outer_scopes n.scopes)

abbrev pub fault_of : Why → Fault
fault_of Syntax = fault.Syntax
fault_of Deep = fault.Deep

-- the same state behind another token
abbrev pub behind : Terminal → State → State
behind terminal n = record { scopes = n.scopes; typed = n.typed; typedef = n.typedef; behind = terminal; place = n.place; lines = n.lines }
