-- When a refusal is right.
use Rattle.std.specs.Prelude.{ℕ, List}
use Rattle.c_parts.specs.declared.lexeme.Lexeme.{Lexeme}
use Rattle.c_parts.specs.Scopes.{State}
use Rattle.c_parts.specs.Reading.{Syntax, Deep}
use Rattle.c_cursor.specs.declared.fault.Fault.{Fault}
use Rattle.c_cursor.specs.declared.fault.Fault.TheVariants as fault
use Rattle.c_syntax.specs.Spelling.{Nesting, IsRightlyRefused}
use Rattle.c_expr_parser.specs.declared.refusal.Refusal.{Refusal}
use Rattle.c_expr_parser.specs.declared.refusal.Refusal.TheVariants as r

-- of a fault at the token of this number
abbrev pub refusal_of : Fault → ℕ → Refusal
refusal_of fault.Syntax place = r.Syntax place
refusal_of fault.Deep place = r.Deep place
refusal_of fault.NoMemory place = r.NoMemory

-- The list spells no value, and is refused for this reason at this token; unless memory ran out.
abbrev pub IsRight : {X : Type 0} → Nesting X → State → List Lexeme → Refusal → Type 0
IsRight p n ts (r.Syntax place) = IsRightlyRefused p Syntax n ts place
IsRight p n ts (r.Deep place) = IsRightlyRefused p Deep n ts place
IsRight p n ts r.NoMemory = Unit {0}
