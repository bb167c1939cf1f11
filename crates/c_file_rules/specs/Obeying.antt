-- A construct that breaks no rule is given, and else the rule with its line.
use Rattle.std.specs.Prelude.{◌≡◌, ℕ, Option, Some, None, Result, Ok, Err}
use Rattle.c_rules.specs.Rules.{number_of}
use Rattle.c_expr_rules.specs.declared.found.Fault.{Fault}
use Rattle.c_expr_rules.specs.declared.found.Fault.TheVariants as fault

-- of the construct at this line, where this is the number of the first rule that it breaks
abbrev pub Obeys : {A : Type 0} → Result A Fault → (line : ℕ) → (broken : Option ℕ) → A → Type 0
Obeys (Ok x) line broken construct = (broken ≡ None) × (x ≡ construct)
Obeys (Err (fault.Broke b)) line broken construct = (broken ≡ Some (number_of b.rule)) × (b.line ≡ line)
Obeys (Err fault.NoMemory) line broken construct = ⊥
