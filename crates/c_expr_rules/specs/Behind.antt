-- The parts of what a pointer's value points to, as `Reading.behind` has them together.
use Rattle.std.specs.Prelude.{ℕ, Bool, None}
use Rattle.c_types.specs.declared.ctype.CType.{CType}
use Rattle.c_types.specs.declared.qualifier_set.Qualifiers.{Qualifiers}
use Rattle.c_types.specs.declared.ctype.CType.TheVariants.{Void, Function}
use Rattle.c_expr_rules.specs.TypedExpressions.{Place, InMemory, VoidAt, Designator, plain}

abbrev pub place_behind : (number : ℕ) (of_register : Bool) → CType → Place
place_behind number of_register Void = VoidAt number
place_behind number of_register (Function signature) = Designator None number
place_behind number of_register ty = InMemory number of_register

abbrev pub quals_behind : Qualifiers → CType → Qualifiers
quals_behind quals (Function signature) = plain
quals_behind quals ty = quals
