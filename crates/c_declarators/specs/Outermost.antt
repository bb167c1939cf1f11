-- Arrays whose size isn't said.
--
-- `[]` is no type. But where it is what a declarator makes last, its size may come from elsewhere: that of an object
-- from its initialiser, and that of a parameter doesn't matter, since a pointer takes its place (C11 6.7.6.3p7).
use Rattle.std.specs.Prelude.{◌-◌, Bool, true, false, List, length, slice_get, slice_set, if◌then◌else◌, Option, Some, None}
use Rattle.c_types.specs.declared.ctype.ElementCount.{ElementCount}
use Rattle.c_types.specs.declared.derivation.Derivation.{Derivation}
use Rattle.c_types.specs.declared.derivation.Derivation.TheVariants as derivation

abbrev pub is_open : Option Derivation → Bool
is_open (Some derivation.OpenArray) = true
is_open (Some d) = false
is_open None = false

-- whether what is made last is an array whose size isn't said
abbrev pub ends_open : List Derivation → Bool
ends_open ds = is_open (slice_get ds (length ds - 1))

-- with so many elements in an array that is made last and whose size isn't said
abbrev pub with_outermost : ElementCount → List Derivation → List Derivation
with_outermost count ds = if ends_open ds then slice_set ds (length ds - 1) (derivation.Array count) else ds
