-- The types that declarators make, as a table of types has them.
use Rattle.std.specs.Prelude.{◌≡◌, ◌⊎◌, ℕ, false, List, [], ◌∷◌, ◌++◌, slice_get, Option, Some, None, Ok, Err}
use Rattle.c_types.specs.declared.ctype.CType.{CType}
use Rattle.c_types.specs.declared.ctype.CType.TheVariants.{Pointer, ArrayOf, Function}
use Rattle.c_types.specs.declared.ctype.Part.{Part}
use Rattle.c_types.specs.declared.ctype.Array.{Array}
use Rattle.c_types.specs.declared.ctype.TypeFault.TheVariants.{Incomplete}
use Rattle.c_types.specs.declared.derivation.Derivation.{Derivation}
use Rattle.c_types.specs.declared.derivation.Derivation.TheVariants.{Pointer as PointerTo, Array as ArrayOfSo, OpenArray, BadArray, Function as FunctionOf, BadFunction}
use Rattle.c_types.specs.declared.entry.Entry.{Entry}
use Rattle.c_types.specs.declared.entry.Entry.TheVariants.{OfType, NoParameters, Parameters}
use Rattle.c_types.specs.Derivations.{Shape, shape_of}

abbrev pub IsTypeEntry : Entry → Type 0
IsTypeEntry (OfType ty) = Unit {0}
IsTypeEntry NoParameters = ⊥
IsTypeEntry (Parameters first others) = ⊥

abbrev pub type_of_entry : Option Entry → Option CType
type_of_entry (Some (OfType ty)) = Some ty
type_of_entry (Some NoParameters) = None
type_of_entry (Some (Parameters first others)) = None
type_of_entry None = None

-- the type of a number
abbrev pub type_in : List Entry → ℕ → Option CType
type_in table number = type_of_entry (slice_get table number)

-- nothing that is no type has a shape that anything may follow
abbrev pub shape_of_any : Option CType → Shape
shape_of_any (Some ty) = shape_of ty
shape_of_any None = record { room = Some (Err Incomplete); may_be_result = false }

abbrev pub shape_at : List Entry → ℕ → Shape
shape_at table number = shape_of_any (type_in table number)

-- what the first table has, the second one has too
abbrev pub Keeps : List Entry → List Entry → Type 0
Keeps old new = (n : ℕ) (e : Entry) → slice_get old n ≡ Some e → slice_get new n ≡ Some e

-- the second table is the first, or the first with one entry more
abbrev pub GrowsByOne : List Entry → List Entry → Type 0
GrowsByOne old new = (new ≡ old) ⊎ ((e : Entry) × (new ≡ old ++ e ∷ []))

-- a part without qualifiers of its own, by its type
abbrev pub IsPlain : List Entry → CType → Part → Type 0
IsPlain table ty part = (slice_get table part.number ≡ Some (OfType ty)) × (part.qualifiers.0 ≡ 0)

-- the last part is what a derivation makes of the first: the qualifiers of an array's elements are theirs,
-- and those of a function's result don't count
abbrev pub Makes : List Entry → Part → Derivation → Part → Type 0
Makes table of (PointerTo qualifiers) made = (slice_get table made.number ≡ Some (OfType (Pointer of))) × (made.qualifiers ≡ qualifiers)
Makes table of (ArrayOfSo count) made =
    (a : Array) × IsPlain table (ArrayOf a) made × (a.element ≡ of) × (a.count ≡ count.value) × ((shape_at table of.number).room ≡ Some (Ok (record { size = a.extent.size; align = a.extent.align })))
Makes table of OpenArray made = ⊥
Makes table of BadArray made = ⊥
Makes table of (FunctionOf parameters more) made = IsPlain table (Function (record { result = of.number; parameters = parameters; more = more })) made
Makes table of (BadFunction broken) made = ⊥

-- the last part is what the derivations make of the base, one after the other
unfoldable pub IsDerived : List Entry → Part → List Derivation → Part → Type 0
IsDerived table base [] made = base ≡ made
IsDerived table base (d ∷ ds) made = (next : Part) × Makes table base d next × IsDerived table next ds made

-- the number is that of the list of these types
unfoldable pub IsParameterList : List Entry → List ℕ → ℕ → Type 0
IsParameterList table [] n = slice_get table n ≡ Some NoParameters
IsParameterList table (ty ∷ types) n = (others : ℕ) × (slice_get table n ≡ Some (Parameters ty others)) × IsParameterList table types others

-- what a parameter of a type is: an array is a pointer to its element, a function a pointer to it, and
-- anything else is what it is
abbrev pub IsAdjustedOf : Option CType → List Entry → Part → Part → Type 0
IsAdjustedOf (Some (ArrayOf a)) table parameter made = IsPlain table (Pointer a.element) made
IsAdjustedOf (Some (Function signature)) table parameter made = IsPlain table (Pointer parameter) made
IsAdjustedOf ty table parameter made = made ≡ parameter

abbrev pub IsAdjusted : List Entry → List Entry → Part → Part → Type 0
IsAdjusted old new parameter made = IsAdjustedOf (type_in old parameter.number) new parameter made

-- one type with the same qualifiers
abbrev pub SamePart : Part → Part → Type 0
SamePart p q = (p.number ≡ q.number) × (p.qualifiers.0 ≡ q.qualifiers.0)
