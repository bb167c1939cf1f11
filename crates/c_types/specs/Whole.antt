-- What a table of types keeps: each entry names what stands before it, and of the right kind.
--
-- So a type has no part that leads back to it, and one walk over the numbers from a type downwards ends. An array
-- and a function have one form: the qualifiers of an array are its elements' (C11 6.7.3p9), and a function has none.
use Rattle.std.specs.Prelude.{◌≡◌, ℕ, ◌*◌, ◌<◌, ◌≤◌, List, Option, Some, None, Ok, slice_get, IsSomeAnd}
use Rattle.std.specs.BTreeMap.{BTreeMap}
use Rattle.c_types.specs.declared.ctype.CType.{CType}
use Rattle.c_types.specs.declared.ctype.CType.TheVariants.{Void, Integer, Enumeration, Pointer, ArrayOf, Function, Structure, Union}
use Rattle.c_types.specs.declared.ctype.Part.{Part}
use Rattle.c_types.specs.declared.derivation.Derivation.{Derivation}
use Rattle.c_types.specs.declared.derivation.Derivation.TheVariants.{Pointer as PointerTo, Array as ArrayOfSo, OpenArray, BadArray, Function as FunctionOf, BadFunction}
use Rattle.c_types.specs.declared.entry.Entry.{Entry}
use Rattle.c_types.specs.declared.entry.Entry.TheVariants.{OfType, NoParameters, Parameters}
use Rattle.c_types.specs.Tables.{IsNumbered}
use Rattle.c_types.specs.Declarators.{IsTypeEntry, IsDerived, IsParameterList, shape_at}

abbrev pub IsListEntry : Entry → Type 0
IsListEntry (OfType ty) = ⊥
IsListEntry NoParameters = Unit {0}
IsListEntry (Parameters first others) = Unit {0}

-- the number is that of a type
abbrev pub IsTypeAt : List Entry → ℕ → Type 0
IsTypeAt table n = IsSomeAnd (slice_get table n) IsTypeEntry

-- the number is that of a list of parameters
abbrev pub IsListAt : List Entry → ℕ → Type 0
IsListAt table n = IsSomeAnd (slice_get table n) IsListEntry

-- a set of qualifiers that the type may have there
abbrev pub HasForm : CType → ℕ → Type 0
HasForm Void set = Unit {0}
HasForm (Integer kind) set = Unit {0}
HasForm (Enumeration tag) set = Unit {0}
HasForm (Pointer to) set = Unit {0}
HasForm (ArrayOf a) set = set ≡ 0
HasForm (Function signature) set = set ≡ 0
HasForm (Structure tag contents) set = Unit {0}
HasForm (Union tag contents) set = Unit {0}

abbrev pub IsPartOf : Option Entry → ℕ → Type 0
IsPartOf None set = ⊥
IsPartOf (Some (OfType ty)) set = HasForm ty set
IsPartOf (Some NoParameters) set = ⊥
IsPartOf (Some (Parameters first others)) set = ⊥

-- a part of a type: it names a type of the table, in the one form that it has
abbrev pub IsPart : List Entry → Part → Type 0
IsPart table p = IsPartOf (slice_get table p.number) p.qualifiers.0

-- a derivation names a list of parameters of the table
abbrev pub DerivationFits : List Entry → Derivation → Type 0
DerivationFits table (PointerTo qualifiers) = Unit {0}
DerivationFits table (ArrayOfSo count) = Unit {0}
DerivationFits table OpenArray = Unit {0}
DerivationFits table BadArray = Unit {0}
DerivationFits table (FunctionOf parameters more) = IsListAt table parameters
DerivationFits table (BadFunction broken) = Unit {0}

-- what an entry names is there and of the right kind, and an array's extent is its element's
abbrev pub EntryFits : List Entry → Entry → Type 0
EntryFits table (OfType Void) = Unit {0}
EntryFits table (OfType (Integer kind)) = Unit {0}
EntryFits table (OfType (Enumeration tag)) = Unit {0}
EntryFits table (OfType (Pointer to)) = IsPart table to
EntryFits table (OfType (ArrayOf a)) =
    IsPart table a.element × (((shape_at table a.element.number).room ≡ Some (Ok (record { size = a.extent.size; align = a.extent.align }))) × (a.count * a.extent.size ≤ 131072))
EntryFits table (OfType (Function signature)) = IsTypeAt table signature.result × IsListAt table signature.parameters
EntryFits table (OfType (Structure tag contents)) = Unit {0}
EntryFits table (OfType (Union tag contents)) = Unit {0}
EntryFits table NoParameters = Unit {0}
EntryFits table (Parameters first others) = IsTypeAt table first × IsListAt table others

-- what an entry names has a smaller number
abbrev pub NamesBefore : ℕ → Entry → Type 0
NamesBefore n (OfType Void) = Unit {0}
NamesBefore n (OfType (Integer kind)) = Unit {0}
NamesBefore n (OfType (Enumeration tag)) = Unit {0}
NamesBefore n (OfType (Pointer to)) = to.number < n
NamesBefore n (OfType (ArrayOf a)) = a.element.number < n
NamesBefore n (OfType (Function signature)) = (signature.result < n) × (signature.parameters < n)
NamesBefore n (OfType (Structure tag contents)) = Unit {0}
NamesBefore n (OfType (Union tag contents)) = Unit {0}
NamesBefore n NoParameters = Unit {0}
NamesBefore n (Parameters first others) = (first < n) × (others < n)

pub record IsWhole (table : List Entry) : Type 0 where
  pub fits : (n : ℕ) (e : Entry) → slice_get table n ≡ Some e → EntryFits table e
  pub order : (n : ℕ) (e : Entry) → slice_get table n ≡ Some e → NamesBefore n e

-- what a table and its map keep
pub record IsTable (entries : List Entry) (numbers : BTreeMap Entry ℕ) : Type 0 where
  pub numbered : IsNumbered entries numbers
  pub whole : IsWhole entries

-- what the first table's declarators and lists of parameters make, the second one has too
pub record KeepsTypes (old new : List Entry) : Type 0 where
  pub derived : (base made : Part) (ds : List Derivation) → IsDerived old base ds made → IsDerived new base ds made
  pub lists : (list : List ℕ) (n : ℕ) → IsParameterList old list n → IsParameterList new list n
  pub parts : (p : Part) → IsPart old p → IsPart new p
