-- A table of types: each entry has one number.
--
-- A type that is made from others stands in the table once, so two of them are the same type exactly where
-- their numbers are equal. A structure, a union or an enumeration is a type of its own, by its number.
use Rattle.std.specs.Prelude.{◌≡◌, ℕ, Bool, true, false, List, Option, Some, slice_get, IsTrue}
use Rattle.std.specs.BTreeMap.{BTreeMap, get}
use Rattle.c_types.specs.declared.ctype.CType.{CType}
use Rattle.c_types.specs.declared.ctype.CType.TheVariants.{Structure, Union, Enumeration}
use Rattle.c_types.specs.declared.entry.Entry.{Entry}
use Rattle.c_types.specs.declared.entry.Entry.TheVariants.{OfType, NoParameters, Parameters}
use Rattle.c_types.specs.declared.ctype.Extent.{Extent}
use Rattle.c_types.specs.declared.entry.Tag.{Tag}
use Rattle.c_types.specs.declared.entry.Tag.TheVariants.{Structure as StructureTag, Union as UnionTag, Enumeration as EnumerationTag}
use Rattle.c_types.specs.contracts.entry.EntryOrd.TheImpl as EntryOrder

-- the entry is made from others, and has no number of its own
abbrev pub is_derived_type : CType → Bool
is_derived_type (Structure tag contents) = false
is_derived_type (Union tag contents) = false
is_derived_type (Enumeration tag) = false
is_derived_type _ = true

abbrev pub is_derived : Entry → Bool
is_derived (OfType ty) = is_derived_type ty
is_derived NoParameters = true
is_derived (Parameters first others) = true

-- a type of its own has its number; others may have any
abbrev pub HasTag : CType → ℕ → Type 0
HasTag (Structure tag contents) n = tag ≡ n
HasTag (Union tag contents) n = tag ≡ n
HasTag (Enumeration tag) n = tag ≡ n
HasTag _ n = Unit {0}

abbrev pub IsAt : Entry → ℕ → Type 0
IsAt (OfType ty) n = HasTag ty n
IsAt NoParameters n = Unit {0}
IsAt (Parameters first others) n = Unit {0}

-- the map finds each derived entry's number, and nothing else
pub record IsNumbered (entries : List Entry) (numbers : BTreeMap Entry ℕ) : Type 0 where
  pub found : (e : Entry) (n : ℕ) → get (EntryOrder.ghosts).cmp numbers e ≡ Some n → slice_get entries n ≡ Some e
  pub known : (e : Entry) (n : ℕ) → slice_get entries n ≡ Some e → IsTrue (is_derived e) → get (EntryOrder.ghosts).cmp numbers e ≡ Some n
  pub only : (e : Entry) (n : ℕ) → get (EntryOrder.ghosts).cmp numbers e ≡ Some n → IsTrue (is_derived e)
  pub own : (e : Entry) (n : ℕ) → slice_get entries n ≡ Some e → IsAt e n

-- the type that a tag names, with the room of its contents once it has some
abbrev pub tag_type : Tag → ℕ → Option Extent → CType
tag_type StructureTag n contents = Structure n contents
tag_type UnionTag n contents = Union n contents
tag_type EnumerationTag n contents = Enumeration n
