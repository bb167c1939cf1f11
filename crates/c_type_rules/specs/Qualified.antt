-- A type with further qualifiers (C11 6.7.3p9).
--
-- The qualifiers of an array are those of its elements, through all arrays that it is made of, so `const` beside a
-- typedef of an array qualifies the innermost elements. A function has no qualifiers.
use Rattle.std.specs.Prelude.{bit_or, List, Option, Some, None, All}
use Rattle.c_types.specs.declared.ctype.CType.{CType}
use Rattle.c_types.specs.declared.ctype.CType.TheVariants.{Void, Integer, Enumeration, Pointer, ArrayOf, Function, Structure, Union}
use Rattle.c_types.specs.declared.ctype.Part.{Part}
use Rattle.c_types.specs.declared.derivation.Derivation.{Derivation}
use Rattle.c_types.specs.declared.derivation.Derivation.TheVariants.{Pointer as PointerTo, Array as ArrayOfSo, OpenArray, BadArray, Function as FunctionOf, BadFunction}
use Rattle.c_types.specs.declared.entry.Entry.{Entry}
use Rattle.c_types.specs.declared.qualifier_set.Qualifiers.{Qualifiers}
use Rattle.c_types.specs.Declarators.{type_in, IsDerived}

abbrev pub IsArray : Derivation → Type 0
IsArray (PointerTo qualifiers) = ⊥
IsArray (ArrayOfSo count) = Unit {0}
IsArray OpenArray = ⊥
IsArray BadArray = ⊥
IsArray (FunctionOf parameters more) = ⊥
IsArray (BadFunction broken) = ⊥

abbrev pub IsNoArray : CType → Type 0
IsNoArray Void = Unit {0}
IsNoArray (Integer kind) = Unit {0}
IsNoArray (Enumeration tag) = Unit {0}
IsNoArray (Pointer to) = Unit {0}
IsNoArray (ArrayOf a) = ⊥
IsNoArray (Function signature) = Unit {0}
IsNoArray (Structure tag contents) = Unit {0}
IsNoArray (Union tag contents) = Unit {0}

-- the number is that of a type other than an array
abbrev pub IsElement : Option CType → Type 0
IsElement None = ⊥
IsElement (Some ty) = IsNoArray ty

abbrev pub with_set : CType → Part → Qualifiers → Part
with_set Void p set = record { number = p.number; qualifiers = record { 0 = bit_or p.qualifiers.0 set.0 } }
with_set (Integer kind) p set = record { number = p.number; qualifiers = record { 0 = bit_or p.qualifiers.0 set.0 } }
with_set (Enumeration tag) p set = record { number = p.number; qualifiers = record { 0 = bit_or p.qualifiers.0 set.0 } }
with_set (Pointer to) p set = record { number = p.number; qualifiers = record { 0 = bit_or p.qualifiers.0 set.0 } }
with_set (ArrayOf a) p set = p
with_set (Function signature) p set = p
with_set (Structure tag contents) p set = record { number = p.number; qualifiers = record { 0 = bit_or p.qualifiers.0 set.0 } }
with_set (Union tag contents) p set = record { number = p.number; qualifiers = record { 0 = bit_or p.qualifiers.0 set.0 } }

-- what is no array, with further qualifiers; a function stays as it is
abbrev pub element_with : Option CType → Part → Qualifiers → Part
element_with None p set = p
element_with (Some ty) p set = with_set ty p set

-- the last part is the first one with further qualifiers: both are made by the same arrays of one element, which
-- has the qualifiers
pub record IsQualified (table : List Entry) (p : Part) (set : Qualifiers) (made : Part) : Type 0 where
  pub element : Part
  pub arrays : List Derivation
  pub only_arrays : All IsArray arrays
  pub no_array : IsElement (type_in table element.number)
  pub of_it : IsDerived table element arrays p
  pub made_so : IsDerived table (element_with (type_in table element.number) element set) arrays made
