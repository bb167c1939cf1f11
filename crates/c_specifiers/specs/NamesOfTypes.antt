-- Which type a typedef's name or a tag in specifiers stands for, by what is visible (C11 6.7.8, 6.7.2.3).
use Rattle.std.specs.Prelude.{ℕ, Bool, true, false, if◌then◌else◌, Option, Some, None, Result, Ok, Err}
use Rattle.c_types.specs.declared.ctype.Part.{Part}
use Rattle.c_types.specs.declared.entry.Tag.{Tag}
use Rattle.c_types.specs.declared.entry.Tag.TheVariants.{Structure, Union, Enumeration}
use Rattle.c_tree.specs.declared.declared.Declared.{Declared}
use Rattle.c_tree.specs.declared.declared.Declared.TheVariants as declared
use Rattle.c_specifiers.specs.declared.names.NameFault.{NameFault}
use Rattle.c_specifiers.specs.declared.names.NameFault.TheVariants as fault

-- a typedef's name stands for its type with its qualifiers
abbrev pub typedef_type : Option Declared → Result Part NameFault
typedef_type None = Err fault.Unknown
typedef_type (Some (declared.Typedef ty)) = Ok ty
typedef_type (Some d) = Err fault.NoType

abbrev pub same_tag : Tag → Tag → Bool
same_tag Structure Structure = true
same_tag Union Union = true
same_tag Enumeration Enumeration = true
same_tag _ _ = false

-- a tag that is visible stands for its type, where it is of the kind that the specifier says; one that isn't is
-- a new one, unless it is an enumeration's, which has its names first
abbrev pub tag_type : Tag → Option Declared → Result (Option ℕ) NameFault
tag_type Enumeration None = Err fault.WrongTag
tag_type kind None = Ok None
tag_type kind (Some (declared.Tag tag)) = if same_tag kind tag.kind then Ok (Some tag.ty) else Err fault.WrongTag
tag_type kind (Some d) = Err fault.WrongTag
