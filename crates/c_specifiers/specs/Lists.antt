-- What the specifiers of a declaration say together (C11 6.7, 6.7.1, 6.7.2).
--
-- Specifiers may stand in any order. The words of each kind are taken out of the list: at most one storage
-- class, which may stand there; qualifiers, as a set; function specifiers; and one type. That is what the words of
-- basic types name by their table, or the one specifier that is a type by itself.
use Rattle.std.specs.Prelude.{ℕ, Bool, true, false, ◌==◌, ◌&&◌, List, [], ◌∷◌, count_by, if◌then◌else◌, Option, Some, None}
use Rattle.std.specs.List.{filter_map, find}
use Rattle.std.specs.Option.{option_map}
use Rattle.c_syntax.specs.declared.words.Storage.{Storage}
use Rattle.c_syntax.specs.declared.words.Storage.TheVariants as storage
use Rattle.c_syntax.specs.declared.words.FunctionSpecifier.{FunctionSpecifier}
use Rattle.c_syntax.specs.declared.words.FunctionSpecifier.TheVariants as function
use Rattle.c_syntax.specs.declared.words.Qualifier.{Qualifier}
use Rattle.c_syntax.specs.declared.words.BasicType.{BasicType}
use Rattle.c_syntax.specs.declared.expr.Specifier.{Specifier, out-Specifier}
use Rattle.c_syntax.specs.declared.expr.SpecifierKind.{SpecifierKind}
use Rattle.c_syntax.specs.declared.expr.SpecifierKind.TheVariants as kind
use Rattle.c_types.specs.declared.ctype.CType.{CType}
use Rattle.c_specifiers.specs.declared.list.Standing.{Standing}
use Rattle.c_specifiers.specs.declared.list.Standing.TheVariants as standing
use Rattle.c_specifiers.specs.declared.list.TypeSpecifier.{TypeSpecifier}
use Rattle.c_specifiers.specs.declared.list.TypeSpecifier.TheVariants as specifier
use Rattle.c_specifiers.specs.Specifiers.{type_of_words}

-- ---- the words of each kind

abbrev pub storage_in : SpecifierKind → Option Storage
storage_in (kind.Storage w) = Some w
storage_in _ = None

abbrev pub qualifier_in : SpecifierKind → Option Qualifier
qualifier_in (kind.Qualifier w) = Some w
qualifier_in _ = None

abbrev pub basic_in : SpecifierKind → Option BasicType
basic_in (kind.Basic w) = Some w
basic_in _ = None

-- `_Atomic(..)`, a structure, a union, an enumeration or a typedef's name
abbrev pub is_whole_kind : SpecifierKind → Bool
is_whole_kind (kind.Storage w) = false
is_whole_kind (kind.Function w) = false
is_whole_kind (kind.Qualifier w) = false
is_whole_kind (kind.Basic w) = false
is_whole_kind _ = true

abbrev pub storage_word : Specifier → Option Storage
storage_word s = storage_in (out-Specifier s).kind

abbrev pub is_function : FunctionSpecifier → FunctionSpecifier → Bool
is_function function.Inline function.Inline = true
is_function function.NoReturn function.NoReturn = true
is_function _ _ = false

abbrev pub is_function_kind : FunctionSpecifier → SpecifierKind → Bool
is_function_kind w (kind.Function v) = is_function w v
is_function_kind w _ = false

-- whether it is this function specifier
abbrev pub is_function_word : FunctionSpecifier → Specifier → Bool
is_function_word w s = is_function_kind w (out-Specifier s).kind

abbrev pub qualifier_word : Specifier → Option Qualifier
qualifier_word s = qualifier_in (out-Specifier s).kind

abbrev pub basic_word : Specifier → Option BasicType
basic_word s = basic_in (out-Specifier s).kind

-- a type by itself
abbrev pub is_whole : Specifier → Bool
is_whole s = is_whole_kind (out-Specifier s).kind

-- ---- storage classes

-- which storage classes may stand where
abbrev pub allows : Standing → Storage → Bool
allows standing.File storage.Typedef = true
allows standing.File storage.Extern = true
allows standing.File storage.Static = true
allows standing.Definition storage.Extern = true
allows standing.Definition storage.Static = true
allows standing.Block w = true
allows standing.FunctionInBlock storage.Extern = true
allows standing.ForStart storage.Auto = true
allows standing.ForStart storage.Register = true
allows standing.Parameter storage.Register = true
allows _ _ = false

-- at most one storage class, which may stand there; nothing where the specifiers are bad
abbrev pub storage_class : Standing → List Storage → Option (Option Storage)
storage_class here [] = Some None
storage_class here (w ∷ []) = if allows here w then Some (Some w) else None
storage_class here (w ∷ v ∷ ws) = None

-- ---- the type

-- what words name by the table, or a specifier that is a type by itself
pub data NamedType : Type 0 where
  Basic : CType → NamedType
  Whole : Specifier → NamedType

abbrev pub has_no_word : List BasicType → Bool
has_no_word [] = true
has_no_word (w ∷ ws) = false

-- of so many types by themselves, what the words of basic types name and the first type by itself; nothing where
-- the specifiers are bad
abbrev pub named_among : ℕ → Bool → Option CType → Option Specifier → Option NamedType
named_among wholes no_word basic whole =
    if wholes == 0 then option_map Basic basic else (if wholes == 1 && no_word then option_map Whole whole else None)

unfoldable pub named_type : List Specifier → Option NamedType
named_type specifiers =
    let words = filter_map basic_word specifiers in named_among (count_by is_whole specifiers) (has_no_word words) (type_of_words words) (find is_whole specifiers)

-- what a type specifier of the program says
abbrev pub named_in : TypeSpecifier → NamedType
named_in (specifier.Basic ty) = Basic ty
named_in (specifier.Whole s) = Whole s.now
