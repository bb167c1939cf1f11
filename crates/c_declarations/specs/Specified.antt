-- What the specifiers of a declaration say: a storage class, a type with qualifiers, and function specifiers (C11 6.7).
--
-- The type is what the words of basic types name by their table, or the one specifier that is a type by itself, and
-- the qualifiers of the list are added to it. Of the rules that a list breaks the one with the lower number decides.
use Rattle.std.specs.Prelude.{◌≡◌, List, Option, Some, None, Result, Ok, Err}
use Rattle.std.specs.List.{filter_map, list_any}
use Rattle.std.specs.Option.{option_map}
use Rattle.c_syntax.specs.declared.words.Storage.{Storage}
use Rattle.c_syntax.specs.declared.words.FunctionSpecifier.TheVariants as function
use Rattle.c_syntax.specs.declared.expr.Specifier.{Specifier}
use Rattle.c_types.specs.declared.ctype.CType.{CType}
use Rattle.c_types.specs.declared.ctype.CType.TheVariants.{Void, Integer, Enumeration, Pointer, ArrayOf, Function, Structure, Union}
use Rattle.c_types.specs.declared.ctype.Part.{Part}
use Rattle.c_types.specs.declared.entry.Entry.{Entry}
use Rattle.c_types.specs.declared.qualifier_set.Qualifiers.{Qualifiers}
use Rattle.c_types.specs.Declarators.{type_in, IsPlain}
use Rattle.c_types.specs.Whole.{IsPart}
use Rattle.c_rules.specs.declared.rule.Rule.{Rule}
use Rattle.c_rules.specs.declared.rule.Rule.TheVariants as rule
use Rattle.c_rules.specs.Rules.{lower_of}
use Rattle.c_specifiers.specs.declared.list.Standing.{Standing}
use Rattle.c_specifiers.specs.QualifierSets.{qualifiers_of}
use Rattle.c_specifiers.specs.Lists.{NamedType, Basic, Whole, storage_word, qualifier_word, is_function_word, storage_class, named_type}
use Rattle.c_declarations.specs.declared.specifier_list.Specification.{Specification}
use Rattle.c_declarations.specs.declared.specifier_list.Words.{Words}
use Rattle.c_declarations.specs.declared.specifier_list.Named.{Named}
use Rattle.c_declarations.specs.declared.specifier_list.Named.TheVariants as named
use Rattle.c_declarations.specs.declared.fault.DeclarationFault.{DeclarationFault}
use Rattle.c_declarations.specs.declared.fault.DeclarationFault.TheVariants as fault
use Rattle.c_type_rules.specs.Atomic.{rule_of_set}
use Rattle.c_type_rules.specs.Qualified.{IsQualified}

-- ---- the rules

-- of two rules the one with the lower number
abbrev pub lowest : Option Rule → Option Rule → Option Rule
lowest None r = r
lowest (Some q) None = Some q
lowest (Some q) (Some r) = Some (lower_of q r)

abbrev pub rule_of_storage : Option (Option Storage) → Option Rule
rule_of_storage None = Some rule.BadSpecifiers
rule_of_storage (Some word) = None

-- words name void or an integer type
abbrev pub rule_of_basic : CType → Qualifiers → Option Rule
rule_of_basic Void set = rule_of_set Void set
rule_of_basic (Integer kind) set = rule_of_set (Integer kind) set
rule_of_basic (Enumeration tag) set = Some rule.BadSpecifiers
rule_of_basic (Pointer to) set = Some rule.BadSpecifiers
rule_of_basic (ArrayOf a) set = Some rule.BadSpecifiers
rule_of_basic (Function signature) set = Some rule.BadSpecifiers
rule_of_basic (Structure tag contents) set = Some rule.BadSpecifiers
rule_of_basic (Union tag contents) set = Some rule.BadSpecifiers

abbrev pub rule_of_type : Option CType → Qualifiers → Option Rule
rule_of_type None set = Some rule.BadSpecifiers
rule_of_type (Some ty) set = rule_of_set ty set

-- what a specifier that is a type by itself breaks: the rule that was found at it, or that of the qualifiers beside it
abbrev pub rule_of_whole : List Entry → Option (Result Part Rule) → Qualifiers → Option Rule
rule_of_whole table None set = Some rule.BadSpecifiers
rule_of_whole table (Some (Err broken)) set = Some broken
rule_of_whole table (Some (Ok part)) set = rule_of_type (type_in table part.number) set

-- the rule of words that name no type, beside the one that was found at a specifier that is a type by itself
abbrev pub rule_beside : Option (Result Part Rule) → Rule
rule_beside None = rule.BadSpecifiers
rule_beside (Some (Ok part)) = rule.BadSpecifiers
rule_beside (Some (Err broken)) = lower_of broken rule.BadSpecifiers

abbrev pub rule_of_named : List Entry → Option (Result Part Rule) → Qualifiers → Option Named → Option Rule
rule_of_named table whole set None = Some (rule_beside whole)
rule_of_named table whole set (Some (named.Basic ty)) = rule_of_basic ty set
rule_of_named table whole set (Some named.Whole) = rule_of_whole table whole set

abbrev pub kind_of_named : NamedType → Named
kind_of_named (Basic ty) = named.Basic ty
kind_of_named (Whole s) = named.Whole

-- the rule that the words of a list break
abbrev pub rule_of_words : List Entry → Option (Result Part Rule) → Option (Option Storage) → Option Named → Qualifiers → Option Rule
rule_of_words table whole storage by set = lowest (rule_of_storage storage) (rule_of_named table whole set by)

-- the storage class, the kind of the type and the qualifiers of a list of specifiers
abbrev pub storage_in_list : Standing → List Specifier → Option (Option Storage)
storage_in_list standing specifiers = storage_class standing (filter_map storage_word specifiers)

abbrev pub named_in_list : List Specifier → Option Named
named_in_list specifiers = option_map kind_of_named (named_type specifiers)

abbrev pub set_in_list : List Specifier → Qualifiers
set_in_list specifiers = qualifiers_of (filter_map qualifier_word specifiers)

-- the first of the rules that the specifiers break
abbrev pub rule_of_specifiers : List Entry → Standing → List Specifier → Option (Result Part Rule) → Option Rule
rule_of_specifiers table standing specifiers whole =
    rule_of_words table whole (storage_in_list standing specifiers) (named_in_list specifiers) (set_in_list specifiers)

-- ---- the type

-- the part is the type that is named, without the qualifiers of the list
abbrev pub IsNamed : List Entry → Option (Result Part Rule) → Option Named → Part → Type 0
IsNamed table whole None part = ⊥
IsNamed table whole (Some (named.Basic ty)) part = IsPlain table ty part
IsNamed table whole (Some named.Whole) part = whole ≡ Some (Ok part)

-- the part is the type that is named, with the qualifiers of the list
pub record IsNamedWith (table : List Entry) (whole : Option (Result Part Rule)) (by : Option Named) (set : Qualifiers) (ty : Part) : Type 0 where
  pub plain : Part
  pub is_named : IsNamed table whole by plain
  pub qualified : IsQualified table plain set ty

-- what a specifier that is a type by itself names is of this table
abbrev pub WholeFits : List Entry → Option (Result Part Rule) → Type 0
WholeFits table None = Unit {0}
WholeFits table (Some (Err broken)) = Unit {0}
WholeFits table (Some (Ok part)) = IsPart table part

-- the words of a list of specifiers
pub record AreWords (standing : Standing) (specifiers : List Specifier) (w : Words) : Type 0 where
  pub storage_is : w.storage ≡ storage_in_list standing specifiers
  pub named_is : w.named ≡ named_in_list specifiers
  pub set_is : w.set ≡ set_in_list specifiers

-- what a list with these words says
pub record IsSaid (table : List Entry) (whole : Option (Result Part Rule)) (storage : Option (Option Storage)) (by : Option Named) (set : Qualifiers) (specifiers : List Specifier) (s : Specification) : Type 0 where
  pub class : storage ≡ Some s.storage
  pub ty : IsNamedWith table whole by set s.ty
  pub inline : s.is_inline ≡ list_any (is_function_word function.Inline) specifiers
  pub no_return : s.is_no_return ≡ list_any (is_function_word function.NoReturn) specifiers

-- what is said
abbrev pub IsSpecified : List Entry → Standing → List Specifier → Option (Result Part Rule) → Specification → Type 0
IsSpecified table standing specifiers whole s = IsSaid table whole (storage_in_list standing specifiers) (named_in_list specifiers) (set_in_list specifiers) specifiers s

-- why nothing is said: this rule is the first that is broken. Want of memory says nothing of it
abbrev pub IsCause : Option Rule → DeclarationFault → Type 0
IsCause broken (fault.Broken r) = broken ≡ Some r
IsCause broken fault.NoMemory = Unit {0}
