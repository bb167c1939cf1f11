-- What a declarator says (C11 6.7.6).
--
-- A declarator is read from the base type outwards. Its pointers come first, from left to right, then its
-- suffixes from right to left, since the one nearest to the name is applied last, and then what stands in its
-- parentheses. So `*(*f)[3]` over int makes a pointer to int, an array of 3 of those, a pointer to such an array.
use Rattle.std.specs.Prelude.{ℕ, false, List, [], ◌++◌, map, reverse, Option, Some, None, Result, Ok, Err}
use Rattle.std.specs.BTreeMap.{get}
use Rattle.std.specs.Ordering.{nat_cmp}
use Rattle.c_syntax.specs.declared.expr.Declarator.{Declarator, Declarator', out-Declarator}
use Rattle.c_syntax.specs.declared.expr.Core.{Core, Name, Parens', Nothing, more_of-Declarator, end_of-Declarator}
use Rattle.c_syntax.specs.declared.expr.Pointer.{Pointer}
use Rattle.c_syntax.specs.declared.expr.Suffix.{Suffix, out-Suffix}
use Rattle.c_syntax.specs.declared.expr.SuffixKind.{SuffixKind, Array', Function', SuffixKind-Array-0-None' as NoSize, SuffixKind-Array-0-Some' as Size}
use Rattle.c_types.specs.declared.ctype.ElementCount.{ElementCount}
use Rattle.c_types.specs.declared.derivation.Derivation.{Derivation}
use Rattle.c_types.specs.declared.derivation.Derivation.TheVariants as derivation
use Rattle.c_types.specs.declared.rule.TypeRule.{TypeRule}
use Rattle.c_types.specs.declared.rule.TypeRule.TheVariants as rule
use Rattle.c_specifiers.specs.QualifierSets.{qualifiers_of}
use Rattle.c_declarators.specs.declared.known.Known.{Known}

-- ---- suffixes

-- an array's size is a count where the passes before found it to be one
abbrev pub array_of : Option ElementCount → Derivation
array_of None = derivation.BadArray
array_of (Some count) = derivation.Array count

-- a list of parameters is the one that the passes before found, or the rule that one of them breaks
abbrev pub function_of : Option (Result ℕ TypeRule) → Derivation
function_of None = derivation.BadFunction rule.BadFunction
function_of (Some (Ok parameters)) = derivation.Function parameters false
function_of (Some (Err broken)) = derivation.BadFunction broken

-- a suffix, of which the number of its first token tells what is known
abbrev pub kind_derivation : Known → ℕ → SuffixKind → Derivation
kind_derivation known first (Array' NoSize) = derivation.OpenArray
kind_derivation known first (Array' (Size span size)) = array_of (get nat_cmp known.sizes first)
kind_derivation known first (Function' z parameters scope) = function_of (get nat_cmp known.parameters first)

abbrev pub suffix_derivation : Known → Suffix → Derivation
suffix_derivation known s = kind_derivation known (out-Suffix s).span.first (out-Suffix s).kind

-- ---- declarators

abbrev pub pointer_derivation : Pointer → Derivation
pointer_derivation p = derivation.Pointer (qualifiers_of p.qualifiers)

-- a declarator's pointers and suffixes, without what stands in its parentheses
abbrev pub own_derivations : Known → Declarator → List Derivation
own_derivations known d = map pointer_derivation (out-Declarator d).pointers ++ reverse (map (suffix_derivation known) (out-Declarator d).suffixes)

abbrev mutual
  -- all derivations of a declarator, in the order in which they are applied to the base type
  pub derivations_of : Known → Declarator → List Derivation
  derivations_of known (Declarator' span name pointers core z suffixes) =
      own_derivations known (Declarator' span name pointers core z suffixes) ++ core_derivations known core

  pub core_derivations : Known → Core → List Derivation
  core_derivations known (Name span name) = []
  core_derivations known (Parens' p (more_of-Declarator inner end_of-Declarator)) = derivations_of known inner
  core_derivations known Nothing = []
