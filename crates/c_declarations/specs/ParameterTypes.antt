-- What a list of parameters is, as a function's type has it (C11 6.7.6.3).
--
-- One parameter of type void, without a name and qualifiers, says that there are none. Else each parameter is adjusted: an
-- array is a pointer to its elements, and a function a pointer to it (p7, p8). Their own qualifiers don't count (p15).
use Rattle.std.specs.Prelude.{◌≡◌, ℕ, List, [], ◌∷◌, if◌then◌else◌, Option, None, Result, Ok, Err}
use Rattle.c_types.specs.declared.ctype.Part.{Part}
use Rattle.c_types.specs.declared.entry.Entry.{Entry}
use Rattle.c_types.specs.declared.rule.TypeRule.{TypeRule}
use Rattle.c_types.specs.Declarators.{IsAdjusted, IsParameterList}
use Rattle.c_types.specs.Whole.{IsPart}
use Rattle.c_declarators.specs.declared.parameters.ParameterType.{ParameterType}
use Rattle.c_declarators.specs.Parameters.{lowest_rule, says_none}

-- a parameter's type, where it has one, is of this table
abbrev pub IsTypeOfTable : List Entry → Result Part TypeRule → Type 0
IsTypeOfTable table (Ok part) = IsPart table part
IsTypeOfTable table (Err broken) = Unit {0}

abbrev pub ParameterFits : List Entry → ParameterType → Type 0
ParameterFits table p = IsTypeOfTable table p.ty

-- the number is that of the parameter's type after its adjustment. `old` is the table before, and `new` that after
abbrev pub IsAdjustedTo : List Entry → List Entry → Result Part TypeRule → ℕ → Type 0
IsAdjustedTo old new (Ok part) n = (made : Part) × IsAdjusted old new part made × (made.number ≡ n)
IsAdjustedTo old new (Err broken) n = ⊥

unfoldable pub AreAdjusted : List Entry → List Entry → List ParameterType → List ℕ → Type 0
AreAdjusted old new [] [] = Unit {0}
AreAdjusted old new (p ∷ ps) (n ∷ ns) = IsAdjustedTo old new p.ty n × AreAdjusted old new ps ns
AreAdjusted old new [] (n ∷ ns) = ⊥
AreAdjusted old new (p ∷ ps) [] = ⊥

-- the parameters that there are
abbrev pub parameters_in : List Entry → List ParameterType → List ParameterType
parameters_in table ps = if says_none table ps then [] else ps

-- the first of the rules that the parameters break at their function's declarator
abbrev pub rule_of_list : List Entry → List ParameterType → Option TypeRule
rule_of_list table ps = lowest_rule table None (parameters_in table ps)

-- the number is that of the list of these parameters
pub record IsListOf (old new : List Entry) (ps : List ParameterType) (n : ℕ) : Type 0 where
  pub numbers : List ℕ
  pub adjusted : AreAdjusted old new ps numbers
  pub list : IsParameterList new numbers n
