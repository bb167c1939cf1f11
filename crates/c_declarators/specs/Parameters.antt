-- What a list of parameters breaks at its function's declarator, and when it says that there are none.
use Rattle.std.specs.Prelude.{Bool, true, false, not, ◌&&◌, ◌==◌, List, [], ◌∷◌, Option, Some, None, Result, Ok, Err}
use Rattle.c_types.specs.declared.ctype.CType.{CType}
use Rattle.c_types.specs.declared.ctype.CType.TheVariants.{Void, Structure, Union}
use Rattle.c_types.specs.declared.ctype.Extent.{Extent}
use Rattle.c_types.specs.declared.ctype.Part.{Part}
use Rattle.c_types.specs.declared.entry.Entry.{Entry}
use Rattle.c_types.specs.declared.rule.TypeRule.{TypeRule}
use Rattle.c_types.specs.declared.rule.TypeRule.TheVariants as rule
use Rattle.c_types.specs.Derivations.{lowest}
use Rattle.c_types.specs.Declarators.{type_in}
use Rattle.c_declarators.specs.declared.parameters.ParameterType.{ParameterType}

-- a structure or union is no parameter, and without contents it has no size
abbrev pub rule_of_contents : Option Extent → TypeRule
rule_of_contents None = rule.Incomplete
rule_of_contents (Some extent) = rule.BadFunction

abbrev pub rule_of_type : Option CType → Option TypeRule
rule_of_type (Some Void) = Some rule.Incomplete
rule_of_type (Some (Structure tag contents)) = Some (rule_of_contents contents)
rule_of_type (Some (Union tag contents)) = Some (rule_of_contents contents)
rule_of_type _ = None

-- the rule that one parameter breaks: that of its own declarator, where it has no name and so is no construct of
-- its own, or that of its type
abbrev pub rule_of_outcome : List Entry → Result Part TypeRule → Option TypeRule
rule_of_outcome table (Err broken) = Some broken
rule_of_outcome table (Ok part) = rule_of_type (type_in table part.number)

abbrev pub rule_of_parameter : List Entry → ParameterType → Option TypeRule
rule_of_parameter table p = rule_of_outcome table p.ty

-- the first of the rules that parameters break, or that were broken before them
unfoldable pub lowest_rule : List Entry → Option TypeRule → List ParameterType → Option TypeRule
lowest_rule table so_far [] = so_far
lowest_rule table so_far (p ∷ ps) = lowest_rule table (lowest so_far (rule_of_parameter table p)) ps

abbrev pub is_void : Option CType → Bool
is_void (Some Void) = true
is_void _ = false

abbrev pub is_plain_void : List Entry → Result Part TypeRule → Bool
is_plain_void table (Err broken) = false
is_plain_void table (Ok part) = is_void (type_in table part.number) && part.qualifiers.0 == 0

-- `(void)`, by type: one parameter without a name and without qualifiers says that there are none (C11 6.7.6.3p10)
abbrev pub says_none : List Entry → List ParameterType → Bool
says_none table (p ∷ []) = not p.has_name && is_plain_void table p.ty
says_none table _ = false
