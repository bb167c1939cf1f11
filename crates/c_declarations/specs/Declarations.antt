-- What a declaration's specifiers and one of its declarators declare: the one type that both make.
--
-- The specifiers end before the declarator, so a rule that they break comes first. Then the declarator is the fold of its
-- derivations over the type that the specifiers name.
use Rattle.std.specs.Prelude.{◌≡◌, ◌⊎◌, ℕ, List, Option, Some, None}
use Rattle.c_syntax.specs.declared.expr.Specifiers.{Specifiers, out-Specifiers}
use Rattle.c_syntax.specs.declared.expr.Declarator.{Declarator, out-Declarator}
use Rattle.c_types.specs.declared.ctype.ElementCount.{ElementCount}
use Rattle.c_types.specs.declared.ctype.Part.{Part}
use Rattle.c_types.specs.declared.derivation.Derivation.{Derivation}
use Rattle.c_types.specs.declared.entry.Entry.{Entry}
use Rattle.c_types.specs.declared.rule.TypeRule.{TypeRule}
use Rattle.c_types.specs.declared.rule.TypeRule.TheVariants as type_rule
use Rattle.c_types.specs.declared.rule.DeriveFault.{DeriveFault}
use Rattle.c_types.specs.declared.rule.DeriveFault.TheVariants as derive
use Rattle.c_types.specs.Derivations.{lowest_rule}
use Rattle.c_types.specs.Declarators.{shape_at, IsDerived}
use Rattle.c_rules.specs.declared.rule.Rule.{Rule}
use Rattle.c_rules.specs.declared.rule.Rule.TheVariants as rule
use Rattle.c_rules.specs.declared.fault.CheckFault.{CheckFault}
use Rattle.c_rules.specs.declared.fault.CheckFault.TheVariants as check
use Rattle.c_specifiers.specs.declared.list.Standing.{Standing}
use Rattle.c_declarators.specs.declared.known.Known.{Known}
use Rattle.c_declarators.specs.Declarators.{derivations_of}
use Rattle.c_declarators.specs.Outermost.{with_outermost}
use Rattle.c_declarations.specs.declared.fault.DeclarationFault.{DeclarationFault}
use Rattle.c_declarations.specs.declared.fault.DeclarationFault.TheVariants as fault
use Rattle.c_declarations.specs.declared.specifier_list.Specification.{Specification}
use Rattle.c_declarations.specs.declared.declaration.Declaration.{Declaration}
use Rattle.c_declarations.specs.declared.declaration.Found.{Found}
use Rattle.c_declarations.specs.Specified.{IsSpecified, rule_of_specifiers}

-- the rule of the checker that a type breaks
abbrev pub rule_of : TypeRule → Rule
rule_of type_rule.Incomplete = rule.IncompleteType
rule_of type_rule.TooLarge = rule.ObjectTooLarge
rule_of type_rule.BadSize = rule.BadArraySize
rule_of type_rule.BadFunction = rule.BadFunctionType

-- why a declarator has no type, as the checker says it
abbrev pub fault_of : DeriveFault → DeclarationFault
fault_of (derive.Broken broken) = fault.Broken (rule_of broken)
fault_of derive.NoMemory = fault.NoMemory

abbrev pub known_rule : Option TypeRule → Option Rule
known_rule None = None
known_rule (Some broken) = Some (rule_of broken)

-- the derivations of a declarator, where an outermost size that it doesn't say comes from elsewhere
abbrev pub sized : Option ElementCount → List Derivation → List Derivation
sized None ds = ds
sized (Some count) ds = with_outermost count ds

abbrev pub derivations_in : Known → Option ElementCount → Declarator → List Derivation
derivations_in known outermost d = sized outermost (derivations_of known d)

-- the first of the rules that a declarator breaks over a base type
abbrev pub rule_of_declarator : List Entry → Part → Known → Option ElementCount → Declarator → Option Rule
rule_of_declarator table base known outermost d = known_rule (lowest_rule (shape_at table base.number) None (derivations_in known outermost d))

-- ---- the whole declaration

-- a fault of a construct that begins at this line
abbrev pub fault_at : ℕ → DeclarationFault → CheckFault
fault_at line (fault.Broken broken) = check.Rule line broken
fault_at line fault.NoMemory = check.NoMemory

-- what a declarator declares over what its specifiers say; it breaks no rule
pub record IsDeclaredBy (table : List Entry) (said : Specification) (found : Found) (d : Declarator) (made : Declaration) : Type 0 where
  pub of_said : made.said ≡ said
  pub ty : IsDerived table said.ty (derivations_in found.known found.outermost d) made.ty
  pub sound : rule_of_declarator table said.ty found.known found.outermost d ≡ None
  pub name : made.name ≡ (out-Declarator d).name

-- why it declares nothing: it breaks this rule, at the line of its first token
abbrev pub IsFaultBy : List Entry → Specification → Found → Declarator → CheckFault → Type 0
IsFaultBy table said found d (check.Rule line broken) = (line ≡ (out-Declarator d).span.line) × (rule_of_declarator table said.ty found.known found.outermost d ≡ Some broken)
IsFaultBy table said found d check.NoMemory = Unit {0}

-- what is declared: what the specifiers say, and the type that the declarator makes of theirs, by which it breaks no rule
pub record IsDeclared (table : List Entry) (standing : Standing) (specifiers : Specifiers) (found : Found) (d : Declarator) (made : Declaration) : Type 0 where
  pub said : IsSpecified table standing (out-Specifiers specifiers).list found.whole made.said
  pub ty : IsDerived table made.said.ty (derivations_in found.known found.outermost d) made.ty
  pub sound : rule_of_declarator table made.said.ty found.known found.outermost d ≡ None
  pub name : made.name ≡ (out-Declarator d).name

-- the declarator breaks this rule over the type that the specifiers name
pub record IsBrokenDeclarator (table : List Entry) (standing : Standing) (specifiers : Specifiers) (found : Found) (d : Declarator) (broken : Rule) : Type 0 where
  pub said : Specification
  pub specified : IsSpecified table standing (out-Specifiers specifiers).list found.whole said
  pub breaks : rule_of_declarator table said.ty found.known found.outermost d ≡ Some broken

-- why nothing is declared: the specifiers break this rule, or else the declarator does, at the line of its first token. `old`
-- is the table before, and `new` that after
abbrev pub IsFault : List Entry → List Entry → Standing → Specifiers → Found → Declarator → CheckFault → Type 0
IsFault old new standing specifiers found d (check.Rule line broken) =
    ((line ≡ (out-Specifiers specifiers).span.line) × (rule_of_specifiers old standing (out-Specifiers specifiers).list found.whole ≡ Some broken))
    ⊎ ((line ≡ (out-Declarator d).span.line) × ((rule_of_specifiers old standing (out-Specifiers specifiers).list found.whole ≡ None) × IsBrokenDeclarator new standing specifiers found d broken))
IsFault old new standing specifiers found d check.NoMemory = Unit {0}
