-- Why specifiers and a declarator declare nothing.
use Rattle.std.proofs.Common.{◌≡◌, inl, inr, ℕ, List, Option, None, sym, ap, ◌∙◌, subst}
use Rattle.c_syntax.specs.declared.expr.Specifiers.{Specifiers, out-Specifiers}
use Rattle.c_syntax.specs.declared.expr.Declarator.{Declarator, out-Declarator}
use Rattle.c_types.specs.declared.entry.Entry.{Entry}
use Rattle.c_types.specs.declared.rule.TypeRule.{TypeRule}
use Rattle.c_types.specs.declared.rule.DeriveFault.{DeriveFault}
use Rattle.c_types.specs.declared.rule.DeriveFault.TheVariants as derive
use Rattle.c_types.specs.Derivations.{IsCause as IsTypeCause}
use Rattle.c_types.specs.Declarators.{Keeps, IsDerived}
use Rattle.c_types.specs.Whole.{IsPart}
use Rattle.c_rules.specs.declared.fault.CheckFault.{CheckFault}
use Rattle.c_rules.specs.declared.fault.CheckFault.TheVariants as check
use Rattle.c_specifiers.specs.declared.list.Standing.{Standing}
use Rattle.c_declarations.specs.declared.fault.DeclarationFault.{DeclarationFault}
use Rattle.c_declarations.specs.declared.fault.DeclarationFault.TheVariants.{Broken, NoMemory}
use Rattle.c_declarations.specs.declared.specifier_list.Specification.{Specification}
use Rattle.c_declarations.specs.declared.declaration.Declaration.{Declaration}
use Rattle.c_declarations.specs.declared.declaration.Found.{Found}
use Rattle.c_declarations.specs.Specified.{rule_of_specifiers, IsSpecified, IsCause}
use Rattle.c_declarations.specs.Declarations.{fault_of, known_rule, derivations_in, rule_of_declarator, fault_at, IsDeclaredBy, IsFaultBy, IsDeclared, IsFault}
use Rattle.c_declarations.proofs.Keeping.{IsSpecified-keeps, rule_keeps}

-- the checker's fault is of the rule that the table of types tells
pub cause_of : (o : Option TypeRule) (f : DeriveFault) → IsTypeCause o f → IsCause (known_rule o) (fault_of f)
cause_of o (derive.Broken r) h = ap known_rule h
cause_of o derive.NoMemory h = tt

-- ---- a declarator's fault, and that of a whole declaration

pub fault_by : (t : List Entry) (said : Specification) (found : Found) (d : Declarator) (line : ℕ) (f : DeclarationFault) → line ≡ (out-Declarator d).span.line → IsCause (rule_of_declarator t said.ty found.known found.outermost d) f → IsFaultBy t said found d (fault_at line f)
fault_by t said found d line (Broken r) at h = (at, h)
fault_by t said found d line NoMemory at h = tt

module _ (old now new : List Entry) (standing : Standing) (specifiers : Specifiers) (found : Found) (d : Declarator) where
  pub specifiers_fault : (line : ℕ) (f : DeclarationFault) → line ≡ (out-Specifiers specifiers).span.line → IsCause (rule_of_specifiers old standing (out-Specifiers specifiers).list found.whole) f → IsFault old new standing specifiers found d (fault_at line f)
  specifiers_fault line (Broken r) at h = inl (at, h)
  specifiers_fault line NoMemory at h = tt

  pub declarator_fault :
      (said : Specification) → rule_of_specifiers old standing (out-Specifiers specifiers).list found.whole ≡ None → Keeps now new → IsSpecified now standing (out-Specifiers specifiers).list found.whole said → IsPart now said.ty → (x : CheckFault) → IsFaultBy now said found d x → IsFault old new standing specifiers found d x
  declarator_fault said fine k is-said there (check.Rule line broken) h =
      inr (
        h.0,
        (
          fine,
          record {
            said = said;
            specified = IsSpecified-keeps now new standing (out-Specifiers specifiers).list found.whole said k is-said;
            breaks = ap known_rule (rule_keeps now new said.ty (derivations_in found.known found.outermost d) k there) ∙ h.1;
          },
        ),
      )
  declarator_fault said fine k is-said there check.NoMemory h = tt

  pub declared :
      (said : Specification) → Keeps now new → IsSpecified now standing (out-Specifiers specifiers).list found.whole said → (made : Declaration) → IsDeclaredBy new said found d made → IsDeclared new standing specifiers found d made
  declared said k is-said made h = record {
    said = subst (IsSpecified new standing (out-Specifiers specifiers).list found.whole) (sym h.of_said) (IsSpecified-keeps now new standing (out-Specifiers specifiers).list found.whole said k is-said);
    ty = subst (λ (s : Specification). IsDerived new s.ty (derivations_in found.known found.outermost d) made.ty) (sym h.of_said) h.ty;
    sound = subst (λ (s : Specification). rule_of_declarator new s.ty found.known found.outermost d ≡ None) (sym h.of_said) h.sound;
    name = h.name;
  }
