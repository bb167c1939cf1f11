-- The number of a rule tells it.
use Rattle.std.proofs.Common.{◌≡◌, ℕ, List, [], ◌∷◌, pred, refl, sym, ap, ◌∙◌}
use Rattle.std.specs.Prelude.{slice_index_or}
use Rattle.c_rules.specs.Rules.{number_of}
use Rattle.c_rules.specs.declared.rule.Rule.{Rule}
use Rattle.c_rules.specs.declared.rule.Rule.TheVariants as rule

-- the rules in the order of their numbers, of which the first is 1
abbrev rules : List Rule
rules =
    rule.UnknownName ∷ rule.DeclaredAgain ∷ rule.BadSpecifiers ∷ rule.IncompleteType ∷ rule.ObjectTooLarge ∷
    rule.BadArraySize ∷ rule.BadFunctionType ∷ rule.BadMember ∷ rule.UnknownMember ∷ rule.BadConstant ∷
    rule.BadInitialiser ∷ rule.NotAnLvalue ∷ rule.NotModifiable ∷ rule.BadAddress ∷ rule.NotAPointer ∷
    rule.NotAStructure ∷ rule.BadOperand ∷ rule.BadConversion ∷ rule.BadCast ∷ rule.NotCallable ∷
    rule.ArgumentCount ∷ rule.BadFormat ∷ rule.BadAtomic ∷ rule.NotAScalar ∷ rule.NotAnInteger ∷
    rule.CaseAgain ∷ rule.TwoDefaults ∷ rule.BreakOutside ∷ rule.ContinueOutside ∷ rule.BadReturn ∷
    rule.WrongTag ∷ rule.StaticAssertion ∷ rule.BadMain ∷ rule.UndefinedFunction ∷ rule.UndefinedObject ∷
    rule.TooManyValues ∷ rule.TooManyFunctions ∷ rule.StaticsTooLarge ∷ rule.NoMain ∷ []

abbrev rule_at : ℕ → Rule
rule_at n = slice_index_or rules (pred n) rule.NothingDeclared

back : (r : Rule) → rule_at (number_of r) ≡ r
back rule.UnknownName = refl
back rule.DeclaredAgain = refl
back rule.BadSpecifiers = refl
back rule.IncompleteType = refl
back rule.ObjectTooLarge = refl
back rule.BadArraySize = refl
back rule.BadFunctionType = refl
back rule.BadMember = refl
back rule.UnknownMember = refl
back rule.BadConstant = refl
back rule.BadInitialiser = refl
back rule.NotAnLvalue = refl
back rule.NotModifiable = refl
back rule.BadAddress = refl
back rule.NotAPointer = refl
back rule.NotAStructure = refl
back rule.BadOperand = refl
back rule.BadConversion = refl
back rule.BadCast = refl
back rule.NotCallable = refl
back rule.ArgumentCount = refl
back rule.BadFormat = refl
back rule.BadAtomic = refl
back rule.NotAScalar = refl
back rule.NotAnInteger = refl
back rule.CaseAgain = refl
back rule.TwoDefaults = refl
back rule.BreakOutside = refl
back rule.ContinueOutside = refl
back rule.BadReturn = refl
back rule.WrongTag = refl
back rule.StaticAssertion = refl
back rule.BadMain = refl
back rule.UndefinedFunction = refl
back rule.UndefinedObject = refl
back rule.TooManyValues = refl
back rule.TooManyFunctions = refl
back rule.StaticsTooLarge = refl
back rule.NoMain = refl
back rule.NothingDeclared = refl

pub same_rule : (a b : Rule) → number_of a ≡ number_of b → a ≡ b
same_rule a b same = sym (back a) ∙ ap rule_at same ∙ back b
