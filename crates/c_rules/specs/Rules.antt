-- The rules of the checker by number, and their texts.
use Rattle.std.specs.Prelude.{ℕ, nat_lt, if◌then◌else◌, List, [], ◌∷◌, codes}
use Rattle.c_rules.specs.declared.rule.Rule.{Rule}
use Rattle.c_rules.specs.declared.rule.Rule.TheVariants as rule

abbrev pub number_of : Rule → ℕ
number_of rule.UnknownName = 1
number_of rule.DeclaredAgain = 2
number_of rule.BadSpecifiers = 3
number_of rule.IncompleteType = 4
number_of rule.ObjectTooLarge = 5
number_of rule.BadArraySize = 6
number_of rule.BadFunctionType = 7
number_of rule.BadMember = 8
number_of rule.UnknownMember = 9
number_of rule.BadConstant = 10
number_of rule.BadInitialiser = 11
number_of rule.NotAnLvalue = 12
number_of rule.NotModifiable = 13
number_of rule.BadAddress = 14
number_of rule.NotAPointer = 15
number_of rule.NotAStructure = 16
number_of rule.BadOperand = 17
number_of rule.BadConversion = 18
number_of rule.BadCast = 19
number_of rule.NotCallable = 20
number_of rule.ArgumentCount = 21
number_of rule.BadFormat = 22
number_of rule.BadAtomic = 23
number_of rule.NotAScalar = 24
number_of rule.NotAnInteger = 25
number_of rule.CaseAgain = 26
number_of rule.TwoDefaults = 27
number_of rule.BreakOutside = 28
number_of rule.ContinueOutside = 29
number_of rule.BadReturn = 30
number_of rule.WrongTag = 31
number_of rule.StaticAssertion = 32
number_of rule.BadMain = 33
number_of rule.UndefinedFunction = 34
number_of rule.UndefinedObject = 35
number_of rule.TooManyValues = 36
number_of rule.TooManyFunctions = 37
number_of rule.StaticsTooLarge = 38
number_of rule.NoMain = 39
number_of rule.NothingDeclared = 40

abbrev pub text_of : Rule → List ℕ
text_of rule.UnknownName = codes "unknown name"
text_of rule.DeclaredAgain = codes "declared again"
text_of rule.BadSpecifiers = codes "bad specifiers"
text_of rule.IncompleteType = codes "incomplete type"
text_of rule.ObjectTooLarge = codes "object too large"
text_of rule.BadArraySize = codes "bad array size"
text_of rule.BadFunctionType = codes "bad function type"
text_of rule.BadMember = codes "bad member"
text_of rule.UnknownMember = codes "unknown member"
text_of rule.BadConstant = codes "bad constant"
text_of rule.BadInitialiser = codes "bad initialiser"
text_of rule.NotAnLvalue = codes "not an lvalue"
text_of rule.NotModifiable = codes "not modifiable"
text_of rule.BadAddress = codes "bad address"
text_of rule.NotAPointer = codes "not a pointer"
text_of rule.NotAStructure = codes "not a structure"
text_of rule.BadOperand = codes "bad operand"
text_of rule.BadConversion = codes "bad conversion"
text_of rule.BadCast = codes "bad cast"
text_of rule.NotCallable = codes "not callable"
text_of rule.ArgumentCount = codes "argument count"
text_of rule.BadFormat = codes "bad format"
text_of rule.BadAtomic = codes "bad atomic"
text_of rule.NotAScalar = codes "not a scalar"
text_of rule.NotAnInteger = codes "not an integer"
text_of rule.CaseAgain = codes "case again"
text_of rule.TwoDefaults = codes "two defaults"
text_of rule.BreakOutside = codes "break outside"
text_of rule.ContinueOutside = codes "continue outside"
text_of rule.BadReturn = codes "bad return"
text_of rule.WrongTag = codes "wrong tag"
text_of rule.StaticAssertion = codes "static assertion"
text_of rule.BadMain = codes "bad main"
text_of rule.UndefinedFunction = codes "undefined function"
text_of rule.UndefinedObject = codes "undefined object"
text_of rule.TooManyValues = codes "too many values"
text_of rule.TooManyFunctions = codes "too many functions"
text_of rule.StaticsTooLarge = codes "statics too large"
text_of rule.NoMain = codes "no main"
text_of rule.NothingDeclared = codes "nothing declared"

-- of two rules that one construct breaks, the one with the lower number decides
abbrev pub lower_of : Rule → Rule → Rule
lower_of a b = if nat_lt (number_of b) (number_of a) then b else a

-- the rules of a whole file: after all constructs the first of these that it breaks decides
abbrev pub rules_of_a_file : List Rule
rules_of_a_file = rule.UndefinedFunction ∷ rule.UndefinedObject ∷ rule.NoMain ∷ rule.TooManyFunctions ∷ rule.StaticsTooLarge ∷ rule.TooManyValues ∷ []
