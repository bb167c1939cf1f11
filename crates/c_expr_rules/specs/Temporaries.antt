-- How many temporaries an expression needs, by its text: a function's values are bounded by them (rule 36).
--
-- A leaf needs 1, and so does what measures a type. An operator or a call needs the greatest of i and what operand number i needs, counted from 0. A list of
-- operators of one level is an operator with two operands, again and again; the function of a call is operand 0. An operand that isn't
-- evaluated counts too, and so does each expression in a type name: an array's size, an enumeration's constant, an assertion's
-- condition.
use Rattle.std.specs.Prelude.{ℕ, suc, ◌+◌, max}
use Rattle.c_syntax.specs.declared.expr.Expr.{Expr}
use Rattle.c_syntax.specs.declared.expr.ExprKind.{ExprKind, Name, Number, Character, Text, Parens', Postfix', Prefix', SizeofExpr', SizeofType', AlignofType', Cast', Chain', Conditional', Assign', Comma', Row_of-Expr, end_of-Expr, more_of-Expr, Row_of-Postfix, end_of-Postfix, more_of-Postfix, end_of-TypeName, more_of-TypeName, Row_of-Link, end_of-Link, more_of-Link}
use Rattle.c_syntax.specs.declared.expr.PostfixKind.{PostfixKind, Index', Call', Member, Arrow, Increment, Decrement}
use Rattle.c_syntax.specs.declared.expr.TypeName.{TypeName, TypeName'}
use Rattle.c_syntax.specs.declared.expr.Specifiers.{Specifiers, Specifiers', Row_of-Specifier, end_of-Specifier, more_of-Specifier}
use Rattle.c_syntax.specs.declared.expr.SpecifierKind.{SpecifierKind, Storage, Function, Qualifier, Basic, Atomic', Record', Enum', TypedefName, Row_of-Member, end_of-Member, more_of-Member, SpecifierKind-Record-2-None' as NoMembers, SpecifierKind-Record-2-Some' as Members, Row_of-EnumConstant, end_of-EnumConstant, more_of-EnumConstant, SpecifierKind-Enum-1-None' as NoConstants, SpecifierKind-Enum-1-Some' as Constants}
use Rattle.c_syntax.specs.declared.expr.Member.{Member as StructMember, Declares', Asserts', Row_of-Declarator, end_of-Declarator, more_of-Declarator}
use Rattle.c_syntax.specs.declared.expr.EnumConstant.{EnumConstant, EnumConstant'}
use Rattle.c_syntax.specs.declared.expr.Declarator.{Declarator, Declarator', Row_of-Suffix, end_of-Suffix, more_of-Suffix}
use Rattle.c_syntax.specs.declared.expr.Core.{Core, Name as CoreName, Parens' as CoreParens', Nothing as NoName}
use Rattle.c_syntax.specs.declared.expr.SuffixKind.{SuffixKind, Array', Function', SuffixKind-Array-0-None' as NoExpr, SuffixKind-Array-0-Some' as SomeExpr, Row_of-Parameter, end_of-Parameter, more_of-Parameter}
use Rattle.c_syntax.specs.declared.expr.Parameter.{Parameter, Parameter'}

abbrev mutual
  pub temporaries_in : ExprKind → ℕ
  temporaries_in (Name n) = 1
  temporaries_in Number = 1
  temporaries_in Character = 1
  temporaries_in Text = 1
  temporaries_in (Parens' p (more_of-Expr s1 k1 end_of-Expr)) = temporaries_in k1
  temporaries_in (Postfix' p (more_of-Expr s1 k1 end_of-Expr) z operators) = max (temporaries_in k1) (operators_temporaries operators)
  temporaries_in (Prefix' operator p (more_of-Expr s1 k1 end_of-Expr)) = temporaries_in k1
  temporaries_in (SizeofExpr' p (more_of-Expr s1 k1 end_of-Expr)) = temporaries_in k1
  temporaries_in (SizeofType' p (more_of-TypeName ty end_of-TypeName)) = max 1 (type_temporaries ty)
  temporaries_in (AlignofType' p (more_of-TypeName ty end_of-TypeName)) = max 1 (type_temporaries ty)
  temporaries_in (Cast' p (more_of-TypeName ty end_of-TypeName) q (more_of-Expr s1 k1 end_of-Expr)) = max (type_temporaries ty) (temporaries_in k1)
  temporaries_in (Chain' p (more_of-Expr s1 k1 end_of-Expr) z links) = max (temporaries_in k1) (links_temporaries links)
  temporaries_in (Conditional' p (more_of-Expr s1 k1 end_of-Expr) q (more_of-Expr s2 k2 end_of-Expr) r (more_of-Expr s3 k3 end_of-Expr)) =
      max (temporaries_in k1) (max (1 + temporaries_in k2) (2 + temporaries_in k3))
  temporaries_in (Assign' operator p (more_of-Expr s1 k1 end_of-Expr) q (more_of-Expr s2 k2 end_of-Expr)) =
      max (temporaries_in k1) (1 + temporaries_in k2)
  temporaries_in (Comma' p (more_of-Expr s1 k1 end_of-Expr) z rest) = max (temporaries_in k1) (seconds_temporaries rest)

  pub operators_temporaries : {m : _} → Row_of-Postfix m → ℕ
  operators_temporaries end_of-Postfix = 0
  operators_temporaries (more_of-Postfix span o rest) = max (operator_temporaries o) (operators_temporaries rest)

  pub operator_temporaries : PostfixKind → ℕ
  operator_temporaries (Index' p (more_of-Expr s1 k1 end_of-Expr)) = 1 + temporaries_in k1
  operator_temporaries (Call' z arguments) = arguments_temporaries 1 arguments
  operator_temporaries (Member n) = 0
  operator_temporaries (Arrow n) = 0
  operator_temporaries Increment = 0
  operator_temporaries Decrement = 0

  -- arguments, of which the first is operand number i
  pub arguments_temporaries : {m : _} → (i : ℕ) → Row_of-Expr m → ℕ
  arguments_temporaries i end_of-Expr = 0
  arguments_temporaries i (more_of-Expr s1 k1 rest) = max (i + temporaries_in k1) (arguments_temporaries (suc i) rest)

  pub links_temporaries : {m : _} → Row_of-Link m → ℕ
  links_temporaries end_of-Link = 0
  links_temporaries (more_of-Link span o s1 k1 rest) = max (1 + temporaries_in k1) (links_temporaries rest)

  pub seconds_temporaries : {m : _} → Row_of-Expr m → ℕ
  seconds_temporaries end_of-Expr = 0
  seconds_temporaries (more_of-Expr s1 k1 rest) = max (1 + temporaries_in k1) (seconds_temporaries rest)

  -- the greatest need of the expressions in a type name, and in its parts

  pub type_temporaries : TypeName → ℕ
  type_temporaries (TypeName' span specifiers declarator) = max (specifiers_temporaries specifiers) (declarator_temporaries declarator)

  pub specifiers_temporaries : Specifiers → ℕ
  specifiers_temporaries (Specifiers' span z list) = list_temporaries list

  pub list_temporaries : {m : _} → Row_of-Specifier m → ℕ
  list_temporaries end_of-Specifier = 0
  list_temporaries (more_of-Specifier span k rest) = max (specifier_temporaries k) (list_temporaries rest)

  pub specifier_temporaries : SpecifierKind → ℕ
  specifier_temporaries (Storage word) = 0
  specifier_temporaries (Function word) = 0
  specifier_temporaries (Qualifier word) = 0
  specifier_temporaries (Basic word) = 0
  specifier_temporaries (Atomic' p (more_of-TypeName ty end_of-TypeName)) = type_temporaries ty
  specifier_temporaries (Record' kind tag NoMembers) = 0
  specifier_temporaries (Record' kind tag (Members z members)) = members_temporaries members
  specifier_temporaries (Enum' tag NoConstants) = 0
  specifier_temporaries (Enum' tag (Constants z constants)) = constants_temporaries constants
  specifier_temporaries (TypedefName name) = 0

  pub members_temporaries : {m : _} → Row_of-Member m → ℕ
  members_temporaries end_of-Member = 0
  members_temporaries (more_of-Member member rest) = max (member_temporaries member) (members_temporaries rest)

  pub member_temporaries : StructMember → ℕ
  member_temporaries (Declares' span specifiers z declarators) = max (specifiers_temporaries specifiers) (declarators_temporaries declarators)
  member_temporaries (Asserts' span s1 k1 text) = temporaries_in k1

  pub constants_temporaries : {m : _} → Row_of-EnumConstant m → ℕ
  constants_temporaries end_of-EnumConstant = 0
  constants_temporaries (more_of-EnumConstant constant rest) = max (constant_temporaries constant) (constants_temporaries rest)

  pub constant_temporaries : EnumConstant → ℕ
  constant_temporaries (EnumConstant' span name NoExpr) = 0
  constant_temporaries (EnumConstant' span name (SomeExpr s1 k1)) = temporaries_in k1

  pub declarators_temporaries : {m : _} → Row_of-Declarator m → ℕ
  declarators_temporaries end_of-Declarator = 0
  declarators_temporaries (more_of-Declarator declarator rest) = max (declarator_temporaries declarator) (declarators_temporaries rest)

  pub declarator_temporaries : Declarator → ℕ
  declarator_temporaries (Declarator' span name pointers core z suffixes) = max (core_temporaries core) (suffixes_temporaries suffixes)

  pub core_temporaries : Core → ℕ
  core_temporaries (CoreName span name) = 0
  core_temporaries (CoreParens' p (more_of-Declarator declarator end_of-Declarator)) = declarator_temporaries declarator
  core_temporaries NoName = 0

  pub suffixes_temporaries : {m : _} → Row_of-Suffix m → ℕ
  suffixes_temporaries end_of-Suffix = 0
  suffixes_temporaries (more_of-Suffix span k rest) = max (suffix_temporaries k) (suffixes_temporaries rest)

  pub suffix_temporaries : SuffixKind → ℕ
  suffix_temporaries (Array' NoExpr) = 0
  suffix_temporaries (Array' (SomeExpr s1 k1)) = temporaries_in k1
  suffix_temporaries (Function' z parameters scope) = parameters_temporaries parameters

  pub parameters_temporaries : {m : _} → Row_of-Parameter m → ℕ
  parameters_temporaries end_of-Parameter = 0
  parameters_temporaries (more_of-Parameter parameter rest) = max (parameter_temporaries parameter) (parameters_temporaries rest)

  pub parameter_temporaries : Parameter → ℕ
  parameter_temporaries (Parameter' span specifiers declarator) = max (specifiers_temporaries specifiers) (declarator_temporaries declarator)

abbrev pub temporaries_of : Expr → ℕ
temporaries_of e = temporaries_in e.kind
