-- The grammar of C, a definition for each production, in the order of C11's annex A.2.
--
-- `a & b` is a and then b, `a or b` either of them, `many a` any number and `optional a` at most one. `sign t.Comma` is
-- the token `,`. `made f` changes the value alone. `spanned` adds where the part stands.
--
-- What counts as nesting goes through a field of `Inner`, which says what may stand there where so many more constructs may
-- be open. So nothing here calls itself, and `inner d` at the end of the expressions is the only recursion: over the depth.
--
-- Three things are no matter of the token alone. A name is a typedef or not by the scopes (`Name`, `TypedefName`, and
-- behind a type of the same specifiers `TypedefBehindType`, which can only be declared). A parenthesis behind `_Atomic`
-- is `AtomicParen`. A comma behind a comma is `SecondComma`, which stands nowhere: so `{ "," [ constant ] }` is what the
-- annex writes as `{ "," constant } [ "," ]`.
use Rattle.std.specs.Prelude.{ℕ, zero, suc, Bool, true, false, if◌then◌else◌, ◌==◌, List, [], ◌∷◌, ◌++◌, Option}
use Rattle.c_parts.specs.declared.terminal.Terminal.TheVariants as t
use Rattle.c_parts.specs.declared.span.Span.{Span}
use Rattle.c_parts.specs.Scopes.{Scope}
use Rattle.c_parts.specs.Kinds.{Kinds}
use Rattle.c_parts.specs.Production.{Production, token, sign, ◌&◌, ◌or◌, told_apart, made, spanned, many, nothing, optional, declares, collected, specifies, specified, Nested, nested, opened, outside, said, carries, Shape}
use Rattle.c_syntax.specs.declared.expr.Expr.{Expr}
use Rattle.c_syntax.specs.declared.expr.ExprKind.{ExprKind, Cast', Chain', Conditional', Assign', Comma'}
use Rattle.c_syntax.specs.declared.expr.ExprKind.TheVariants as e
use Rattle.c_syntax.specs.declared.expr.Link.{Link}
use Rattle.c_syntax.specs.declared.expr.Postfix.{Postfix}
use Rattle.c_syntax.specs.declared.expr.PostfixKind.{PostfixKind}
use Rattle.c_syntax.specs.declared.expr.PostfixKind.TheVariants as postfix
use Rattle.c_syntax.specs.declared.expr.TypeName.{TypeName}
use Rattle.c_syntax.specs.declared.expr.Specifiers.{Specifiers}
use Rattle.c_syntax.specs.declared.expr.Specifier.{Specifier}
use Rattle.c_syntax.specs.declared.expr.SpecifierKind.{SpecifierKind}
use Rattle.c_syntax.specs.declared.expr.SpecifierKind.TheVariants as k
use Rattle.c_syntax.specs.declared.expr.Member.{Member}
use Rattle.c_syntax.specs.declared.expr.Member.TheVariants as m
use Rattle.c_syntax.specs.declared.expr.Assertion.{Assertion}
use Rattle.c_syntax.specs.declared.expr.EnumConstant.{EnumConstant}
use Rattle.c_syntax.specs.declared.expr.Declarator.{Declarator}
use Rattle.c_syntax.specs.declared.expr.Pointer.{Pointer}
use Rattle.c_syntax.specs.declared.expr.Core.{Core}
use Rattle.c_syntax.specs.declared.expr.Core.TheVariants as core
use Rattle.c_syntax.specs.declared.expr.Suffix.{Suffix}
use Rattle.c_syntax.specs.declared.expr.SuffixKind.{SuffixKind}
use Rattle.c_syntax.specs.declared.expr.SuffixKind.TheVariants as suffix
use Rattle.c_syntax.specs.declared.expr.Parameter.{Parameter}
use Rattle.c_syntax.specs.declared.words.Qualifier.{Qualifier}
use Rattle.c_syntax.specs.Words.{storage_of, function_of, qualifier_of, basic_of, record_of, prefix_of, operator_of, assigned_of}
use Rattle.c_syntax.specs.Values.{after, middle, listed, all_listed, present, name_of, expr_of, chain_of, link_of, postfix_of, postfix_operator_of, prefix_expr_of, cast_of, conditional_of, choice_of, assign_of, comma_of, specifier_of, specifiers_of, is_type, is_typedef_specifier, atomic_of, record_of_parts, enum_of_parts, tagged, untagged, member_of, asserted_of, assertion_of, constant_of, constant_scope, pointer_of, name_core, declarator_of, nothing_core, no_pointers, with_pointers, suffix_of, parameter_of, type_name_of, parameter_scope}

-- ---- sets of terminals

-- a name where it is declared, or stands behind `.`, `->`, `struct`, `union` or `enum`
abbrev pub any_name : Kinds
any_name = t.Name ∷ t.TypedefName ∷ t.TypedefBehindType ∷ []

-- the name of a declarator
abbrev pub declared_name : Kinds
declared_name = t.Name ∷ t.TypedefBehindType ∷ []

abbrev pub storage_words : Kinds
storage_words = t.Typedef ∷ t.Extern ∷ t.Static ∷ t.Auto ∷ t.Register ∷ []

abbrev pub function_words : Kinds
function_words = t.Inline ∷ t.NoReturn ∷ []

-- `_Atomic` is a qualifier too
abbrev pub qualifier_words : Kinds
qualifier_words = t.Const ∷ t.Volatile ∷ t.Restrict ∷ []

abbrev pub basic_words : Kinds
basic_words = t.Void ∷ t.Char ∷ t.Short ∷ t.Int ∷ t.Long ∷ t.Signed ∷ t.Unsigned ∷ t.Bool ∷ []

abbrev pub record_words : Kinds
record_words = t.Struct ∷ t.Union ∷ []

abbrev pub steps : Kinds
steps = t.Increment ∷ t.Decrement ∷ []

abbrev pub unary_operators : Kinds
unary_operators = t.Ampersand ∷ t.Star ∷ t.Plus ∷ t.Minus ∷ t.Tilde ∷ t.Exclamation ∷ []

-- what a prefix operator begins with
abbrev pub prefixes : Kinds
prefixes = t.Increment ∷ t.Decrement ∷ t.Ampersand ∷ t.Star ∷ t.Plus ∷ t.Minus ∷ t.Tilde ∷ t.Exclamation ∷ t.Sizeof ∷ t.Alignof ∷ []

-- what an expression begins with
abbrev pub expression_starts : Kinds
expression_starts = t.Name ∷ t.Number ∷ t.Character ∷ t.Text ∷ t.LeftParen ∷ prefixes

-- what specifiers begin with
abbrev pub specifier_starts : Kinds
specifier_starts = t.TypedefName ∷ t.TypedefBehindType ∷ t.Atomic ∷ t.Enum ∷ (storage_words ++ (function_words ++ (qualifier_words ++ (basic_words ++ record_words))))

-- what may go on with a postfix expression
abbrev pub postfix_more : Kinds
postfix_more = t.Text ∷ t.LeftBracket ∷ t.LeftParen ∷ t.Dot ∷ t.Arrow ∷ t.Increment ∷ t.Decrement ∷ []

abbrev pub multiplying : Kinds
multiplying = t.Star ∷ t.Slash ∷ t.Percent ∷ []

abbrev pub adding : Kinds
adding = t.Plus ∷ t.Minus ∷ []

abbrev pub shifting : Kinds
shifting = t.ShiftLeft ∷ t.ShiftRight ∷ []

abbrev pub relating : Kinds
relating = t.Less ∷ t.Greater ∷ t.LessEqual ∷ t.GreaterEqual ∷ []

abbrev pub equating : Kinds
equating = t.EqualEqual ∷ t.NotEqual ∷ []

-- what may go on with a conditional
abbrev pub conditional_more : Kinds
conditional_more = t.Question ∷ t.BarBar ∷ t.AndAnd ∷ t.Bar ∷ t.Caret ∷ t.Ampersand ∷ (equating ++ (relating ++ (shifting ++ (adding ++ (multiplying ++ postfix_more)))))

abbrev pub assigning : Kinds
assigning = t.Equal ∷ t.StarEqual ∷ t.SlashEqual ∷ t.PercentEqual ∷ t.PlusEqual ∷ t.MinusEqual ∷ t.ShiftLeftEqual ∷ t.ShiftRightEqual ∷ t.AmpersandEqual ∷ t.CaretEqual ∷ t.BarEqual ∷ []

-- what may go on with an assignment
abbrev pub assignment_more : Kinds
assignment_more = assigning ++ conditional_more

-- behind a parenthesis: what an inner abstract declarator begins with, and what one of a parameter does
abbrev pub abstract_inside : Kinds
abstract_inside = t.Star ∷ t.LeftParen ∷ t.LeftBracket ∷ []

abbrev pub parameter_inside : Kinds
parameter_inside = t.Name ∷ t.Star ∷ t.LeftParen ∷ t.LeftBracket ∷ []

abbrev pub paren : Kinds
paren = t.LeftParen ∷ []

-- ---- what stands one deeper, from the token on that opens it

pub record Inner : Type 1 where
  pub parens : Nested Expr  -- "(" expression ")"
  pub type_parens : Nested TypeName  -- "(" typename ")"
  pub atomic_parens : Nested TypeName  -- the same behind "_Atomic"
  pub index : Nested Expr  -- "[" expression "]"
  pub call : Nested (List Expr)  -- "(" [ arguments ] ")"
  pub prefixed : Nested ExprKind  -- a prefix operator and its operand
  pub converted : Nested Expr  -- what a cast converts
  pub right : Nested Expr  -- the right side of an assignment
  pub choice : Nested (Expr × Expr)  -- "?" expression ":" conditional
  pub members : Nested (List Member)  -- "{" member { member } "}"
  pub constants : Nested (List EnumConstant)  -- "{" constant { "," constant } [ "," ] "}"
  pub declarator : Nested Declarator  -- "(" declarator ")"
  pub abstract : Nested Declarator  -- "(" abstract ")", and the abstract isn't empty
  pub parameter : Nested Declarator  -- "(" declarator or abstract ")"
  pub array : Nested (Option Expr)  -- "[" [ conditional ] "]"
  pub function : Nested (List Parameter × Scope)  -- "(" [ params ] ")"
  pub asserted : Nested (Expr × Span)  -- "(" conditional "," TEXT ")"

-- ---- A.2.1 expressions

-- TEXT { TEXT }
abbrev pub texts : Production (Unit {0})
texts = made (λ x. tt) (sign t.Text & many (sign t.Text))

-- where texts stand
abbrev pub text_span : Production Span
text_span = made (λ x. x.0) (spanned texts)

-- primary = NAME | NUMBER | CHARACTER | TEXT { TEXT } | "(" expression ")"
abbrev pub primary_kind : Inner → Production ExprKind
primary_kind i =
    token (t.Name ∷ []) (λ x. e.Name x.name)
    or token (t.Number ∷ []) (λ x. e.Number)
    or token (t.Character ∷ []) (λ x. e.Character)
    or made (λ x. e.Text) texts
    or made e.Parens (opened paren [] i.parens)

abbrev pub primary : Inner → Production Expr
primary i = made expr_of (spanned (primary_kind i))

-- "[" expression "]" | "(" [ arguments ] ")" | "." NAME | "->" NAME | "++" | "--"
abbrev pub postfix_kind : Inner → Production PostfixKind
postfix_kind i =
    made postfix.Index (opened (t.LeftBracket ∷ []) [] i.index)
    or made postfix.Call (opened paren [] i.call)
    or made (λ x. postfix.Member (after x)) (sign t.Dot & token any_name name_of)
    or made (λ x. postfix.Arrow (after x)) (sign t.Arrow & token any_name name_of)
    or token (t.Increment ∷ []) (λ x. postfix.Increment)
    or token (t.Decrement ∷ []) (λ x. postfix.Decrement)

abbrev pub postfix_operator : Inner → Production Postfix
postfix_operator i = made postfix_operator_of (spanned (postfix_kind i))

-- postfix = primary { "[" .. "]" | "(" .. ")" | "." NAME | "->" NAME | "++" | "--" }
abbrev pub postfix_expression : Inner → Production Expr
postfix_expression i = made postfix_of (spanned (primary i & many (postfix_operator i)))

-- unary = postfix | a prefix operator and its operand
abbrev pub unary : Inner → Production Expr
unary i = postfix_expression i or made expr_of (spanned (opened prefixes postfix_more i.prefixed))

-- "(" typename ")" cast
abbrev pub conversion : Inner → Production Expr
conversion i = made cast_of (spanned (opened paren [] i.type_parens & opened expression_starts postfix_more i.converted))

-- cast = "(" typename ")" cast | unary
abbrev pub cast : Inner → Production Expr
cast i = told_apart paren specifier_starts (conversion i) (unary i)

-- "(" typename ")" | unary
abbrev pub sizeof_operand : Inner → Production ExprKind
sizeof_operand i = told_apart paren specifier_starts (made e.SizeofType (opened paren [] i.type_parens)) (made e.SizeofExpr (unary i))

-- "++" unary | "--" unary | ("&" | "*" | "+" | "-" | "~" | "!") cast
-- | "sizeof" ( "(" typename ")" | unary ) | "_Alignof" "(" typename ")"
abbrev pub prefixed : Inner → Production ExprKind
prefixed i =
    made prefix_expr_of (token steps (λ x. prefix_of x.terminal) & unary i)
    or made prefix_expr_of (token unary_operators (λ x. prefix_of x.terminal) & cast i)
    or made after (sign t.Sizeof & sizeof_operand i)
    or made (λ x. e.AlignofType (after x)) (sign t.Alignof & opened paren [] i.type_parens)

-- the same as an operand, and its operators may go on
abbrev pub level_shape : Kinds → Shape → Shape
level_shape operators operand = record { starts = operand.starts; goes_on = operators ++ operand.goes_on; solid = true }

-- an operator of a level, and its right operand
abbrev pub link : Kinds → Production Expr → Production Link
link operators operand = made link_of (spanned (token operators (λ x. operator_of x.terminal) & operand))

-- operand { operator operand }, of one level
abbrev pub level : Kinds → Production Expr → Production Expr
level operators operand = said (level_shape operators operand.shape)
    (made chain_of (spanned (operand & many (link operators operand))))

-- the operators that stand between operands of each level, from the tightest
abbrev pub operators_over : ℕ → Kinds
operators_over k =
    if k == 0 then multiplying else
    if k == 1 then adding else
    if k == 2 then shifting else
    if k == 3 then relating else
    if k == 4 then equating else
    if k == 5 then t.Ampersand ∷ [] else
    if k == 6 then t.Caret ∷ [] else
    if k == 7 then t.Bar ∷ [] else
    if k == 8 then t.AndAnd ∷ [] else
    t.BarBar ∷ []

-- the levels || then && then | then ^ then & then == != then < > <= >= then << >> then + - then * / % over cast
abbrev pub binary : ℕ → Inner → Production Expr
binary zero i = cast i
binary (suc k) i = level (operators_over k) (binary k i)

abbrev pub logical_or : Inner → Production Expr
logical_or i = binary 10 i

-- [ "?" expression ":" conditional ]
abbrev pub optional_choice : Inner → Production (Option (Expr × Expr))
optional_choice i = optional (opened (t.Question ∷ []) conditional_more i.choice)

-- conditional = logical_or [ "?" expression ":" conditional ]
abbrev pub conditional : Inner → Production Expr
conditional i = made conditional_of (spanned (logical_or i & optional_choice i))

-- whether a conditional is a unary alone
abbrev pub is_unary_kind : ExprKind → Bool
is_unary_kind (Cast' a b c d) = false
is_unary_kind (Chain' a b c d) = false
is_unary_kind (Conditional' a b c d x y) = false
is_unary_kind (Assign' a b c d x) = false
is_unary_kind (Comma' a b c d) = false
is_unary_kind _ = true

abbrev pub is_unary : Expr → Bool
is_unary x = is_unary_kind x.kind

-- assignment = conditional | unary assign_op assignment
abbrev pub assignment : Inner → Production Expr
assignment i = carries is_unary assign_of (conditional i) (unary i)
    (token assigning (λ x. assigned_of x.terminal) & opened expression_starts assignment_more i.right)

-- "," a
abbrev pub comma_and : {A : Type 0} → Production A → Production A
comma_and a = made after (sign t.Comma & a)

-- { "," a }
abbrev pub commas : {A : Type 0} → Production A → Production (List A)
commas a = many (comma_and a)

-- expression = assignment { "," assignment }
abbrev pub expression : Inner → Production Expr
expression i = made comma_of (spanned (assignment i & commas (assignment i)))

-- arguments = assignment { "," assignment }
abbrev pub arguments : Inner → Production (List Expr)
arguments i = made listed (assignment i & commas (assignment i))

-- ---- A.2.2 declarations

-- assertion = "_Static_assert" "(" conditional "," TEXT ")" ";"
abbrev pub assertion : Inner → Production Assertion
assertion i = made assertion_of (spanned (sign t.StaticAssert & (opened paren [] i.asserted & sign t.Semicolon)))

-- [ members ]
abbrev pub optional_members : Inner → Production (Option (List Member))
optional_members i = optional (opened (t.LeftBrace ∷ []) [] i.members)

-- NAME [ members ] | members
abbrev pub record_body : Inner → Production (Option ℕ × Option (List Member))
record_body i = made tagged (token any_name name_of & optional_members i) or made untagged (opened (t.LeftBrace ∷ []) [] i.members)

-- ("struct" | "union") ( NAME [ members ] | members )
abbrev pub record_type : Inner → Production SpecifierKind
record_type i = made record_of_parts (token record_words (λ x. record_of x.terminal) & record_body i)

-- [ names ]
abbrev pub optional_constants : Inner → Production (Option (List EnumConstant))
optional_constants i = optional (opened (t.LeftBrace ∷ []) [] i.constants)

-- NAME [ names ] | names
abbrev pub enum_body : Inner → Production (Option ℕ × Option (List EnumConstant))
enum_body i = made tagged (token any_name name_of & optional_constants i) or made untagged (opened (t.LeftBrace ∷ []) [] i.constants)

-- "enum" ( NAME [ names ] | names )
abbrev pub enum_type : Inner → Production SpecifierKind
enum_type i = made enum_of_parts (sign t.Enum & enum_body i)

-- "_Atomic" [ "(" typename ")" ]
abbrev pub atomic_type : Inner → Production SpecifierKind
atomic_type i = made atomic_of (sign t.Atomic & optional (opened (t.AtomicParen ∷ []) [] i.atomic_parens))

-- a storage class, a function specifier, a qualifier, or a type: "void" .. | "_Atomic" "(" typename ")" | record_type
-- | enum_type | TYPEDEF
abbrev pub specifier_kind : Inner → Production SpecifierKind
specifier_kind i =
    token storage_words (λ x. k.Storage (storage_of x.terminal))
    or token function_words (λ x. k.Function (function_of x.terminal))
    or token qualifier_words (λ x. k.Qualifier (qualifier_of x.terminal))
    or token basic_words (λ x. k.Basic (basic_of x.terminal))
    or token (t.TypedefName ∷ []) (λ x. k.TypedefName x.name)
    or atomic_type i
    or record_type i
    or enum_type i

abbrev pub specifier : Inner → Production Specifier
specifier i = specifies is_type is_typedef_specifier (made specifier_of (spanned (specifier_kind i)))

-- specifiers = one or more
abbrev pub specifiers : Inner → Production Specifiers
specifiers i = made specifiers_of (spanned (specifier i & many (specifier i)))

-- [ "=" conditional ]
abbrev pub optional_value : Inner → Production (Option Expr)
optional_value i = optional (made after (sign t.Equal & conditional i))

-- constant = NAME [ "=" conditional ], in scope from here on
abbrev pub constant : Inner → Production EnumConstant
constant i = declares constant_scope (made constant_of (spanned (token any_name name_of & optional_value i)))

-- qualifier
abbrev pub qualifier : Production Qualifier
qualifier = token (t.Atomic ∷ qualifier_words) (λ x. qualifier_of x.terminal)

-- "*" { qualifier }
abbrev pub pointer : Production Pointer
pointer = made pointer_of (spanned (sign t.Star & many qualifier))

-- a name of these kinds, at the core of a declarator
abbrev pub named : Kinds → Production Core
named names = made name_core (spanned (token names name_of))

-- suffix = "[" [ conditional ] "]" | "(" [ params ] ")"
abbrev pub suffix_kind : Inner → Production SuffixKind
suffix_kind i = made suffix.Array (opened (t.LeftBracket ∷ []) [] i.array) or made (λ x. suffix.Function x.0 x.1) (opened paren [] i.function)

abbrev pub suffix_part : Inner → Production Suffix
suffix_part i = made suffix_of (spanned (suffix_kind i))

-- declarator = { "*" { qualifier } } ( NAME | "(" declarator ")" ) { suffix }
abbrev pub declarator_core : Inner → Production Core
declarator_core i = named declared_name or made core.Parens (opened paren [] i.declarator)

abbrev pub declarator : Inner → Production Declarator
declarator i = made declarator_of (spanned (many pointer & (declarator_core i & many (suffix_part i))))

-- a declarator in parentheses, at the core of another
abbrev pub in_core : Nested Declarator → Production Core
in_core inside = made core.Parens (opened paren [] inside)

-- suffix { suffix }, round nothing
abbrev pub some_suffixes : Inner → Production (Core × List Suffix)
some_suffixes i = made nothing_core (made listed (suffix_part i & many (suffix_part i)))

-- "(" abstract ")" { suffix }
abbrev pub round_abstract : Inner → Production (Core × List Suffix)
round_abstract i = in_core i.abstract & many (suffix_part i)

-- "(" abstract ")" { suffix } | suffix { suffix }: a parenthesis before a specifier or `)` begins a suffix
abbrev pub abstract_core : Inner → Production (Core × List Suffix)
abstract_core i = told_apart paren abstract_inside (round_abstract i) (some_suffixes i)

abbrev pub abstract_tail : Inner → Production (Core × List Suffix)
abstract_tail i = abstract_core i or nothing (core.Nothing, [])

-- abstract = { "*" { qualifier } } [ "(" abstract ")" ] { suffix }
abbrev pub abstract : Inner → Production Declarator
abstract i = made declarator_of (spanned (many pointer & abstract_tail i))

-- the same, and not empty
abbrev pub some_abstract_parts : Inner → Production (List Pointer × (Core × List Suffix))
some_abstract_parts i = made with_pointers (pointer & (many pointer & abstract_tail i)) or made no_pointers (abstract_core i)

abbrev pub some_abstract : Inner → Production Declarator
some_abstract i = made declarator_of (spanned (some_abstract_parts i))

-- "(" declarator or abstract ")" { suffix }, of a parameter
abbrev pub round_parameter : Inner → Production (Core × List Suffix)
round_parameter i = in_core i.parameter & many (suffix_part i)

-- what a declarator or an abstract one of a parameter has behind its pointers, but for a name
abbrev pub parameter_core : Inner → Production (Core × List Suffix)
parameter_core i = told_apart paren parameter_inside (round_parameter i) (some_suffixes i)

-- the same with names of these kinds
abbrev pub named_core : Kinds → Inner → Production (Core × List Suffix)
named_core names i = (named names & many (suffix_part i)) or parameter_core i

abbrev pub parameter_tail : Inner → Production (Core × List Suffix)
parameter_tail i = named_core declared_name i or nothing (core.Nothing, [])

-- declarator | abstract, of a parameter
abbrev pub parameter_declarator : Inner → Production Declarator
parameter_declarator i = made declarator_of (spanned (many pointer & parameter_tail i))

-- the same in parentheses: not empty, and no typedef is right behind the parenthesis
abbrev pub inner_parameter_parts : Inner → Production (List Pointer × (Core × List Suffix))
inner_parameter_parts i = made with_pointers (pointer & (many pointer & parameter_tail i)) or made no_pointers (named_core (t.Name ∷ []) i)

abbrev pub inner_parameter : Inner → Production Declarator
inner_parameter i = made declarator_of (spanned (inner_parameter_parts i))

-- param = specifiers ( declarator | abstract ), in scope from here on
abbrev pub parameter_parts : Inner → Production (Specifiers × Declarator)
parameter_parts i = declares parameter_scope (specifiers i & parameter_declarator i)

abbrev pub parameter : Inner → Production Parameter
parameter i = made parameter_of (spanned (specified (parameter_parts i)))

-- params = param { "," param }
abbrev pub parameters : Inner → Production (List Parameter)
parameters i = made listed (parameter i & commas (parameter i))

-- typename = specifiers abstract
abbrev pub typename : Inner → Production TypeName
typename i = made type_name_of (spanned (specified (specifiers i & abstract i)))

-- declarator { "," declarator }
abbrev pub member_declarators : Inner → Production (List Declarator)
member_declarators i = made listed (declarator i & commas (declarator i))

-- specifiers declarator { "," declarator } ";"
abbrev pub declaring_member : Inner → Production Member
declaring_member i = made member_of (spanned (specified (specifiers i & (member_declarators i & sign t.Semicolon))))

-- member = specifiers declarator { "," declarator } ";" | assertion
abbrev pub member : Inner → Production Member
member i = declaring_member i or made m.Asserts (assertion i)

-- [ constant ]
abbrev pub optional_constant : Inner → Production (Option EnumConstant)
optional_constant i = optional (constant i)

-- { "," [ constant ] }
abbrev pub more_constants : Inner → Production (List EnumConstant)
more_constants i = made present (commas (optional_constant i))

-- ---- nesting

-- [ arguments ]
abbrev pub optional_arguments : Inner → Production (List Expr)
optional_arguments i = made all_listed (optional (arguments i))

-- member { member }
abbrev pub some_members : Inner → Production (List Member)
some_members i = made listed (member i & many (member i))

-- constant { "," constant } [ "," ]
abbrev pub some_constants : Inner → Production (List EnumConstant)
some_constants i = made listed (constant i & more_constants i)

-- [ conditional ]
abbrev pub optional_size : Inner → Production (Option Expr)
optional_size i = optional (conditional i)

-- [ params ]
abbrev pub optional_parameters : Inner → Production (List Parameter)
optional_parameters i = made all_listed (optional (parameters i))

-- [ params ], in a scope of their own, with what they declare
abbrev pub collected_parameters : Inner → Production (List Parameter × Scope)
collected_parameters i = collected (optional_parameters i)

abbrev pub in_parens : {A : Type 0} → Production A → Nested A
in_parens a = nested (made middle (sign t.LeftParen & (a & sign t.RightParen)))

abbrev pub in_brackets : {A : Type 0} → Production A → Nested A
in_brackets a = nested (made middle (sign t.LeftBracket & (a & sign t.RightBracket)))

abbrev pub in_braces : {A : Type 0} → Production A → Nested A
in_braces a = nested (made middle (sign t.LeftBrace & (a & sign t.RightBrace)))

-- what stands inside where one more is open
abbrev pub deeper : Inner → Inner
deeper i = record {
  parens = in_parens (expression i);
  type_parens = in_parens (typename i);
  atomic_parens = nested (made middle (sign t.AtomicParen & (typename i & sign t.RightParen)));
  index = in_brackets (expression i);
  call = in_parens (optional_arguments i);
  prefixed = nested (prefixed i);
  converted = nested (cast i);
  right = nested (assignment i);
  choice = nested (made choice_of (sign t.Question & (expression i & (sign t.Colon & conditional i))));
  members = in_braces (some_members i);
  constants = in_braces (some_constants i);
  declarator = in_parens (declarator i);
  abstract = in_parens (some_abstract i);
  parameter = in_parens (inner_parameter i);
  array = in_brackets (optional_size i);
  function = in_parens (collected_parameters i);
  asserted = nested (made asserted_of (sign t.LeftParen & (conditional i & (sign t.Comma & (text_span & sign t.RightParen)))));
}

-- where nothing may be open
abbrev pub nowhere : Inner
nowhere = record {
  parens = outside paren;
  type_parens = outside paren;
  atomic_parens = outside (t.AtomicParen ∷ []);
  index = outside (t.LeftBracket ∷ []);
  call = outside paren;
  prefixed = outside prefixes;
  converted = outside expression_starts;
  right = outside expression_starts;
  choice = outside (t.Question ∷ []);
  members = outside (t.LeftBrace ∷ []);
  constants = outside (t.LeftBrace ∷ []);
  declarator = outside paren;
  abstract = outside paren;
  parameter = outside paren;
  array = outside (t.LeftBracket ∷ []);
  function = outside paren;
  asserted = outside paren;
}

-- what stands inside where so many more may be open
unfoldable pub inner : ℕ → Inner
inner zero = nowhere
inner (suc d) = deeper (inner d)
