-- The nodes that productions make of their parts' values.
use Rattle.std.specs.Prelude.{ℕ, Bool, true, false, List, [], ◌∷◌, Option, Some, None}
use Rattle.filc_num.specs.declared.integer.BinOp.{BinOp}
use Rattle.c_parts.specs.declared.lexeme.Lexeme.{Lexeme}
use Rattle.c_parts.specs.declared.span.Span.{Span}
use Rattle.c_parts.specs.Scopes.{Scope}
use Rattle.c_syntax.specs.declared.words.Storage.TheVariants as storage
use Rattle.c_syntax.specs.declared.words.Storage.{Storage}
use Rattle.c_syntax.specs.declared.words.Prefix.{Prefix}
use Rattle.c_syntax.specs.declared.words.Operator.{Operator}
use Rattle.c_syntax.specs.declared.words.Qualifier.{Qualifier}
use Rattle.c_syntax.specs.declared.words.RecordKind.{RecordKind}
use Rattle.c_syntax.specs.declared.expr.Expr.{Expr, roll-Expr}
use Rattle.c_syntax.specs.declared.expr.ExprKind.{ExprKind}
use Rattle.c_syntax.specs.declared.expr.ExprKind.TheVariants as e
use Rattle.c_syntax.specs.declared.expr.Link.{Link, roll-Link}
use Rattle.c_syntax.specs.declared.expr.Postfix.{Postfix, roll-Postfix}
use Rattle.c_syntax.specs.declared.expr.PostfixKind.{PostfixKind}
use Rattle.c_syntax.specs.declared.expr.TypeName.{TypeName, roll-TypeName}
use Rattle.c_syntax.specs.declared.expr.Specifiers.{Specifiers, roll-Specifiers}
use Rattle.c_syntax.specs.declared.expr.Specifier.{Specifier, roll-Specifier}
use Rattle.c_syntax.specs.declared.expr.SpecifierKind.{SpecifierKind}
use Rattle.c_syntax.specs.declared.expr.SpecifierKind.TheVariants as k
use Rattle.c_syntax.specs.declared.expr.Member.{Member}
use Rattle.c_syntax.specs.declared.expr.Member.TheVariants as m
use Rattle.c_syntax.specs.declared.expr.Assertion.{Assertion, roll-Assertion}
use Rattle.c_syntax.specs.declared.expr.EnumConstant.{EnumConstant, roll-EnumConstant, out-EnumConstant}
use Rattle.c_syntax.specs.declared.expr.Declarator.{Declarator, roll-Declarator, out-Declarator}
use Rattle.c_syntax.specs.declared.expr.Pointer.{Pointer}
use Rattle.c_syntax.specs.declared.expr.Core.{Core, Name, Parens', Nothing, more_of-Declarator, end_of-Declarator}
use Rattle.c_syntax.specs.declared.expr.Core.TheVariants as core
use Rattle.c_syntax.specs.declared.expr.Suffix.{Suffix, roll-Suffix}
use Rattle.c_syntax.specs.declared.expr.SuffixKind.{SuffixKind}
use Rattle.c_syntax.specs.declared.expr.Parameter.{Parameter, roll-Parameter}

-- ---- values side by side

abbrev pub after : {A : Type 0} → Unit {0} × A → A
after x = x.1

abbrev pub middle : {A : Type 0} → Unit {0} × (A × Unit {0}) → A
middle x = x.1.0

abbrev pub listed : {A : Type 0} → A × List A → List A
listed x = x.0 ∷ x.1

-- all of a list that may be missing
abbrev pub all_listed : {A : Type 0} → Option (List A) → List A
all_listed None = []
all_listed (Some xs) = xs

-- those that are there
abbrev pub present : {A : Type 0} → List (Option A) → List A
present [] = []
present (None ∷ xs) = present xs
present (Some x ∷ xs) = x ∷ present xs

abbrev pub name_of : Lexeme → ℕ
name_of token = token.name

-- from the beginning of one to the end of the other
abbrev pub around : Span → Span → Span
around a b = record { line = a.line; first = a.first; last = b.last }

-- ---- expressions

abbrev pub expr_of : Span × ExprKind → Expr
expr_of x = roll-Expr (record { span = x.0; kind = x.1 })

-- an operand alone is itself
abbrev pub chain : Span → Expr → List Link → Expr
chain span first [] = first
chain span first (link ∷ links) = expr_of (span, e.Chain first (link ∷ links))

abbrev pub chain_of : Span × (Expr × List Link) → Expr
chain_of x = chain x.0 x.1.0 x.1.1

abbrev pub link_of : Span × (Operator × Expr) → Link
link_of x = roll-Link (record { span = x.0; operator = x.1.0; operand = x.1.1 })

abbrev pub postfix : Span → Expr → List Postfix → Expr
postfix span operand [] = operand
postfix span operand (op ∷ ops) = expr_of (span, e.Postfix operand (op ∷ ops))

abbrev pub postfix_of : Span × (Expr × List Postfix) → Expr
postfix_of x = postfix x.0 x.1.0 x.1.1

abbrev pub postfix_operator_of : Span × PostfixKind → Postfix
postfix_operator_of x = roll-Postfix (record { span = x.0; kind = x.1 })

abbrev pub prefix_expr_of : Prefix × Expr → ExprKind
prefix_expr_of x = e.Prefix x.0 x.1

abbrev pub cast_of : Span × (TypeName × Expr) → Expr
cast_of x = expr_of (x.0, e.Cast x.1.0 x.1.1)

abbrev pub conditional : Span → Expr → Option (Expr × Expr) → Expr
conditional span condition None = condition
conditional span condition (Some both) = expr_of (span, e.Conditional condition both.0 both.1)

abbrev pub conditional_of : Span × (Expr × Option (Expr × Expr)) → Expr
conditional_of x = conditional x.0 x.1.0 x.1.1

-- of "?" expression ":" conditional
abbrev pub choice_of : Unit {0} × (Expr × (Unit {0} × Expr)) → Expr × Expr
choice_of x = (x.1.0, x.1.1.1)

abbrev pub assign_of : Expr × (Option BinOp × Expr) → Expr
assign_of x = expr_of (around x.0.span x.1.1.span, e.Assign x.1.0 x.0 x.1.1)

abbrev pub comma : Span → Expr → List Expr → Expr
comma span first [] = first
comma span first (x ∷ rest) = expr_of (span, e.Comma first (x ∷ rest))

abbrev pub comma_of : Span × (Expr × List Expr) → Expr
comma_of x = comma x.0 x.1.0 x.1.1

-- ---- specifiers

abbrev pub specifier_of : Span × SpecifierKind → Specifier
specifier_of x = roll-Specifier (record { span = x.0; kind = x.1 })

abbrev pub specifiers_of : Span × (Specifier × List Specifier) → Specifiers
specifiers_of x = roll-Specifiers (record { span = x.0; list = x.1.0 ∷ x.1.1 })

-- whether it is a type: neither a storage class nor a function specifier nor a qualifier
abbrev pub is_type_kind : SpecifierKind → Bool
is_type_kind (k.Storage w) = false
is_type_kind (k.Function w) = false
is_type_kind (k.Qualifier w) = false
is_type_kind _ = true

abbrev pub is_typedef_word : Storage → Bool
is_typedef_word storage.Typedef = true
is_typedef_word _ = false

abbrev pub is_typedef_kind : SpecifierKind → Bool
is_typedef_kind (k.Storage w) = is_typedef_word w
is_typedef_kind _ = false

abbrev pub is_type : Specifier → Bool
is_type s = is_type_kind s.kind

abbrev pub is_typedef_specifier : Specifier → Bool
is_typedef_specifier s = is_typedef_kind s.kind

-- `_Atomic`, with a type in parentheses or alone
abbrev pub atomic : Option TypeName → SpecifierKind
atomic None = k.Qualifier Rattle.c_syntax.specs.declared.words.Qualifier.TheVariants.Atomic
atomic (Some ty) = k.Atomic ty

abbrev pub atomic_of : Unit {0} × Option TypeName → SpecifierKind
atomic_of x = atomic x.1

-- of a tag, or none, and members, or none
abbrev pub record_of_parts : RecordKind × (Option ℕ × Option (List Member)) → SpecifierKind
record_of_parts x = k.Record x.0 x.1.0 x.1.1

abbrev pub enum_of_parts : Unit {0} × (Option ℕ × Option (List EnumConstant)) → SpecifierKind
enum_of_parts x = k.Enum x.1.0 x.1.1

-- a tag, with a list behind it where there is one
abbrev pub tagged : {A : Type 0} → ℕ × Option A → Option ℕ × Option A
tagged x = (Some x.0, x.1)

abbrev pub untagged : {A : Type 0} → A → Option ℕ × Option A
untagged x = (None, Some x)

abbrev pub member_of : Span × (Specifiers × (List Declarator × Unit {0})) → Member
member_of x = m.Declares x.0 x.1.0 x.1.1.0

-- of "(" conditional "," TEXT ")"
abbrev pub asserted_of : Unit {0} × (Expr × (Unit {0} × (Span × Unit {0}))) → Expr × Span
asserted_of x = (x.1.0, x.1.1.1.0)

-- of "_Static_assert" "(" .. ")" ";"
abbrev pub assertion_of : Span × (Unit {0} × ((Expr × Span) × Unit {0})) → Assertion
assertion_of x = roll-Assertion (record { span = x.0; condition = x.1.1.0.0; text = x.1.1.0.1 })

abbrev pub constant_of : Span × (ℕ × Option Expr) → EnumConstant
constant_of x = roll-EnumConstant (record { span = x.0; name = x.1.0; value = x.1.1 })

-- an enumeration constant is no typedef
abbrev pub constant_scope : Bool → EnumConstant → Scope
constant_scope typedef c = record { name = (out-EnumConstant c).name; is_typedef = false } ∷ []

-- ---- declarators

abbrev pub pointer_of : Span × (Unit {0} × List Qualifier) → Pointer
pointer_of x = record { span = x.0; qualifiers = x.1.1 }

abbrev pub core_name : Core → Option ℕ
core_name (Name span name) = Some name
core_name (Parens' p (more_of-Declarator inner end_of-Declarator)) = (out-Declarator inner).name
core_name Nothing = None

abbrev pub name_core : Span × ℕ → Core
name_core x = core.Name x.0 x.1

abbrev pub declarator_of : Span × (List Pointer × (Core × List Suffix)) → Declarator
declarator_of x = roll-Declarator (record { span = x.0; name = core_name x.1.1.0; pointers = x.1.0; core = x.1.1.0; suffixes = x.1.1.1 })

abbrev pub nothing_core : {A : Type 0} → A → Core × A
nothing_core x = (core.Nothing, x)

abbrev pub no_pointers : {A : Type 0} → A → List Pointer × A
no_pointers x = ([], x)

-- a pointer, more of them, and what they stand before
abbrev pub with_pointers : {A : Type 0} → Pointer × (List Pointer × A) → List Pointer × A
with_pointers x = (x.0 ∷ x.1.0, x.1.1)

abbrev pub suffix_of : Span × SuffixKind → Suffix
suffix_of x = roll-Suffix (record { span = x.0; kind = x.1 })

abbrev pub parameter_of : Span × (Specifiers × Declarator) → Parameter
parameter_of x = roll-Parameter (record { span = x.0; specifiers = x.1.0; declarator = x.1.1 })

abbrev pub type_name_of : Span × (Specifiers × Declarator) → TypeName
type_name_of x = roll-TypeName (record { span = x.0; specifiers = x.1.0; declarator = x.1.1 })

abbrev pub named_scope : Bool → Option ℕ → Scope
named_scope typedef None = []
named_scope typedef (Some name) = record { name = name; is_typedef = typedef } ∷ []

-- what a declarator declares
abbrev pub declarator_scope : Bool → Declarator → Scope
declarator_scope typedef d = named_scope typedef (out-Declarator d).name

abbrev pub parameter_scope : Bool → Specifiers × Declarator → Scope
parameter_scope typedef x = declarator_scope typedef x.1
