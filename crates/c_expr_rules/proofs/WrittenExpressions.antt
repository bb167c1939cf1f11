-- Expressions as they are written, by the line of their first token. Names are numbers.
use Rattle.std.specs.Prelude.{ℕ, [], ◌∷◌, Some, None}
use Rattle.filc_num.specs.declared.integer.BinOp.{BinOp}
use Rattle.filc_num.specs.declared.integer.BinOp.TheVariants as b
use Rattle.c_parts.specs.declared.span.Span.{Span}
use Rattle.c_syntax.specs.declared.expr.Expr.{Expr}
use Rattle.c_syntax.specs.declared.expr.ExprKind.{ExprKind, Name, Number, Text, Parens', Postfix', Prefix', SizeofExpr', SizeofType', Cast', Chain', Conditional', Assign', Comma', end_of-Expr, more_of-Expr, end_of-Postfix, more_of-Postfix, end_of-Link, more_of-Link, end_of-TypeName, more_of-TypeName}
use Rattle.c_syntax.specs.declared.expr.PostfixKind.{PostfixKind, Index', Call'}
use Rattle.c_syntax.specs.declared.expr.TypeName.{TypeName, TypeName'}
use Rattle.c_syntax.specs.declared.expr.Specifiers.{Specifiers', end_of-Specifier, more_of-Specifier}
use Rattle.c_syntax.specs.declared.expr.SpecifierKind.{Basic}
use Rattle.c_syntax.specs.declared.expr.Declarator.{Declarator', end_of-Suffix, more_of-Suffix}
use Rattle.c_syntax.specs.declared.expr.Core.{Nothing}
use Rattle.c_syntax.specs.declared.expr.SuffixKind.{Array', SuffixKind-Array-0-Some' as SomeExpr}
use Rattle.c_syntax.specs.declared.words.BasicType.TheVariants as basic
use Rattle.c_syntax.specs.declared.words.Operator.{Operator}
use Rattle.c_syntax.specs.declared.words.Operator.TheVariants as o
use Rattle.c_syntax.specs.declared.words.Prefix.{Prefix}
use Rattle.c_syntax.specs.Values.{expr_of}

abbrev pub at : (line first last : ℕ) → Span
at line first last = record { line = line; first = first; last = last }

abbrev pub node : ℕ → ExprKind → Expr
node line x = expr_of (at line 0 0, x)

abbrev pub name : (line x : ℕ) → Expr
name line x = node line (Name x)

-- an int's constant
abbrev pub number : (line n : ℕ) → Expr
number line n = expr_of (at line n n, Number)

-- the text of this token
abbrev pub text : (line first : ℕ) → Expr
text line first = expr_of (at line first first, Text)

abbrev pub parens : ℕ → Expr → Expr
parens line x = node line (Parens' _ (more_of-Expr x.span x.kind end_of-Expr))

abbrev pub before : ℕ → Prefix → Expr → Expr
before line operator x = node line (Prefix' operator _ (more_of-Expr x.span x.kind end_of-Expr))

abbrev pub after : ℕ → Expr → PostfixKind → Expr
after line x operator = node line (Postfix' _ (more_of-Expr x.span x.kind end_of-Expr) (tt ∷ []) (more_of-Postfix (at line 0 0) operator end_of-Postfix))

abbrev pub index : Expr → PostfixKind
index x = Index' _ (more_of-Expr x.span x.kind end_of-Expr)

abbrev pub called_with : Expr → PostfixKind
called_with x = Call' (tt ∷ []) (more_of-Expr x.span x.kind end_of-Expr)

abbrev pub called_with_two : Expr → Expr → PostfixKind
called_with_two x z = Call' (tt ∷ tt ∷ []) (more_of-Expr x.span x.kind (more_of-Expr z.span z.kind end_of-Expr))

abbrev pub called : PostfixKind
called = Call' [] end_of-Expr

abbrev pub pair : ℕ → Expr → Operator → Expr → Expr
pair line x operator z =
    node line (Chain' _ (more_of-Expr x.span x.kind end_of-Expr) (tt ∷ []) (more_of-Link (at line 0 0) operator z.span z.kind end_of-Link))

abbrev pub three : ℕ → Expr → Operator → Expr → Operator → Expr → Expr
three line x f z g w =
    node line (Chain' _ (more_of-Expr x.span x.kind end_of-Expr) (tt ∷ tt ∷ []) (more_of-Link (at line 0 0) f z.span z.kind (more_of-Link (at line 0 0) g w.span w.kind end_of-Link)))

abbrev pub choice : ℕ → Expr → Expr → Expr → Expr
choice line x z w =
    node line (Conditional' _ (more_of-Expr x.span x.kind end_of-Expr) _ (more_of-Expr z.span z.kind end_of-Expr) _ (more_of-Expr w.span w.kind end_of-Expr))

abbrev pub assign : ℕ → Expr → Expr → Expr
assign line x z = node line (Assign' None _ (more_of-Expr x.span x.kind end_of-Expr) _ (more_of-Expr z.span z.kind end_of-Expr))

abbrev pub assign_by : ℕ → BinOp → Expr → Expr → Expr
assign_by line operator x z = node line (Assign' (Some operator) _ (more_of-Expr x.span x.kind end_of-Expr) _ (more_of-Expr z.span z.kind end_of-Expr))

abbrev pub comma : ℕ → Expr → Expr → Expr
comma line x z = node line (Comma' _ (more_of-Expr x.span x.kind end_of-Expr) (tt ∷ []) (more_of-Expr z.span z.kind end_of-Expr))

abbrev pub size_of : ℕ → Expr → Expr
size_of line x = node line (SizeofExpr' _ (more_of-Expr x.span x.kind end_of-Expr))

-- with any type name: which type it names is said beside it
abbrev pub cast : TypeName → ℕ → Expr → Expr
cast t line x = node line (Cast' _ (more_of-TypeName t end_of-TypeName) _ (more_of-Expr x.span x.kind end_of-Expr))

abbrev pub add : Operator
add = o.Binary b.Add

abbrev pub sub : Operator
sub = o.Binary b.Sub

abbrev pub divide : Operator
divide = o.Binary b.Div

abbrev pub less : Operator
less = o.Binary b.Lt

abbrev pub equal : Operator
equal = o.Binary b.Eq

-- an array of so many int
abbrev pub int_array : Expr → TypeName
int_array x =
    TypeName' (at 1 0 0) (Specifiers' (at 1 0 0) (tt ∷ []) (more_of-Specifier (at 1 0 0) (Basic basic.Int) end_of-Specifier))
    (Declarator' (at 1 0 0) None [] Nothing (tt ∷ []) (more_of-Suffix (at 1 0 0) (Array' (SomeExpr x.span x.kind)) end_of-Suffix))

abbrev pub size_of_type : ℕ → TypeName → Expr
size_of_type line ty = node line (SizeofType' _ (more_of-TypeName ty end_of-TypeName))
