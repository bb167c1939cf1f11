-- Lists of one level as the code sees them: what each function over a row of the tree gives, over the list of the row's elements.
use Rattle.std.specs.Prelude.{◌≡◌, ℕ, Bool, false, not, ◌&&◌, List, [], ◌∷◌, Option, Some, None}
use Rattle.c_parts.specs.declared.span.Span.{Span}
use Rattle.c_syntax.specs.declared.expr.Expr.{Expr}
use Rattle.c_syntax.specs.declared.expr.ExprKind.{ExprKind, Postfix', end_of-Expr, more_of-Expr, Row_of-Postfix, end_of-Postfix, more_of-Postfix}
use Rattle.c_syntax.specs.declared.expr.ExprKind.TheVariants as kind
use Rattle.c_syntax.specs.declared.expr.PostfixKind.{PostfixKind}
use Rattle.c_syntax.specs.declared.expr.TypeName.{TypeName}
use Rattle.filc_num.specs.declared.integer.BinOp.{BinOp}
use Rattle.c_syntax.specs.declared.expr.Link.{Link}
use Rattle.c_syntax.specs.declared.expr.Postfix.{Postfix}
use Rattle.c_expr_rules.specs.Outcomes.{State, Checked, Fine, next, by_rules, ◌breaks◌, also, unevaluated}
use Rattle.c_expr_rules.specs.TypedExpressions.{is_complete}
use Rattle.c_expr_rules.specs.declared.typed.Typed.{Typed}
use Rattle.c_expr_rules.specs.Reading.{read}
use Rattle.c_expr_rules.specs.Calls.{signature_of, wanted_by, call, no_arguments, with_argument, argument, following, bad_print, atomic_call}
use Rattle.c_expr_rules.specs.declared.arguments.Wanted.{Wanted}
use Rattle.c_expr_rules.specs.declared.arguments.Wanted.TheVariants.{Anything}
use Rattle.c_expr_rules.specs.declared.arguments.Arguments.{Arguments}
use Rattle.c_expr_rules.specs.declared.special.Special.{Special}
use Rattle.c_expr_rules.specs.declared.special.Special.TheVariants.{Printing, Atomic}
use Rattle.c_expr_rules.specs.declared.printer.Printer.{Printer}
use Rattle.c_expr_rules.specs.Expressions.{Around, Level, Arithmetic, Logical, level_of_operator, typed_kind, typed_expression, typed_value, typed_operator, typed_special, typed_format, special_named, name_in, is_call, begins_with_call, names_operation, without_use, linked_value, with_test, second, is_too_long, size_value}
use Rattle.c_expr_rules.specs.declared.typed.Tests.{Tests}

-- of `&&` or of `||`, or of operators on numbers
abbrev pub seen_level : Option Bool → Level
seen_level None = Arithmetic
seen_level (Some all) = Logical all

abbrev pub level_list : List Link → Level
level_list [] = Arithmetic
level_list (l ∷ links) = level_of_operator l.operator

-- what is found, with one element of a list after the other
abbrev pub gone_over : {A X : Type 0} → (Checked A → X → Checked A) → Checked A → List X → Checked A
gone_over step found [] = found
gone_over step found (x ∷ xs) = gone_over step (step found x) xs

abbrev pub with_link : Around → ℕ → Checked Typed → Link → Checked Typed
with_link around line found l = next found (λ s x. next (typed_value around s l.operand) (λ s y. linked_value line l.operator x s y))

abbrev pub link_list : Around → ℕ → Checked Typed → List Link → Checked Typed
link_list around line found links = gone_over (with_link around line) found links

abbrev pub with_tested : Around → ℕ → Bool → Checked Tests → Link → Checked Tests
with_tested around line all found l = next found (λ s t. next (typed_value around s l.operand) (λ s y. with_test line all t s y))

abbrev pub test_list : Around → ℕ → Bool → Checked Tests → List Link → Checked Tests
test_list around line all found links = gone_over (with_tested around line all) found links

abbrev pub with_second : Around → ℕ → Checked Typed → Expr → Checked Typed
with_second around line found e = next found (λ s x. next (typed_value around s e) (λ s y. Fine s (second line x y)))

abbrev pub comma_list : Around → ℕ → Checked Typed → List Expr → Checked Typed
comma_list around line found rest = gone_over (with_second around line) found rest

abbrev pub with_operator : Around → ℕ → Checked Typed → Postfix → Checked Typed
with_operator around line found o = typed_operator around line found o.kind

abbrev pub operator_list : Around → ℕ → Checked Typed → List Postfix → Checked Typed
operator_list around line found os = gone_over (with_operator around line) found os

-- the first operator behind an operand that is found, which may be a name that only a call knows
abbrev pub first_operator : Around → ℕ → State → Option Special → Checked Typed → PostfixKind → Checked Typed
first_operator around line s None found o = typed_operator around line found o
first_operator around line s (Some what) found o = typed_special around line s what found o

abbrev pub call_first : List Postfix → Bool
call_first [] = false
call_first (o ∷ rest) = is_call o.kind

-- the operand of these operators
abbrev pub operand_of : Around → State → Expr → List Postfix → Checked Typed
operand_of around s e os = without_use (call_first os && names_operation around s (name_in e.kind)) s (typed_expression around s e)

-- the operand with the first of these operators
abbrev pub begin_list : Around → ℕ → State → Option Special → Checked Typed → List Postfix → Checked Typed
begin_list around line s what found [] = found
begin_list around line s what found (o ∷ rest) = first_operator around line s what found o.kind

abbrev pub begin_of : Around → ℕ → State → Expr → List Postfix → Checked Typed
begin_of around line s e os = begin_list around line s (special_named around s (name_in e.kind)) (operand_of around s e os) os

-- the same of the operators in an expression of the grammar, which is found as a whole where it has none
abbrev pub begin_row : {m : _} → Around → ℕ → State → Option Special → Checked Typed → Row_of-Postfix m → Checked Typed
begin_row around line s what found end_of-Postfix = found
begin_row around line s what found (more_of-Postfix span o rest) = first_operator around line s what found o

abbrev pub begin_kind : Around → Span → State → ExprKind → Checked Typed
begin_kind around span s (Postfix' p (more_of-Expr s1 k1 end_of-Expr) z operators) =
    begin_row around span.line s (special_named around s (name_in k1))
    (without_use (begins_with_call operators && names_operation around s (name_in k1)) s (typed_kind around s1 s k1)) operators
begin_kind around span s k = typed_kind around span s k

abbrev pub behind_first : List Postfix → List Postfix
behind_first [] = []
behind_first (o ∷ rest) = rest

abbrev pub postfix_list : Around → ℕ → State → Option Special → Checked Typed → List Postfix → Checked Typed
postfix_list around line s what found os = operator_list around line (begin_list around line s what found os) (behind_first os)

-- arguments from the left, behind those that are there
abbrev pub argument_list : Around → Wanted → State → List Expr → Checked Arguments
argument_list around wanted s [] = Fine s (no_arguments wanted)
argument_list around wanted s (e ∷ rest) =
    next (argument e.span.line s wanted (typed_value around s e)) (λ s x. next (argument_list around (following s wanted) s rest) (λ s a. Fine s (with_argument x a)))

-- a call of what is found
abbrev pub called : Around → ℕ → Checked Typed → List Expr → Checked Typed
called around line found arguments =
    next found (λ s t. next (read s t) (λ s f. next (argument_list around (wanted_by (signature_of s f)) s arguments) (λ s a.
    call around.intrinsic around.kind_of line t.place f s a)))

-- a call of `printf`, of which the first operand is the format
abbrev pub print_list : Around → Printer → ℕ → State → List Expr → Checked Typed
print_list around f line s [] = bad_print line f s (no_arguments Anything)
print_list around f line s (e ∷ rest) = typed_format around f line e.span e.kind (typed_expression around s e) s (λ s. argument_list around Anything s rest)

-- a call of a name that stands for no function
abbrev pub special_list : Around → ℕ → State → Special → List Expr → Checked Typed
special_list around line s (Printing f) arguments = print_list around f line s arguments
special_list around line s (Atomic what) arguments = next (argument_list around Anything s arguments) (λ s a. atomic_call line what s a)

-- a format's bytes
abbrev pub format_in : Around → Span → State → Checked (List ℕ)
format_in around span s =
    let format = around.text span.first span.last in by_rules span.line (5 breaks is_too_long format ∷ []) s format

-- `sizeof` of an operand that is found, by the state before it
abbrev pub measured : (line operand_line : ℕ) → State → Checked Typed → Checked Typed
measured line operand_line before found =
    next (also operand_line 4 (λ s t. not (is_complete t.ty)) found) (λ after t. Fine (unevaluated before after) (size_value line t.ty))

-- ---- kinds of expressions that functions of their own check

pub record IsCast (k : ExprKind) : Type 0 where
  pub ty : TypeName
  pub operand : Expr
  pub is : k ≡ kind.Cast ty operand

pub record IsConditional (k : ExprKind) : Type 0 where
  pub condition : Expr
  pub one : Expr
  pub other : Expr
  pub is : k ≡ kind.Conditional condition one other

pub record IsAssignment (k : ExprKind) : Type 0 where
  pub operator : Option BinOp
  pub target : Expr
  pub value : Expr
  pub is : k ≡ kind.Assign operator target value

pub record IsPostfix (k : ExprKind) : Type 0 where
  pub operand : Expr
  pub operators : List Postfix
  pub is : k ≡ kind.Postfix operand operators

pub record IsChain (k : ExprKind) : Type 0 where
  pub first : Expr
  pub links : List Link
  pub is : k ≡ kind.Chain first links

pub record IsComma (k : ExprKind) : Type 0 where
  pub first : Expr
  pub rest : List Expr
  pub is : k ≡ kind.Comma first rest
