-- Typed expressions at the constructors by which Rust sees a tree.
use Rattle.std.proofs.Common.{◌≡◌, ℕ, Bool, true, false, cond, List, refl, ap, ◌∙◌}
use Rattle.std.specs.Prelude.{Option, ◌&&◌}
use Rattle.filc_num.specs.declared.integer.BinOp.{BinOp}
use denote.Hole.Carrier
use Rattle.c_parts.specs.declared.span.Span.{Span}
use Rattle.c_syntax.specs.declared.expr.Expr.{Expr}
use Rattle.c_syntax.specs.declared.expr.Link.{Link}
use Rattle.c_syntax.specs.declared.expr.Postfix.{Postfix}
use Rattle.c_syntax.specs.declared.expr.PostfixKind.TheVariants as postfix
use Rattle.c_syntax.specs.declared.expr.ExprKind.{ExprKind, Row_of-Expr, end_of-Expr, more_of-Expr, items-the_row-Expr}
use Rattle.c_syntax.specs.declared.expr.ExprKind.TheVariants as kind
use Rattle.c_syntax.specs.declared.expr.Core.TheBlock as b
use Rattle.c_syntax.specs.declared.expr.TypeName.{TypeName}
use Rattle.c_syntax.specs.declared.words.Prefix.{Prefix}
use Rattle.c_expr_rules.specs.Outcomes.{State, Checked, next, inner, outcome_with}
use Rattle.c_expr_rules.specs.TypedExpressions.{type_at}
use Rattle.c_expr_rules.specs.declared.typed.Typed.{Typed}
use Rattle.c_expr_rules.specs.Reading.{read, read_found, target_found}
use Rattle.c_expr_rules.specs.Operators.{choice}
use Rattle.c_expr_rules.specs.Calls.{signature_of, wanted_by, call, print_call, bad_print, atomic_call}
use Rattle.c_expr_rules.specs.declared.arguments.Arguments.{Arguments}
use Rattle.c_expr_rules.specs.declared.arguments.Wanted.TheVariants.{Anything}
use Rattle.c_expr_rules.specs.declared.special.Special.{Special}
use Rattle.c_expr_rules.specs.declared.special.Special.TheVariants.{Printing, Atomic}
use Rattle.c_expr_rules.specs.declared.printer.Printer.{Printer}
use Rattle.c_expr_rules.specs.Expressions.{Around, Level, Arithmetic, Logical, level_of, by_level, first_test, logic, typed_kind, typed_expression, typed_value, typed_operator, typed_special, typed_print, typed_format, typed_arguments, is_text, prefixed, local_named, name_in, special_named, begins_with_call, names_operation, without_use, index, cast, assigned_with, size_typed, align_typed}
use Rattle.c_check_expr.specs.Lists.{argument_list, print_list, special_list, call_first, operand_of, begin_list, begin_kind, begin_of, postfix_list, level_list, link_list, test_list, comma_list, measured}
use Rattle.c_check_expr.proofs.Outcomes.{next_same}
use Rattle.c_check_expr.proofs.Lists.{first_call_rows, begin_rows, postfix_rows, arguments_rows, levels_rows, links_rows, tests_rows, commas_rows}

-- both ways of a test
by_text : {A : Type 0} {x y z w : A} (b : Bool) → x ≡ z → y ≡ w → cond b x y ≡ cond b z w
by_text true p q = p
by_text false p q = q

pub parens_name : (e : Expr) → name_in (kind.Parens e) ≡ name_in e.kind
unfolding b.hidden-the_row-Expr-1 b.shape-the_row-Expr-1 Carrier.hidden
parens_name e = refl

pub parens_typed : (around : Around) (span : Span) (s : State) (e : Expr) → typed_kind around span s (kind.Parens e) ≡ inner (typed_expression around s e)
unfolding b.hidden-the_row-Expr-1 b.shape-the_row-Expr-1 Carrier.hidden
parens_typed around span s e = refl

pub prefix_typed :
    (around : Around) (span : Span) (s : State) (o : Prefix) (e : Expr) →
    typed_kind around span s (kind.Prefix o e) ≡ prefixed span.line (local_named around s (name_in e.kind)) o (typed_expression around s e)
unfolding b.hidden-the_row-Expr-1 b.shape-the_row-Expr-1 Carrier.hidden
prefix_typed around span s o e = refl

pub sizeof_typed :
    (around : Around) (span : Span) (s : State) (e : Expr) →
    typed_kind around span s (kind.SizeofExpr e) ≡ measured span.line e.span.line s (typed_expression around s e)
unfolding b.hidden-the_row-Expr-1 b.shape-the_row-Expr-1 Carrier.hidden
sizeof_typed around span s e = refl

pub size_typed_at :
    (around : Around) (span : Span) (s : State) (ty : TypeName) →
    typed_kind around span s (kind.SizeofType ty) ≡ next (around.named_type s ty) (λ s part. size_typed span.line (type_at s part.number) s)
unfolding b.hidden-the_row-TypeName-3 b.shape-the_row-TypeName-3 Carrier.hidden
size_typed_at around span s ty = refl

pub align_typed_at :
    (around : Around) (span : Span) (s : State) (ty : TypeName) →
    typed_kind around span s (kind.AlignofType ty) ≡ next (around.named_type s ty) (λ s part. align_typed span.line (type_at s part.number) s)
unfolding b.hidden-the_row-TypeName-3 b.shape-the_row-TypeName-3 Carrier.hidden
align_typed_at around span s ty = refl

pub cast_typed :
    (around : Around) (span : Span) (s : State) (ty : TypeName) (e : Expr) →
    typed_kind around span s (kind.Cast ty e) ≡ next (around.named_type s ty) (λ s part. next (typed_value around s e) (λ s t. cast span.line (type_at s part.number) s t))
unfolding b.hidden-the_row-Expr-1 b.shape-the_row-Expr-1 b.hidden-the_row-TypeName-3 b.shape-the_row-TypeName-3 Carrier.hidden
cast_typed around span s ty e = refl

pub conditional_typed :
    (around : Around) (span : Span) (s : State) (test one other : Expr) →
    typed_kind around span s (kind.Conditional test one other)
    ≡ next (typed_value around s test) (λ s t. next (typed_value around s one) (λ s x. next (typed_value around s other) (λ s y. choice span.line t x s y)))
unfolding b.hidden-the_row-Expr-1 b.shape-the_row-Expr-1 Carrier.hidden
conditional_typed around span s test one other = refl

pub assign_typed :
    (around : Around) (span : Span) (s : State) (o : Option BinOp) (target value : Expr) →
    typed_kind around span s (kind.Assign o target value)
    ≡ next (target_found (typed_expression around s target)) (λ s t. next (typed_value around s value) (λ s v. assigned_with span.line o t s v))
unfolding b.hidden-the_row-Expr-1 b.shape-the_row-Expr-1 Carrier.hidden
assign_typed around span s o target value = refl

pub comma_typed :
    (around : Around) (span : Span) (s : State) (first : Expr) (rest : List Expr) →
    typed_kind around span s (kind.Comma first rest) ≡ comma_list around span.line (typed_value around s first) rest
unfolding b.hidden-the_row-Expr-1 b.shape-the_row-Expr-1 Carrier.hidden
comma_typed around span s first rest =
    commas_rows around span.line (typed_value around s first) (b.hidden-the_row-Expr-5 rest) ∙ ap (λ l. comma_list around span.line (typed_value around s first) l) (b.items_hidden-the_row-Expr-5 rest)

-- ---- operators of one level

by_level_same :
    (l : Level) (found other : Checked Typed) (tests others : Bool → Checked Typed) → found ≡ other → ((all : Bool) → tests all ≡ others all) →
    by_level l found tests ≡ by_level l other others
by_level_same Arithmetic found other tests others e h = e
by_level_same (Logical all) found other tests others e h = h all

pub chain_typed :
    (around : Around) (span : Span) (s : State) (first : Expr) (links : List Link) →
    typed_kind around span s (kind.Chain first links)
    ≡ by_level (level_list links) (link_list around span.line (typed_value around s first) links)
    (λ all. outcome_with (logic span.line all) (test_list around span.line all (outcome_with first_test (typed_value around s first)) links))
unfolding b.hidden-the_row-Expr-1 b.shape-the_row-Expr-1 Carrier.hidden
chain_typed around span s first links =
    let k = b.hidden-the_row-Link-4 links in
    let same = b.items_hidden-the_row-Link-4 links in
    let found = typed_value around s first in
    let tests = λ (all : Bool). outcome_with (logic span.line all) (test_list around span.line all (outcome_with first_test found) links) in
    by_level_same (level_of k) _ (link_list around span.line found links) _ tests
    (links_rows around span.line found k ∙ ap (λ l. link_list around span.line found l) same)
    (λ all. ap (outcome_with (logic span.line all)) (tests_rows around span.line all (outcome_with first_test found) k ∙ ap (λ l. test_list around span.line all (outcome_with first_test found) l) same))
    ∙ ap (λ l. by_level l (link_list around span.line found links) tests) (levels_rows k ∙ ap level_list same)

-- ---- operators behind an operand

pub postfix_typed :
    (around : Around) (span : Span) (s : State) (e : Expr) (operators : List Postfix) →
    typed_kind around span s (kind.Postfix e operators) ≡ postfix_list around span.line s (special_named around s (name_in e.kind)) (operand_of around s e operators) operators
unfolding b.hidden-the_row-Expr-1 b.shape-the_row-Expr-1 Carrier.hidden
postfix_typed around span s e operators =
    let what = special_named around s (name_in e.kind) in
    let found = λ (called : Bool). without_use (called && names_operation around s (name_in e.kind)) s (typed_expression around s e) in
    let k = b.hidden-the_row-Postfix-2 operators in
    let same = b.items_hidden-the_row-Postfix-2 operators in
    postfix_rows around span.line s what (found (begins_with_call k)) k
    ∙ ap (λ os. postfix_list around span.line s what (found (begins_with_call k)) os) same
    ∙ ap (λ called. postfix_list around span.line s what (found called) operators) (first_call_rows k ∙ ap call_first same)

-- the operand with the first operator behind it
pub begin_typed :
    (around : Around) (span : Span) (s : State) (e : Expr) (operators : List Postfix) →
    begin_kind around span s (kind.Postfix e operators) ≡ begin_of around span.line s e operators
unfolding b.hidden-the_row-Expr-1 b.shape-the_row-Expr-1 Carrier.hidden
begin_typed around span s e operators =
    let what = special_named around s (name_in e.kind) in
    let found = λ (called : Bool). without_use (called && names_operation around s (name_in e.kind)) s (typed_expression around s e) in
    let k = b.hidden-the_row-Postfix-2 operators in
    let same = b.items_hidden-the_row-Postfix-2 operators in
    begin_rows around span.line s what (found (begins_with_call k)) k
    ∙ ap (λ os. begin_list around span.line s what (found (begins_with_call k)) os) same
    ∙ ap (λ called. begin_list around span.line s what (found called) operators) (first_call_rows k ∙ ap call_first same)

pub index_typed :
    (around : Around) (line : ℕ) (found : Checked Typed) (e : Expr) →
    typed_operator around line found (postfix.Index e) ≡ next (read_found found) (λ s x. next (typed_value around s e) (λ s y. index line x s y))
unfolding b.hidden-the_row-Expr-1 b.shape-the_row-Expr-1 Carrier.hidden
index_typed around line found e = refl

-- a call of `printf`, and of a name that stands for no function

format_same :
    (around : Around) (f : Printer) (line : ℕ) (span : Span) (k : ExprKind) (found : Checked Typed) (s : State) (a b : State → Checked Arguments) → ((s : State) → a s ≡ b s) →
    typed_format around f line span k found s a ≡ typed_format around f line span k found s b
format_same around f line span k found s a b h =
    by_text (is_text k)
    (next_same _ _ _ (λ s format. ap (λ c. next c (λ s a. print_call line f (around.text span.first span.last) s a)) (h s)))
    (next_same (read_found found) _ _ (λ s x. ap (λ c. next c (λ s a. bad_print line f s a)) (h s)))

print_rows :
    {m : _} (around : Around) (f : Printer) (line : ℕ) (s : State) (k : Row_of-Expr m) → typed_print around f line s k ≡ print_list around f line s (items-the_row-Expr _ k)
print_rows around f line s end_of-Expr = refl
print_rows around f line s (more_of-Expr span k rest) =
    format_same around f line span k (typed_kind around span s k) s (λ s. typed_arguments around Anything s rest) (λ s. argument_list around Anything s (items-the_row-Expr _ rest))
    (λ s. arguments_rows around Anything s rest)

pub special_typed :
    (around : Around) (line : ℕ) (s : State) (what : Special) (found : Checked Typed) (arguments : List Expr) →
    typed_special around line s what found (postfix.Call arguments) ≡ special_list around line s what arguments
special_typed around line s (Printing f) found arguments =
    let k = b.hidden-the_row-Expr-5 arguments in
    print_rows around f line s k ∙ ap (λ l. print_list around f line s l) (b.items_hidden-the_row-Expr-5 arguments)
special_typed around line s (Atomic what) found arguments =
    let k = b.hidden-the_row-Expr-5 arguments in
    ap (λ c. next c (λ s a. atomic_call line what s a)) (arguments_rows around Anything s k ∙ ap (λ l. argument_list around Anything s l) (b.items_hidden-the_row-Expr-5 arguments))

pub call_typed :
    (around : Around) (line : ℕ) (found : Checked Typed) (arguments : List Expr) →
    typed_operator around line found (postfix.Call arguments)
    ≡ next found (λ s t. next (read s t) (λ s f. next (argument_list around (wanted_by (signature_of s f)) s arguments) (λ s a.
    call around.intrinsic around.kind_of line t.place f s a)))
call_typed around line found arguments =
    let k = b.hidden-the_row-Expr-5 arguments in
    next_same found _ _ (λ s t. next_same (read s t) _ _ (λ s f.
    ap (λ c. next c (λ s a. call around.intrinsic around.kind_of line t.place f s a))
    (arguments_rows around (wanted_by (signature_of s f)) s k ∙ ap (λ l. argument_list around (wanted_by (signature_of s f)) s l) (b.items_hidden-the_row-Expr-5 arguments))))
