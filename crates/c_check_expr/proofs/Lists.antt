-- Rows of a tree as the lists that the code goes over, and a broken rule before a list.
use Rattle.std.proofs.Common.{◌≡◌, ℕ, Bool, List, [], ◌∷◌, ◌++◌, refl, ap, ◌∙◌}
use Rattle.std.specs.Prelude.{Option, Some, None}
use Rattle.c_syntax.specs.declared.expr.PostfixKind.{PostfixKind, Index', Call', Member, Arrow, Increment, Decrement, more_of-Expr, end_of-Expr}
use Rattle.c_syntax.specs.declared.expr.ExprKind.{Row_of-Expr, Row_of-Postfix, end_of-Postfix, more_of-Postfix, Row_of-Link, end_of-Link, more_of-Link, items-the_row-Expr, items-the_row-Postfix, items-the_row-Link}
use Rattle.c_expr_rules.specs.Outcomes.{State, Checked, Fine, Broke, Broken, next}
use Rattle.c_expr_rules.specs.declared.typed.Typed.{Typed}
use Rattle.c_expr_rules.specs.Calls.{following, with_argument}
use Rattle.c_expr_rules.specs.declared.arguments.Wanted.{Wanted}
use Rattle.c_expr_rules.specs.declared.arguments.Arguments.{Arguments}
use Rattle.c_expr_rules.specs.declared.special.Special.{Special}
use Rattle.c_expr_rules.specs.Expressions.{Around, level_of, typed_operator, typed_postfix, typed_special, typed_operators, typed_arguments, begins_with_call, typed_links, typed_tests, typed_commas}
use Rattle.c_expr_rules.specs.declared.typed.Tests.{Tests}
use Rattle.c_check_expr.specs.Lists.{gone_over, operator_list, begin_row, begin_list, postfix_list, argument_list, call_first, level_list, link_list, test_list, comma_list}
use Rattle.c_check_expr.proofs.Outcomes.{next_same}

-- arguments with these before them
abbrev pub values_before : List Typed → Checked Arguments → Checked Arguments
values_before xs c = next c (λ s a. Fine s (record a { values = xs ++ a.values }))

-- ---- rows

pub operators_rows : {m : _} (around : Around) (line : ℕ) (found : Checked Typed) (k : Row_of-Postfix m) → typed_operators around line found k ≡ operator_list around line found (items-the_row-Postfix _ k)
operators_rows around line found end_of-Postfix = refl
operators_rows around line found (more_of-Postfix span o rest) = operators_rows around line (typed_operator around line found o) rest

pub first_call_rows : {m : _} (k : Row_of-Postfix m) → begins_with_call k ≡ call_first (items-the_row-Postfix _ k)
first_call_rows end_of-Postfix = refl
first_call_rows (more_of-Postfix span o rest) = refl

pub postfix_rows :
    {m : _} (around : Around) (line : ℕ) (s : State) (what : Option Special) (found : Checked Typed) (k : Row_of-Postfix m) →
    typed_postfix around line s what found k ≡ postfix_list around line s what found (items-the_row-Postfix _ k)
postfix_rows around line s what found end_of-Postfix = refl
postfix_rows around line s None found (more_of-Postfix span o rest) = operators_rows around line (typed_operator around line found o) rest
postfix_rows around line s (Some what) found (more_of-Postfix span o rest) = operators_rows around line (typed_special around line s what found o) rest

pub begin_rows :
    {m : _} (around : Around) (line : ℕ) (s : State) (what : Option Special) (found : Checked Typed) (k : Row_of-Postfix m) →
    begin_row around line s what found k ≡ begin_list around line s what found (items-the_row-Postfix _ k)
begin_rows around line s what found end_of-Postfix = refl
begin_rows around line s what found (more_of-Postfix span o rest) = refl

pub levels_rows : {m : _} (k : Row_of-Link m) → level_of k ≡ level_list (items-the_row-Link _ k)
levels_rows end_of-Link = refl
levels_rows (more_of-Link span o s1 k1 rest) = refl

pub links_rows : {m : _} (around : Around) (line : ℕ) (found : Checked Typed) (k : Row_of-Link m) → typed_links around line found k ≡ link_list around line found (items-the_row-Link _ k)
links_rows around line found end_of-Link = refl
links_rows around line found (more_of-Link span o s1 k1 rest) = links_rows around line _ rest

pub tests_rows : {m : _} (around : Around) (line : ℕ) (all : Bool) (found : Checked Tests) (k : Row_of-Link m) → typed_tests around line all found k ≡ test_list around line all found (items-the_row-Link _ k)
tests_rows around line all found end_of-Link = refl
tests_rows around line all found (more_of-Link span o s1 k1 rest) = tests_rows around line all _ rest

pub commas_rows : {m : _} (around : Around) (line : ℕ) (found : Checked Typed) (k : Row_of-Expr m) → typed_commas around line found k ≡ comma_list around line found (items-the_row-Expr _ k)
commas_rows around line found end_of-Expr = refl
commas_rows around line found (more_of-Expr s1 k1 rest) = commas_rows around line _ rest

pub arguments_rows : {m : _} (around : Around) (wanted : Wanted) (s : State) (k : Row_of-Expr m) → typed_arguments around wanted s k ≡ argument_list around wanted s (items-the_row-Expr _ k)
arguments_rows around wanted s end_of-Expr = refl
arguments_rows around wanted s (more_of-Expr span k rest) =
    next_same _ _ _ (λ s x. ap (λ c. next c (λ s a. Fine s (with_argument x a))) (arguments_rows around (following s wanted) s rest))

-- ---- a rule that is broken before a list is what the whole list gives

pub operator_stops : (around : Around) (line : ℕ) (b : Broken) (o : PostfixKind) → typed_operator around line (Broke b) o ≡ Broke b
operator_stops around line b (Index' p (more_of-Expr s1 k1 end_of-Expr)) = refl
operator_stops around line b (Call' z arguments) = refl
operator_stops around line b (Member n) = refl
operator_stops around line b (Arrow n) = refl
operator_stops around line b Increment = refl
operator_stops around line b Decrement = refl

pub over_stops :
    {A X : Type 0} (step : Checked A → X → Checked A) → ((b : Broken) (x : X) → step (Broke b) x ≡ Broke b) → (b : Broken) (xs : List X) → gone_over step (Broke b) xs ≡ Broke b
over_stops step stop b [] = refl
over_stops step stop b (x ∷ xs) = ap (λ c. gone_over step c xs) (stop b x) ∙ over_stops step stop b xs
