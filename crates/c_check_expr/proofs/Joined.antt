-- What is found of the parts of one construct, joined: operators before and behind an operand, calls, and levels of operators.
use Rattle.std.proofs.Common.{◌≡◌, ℕ, ◌-◌, ◌<◌, ◌≤◌, Bool, true, false, List, [], ◌∷◌, ◌++◌, length, get_or, take, drop, refl, sym, ap, ◌∙◌, arith}
use Rattle.std.proofs.lemmas.List.{take_all}
use Rattle.std.specs.Prelude.{Option, Some, None, Err}
use Rattle.c_parts.specs.declared.span.Span.{Span}
use Rattle.c_syntax.specs.declared.expr.Expr.{Expr}
use Rattle.c_syntax.specs.declared.expr.Link.{Link}
use Rattle.c_syntax.specs.declared.expr.Postfix.{Postfix}
use Rattle.c_syntax.specs.declared.expr.PostfixKind.{PostfixKind, Index', Call', Member, Arrow, Increment, Decrement}
use Rattle.c_syntax.specs.declared.words.Prefix.{Prefix}
use Rattle.c_syntax.specs.declared.words.Prefix.TheVariants as prefix
use Rattle.c_expr_rules.specs.Outcomes as o
use Rattle.c_expr_rules.specs.Outcomes.{State, Checked, Fine, Breaks, Broke, Broken, next, inner, by_rules, ◌breaks◌, outcome_with}
use Rattle.c_expr_rules.specs.declared.typed.Typed.{Typed}
use Rattle.c_expr_rules.specs.Reading.{read}
use Rattle.c_expr_rules.specs.Calls.{argument, following, with_argument, signature_of, wanted_by, call, print_call, bad_print}
use Rattle.c_expr_rules.specs.declared.arguments.Wanted.{Wanted}
use Rattle.c_expr_rules.specs.declared.arguments.Wanted.TheVariants.{Anything}
use Rattle.c_expr_rules.specs.declared.arguments.Arguments.{Arguments}
use Rattle.c_expr_rules.specs.declared.special.Special.{Special}
use Rattle.c_expr_rules.specs.declared.special.Special.TheVariants.{Printing, Atomic}
use Rattle.c_expr_rules.specs.declared.printer.Printer.{Printer}
use Rattle.c_expr_rules.specs.Expressions.{Around, Level, Arithmetic, Logical, by_level, first_test, logic, prefixed, typed_expression, typed_value, special_named, name_in, typed_special, is_call, is_text, is_too_long}
use Rattle.c_expr_rules.specs.declared.typed.Tests.{Tests}
use Rattle.c_check_expr.specs.Lists.{begin_list, begin_of, first_operator, operand_of, argument_list, print_list, format_in, level_list, link_list, with_tested, test_list, with_operator, with_link, with_second}
use Rattle.c_expr_rules.specs.Views.{Gives, Passes, seen_broken}
use Rattle.c_expr_rules.specs.declared.found.Fault.{Fault}
use Rattle.c_expr_rules.specs.declared.found.Fault.TheVariants as fault
use Rattle.c_check_expr.proofs.Outcomes.{Fails, next_same, next_goes, behind_passed, fails_at}
use Rattle.c_check_expr.proofs.Lists.{operator_stops, over_stops, values_before}

pub given_fails : {A : Type 0} (s : State) (f : Fault) (answer : Checked A) → Gives s (Err f) answer → Fails f answer
given_fails s (fault.Broke broken) answer h = h
given_fails s fault.NoMemory answer h = h

pub prefixed_stops : (line : ℕ) (local : Option ℕ) (o : Prefix) (b : Broken) → prefixed line local o (Broke b) ≡ Broke b
prefixed_stops line local prefix.Increment b = refl
prefixed_stops line local prefix.Decrement b = refl
prefixed_stops line local prefix.AddressOf b = refl
prefixed_stops line local prefix.Dereference b = refl
prefixed_stops line local prefix.Plus b = refl
prefixed_stops line local prefix.Minus b = refl
prefixed_stops line local prefix.Complement b = refl
prefixed_stops line local prefix.Not b = refl

-- ---- steps over a list stop at a broken rule

pub with_operator_stops : (around : Around) (line : ℕ) (b : Broken) (o : Postfix) → with_operator around line (Broke b) o ≡ Broke b
with_operator_stops around line b o = operator_stops around line b o.kind

pub with_link_stops : (around : Around) (line : ℕ) (b : Broken) (l : Link) → with_link around line (Broke b) l ≡ Broke b
with_link_stops around line b l = refl

pub with_tested_stops : (around : Around) (line : ℕ) (all : Bool) (b : Broken) (l : Link) → with_tested around line all (Broke b) l ≡ Broke b
with_tested_stops around line all b l = refl

pub with_second_stops : (around : Around) (line : ℕ) (b : Broken) (e : Expr) → with_second around line (Broke b) e ≡ Broke b
with_second_stops around line b e = refl

-- ---- the first operator behind an operand

pub none_left : {A : Type 0} (xs : List A) → length xs ≤ 0 → xs ≡ []
none_left [] h = refl
none_left (x ∷ xs) h = absurd (omega (arith, h))

pub first_left : {A : Type 0} (xs : List A) (x : A) → 0 < length xs → x ≡ get_or xs 0 x → xs ≡ x ∷ drop 1 xs
first_left [] x h p = absurd (omega (arith, h))
first_left (y ∷ ys) x h p = ap (λ z. z ∷ ys) (sym p)

pub split_left : {A : Type 0} (xs : List A) (x : A) → 0 < length xs → x ≡ get_or xs 0 x → xs ≡ x ∷ take (length xs - 1) (drop 1 xs)
split_left [] x h p = absurd (omega (arith, h))
split_left (y ∷ ys) x h p =
    let same : length (y ∷ ys) - 1 ≡ length ys = omega arith in
    let whole : length ys ≤ length ys = omega arith in
    ap (λ z. z ∷ ys) (sym p) ∙ ap (λ l. x ∷ l) (sym (ap (λ n. take n ys) same ∙ take_all (length ys) ys whole))

pub begin_none : (around : Around) (line : ℕ) (s : State) (e : Expr) (os : List Postfix) → os ≡ [] → begin_of around line s e os ≡ typed_expression around s e
begin_none around line s e os h = ap (begin_of around line s e) h

pub begin_some :
    (around : Around) (line : ℕ) (s : State) (e : Expr) (os rest : List Postfix) (o : Postfix) (what : Option Special) → os ≡ o ∷ rest → what ≡ special_named around s (name_in e.kind) →
    begin_of around line s e os ≡ first_operator around line s what (operand_of around s e os) o.kind
begin_some around line s e os rest o what h w =
    ap (λ l. begin_list around line s (special_named around s (name_in e.kind)) (operand_of around s e os) l) h
    ∙ ap (λ w. first_operator around line s w (operand_of around s e os) o.kind) (sym w)

-- what stands behind a name that only a call knows, and is no call
pub special_stops :
    (around : Around) (line : ℕ) (s : State) (what : Special) (found : Checked Typed) (k : PostfixKind) → is_call k ≡ false → typed_special around line s what found k ≡ inner found
special_stops around line s (Printing f) found (Call' z arguments) h = cc
special_stops around line s (Printing f) found (Index' p i) h = refl
special_stops around line s (Printing f) found (Member n) h = refl
special_stops around line s (Printing f) found (Arrow n) h = refl
special_stops around line s (Printing f) found Increment h = refl
special_stops around line s (Printing f) found Decrement h = refl
special_stops around line s (Atomic what) found (Call' z arguments) h = cc
special_stops around line s (Atomic what) found (Index' p i) h = refl
special_stops around line s (Atomic what) found (Member n) h = refl
special_stops around line s (Atomic what) found (Arrow n) h = refl
special_stops around line s (Atomic what) found Increment h = refl
special_stops around line s (Atomic what) found Decrement h = refl

-- ---- a call

pub call_goes :
    (around : Around) (line : ℕ) (found : Checked Typed) (args : List Expr) (s t : State) (named f : Typed) (wanted : Wanted) (a : Arguments) →
    found ≡ Fine s named → read s named ≡ Fine s f → wanted ≡ wanted_by (signature_of s f) → argument_list around wanted s args ≡ Fine t a →
    next found (λ s t. next (read s t) (λ s f. next (argument_list around (wanted_by (signature_of s f)) s args) (λ s a. call around.intrinsic around.kind_of line t.place f s a)))
    ≡ call around.intrinsic around.kind_of line named.place f t a
call_goes around line found args s t named f wanted a p q w r =
    next_goes found _ s named p
    ∙ next_goes (read s named) _ s f q
    ∙ next_goes (argument_list around (wanted_by (signature_of s f)) s args) _ t a (ap (λ w. argument_list around w s args) (sym w) ∙ r)

pub call_fails :
    (around : Around) (line : ℕ) (found : Checked Typed) (args : List Expr) (s t : State) (named f : Typed) (wanted : Wanted) (fault : Fault) →
    found ≡ Fine s named → read s named ≡ Fine s f → wanted ≡ wanted_by (signature_of s f) → Passes t (Err fault) (argument_list around wanted s args) →
    Fails fault (next found (λ s t. next (read s t) (λ s f. next (argument_list around (wanted_by (signature_of s f)) s args) (λ s a. call around.intrinsic around.kind_of line t.place f s a))))
call_fails around line found args s t named f wanted fault p q w h =
    let go = λ (s : State) (a : Arguments). call around.intrinsic around.kind_of line named.place f s a in
    fails_at fault _ (next (argument_list around wanted s args) go)
    (next_goes found _ s named p
    ∙ next_goes (read s named) _ s f q
    ∙ ap (λ w. next (argument_list around w s args) go) (sym w))
    (behind_passed t fault (argument_list around wanted s args) go h)

-- ---- arguments before there are any

-- what the next construct gives breaks a rule only where an earlier one does
next_settled : {A B : Type 0} (c : Checked A) (go : State → A → Checked B) → ((s : State) (x : A) → inner (go s x) ≡ go s x) → inner (next c go) ≡ next c go
next_settled (Fine s x) go h = h s x
next_settled (Breaks broken s known) go h = refl
next_settled (Broke broken) go h = refl

arguments_settled : (around : Around) (wanted : Wanted) (s : State) (args : List Expr) → inner (argument_list around wanted s args) ≡ argument_list around wanted s args
arguments_settled around wanted s [] = refl
arguments_settled around wanted s (e ∷ rest) =
    let more = λ (x : Typed) (s : State) (a : Arguments). Fine s (with_argument x a) in
    let go = λ (s : State) (x : Typed). next (argument_list around (following s wanted) s rest) (more x) in
    next_settled (argument e.span.line s wanted (typed_value around s e)) go (λ s x. next_settled (argument_list around (following s wanted) s rest) (more x) (λ s a. refl))

pub values_none : (around : Around) (wanted : Wanted) (s : State) (args : List Expr) → values_before [] (argument_list around wanted s args) ≡ argument_list around wanted s args
values_none around wanted s args =
    let before : Arguments → Arguments = λ a. record a { values = [] ++ a.values } in
    let listed : Checked Arguments = argument_list around wanted s args in
    next_same listed (λ (s : State) (a : Arguments). Fine s (before a)) (λ (s : State) (a : Arguments). Fine s a) (λ s a. refl) ∙ arguments_settled around wanted s args

-- ---- a level of `&&` or `||`: there is an operand behind the first, so what the first breaks is an earlier construct's rule

pub tests_begin :
    (around : Around) (line : ℕ) (all : Bool) (links : List Link) (found : Checked Typed) → level_list links ≡ Logical all →
    test_list around line all (outcome_with first_test (o.inner found)) links ≡ test_list around line all (outcome_with first_test found) links
tests_begin around line all [] found h = cc
tests_begin around line all (l ∷ links) (Fine s x) h = refl
tests_begin around line all (l ∷ links) (Breaks broken s None) h = refl
tests_begin around line all (l ∷ links) (Breaks broken s (Some x)) h = refl
tests_begin around line all (l ∷ links) (Broke broken) h = refl

-- ---- a call of `printf`

by_one : (line rule : ℕ) (b : Bool) (s : State) (x y : List ℕ) → by_rules line (rule breaks b ∷ []) s x ≡ Fine s y → x ≡ y
by_one line rule true s x y h = cc
by_one line rule false s x y h = cc

pub format_is : (around : Around) (span : Span) (s : State) (bytes : List ℕ) → format_in around span s ≡ Fine s bytes → around.text span.first span.last ≡ bytes
format_is around span s bytes h =
    by_one span.line 5 (is_too_long (around.text span.first span.last)) s (around.text span.first span.last) bytes h

pub print_is_text :
    (around : Around) (f : Printer) (line : ℕ) (s : State) (e : Expr) (rest : List Expr) → is_text e.kind ≡ true →
    print_list around f line s (e ∷ rest)
    ≡ next (format_in around e.span s) (λ s bytes. next (argument_list around Anything s rest) (λ s a. print_call line f (around.text e.span.first e.span.last) s a))
print_is_text around f line s e rest h = rw h

pub print_is_other :
    (around : Around) (f : Printer) (line : ℕ) (s : State) (e : Expr) (rest : List Expr) → is_text e.kind ≡ false →
    print_list around f line s (e ∷ rest) ≡ next (typed_value around s e) (λ s x. next (argument_list around Anything s rest) (λ s a. bad_print line f s a))
print_is_other around f line s e rest h = rw h

-- ---- operators of one level

-- a rule that is broken before them
pub level_stops :
    (around : Around) (line : ℕ) (l : Level) (links : List Link) (b : Broken) →
    by_level l (link_list around line (Broke b) links) (λ all. outcome_with (logic line all) (test_list around line all (outcome_with first_test (Broke b)) links)) ≡ Broke b
level_stops around line Arithmetic links b = over_stops (with_link around line) (with_link_stops around line) b links
level_stops around line (Logical all) links b =
    ap (outcome_with (logic line all)) (over_stops (with_tested around line all) (with_tested_stops around line all) b links)

-- where the first operand breaks one
pub tests_fail :
    (around : Around) (line : ℕ) (all : Bool) (links : List Link) (found : Checked Typed) (s : State) (f : Fault) → level_list links ≡ Logical all → Passes s (Err f) found →
    Fails f (outcome_with (logic line all) (test_list around line all (outcome_with first_test found) links))
tests_fail around line all links found s (fault.Broke broken) l h =
    ap (outcome_with (logic line all))
    (sym (tests_begin around line all links found l)
    ∙ ap (λ x. test_list around line all (outcome_with first_test x) links) h
    ∙ over_stops (with_tested around line all) (with_tested_stops around line all) (seen_broken broken) links)
tests_fail around line all links found s fault.NoMemory l h = h

-- what fails in all operands together
pub logic_fails : (line : ℕ) (all : Bool) (f : Fault) (tests : Checked Tests) → Fails f tests → Fails f (outcome_with (logic line all) tests)
logic_fails line all (fault.Broke broken) tests h = ap (outcome_with (logic line all)) h
logic_fails line all fault.NoMemory tests h = h
