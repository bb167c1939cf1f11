-- One element of a list after the other, as the loops go: to the end, or to a rule that is broken.
use Rattle.std.proofs.Common.{◌≡◌, ℕ, ◌+◌, ◌<◌, ◌≤◌, List, [], ◌∷◌, ◌++◌, length, get_or, drop, append_assoc, append-nil, refl, sym, ap, ◌∙◌, subst}
use Rattle.std.proofs.lemmas.List.{at_drop_all, at_drop_more}
use Rattle.std.specs.Prelude.{Option, Some, None, Result, Ok, Err, IsErrAnd}
use Rattle.c_syntax.specs.declared.expr.Expr.{Expr}
use Rattle.c_expr_rules.specs.Outcomes as o
use Rattle.c_expr_rules.specs.Outcomes.{State, Checked, Fine, Broke, Broken, next, inner}
use Rattle.c_expr_rules.specs.declared.typed.Typed.{Typed}
use Rattle.c_syntax.specs.declared.expr.ExprKind.{ExprKind}
use Rattle.c_expr_rules.specs.Reading.{read_found}
use Rattle.c_expr_rules.specs.Calls.{argument_to, argument, following, no_arguments, with_argument}
use Rattle.c_expr_rules.specs.declared.arguments.Wanted.{Wanted}
use Rattle.c_expr_rules.specs.declared.arguments.Arguments.{Arguments}
use Rattle.c_expr_rules.specs.Expressions.{Around, typed_kind, typed_expression, typed_value}
use Rattle.c_check_expr.specs.Lists.{gone_over, argument_list}
use Rattle.c_expr_rules.specs.Views.{Gives, Passes, checked, seen_broken}
use Rattle.c_expr_rules.specs.declared.found.Found.{Found}
use Rattle.c_expr_rules.specs.declared.found.Fault.{Fault}
use Rattle.c_expr_rules.specs.declared.found.Fault.TheVariants as fault
use Rattle.c_check_expr.proofs.Outcomes.{Fails, next_goes, behind_passed, next_stops, through_given, fails_at, gives_fault, passes_fault}
use Rattle.c_check_expr.proofs.Lists.{over_stops, values_before}

-- where the next element breaks a rule, all of the list does
pub over_fails :
    {A X : Type 0} (step : Checked A → X → Checked A) → ((b : Broken) (x : X) → step (Broke b) x ≡ Broke b) →
    (f : Fault) (found : Checked A) (x : X) (xs : List X) → Fails f (step found x) → Fails f (gone_over step found (x ∷ xs))
over_fails step stop (fault.Broke broken) found x xs h = ap (λ c. gone_over step c xs) h ∙ over_stops step stop (seen_broken broken) xs
over_fails step stop fault.NoMemory found x xs h = h

-- ---- two values in turn

-- both are there
pub two_go :
    {A B C : Type 0} (first : Checked A) (second : State → Checked B) (go : State → A → State → B → Checked C) (s t : State) (x : A) (y : B) (answer : Checked C) →
    first ≡ Fine s x → second s ≡ Fine t y → answer ≡ go s x t y → next first (λ s x. next (second s) (λ t y. go s x t y)) ≡ answer
two_go first second go s t x y answer p q r =
    next_goes first (λ s x. next (second s) (λ t y. go s x t y)) s x p ∙ next_goes (second s) (λ t y. go s x t y) t y q ∙ sym r

-- the second isn't
pub second_fails :
    {A B C : Type 0} (first : Checked A) (second : State → Checked B) (go : State → A → State → B → Checked C) (s t : State) (x : A) (f : Fault) →
    first ≡ Fine s x → Passes t (Err f) (second s) → Fails f (next first (λ s x. next (second s) (λ t y. go s x t y)))
second_fails first second go s t x f p q =
    rw (next_goes first (λ s x. next (second s) (λ t y. go s x t y)) s x p) (behind_passed t f (second s) (λ t y. go s x t y) q)

-- three values in turn, and then the third isn't there
pub three_go :
    {A B C D : Type 0} (first : Checked A) (second : State → Checked B) (third : State → Checked C) (go : A → B → State → C → Checked D)
    (s t u : State) (x : A) (y : B) (z : C) (answer : Checked D) →
    first ≡ Fine s x → second s ≡ Fine t y → third t ≡ Fine u z → answer ≡ go x y u z →
    next first (λ s x. next (second s) (λ t y. next (third t) (λ u z. go x y u z))) ≡ answer
three_go first second third go s t u x y z answer p q r e =
    two_go first second (λ s x t y. next (third t) (λ u z. go x y u z)) s t x y (next (third t) (λ u z. go x y u z)) p q refl
    ∙ next_goes (third t) (λ u z. go x y u z) u z r ∙ sym e

pub third_fails :
    {A B C D : Type 0} (first : Checked A) (second : State → Checked B) (third : State → Checked C) (go : A → B → State → C → Checked D)
    (s t u : State) (x : A) (y : B) (f : Fault) →
    first ≡ Fine s x → second s ≡ Fine t y → Passes u (Err f) (third t) →
    Fails f (next first (λ s x. next (second s) (λ t y. next (third t) (λ u z. go x y u z))))
third_fails first second third go s t u x y f p q r =
    rw (two_go first second (λ s x t y. next (third t) (λ u z. go x y u z)) s t x y (next (third t) (λ u z. go x y u z)) p q refl)
    (behind_passed u f (third t) (λ u z. go x y u z) r)

-- ---- what all of a construct gives, by what a call in it gave

pub gives_same : {A : Type 0} (s : State) (r : Result (Found A) Fault) (a b : Checked A) → a ≡ b → Gives s r b → Gives s r a
gives_same s r a b e h = subst (Gives s r) (sym e) h

pub passes_same : {A : Type 0} (s : State) (r : Result A Fault) (a b : Checked A) → a ≡ b → Passes s r b → Passes s r a
passes_same s r a b e h = subst (Passes s r) (sym e) h

-- where the call failed, with its fault handed on
pub gives_failed : {A : Type 0} (s : State) (r : Result (Found A) Fault) (f : Fault) (a : Checked A) → IsErrAnd r (λ e. e ≡ f) → Fails f a → Gives s r a
gives_failed s (Ok x) f a h w = absurd h
gives_failed s (Err e) f a h w = gives_fault s e a (subst (λ e. Fails e a) (sym h) w)

pub passes_failed : {A : Type 0} (s : State) (r : Result A Fault) (f : Fault) (a : Checked A) → IsErrAnd r (λ e. e ≡ f) → Fails f a → Passes s r a
passes_failed s (Ok x) f a h w = absurd h
passes_failed s (Err e) f a h w = passes_fault s e a (subst (λ e. Fails e a) (sym h) w)

-- the value of what is found, for the next construct
pub value_passes :
    (s : State) (answer : Checked Typed) (found value : Found Typed) (r : Result Typed Fault) →
    answer ≡ checked s found → checked s value ≡ read_found (checked s found) → Passes s r (checked s value) → Passes s r (read_found answer)
value_passes s answer found value r p q h = passes_same s r (read_found answer) (checked s value) (ap read_found p ∙ sym q) h

pub value_fails : (s : State) (f : Fault) (answer : Checked Typed) → Gives s (Err f) answer → Fails f (read_found answer)
value_fails s f answer h = through_given s f answer read_found (λ b. refl) h

-- an expression of this kind
pub of_kind : (around : Around) (s : State) (e : Expr) (k : ExprKind) → e.kind ≡ k → typed_expression around s e ≡ typed_kind around e.span s k
of_kind around s e k h = ap (λ k. typed_kind around e.span s k) h

-- the same expression
pub of_same : (around : Around) (s : State) (e other : Expr) → e ≡ other → typed_expression around s e ≡ typed_expression around s other
of_same around s e other h = ap (typed_expression around s) h

-- ---- loops, of which this is left

-- one element more
pub over_goes :
    {A X : Type 0} (step : Checked A → X → Checked A) (xs : List X) (i : ℕ) (x : X) (found more whole : Checked A) →
    i < length xs → x ≡ get_or xs i x → step found x ≡ more → gone_over step found (drop i xs) ≡ whole → gone_over step more (drop (i + 1) xs) ≡ whole
over_goes step xs i x found more whole within item p so_far =
    ap (λ c. gone_over step c (drop (i + 1) xs)) (sym p ∙ ap (step found) item) ∙ sym (at_drop_more (gone_over step found) xs i x within) ∙ so_far

-- the next element breaks a rule
pub over_breaks :
    {A X : Type 0} (step : Checked A → X → Checked A) → ((b : Broken) (x : X) → step (Broke b) x ≡ Broke b) → (xs : List X) (i : ℕ) (x : X) (found whole : Checked A) (f : Fault) →
    i < length xs → x ≡ get_or xs i x → Fails f (step found x) → gone_over step found (drop i xs) ≡ whole → Fails f whole
over_breaks step stop xs i x found whole f within item h so_far =
    fails_at f whole (gone_over step found (get_or xs i x ∷ drop (i + 1) xs)) (sym so_far ∙ at_drop_more (gone_over step found) xs i x within)
    (over_fails step stop f found (get_or xs i x) (drop (i + 1) xs) (fails_at f (step found (get_or xs i x)) (step found x) (ap (step found) (sym item)) h))

-- the end
pub over_ends :
    {A X : Type 0} (step : Checked A → X → Checked A) (xs : List X) (i : ℕ) (found whole : Checked A) →
    length xs ≤ i → gone_over step found (drop i xs) ≡ whole → whole ≡ found
over_ends step xs i found whole past so_far = sym so_far ∙ at_drop_all (gone_over step found) xs i past

-- ---- arguments, of which these are there

pub values_more : (vs : List Typed) (x : Typed) (c : Checked Arguments) → values_before (vs ++ x ∷ []) c ≡ values_before vs (next c (λ s a. Fine s (with_argument x a)))
values_more vs x (Fine s a) = ap (λ (l : List Typed). Fine s (record a { values = l })) (append_assoc vs (x ∷ []) a.values)
values_more vs x (o.Breaks broken s known) = refl
values_more vs x (Broke broken) = refl

pub values_all : (vs : List Typed) (wanted : Wanted) (s : State) → values_before vs (Fine s (no_arguments wanted)) ≡ Fine s (record { values = vs; wanted = wanted })
values_all vs wanted s = ap (λ (l : List Typed). Fine s (record { values = l; wanted = wanted })) (append-nil vs)

pub argument_stops : (line : ℕ) (to : Option ℕ) (b : Broken) → argument_to line to (Broke b) ≡ Broke b
argument_stops line None b = refl
argument_stops line (Some number) b = refl

pub arguments_go :
    (around : Around) (args : List Expr) (i : ℕ) (e : Expr) (vs : List Typed) (wanted : Wanted) (s t : State) (x : Typed) (whole : Checked Arguments) →
    i < length args → e ≡ get_or args i e → argument e.span.line s wanted (typed_value around s e) ≡ Fine t x →
    values_before vs (argument_list around wanted s (drop i args)) ≡ whole →
    values_before (vs ++ x ∷ []) (argument_list around (following t wanted) t (drop (i + 1) args)) ≡ whole
arguments_go around args i e vs wanted s t x whole within item p so_far =
    let rest = λ (s : State) (x : Typed). next (argument_list around (following s wanted) s (drop (i + 1) args)) (λ s a. Fine s (with_argument x a)) in
    values_more vs x (argument_list around (following t wanted) t (drop (i + 1) args))
    ∙ ap (values_before vs) (sym (next_goes (argument e.span.line s wanted (typed_value around s e)) rest t x p))
    ∙ ap (λ (e : Expr). values_before vs (next (argument e.span.line s wanted (typed_value around s e)) rest)) item
    ∙ sym (at_drop_more (λ es. values_before vs (argument_list around wanted s es)) args i e within)
    ∙ so_far

pub arguments_fail :
    (around : Around) (args : List Expr) (i : ℕ) (e : Expr) (vs : List Typed) (wanted : Wanted) (s : State) (whole : Checked Arguments) (f : Fault) →
    i < length args → e ≡ get_or args i e → Fails f (inner (argument e.span.line s wanted (typed_value around s e))) →
    values_before vs (argument_list around wanted s (drop i args)) ≡ whole → Fails f whole
arguments_fail around args i e vs wanted s whole (fault.Broke broken) within item h so_far =
    let rest = λ (s : State) (x : Typed). next (argument_list around (following s wanted) s (drop (i + 1) args)) (λ s a. Fine s (with_argument x a)) in
    sym so_far
    ∙ at_drop_more (λ es. values_before vs (argument_list around wanted s es)) args i e within
    ∙ ap (λ (e : Expr). values_before vs (next (argument e.span.line s wanted (typed_value around s e)) rest)) (sym item)
    ∙ ap (values_before vs) (next_stops (argument e.span.line s wanted (typed_value around s e)) rest (seen_broken broken) h)
arguments_fail around args i e vs wanted s whole fault.NoMemory within item h so_far = h
