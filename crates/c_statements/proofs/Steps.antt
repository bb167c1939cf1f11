-- From one step of the code to the next: a call that passed, and one that broke a rule.
use Rattle.std.proofs.Common.{◌≡◌, ℕ, List, refl, sym, ap, ◌∙◌, subst}
use Rattle.std.specs.Prelude.{Option, Result, Ok, Err, IsErrAnd}
use Rattle.c_rules.specs.Rules.{number_of}
use Rattle.c_expr_rules.specs.Outcomes.{State, Checked, Fine, Breaks, Broke, Broken, Rule, next, inner, outcome_of, first_broken, by_rules}
use Rattle.c_expr_rules.specs.Views.{Passes, Gives, checked, seen_broken}
use Rattle.c_expr_rules.specs.declared.found.Fault.{Fault}
use Rattle.c_expr_rules.specs.declared.found.Fault.TheVariants as fault
use Rattle.c_expr_rules.specs.declared.found.Found.{Found}
use Rattle.c_tree.specs.declared.stmt.Stmt.{Stmt}
use Rattle.c_file_rules.specs.Naming.{leaves}
use Rattle.c_statements.specs.Waiting.{nothing_asserted}
use Rattle.c_file_rules.specs.Obeying.{Obeys}
use Rattle.c_file_rules.specs.declared.switches.Switched.{Switched}
use Rattle.c_file_rules.specs.Switching.{told_switch}
use Rattle.c_check_expr.proofs.Outcomes.{Fails, next_goes, behind_passed, fails_at, passes_fault}
use Rattle.c_check_expr.proofs.Recursion.{passes_failed}
use Rattle.c_check_expr.proofs.Joined.{given_fails}
use Rattle.c_expr_rules.specs.Expressions.{Around}

-- one after another, as one after both
pub next_next :
    {A B C : Type 0} (c : Checked A) (f : State → A → Checked B) (g : State → B → Checked C) →
    next (next c f) g ≡ next c (λ s x. next (f s x) g)
next_next (Fine s x) f g = refl
next_next (Breaks broken s known) f g = refl
next_next (Broke broken) f g = refl

-- a call that failed, in the whole construct
pub stops :
    {A B : Type 0} (s t : State) (r : Result B Fault) (f : Fault) (whole : Checked B) (first : Checked A) (go : State → A → Checked B) →
    whole ≡ next first go → IsErrAnd r (λ e. e ≡ f) → Passes t (Err f) first → Passes s r whole
stops s t r f whole first go e h p =
    passes_failed s r f whole h (fails_at f whole (next first go) e (behind_passed t f first go p))

-- what breaks a rule in a scope, breaks it round the scope
pub leaves_fails : {A : Type 0} (f : Fault) (c : Checked A) → Fails f c → Fails f (leaves c)
leaves_fails (fault.Broke b) c h = ap leaves h
leaves_fails fault.NoMemory c h = h

-- behind what fails nothing is looked at
pub next_fails : {A B : Type 0} (f : Fault) (c : Checked A) (go : State → A → Checked B) → Fails f c → Fails f (next c go)
next_fails (fault.Broke b) c go h = ap (λ c. next c go) h
next_fails fault.NoMemory c go h = h

-- the next construct fails where this one passed
pub goes_fails :
    {A B : Type 0} (f : Fault) (c : Checked A) (go : State → A → Checked B) (s : State) (x : A) →
    c ≡ Fine s x → Fails f (go s x) → Fails f (next c go)
goes_fails f c go s x p h = fails_at f (next c go) (go s x) (next_goes c go s x p) h

-- ---- rules

-- a construct whose rules were obeyed, and one that broke one of them
pub rules_go :
    {A B : Type 0} (line : ℕ) (rules : List Rule) (broken : Option ℕ) (s : State) (x : A) (go : State → A → Checked B) →
    broken ≡ first_broken rules → Obeys {A = Unit {0}} (Ok tt) line broken tt → next (by_rules line rules s x) go ≡ go s x
rules_go line rules broken s x go e h = ap (λ b. next (outcome_of line b s x) go) (sym e ∙ h.0)

pub rules_fail :
    {A B : Type 0} (line : ℕ) (rules : List Rule) (broken : Option ℕ) (s : State) (x : A) (go : State → A → Checked B) (f : Fault) →
    broken ≡ first_broken rules → Obeys {A = Unit {0}} (Err f) line broken tt → Fails f (next (by_rules line rules s x) go)
rules_fail line rules broken s x go (fault.Broke b) e h =
    ap (λ n. next (outcome_of line n s x) go) (sym e ∙ h.0) ∙ (λ i. Broke (record { rule = number_of b.rule; line = sym h.1 i }))
rules_fail line rules broken s x go fault.NoMemory e h = absurd h

-- what is made of what passed
pub made_from :
    {A B : Type 0} (first : Checked A) (make : A → B) (s : State) (x : A) (y : B) →
    first ≡ Fine s x → y ≡ make x → next first (λ s x. Fine s (make x)) ≡ Fine s y
made_from first make s x y p e = next_goes first (λ s x. Fine s (make x)) s x p ∙ ap (Fine s) (sym e)

-- ---- what is checked by what is round a scene

pub passed_at :
    {A : Type 0} (look : Around → Checked A) (a b : Around) (s : State) (found : Found A) (r : Result A Fault) →
    a ≡ b → look a ≡ checked s found → ((t : State) → Passes t r (checked t found)) → Passes s r (look b)
passed_at look a b s found r e h p = subst (Passes s r) (sym h ∙ ap look e) (p s)

pub failed_at :
    {A : Type 0} (look : Around → Checked A) (a b : Around) (s : State) (r : Result A Fault) (f : Fault) →
    a ≡ b → Gives s (Err f) (look a) → IsErrAnd r (λ e. e ≡ f) → Passes s r (look b)
failed_at look a b s r f e g h = passes_failed s r f (look b) h (fails_at f (look b) (look a) (ap look (sym e)) (given_fails s f (look a) g))

pub value_at :
    {A : Type 0} (look : Around → Checked A) (a b : Around) (s : State) (r : Result A Fault) → a ≡ b → Passes s r (look a) → Passes s r (look b)
value_at look a b s r e p = subst (Passes s r) (ap look e) p

pub gives_at :
    {A : Type 0} (look : Around → Checked A) (a b : Around) (s : State) (r : Result (Found A) Fault) → a ≡ b → Gives s r (look a) → Gives s r (look b)
gives_at look a b s r e p = subst (Gives s r) (ap look e) p

-- ---- a call that failed, handed on

pub passes_err_on : {A : Type 0} (s : State) (r : Result A Fault) (f : Fault) (c : Checked A) → IsErrAnd r (λ e. e ≡ f) → Passes {A = A} s (Err f) c → Passes s r c
passes_err_on s (Ok x) f c h p = absurd h
passes_err_on {A} s (Err e) f c h p = subst (λ (f : Fault). Passes {A = A} s (Err f) c) (sym h) p

leaves_inner : {A : Type 0} (c : Checked A) (b : Broken) → inner c ≡ Broke b → inner (leaves c) ≡ Broke b
leaves_inner (Fine s x) b h = cc
leaves_inner (Breaks e s known) b h = h
leaves_inner (Broke e) b h = h

-- out of a scope
pub leaves_passes : {A : Type 0} (t : State) (f : Fault) (c : Checked A) → Passes {A = A} t (Err f) c → Passes {A = A} t (Err f) (leaves c)
leaves_passes t (fault.Broke b) c p = leaves_inner c (seen_broken b) p
leaves_passes t fault.NoMemory c p = p

pub asserted_fails : (s : State) (r : Result (Unit {0}) Fault) (f : Fault) (a : Checked (List Stmt)) → IsErrAnd r (λ e. e ≡ f) → Fails f a → Passes s (nothing_asserted r) a
asserted_fails s (Ok x) f a h w = absurd h
asserted_fails s (Err e) f a h w = passes_fault s e a (subst (λ (f : Fault). Fails f a) (sym h) w)

-- ---- what stands in a switch, with the switch that a call left

pub switch_fails : (s : State) (w : Switched) (r : Result (Unit {0}) Fault) (f : Fault) (a : Checked Switched) → IsErrAnd r (λ e. e ≡ f) → Fails f a → Passes s (told_switch w r) a
switch_fails s w (Ok x) f a h p = absurd h
switch_fails s w (Err e) f a h p = passes_fault s e a (subst (λ (f : Fault). Fails f a) (sym h) p)

pub asserted_in : (t : State) (r : Result (Unit {0}) Fault) (c : Checked (List Stmt)) (w : Switched) → Passes t (nothing_asserted r) c → Passes t (told_switch w r) (next c (λ s none. Fine s w))
asserted_in t (Ok x) c w h = ap (λ (c : Checked (List Stmt)). next c (λ s none. Fine s w)) h
asserted_in t (Err f) c w h = passes_fault t f (next c (λ s none. Fine s w)) (behind_passed t f c (λ s none. Fine s w) h)
