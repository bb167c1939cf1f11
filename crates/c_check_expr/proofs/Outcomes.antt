-- From one construct to the next, as the definitions go.
use Rattle.std.proofs.Common.{◌≡◌, refl, sym, ap, ◌∙◌, subst}
use Rattle.std.specs.Prelude.{Result, Err}
use Rattle.c_expr_rules.specs.Outcomes as o
use Rattle.c_expr_rules.specs.declared.found.Fault.{Fault}
use Rattle.c_expr_rules.specs.declared.found.Fault.TheVariants as fault
use Rattle.c_expr_rules.specs.declared.found.Found.{Found}
use Rattle.c_expr_rules.specs.Views.{seen_broken, Gives, Passes}

pub next_inner : {A B : Type 0} (c : o.Checked A) (go : o.State → A → o.Checked B) → o.next (o.inner c) go ≡ o.next c go
next_inner (o.Fine s x) go = refl
next_inner (o.Breaks broken s known) go = refl
next_inner (o.Broke broken) go = refl

-- where this one breaks a rule, or an earlier one did, nothing is looked at behind it
pub next_stops : {A B : Type 0} (c : o.Checked A) (go : o.State → A → o.Checked B) (b : o.Broken) → o.inner c ≡ o.Broke b → o.next c go ≡ o.Broke b
next_stops c go b e = sym (next_inner c go) ∙ ap (λ c. o.next c go) e

pub next_goes : {A B : Type 0} (c : o.Checked A) (go : o.State → A → o.Checked B) (s : o.State) (x : A) → c ≡ o.Fine s x → o.next c go ≡ go s x
next_goes c go s x e = ap (λ c. o.next c go) e

-- the next construct is the same where what is made of each state and value is
pub next_same :
    {A B : Type 0} (c : o.Checked A) (f g : o.State → A → o.Checked B) → ((s : o.State) (x : A) → f s x ≡ g s x) → o.next c f ≡ o.next c g
next_same (o.Fine s x) f g h = h s x
next_same (o.Breaks broken s known) f g h = refl
next_same (o.Broke broken) f g h = refl

-- ---- calls that fail

-- this outcome is what such a fault says
abbrev pub Fails : {A : Type 0} → Fault → o.Checked A → Type 0
Fails (fault.Broke broken) answer = answer ≡ o.Broke (seen_broken broken)
Fails fault.NoMemory answer = Unit {0}

pub gives_fault : {A : Type 0} (s : o.State) (f : Fault) (answer : o.Checked A) → Fails f answer → Gives s (Err f) answer
gives_fault s (fault.Broke broken) answer h = h
gives_fault s fault.NoMemory answer h = h

pub gives_err : {A : Type 0} (s : o.State) (r : Result (Found A) Fault) (f : Fault) (answer : o.Checked A) → r ≡ Err f → Fails f answer → Gives s r answer
gives_err s r f answer e h = subst (λ r. Gives s r answer) (sym e) (gives_fault s f answer h)

pub passes_fault : {A : Type 0} (s : o.State) (f : Fault) (answer : o.Checked A) → Fails f answer → Passes s (Err f) answer
passes_fault s (fault.Broke broken) answer h = ap o.inner h
passes_fault s fault.NoMemory answer h = h

pub passes_err : {A : Type 0} (s : o.State) (r : Result A Fault) (f : Fault) (answer : o.Checked A) → r ≡ Err f → Fails f answer → Passes s r answer
passes_err s r f answer e h = subst (λ r. Passes s r answer) (sym e) (passes_fault s f answer h)

-- what comes behind a call that failed isn't looked at
pub behind_passed : {A B : Type 0} (s : o.State) (f : Fault) (first : o.Checked A) (go : o.State → A → o.Checked B) → Passes s (Err f) first → Fails f (o.next first go)
behind_passed s (fault.Broke broken) first go h = next_stops first go (seen_broken broken) h
behind_passed s fault.NoMemory first go h = h

pub through_given : {A B : Type 0} (s : o.State) (f : Fault) (first : o.Checked A) (h : o.Checked A → o.Checked B) → ((b : o.Broken) → h (o.Broke b) ≡ o.Broke b) → Gives s (Err f) first → Fails f (h first)
through_given s (fault.Broke broken) first h stop e = ap h e ∙ stop (seen_broken broken)
through_given s fault.NoMemory first h stop e = e

pub behind_given : {A B : Type 0} (s : o.State) (f : Fault) (first : o.Checked A) (go : o.State → A → o.Checked B) → Gives s (Err f) first → Fails f (o.next first go)
behind_given s f first go e = through_given s f first (λ c. o.next c go) (λ b. refl) e

pub fails_at : {A : Type 0} (f : Fault) (a b : o.Checked A) → a ≡ b → Fails f b → Fails f a
fails_at f a b e h = subst (Fails f) (sym e) h
