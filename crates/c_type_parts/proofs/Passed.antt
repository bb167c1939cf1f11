-- A construct behind one that is found, or behind one that breaks a rule.
use Rattle.std.proofs.Common.{◌≡◌, refl, sym, ap, ◌∙◌, subst}
use Rattle.std.specs.Prelude.{Result, Ok, Err, IsErrAnd}
use Rattle.c_expr_rules.specs.Outcomes.{State, Checked, Fine, Breaks, Broke, next, inner}
use Rattle.c_expr_rules.specs.Views.{Passes, seen_broken}
use Rattle.c_expr_rules.specs.declared.found.Fault.{Fault}
use Rattle.c_expr_rules.specs.declared.found.Fault.TheVariants as fault

next_inner : {A B : Type 0} (c : Checked A) (go : State → A → Checked B) → next (inner c) go ≡ next c go
next_inner (Fine s x) go = refl
next_inner (Breaks broken s known) go = refl
next_inner (Broke broken) go = refl

-- what comes behind a call that failed isn't looked at
pub passes_behind : {A B : Type 0} (s : State) (f : Fault) (first : Checked A) (go : State → A → Checked B) → Passes s (Err f) first → Passes s (Err f) (next first go)
passes_behind s (fault.Broke broken) first go h =
    ap inner (sym (next_inner first go) ∙ ap (λ c. next c go) h)
passes_behind s fault.NoMemory first go h = tt

-- by the same answer
pub passes_as : {A : Type 0} (s : State) (r : Result A Fault) (a b : Checked A) → b ≡ a → Passes s r a → Passes s r b
passes_as s r a b e h = subst (λ c. Passes s r c) (sym e) h

pub passes_failed :
    {A : Type 0} (s : State) (r : Result A Fault) (f : Fault) (a : Checked A) → IsErrAnd r (λ e. e ≡ f) → Passes s (Err f) a → Passes s r a
passes_failed s (Ok x) f a h w = absurd h
passes_failed s (Err e) f a h w = subst (λ (e : Fault). Passes s (Err e) a) (sym h) w
