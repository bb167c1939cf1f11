-- Constructs in turn, each looked at behind those before it.
use Rattle.std.proofs.Common.{◌≡◌, ◌∙◌, ap}
use Rattle.c_expr_rules.specs.Outcomes.{State, Checked, Fine, next}
use Rattle.c_expr_rules.specs.declared.found.Fault.{Fault}
use Rattle.c_expr_rules.specs.declared.found.Fault.TheVariants as fault
use Rattle.c_check_expr.proofs.Outcomes.{Fails, next_goes, fails_at}

-- this one breaks no rule, and the rest gives this
pub goes :
    {A B : Type 0} (c : Checked A) (go : State → A → Checked B) (s : State) (x : A) (answer : Checked B) →
    c ≡ Fine s x → go s x ≡ answer → next c go ≡ answer
goes c go s x answer p q = next_goes c go s x p ∙ q

-- this one breaks no rule, and the rest does
pub stops :
    {A B : Type 0} (c : Checked A) (go : State → A → Checked B) (s : State) (x : A) (f : Fault) →
    c ≡ Fine s x → Fails f (go s x) → Fails f (next c go)
stops c go s x f p h = fails_at f (next c go) (go s x) (next_goes c go s x p) h

-- what comes behind what fails isn't looked at
pub failed_behind : {A B : Type 0} (f : Fault) (c : Checked A) (go : State → A → Checked B) → Fails f c → Fails f (next c go)
failed_behind (fault.Broke broken) c go h = ap (λ c. next c go) h
failed_behind fault.NoMemory c go h = h
