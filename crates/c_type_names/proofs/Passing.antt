-- What is found of an expression, where it breaks no rule.
use Rattle.std.proofs.Common.{Ok, sym, subst}
use Rattle.std.specs.Prelude.{Result}
use Rattle.c_expr_rules.specs.Outcomes.{State, Checked}
use Rattle.c_expr_rules.specs.Views.{Passes, Gives, checked}
use Rattle.c_expr_rules.specs.declared.found.Fault.{Fault}
use Rattle.c_expr_rules.specs.declared.found.Found.{Found}

pub passes_on :
    {A : Type 0} (s : State) (found : Found A) (r : Result A Fault) (answer : Checked A) →
    Gives s (Ok found) answer → ((t : State) → Passes t r (checked t found)) → Passes s r answer
passes_on {A} s found r answer gives passes = subst (λ (a : Checked A). Passes s r a) (sym gives) (passes s)
