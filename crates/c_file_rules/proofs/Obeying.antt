-- What a construct that obeys its rules, or breaks one, is in any state.
use Rattle.std.proofs.Common.{◌≡◌, ℕ, List, Some, None, Ok, Err, refl, sym, ap, ◌∙◌}
use Rattle.std.specs.Prelude.{Option, Result}
use Rattle.c_rules.specs.declared.rule.Rule.{Rule as CRule}
use Rattle.c_rules.specs.Rules.{number_of}
use Rattle.c_expr_rules.specs.Outcomes as o
use Rattle.c_expr_rules.specs.Outcomes.{State, Rule, outcome_of, first_broken, by_rules}
use Rattle.c_expr_rules.specs.Views.{Passes}
use Rattle.c_expr_rules.specs.declared.found.Fault.{Fault}
use Rattle.c_expr_rules.specs.declared.found.Fault.TheVariants as fault
use Rattle.c_file_rules.specs.Constructs.{by_rule, number_in}
use Rattle.c_file_rules.specs.Obeying.{Obeys}

pub obeyed : {A : Type 0} (s : State) (r : Result A Fault) (line : ℕ) (broken : Option ℕ) (x : A) → Obeys r line broken x → Passes s r (outcome_of line broken s x)
obeyed s (Ok y) line None x h = ap (o.Fine s) (sym h.1)
obeyed s (Ok y) line (Some n) x h = cc
obeyed s (Err (fault.Broke b)) line None x h = cc
obeyed s (Err (fault.Broke b)) line (Some n) x h =
    let number : n ≡ number_of b.rule = cc in
    λ i. o.Broke (record { rule = number i; line = sym h.1 i })
obeyed s (Err fault.NoMemory) line broken x h = absurd h

pub obeys_rules :
    {A : Type 0} (s : State) (r : Result A Fault) (line : ℕ) (rules : List Rule) (x : A) → Obeys r line (first_broken rules) x → Passes s r (by_rules line rules s x)
obeys_rules s r line rules x h = obeyed s r line (first_broken rules) x h

pub obeys_rule :
    {A : Type 0} (s : State) (r : Result A Fault) (line : ℕ) (broken : Option CRule) (x : A) → Obeys r line (number_in broken) x → Passes s r (by_rule line broken s x)
obeys_rule s r line broken x h = obeyed s r line (number_in broken) x h

-- what breaks a rule does so in every state, whatever it would be
pub breaks_anywhere :
    {A : Type 0} (s t : State) (r : Result A Fault) (line : ℕ) (broken : Option ℕ) (n : ℕ) (x y : A) → broken ≡ Some n → Obeys r line broken x → Passes s r (outcome_of line broken t y)
breaks_anywhere s t (Ok z) line None n x y e h = cc
breaks_anywhere s t (Ok z) line (Some m) n x y e h = cc
breaks_anywhere s t (Err (fault.Broke b)) line None n x y e h = cc
breaks_anywhere s t (Err (fault.Broke b)) line (Some m) n x y e h =
    let number : m ≡ number_of b.rule = cc in
    λ i. o.Broke (record { rule = number i; line = sym h.1 i })
breaks_anywhere s t (Err fault.NoMemory) line broken n x y e h = absurd h
