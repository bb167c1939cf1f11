-- Rules that one construct obeys are obeyed by any other that stands for it, and a rule that one breaks is broken by it.
use Rattle.std.proofs.Common.{◌≡◌, ℕ, List, ap, sym, ◌∙◌}
use Rattle.std.specs.Prelude.{Option, Some, None, Result, Ok, Err}
use Rattle.c_rules.specs.Rules.{number_of}
use Rattle.c_expr_rules.specs.Outcomes as o
use Rattle.c_expr_rules.specs.declared.found.Fault.{Fault}
use Rattle.c_expr_rules.specs.declared.found.Fault.TheVariants as fault
use Rattle.c_expr_rules.specs.Views.{Passes}
use Rattle.c_file_rules.specs.Obeying.{Obeys}

pub obeyed : {A B : Type 0} (line : ℕ) (s : o.State) (rules : List o.Rule) (x : A) (y : B) → Obeys (Ok x) line (o.first_broken rules) x
    → o.by_rules line rules s y ≡ o.Fine s y
obeyed line s rules x y h = ap (λ r. o.outcome_of line r s y) h.0

pub broken : {A B : Type 0} (line : ℕ) (s : o.State) (rules : List o.Rule) (f : Fault) (x : A) (y : B)
    → Obeys {A = A} (Err f) line (o.first_broken rules) x → Passes {A = B} s (Err f) (o.by_rules line rules s y)
broken line s rules (fault.Broke b) x y h =
    ap (λ r. o.inner (o.outcome_of line r s y)) h.0 ∙ (λ i. o.Broke (record { rule = number_of b.rule; line = sym h.1 i }))
broken line s rules fault.NoMemory x y h = absurd h
