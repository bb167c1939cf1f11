-- Constructs one after another, a construct that breaks a rule by its name, and what is round constructs.
use Rattle.std.specs.Prelude.{ℕ, Bool, List, [], ◌∷◌, ◌++◌, if◌then◌else◌, Option, Some, None}
use Rattle.c_rules.specs.declared.rule.Rule.{Rule as CRule}
use Rattle.c_rules.specs.Rules.{number_of}
use Rattle.c_expr_rules.specs.Expressions.{Around}
use Rattle.c_expr_rules.specs.Outcomes.{State, Checked, Fine, next, outcome_of}

-- what each of a list gives, in order
abbrev pub in_order : {A B : Type 0} → (State → A → Checked (List B)) → State → List A → Checked (List B)
in_order look s [] = Fine s []
in_order look s (x ∷ xs) =
    next (look s x) (λ s first. next (in_order look s xs) (λ s others. Fine s (first ++ others)))

-- a rule of the table of rules, where one is broken
abbrev pub number_in : Option CRule → Option ℕ
number_in None = None
number_in (Some r) = Some (number_of r)

abbrev pub when : Bool → CRule → Option CRule
when is_broken r = if is_broken then Some r else None

-- a construct that breaks this rule, if one
abbrev pub by_rule : {A : Type 0} → (line : ℕ) → Option CRule → State → A → Checked A
by_rule line broken s x = outcome_of line (number_in broken) s x

-- what is round the expressions in a construct
pub record Here : Type 0 where
  pub around : Around
  -- the number of a function by its name's and by whether it is from int to int, and whether a token is a library
  -- header's
  pub function_number : (takes_and_gives_int : Bool) → (name : ℕ) → ℕ
  pub is_library : ℕ → Bool
