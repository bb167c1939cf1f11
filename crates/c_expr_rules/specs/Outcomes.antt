-- What is found of a construct: what it is, or the first rule that is broken.
--
-- Constructs are looked at in the order of their last token, the inner one first, and a construct only where all earlier
-- ones broke no rule. So what is found goes from one to the next by `next`. Of several rules that one construct breaks the
-- lowest decides. Some rules are looked at by what stands round an expression, though the expression itself is the
-- construct that breaks them: a bad argument, a bad constant, a condition that is no scalar. So a rule that a construct
-- breaks by itself leaves room for a lower one, with what is known of the construct in spite of it.
use Rattle.std.specs.Prelude.{ℕ, Bool, true, false, not, nat_lt, ◌==◌, ◌&&◌, ◌||◌, List, [], ◌∷◌, Option, Some, None, if◌then◌else◌}
use Rattle.c_types.specs.declared.entry.Entry.{Entry}
use Rattle.c_tree.specs.declared.declared.Declared.{Declared}
pub use Rattle.c_expr_rules.specs.declared.state.MemberPlace.{MemberPlace}
pub use Rattle.c_expr_rules.specs.declared.state.Contents.{Contents}
pub use Rattle.c_expr_rules.specs.declared.state.Literal.{Literal}
use Rattle.c_expr_rules.specs.Above.{Above}

-- a broken rule, by its number, and the line of the first token of the construct that breaks it
pub record Broken : Type 0 where
  pub rule : ℕ
  pub line : ℕ

-- what constructs before leave for those after
pub record State : Type 0 where
  -- what a name stands for, by its letters
  pub visible : List ℕ → Option Declared
  pub table : List Entry
  -- the members of a structure or union, by the number of its type
  pub contents : ℕ → Option Contents
  -- the number of the next static object, and the literals so far, the last one first
  pub next_static : ℕ
  pub literals : List Literal
  -- objects and functions that are used, as they were declared by then, and locals whose address is taken, the last one first. A
  -- body or a definition may come later, so whether what is used has one is asked by its number; a call of a function
  -- that is one operation doesn't use it
  pub used : List Declared
  pub taken : List ℕ
  -- what only declarations and statements look at
  pub above : Above

-- what is found of a construct; in `Breaks` the construct itself breaks the rule, and in `Broke` an earlier one did
pub data Checked (A : Type 0) : Type 0 where
  Fine : State → A → Checked A
  Breaks : Broken → State → Option A → Checked A
  Broke : Broken → Checked A

-- the next construct is looked at where this one broke no rule
abbrev pub next : {A B : Type 0} → Checked A → (State → A → Checked B) → Checked B
next (Fine s x) go = go s x
next (Breaks broken s known) go = Broke broken
next (Broke broken) go = Broke broken

-- a rule, and whether it is broken
pub record Rule : Type 0 where
  pub number : ℕ
  pub is_broken : Bool

infix 90 ◌breaks◌
abbrev pub ◌breaks◌ : ℕ → Bool → Rule
number breaks is_broken = record { number = number; is_broken = is_broken }

-- the first of these rules that is broken
abbrev pub first_broken : List Rule → Option ℕ
first_broken [] = None
first_broken (r ∷ rules) = if r.is_broken then Some r.number else first_broken rules

-- what is known of a construct that breaks a rule. The rules up to 18 and rule 20 leave nothing to look at, nor does rule 23: a fault
-- of an atomic call's operands is that rule and no other
abbrev pub known_in_spite : {A : Type 0} → ℕ → A → Option A
known_in_spite rule x = if nat_lt 18 rule && not (rule == 20 || rule == 23) then Some x else None

abbrev pub outcome_of : {A : Type 0} → (line : ℕ) → Option ℕ → State → A → Checked A
outcome_of line None s x = Fine s x
outcome_of line (Some rule) s x = Breaks (record { rule = rule; line = line }) s (known_in_spite rule x)

-- a construct with the rules that can hold of it, in their order
abbrev pub by_rules : {A : Type 0} → (line : ℕ) → List Rule → State → A → Checked A
by_rules line rules s x = outcome_of line (first_broken rules) s x

-- ---- rules that what stands round an expression looks at

abbrev pub lower : (rule : ℕ) → Bool → Broken → Broken
lower rule is_broken b = if is_broken && nat_lt rule b.rule then record b { rule = rule } else b

-- this rule is broken by a construct of which this is known
abbrev pub broken_by : {A : Type 0} → (A → Bool) → Option A → Bool
broken_by test None = false
broken_by test (Some x) = test x

-- an expression breaks this rule too where the test says so of it
abbrev pub also : {A : Type 0} → (line rule : ℕ) → (State → A → Bool) → Checked A → Checked A
also line rule test (Fine s x) = by_rules line (rule breaks test s x ∷ []) s x
also line rule test (Breaks broken s known) = Breaks (lower rule (broken_by (test s) known) broken) s known
also line rule test (Broke broken) = Broke broken

-- the same of a rule that a construct breaks wherever it breaks a rule by itself
abbrev pub also_if_broken : {A : Type 0} → (line rule : ℕ) → (State → A → Bool) → Checked A → Checked A
also_if_broken line rule test (Fine s x) = by_rules line (rule breaks test s x ∷ []) s x
also_if_broken line rule test (Breaks broken s known) = Breaks (lower rule true broken) s known
also_if_broken line rule test (Broke broken) = Broke broken

-- the same outcome, of what this function makes of what is found
abbrev pub outcome_with : {A B : Type 0} → (State → A → B) → Checked A → Checked B
outcome_with f (Fine s x) = Fine s (f s x)
outcome_with f (Breaks broken s None) = Breaks broken s None
outcome_with f (Breaks broken s (Some x)) = Breaks broken s (Some (f s x))
outcome_with f (Broke broken) = Broke broken

-- of a construct round it, an inner one is an earlier one
abbrev pub inner : {A : Type 0} → Checked A → Checked A
inner found = next found Fine

-- an operand that isn't evaluated: what it declares is declared, but nothing is used by it, nothing made, and no address taken
abbrev pub unevaluated : State → State → State
unevaluated before after = record after { next_static = before.next_static; literals = before.literals; used = before.used; taken = before.taken }
