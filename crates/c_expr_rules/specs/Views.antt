-- What the values of the code are in the words of the definitions.
--
-- The code keeps names by blocks, members by the number of their structure, and lists with the last one last; the definitions see
-- functions, and lists with the last one first. What a call gives is an outcome by itself, and the state stands beside it.
use Rattle.std.specs.Prelude.{◌≡◌, Bool, List, length, take, map, reverse, Result, Ok, Err}
use Rattle.std.specs.BTreeMap.{get}
use Rattle.std.specs.Ordering.{nat_cmp}
use Rattle.c_rules.specs.Rules.{number_of}
use Rattle.c_rules.specs.declared.rule.Rule.{Rule}
use Rattle.c_scope.specs.Blocks.{visible}
use Rattle.c_expr_rules.specs.Outcomes as o
use Rattle.c_expr_rules.specs.Outcomes.{◌breaks◌}
use Rattle.c_expr_rules.specs.declared.found.Broken.{Broken}
use Rattle.c_expr_rules.specs.declared.found.Fault.{Fault}
use Rattle.c_expr_rules.specs.declared.found.Fault.TheVariants as fault
use Rattle.c_expr_rules.specs.declared.found.Found.{Found}
use Rattle.c_expr_rules.specs.declared.found.Found.TheVariants as found
use Rattle.c_expr_rules.specs.declared.state.State.{State}
use Rattle.c_expr_rules.specs.declared.state.Mark.{Mark}

abbrev pub seen_state : State → o.State
seen_state s =
    record {
      visible = (λ letters. visible letters s.scopes.ordinary);
      table = s.types;
      contents = (λ number. get nat_cmp s.contents number);
      next_static = s.next_static;
      literals = reverse s.literals.items;
      used = reverse s.used.items;
      taken = reverse s.taken.items;
      above =
          record {
            names = s.scopes;
            next_local = s.next_local;
            locals = reverse s.locals.items;
            placed = reverse s.placed.items;
            filled = reverse s.filled.items;
          };
    }

-- as many blocks are open, and what is used, taken or made is only added to: so an operand that isn't evaluated is taken back
-- by the lengths of the lists
pub record Grows (before after : State) : Type 0 where
  pub depth : length after.scopes.ordinary ≡ length before.scopes.ordinary
  pub used : take (length before.used.items) after.used.items ≡ before.used.items
  pub taken : take (length before.taken.items) after.taken.items ≡ before.taken.items
  pub literals : take (length before.literals.items) after.literals.items ≡ before.literals.items

-- how far the lists of a state go
pub record IsMarkOf (s : State) (mark : Mark) : Type 0 where
  pub next_static : mark.next_static ≡ s.next_static
  pub literals : mark.literals ≡ length s.literals.items
  pub used : mark.used ≡ length s.used.items
  pub taken : mark.taken ≡ length s.taken.items

-- ---- outcomes

abbrev pub seen_broken : Broken → o.Broken
seen_broken b = record { rule = number_of b.rule; line = b.line }

-- what is found, in a state
abbrev pub checked : {A : Type 0} → o.State → Found A → o.Checked A
checked s (found.Fine x) = o.Fine s x
checked s (found.Breaks broken known) = o.Breaks (seen_broken broken) s known

-- a call gave this and left this state: so that is found, unless memory ran out
abbrev pub Gives : {A : Type 0} → o.State → Result (Found A) Fault → o.Checked A → Type 0
Gives s (Ok x) answer = answer ≡ checked s x
Gives s (Err (fault.Broke broken)) answer = answer ≡ o.Broke (seen_broken broken)
Gives s (Err fault.NoMemory) answer = Unit {0}

-- the same of a call that gives a value where no rule is broken
abbrev pub Passes : {A : Type 0} → o.State → Result A Fault → o.Checked A → Type 0
Passes s (Ok x) answer = answer ≡ o.Fine s x
Passes s (Err (fault.Broke broken)) answer = o.inner answer ≡ o.Broke (seen_broken broken)
Passes s (Err fault.NoMemory) answer = Unit {0}

-- rules as the definitions have them
abbrev pub seen_rules : List (Rule × Bool) → List o.Rule
seen_rules rules = map (λ (r : Rule × Bool). number_of r.0 breaks r.1) rules

-- whether what is known of a construct has this property
abbrev pub found_has : {A : Type 0} → (A → Bool) → Found A → Bool
found_has test (found.Fine x) = test x
found_has test (found.Breaks broken known) = o.broken_by test known
