-- What a play of C's text goes by: what a thread's text knows wherever it is, its state, and how control goes on.
use Rattle.std.specs.Prelude.{ℕ, List, Option, Some, None}
use Rattle.ideal_machine.specs.declared.value.Value.{Value}
use Rattle.ideal_machine.specs.Values.{State}
use Rattle.ideal_machine.specs.Play.{Play, Gives, bind}
use Rattle.ideal_machine.specs.Phrases.{Phrase}

-- what the text of a function knows wherever it is
pub record Around : Type 0 where
  -- how many rounds each loop makes at most
  pub rounds : ℕ
  -- the thread's id
  pub id : ℕ
  -- where each object is, by its number
  pub base : ℕ → ℕ
  -- the number of each function's type
  pub kinds : List ℕ
  -- in a header's text, the line of the user's call that led there
  pub user_line : Option ℕ
  -- what a call of a function at a line does, with these arguments
  pub call : (function line : ℕ) → List Value → Phrase Value

-- the line of a trap: the text's own in the user's text, in a header's that of the user's call
abbrev pub line_or : Option ℕ → ℕ → ℕ
line_or None line = line
line_or (Some user_line) line = user_line

abbrev pub line_in : Around → ℕ → ℕ
line_in around line = line_or around.user_line line

-- how control goes on after a statement: to the next one, after the innermost loop or switch, to the innermost loop's
-- next round, or after the function's call, with a value (C11 6.8.6)
pub data Flow : Type 0 where
  Normal : Flow
  Broke : Flow
  Continued : Flow
  Returned : (value : Value) → Flow

-- a play with the locals as its state
abbrev pub TextPlay : Type 0 → Type 0
TextPlay A = Play State A

-- the value of a phrase, in this state
abbrev pub in_state : State → Phrase Value → TextPlay Value
in_state state phrase = bind phrase (λ _ v. Gives state v)

-- what a phrase does, and then this value
abbrev pub then_give : {X : Type 0} → State → Phrase X → Value → TextPlay Value
then_give state phrase v = bind phrase (λ _ _. Gives state v)
