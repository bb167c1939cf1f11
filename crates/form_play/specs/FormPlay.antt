-- The play of C's text: an equation for each construct.
--
-- Operands are evaluated from left to right (the order that this C has; C11 6.5 leaves it open). A local has no
-- address: it is a value of the play's state, and reading or assigning it makes no event. Arithmetic makes
-- none either, but one without a result traps, at the line of its expression.
--
-- An expression gives its value, and a statement its flow: how control goes on after it (C11 6.8.6).
use Rattle.std.specs.Prelude.{ℕ, zero, suc, List, [], ◌∷◌, Option, Some, None, slice_get, replicate, ◌==◌}
use Rattle.filc_num.specs.declared.integer.BinOp.TheVariants.{Sub}
use Rattle.form_tree.specs.declared.expr.Expr.{Expr, Number, Local, Negate', Chain', end_of-Expr, more_of-Expr, Row_of-Link, end_of-Link, more_of-Link}
use Rattle.form_tree.specs.declared.stmt.LocalDef.{LocalDef}
use Rattle.form_tree.specs.declared.stmt.Stmt.{Stmt, Empty, Assign, While', Block', PutChar, Return, Row_of-Stmt, end_of-Stmt, more_of-Stmt}
use Rattle.form_tree.specs.declared.program.FunctionDef.{FunctionDef}
use Rattle.form_tree.specs.Plain.{PlainProgram}
use Rattle.ideal_machine.specs.declared.value.Value.{Value}
use Rattle.ideal_machine.specs.declared.event.Answer.{Answer}
use Rattle.ideal_machine.specs.Values.{State, integer, zero_value, value_at, put_at}
use Rattle.ideal_machine.specs.Play.{Play, Gives, Stops, Jump, Waits, Cut, bind, Behaviour, run, fresh_log}
use Rattle.ideal_machine.specs.Phrases.{Start, Phrase, leave, put_out, arithmetic, if_zero}

-- what a thread's text knows wherever it is: how many rounds each loop makes at most, the thread's id, and where each object
-- is, by its number. Nothing in the text of today asks for the last two
pub record Around : Type 0 where
  pub rounds : ℕ
  pub id : ℕ
  pub base : ℕ → ℕ

-- how control goes on after a statement: to the next one, after the innermost loop or switch, to the innermost loop's
-- next round, or after the function's call, with a value
pub data Flow : Type 0 where
  Normal : Flow
  Broke : Flow
  Continued : Flow
  Returned : (value : Value) → Flow

-- a play with the locals as its state
abbrev pub TextPlay : Type 0 → Type 0
TextPlay A = Play State A

-- ---- expressions

-- the value of a phrase, in this state
abbrev pub in_state : State → Phrase Value → TextPlay Value
in_state state phrase = bind phrase (λ _ v. Gives state v)

abbrev mutual
  pub play_expr : Expr → State → TextPlay Value
  play_expr (Number line ty value) state = Gives state (integer value)
  play_expr (Local line ty local) state = Gives state (value_at state local)
  play_expr (Negate' line ty s (more_of-Expr operand end_of-Expr)) state =
      bind (play_expr operand state) (λ state v. in_state state (arithmetic Sub ty (integer 0) v line))
  play_expr (Chain' line s (more_of-Expr first end_of-Expr) z links) state =
      bind (play_expr first state) (play_links line links)

  -- the rest of a chain, from the value of what stands before it
  pub play_links : {m : _} → ℕ → Row_of-Link m → State → Value → TextPlay Value
  play_links line end_of-Link state left = Gives state left
  play_links line (more_of-Link op ty operand links) state left =
      bind (play_expr operand state) (λ state right.
      bind (arithmetic op ty left right line) (λ _ v. play_links line links state v))

-- ---- statements

-- what comes next, where control came to the end of what stands before it
abbrev pub on_normal : (State → TextPlay Flow) → State → Flow → TextPlay Flow
on_normal next state Normal = next state
on_normal next state Broke = Gives state Broke
on_normal next state Continued = Gives state Continued
on_normal next state (Returned v) = Gives state (Returned v)

-- what a loop makes of its body's flow
abbrev pub after_body : (State → TextPlay Flow) → State → Flow → TextPlay Flow
after_body next state Normal = next state
after_body next state Broke = Gives state Normal
after_body next state Continued = next state
after_body next state (Returned v) = Gives state (Returned v)

-- a loop of at most so many rounds: its test, and its body where the test isn't 0
abbrev pub loop : ℕ → (State → TextPlay Value) → (State → TextPlay Flow) → State → TextPlay Flow
loop zero test body state = Stops Cut
loop (suc n) test body state =
    bind (test state) (λ state v.
    if_zero v.number (Gives state Normal) (bind (body state) (after_body (λ state. Jump (loop n test body state)))))

-- the locals of a block are zero when it is entered
abbrev pub with_zeros : List LocalDef → State → State
with_zeros [] state = state
with_zeros (d ∷ locals) state = with_zeros locals (put_at state d.local zero_value)

abbrev mutual
  pub play_stmt : Around → Stmt → State → TextPlay Flow
  play_stmt around Empty state = Gives state Normal
  play_stmt around (Assign line local value) state =
      bind (play_expr value state) (λ state v. Gives (put_at state local v) Normal)
  play_stmt around (While' line test s (more_of-Stmt body end_of-Stmt)) state =
      loop around.rounds (play_expr test) (play_stmt around body) state
  play_stmt around (Block' locals z body) state = play_stmts around body (with_zeros locals state)
  play_stmt around (PutChar line value) state =
      bind (play_expr value state) (λ state v. bind (put_out v line) (λ _ _. Gives state Normal))
  play_stmt around (Return line value) state = bind (play_expr value state) (λ state v. Gives state (Returned v))

  -- one statement after another
  pub play_stmts : {m : _} → Around → Row_of-Stmt m → State → TextPlay Flow
  play_stmts around end_of-Stmt state = Gives state Normal
  play_stmts around (more_of-Stmt s rest) state = bind (play_stmt around s state) (on_normal (play_stmts around rest))

-- ---- functions and threads

-- what a function's body gives: where control reaches its end, the result is 0 (C11 5.1.2.2.3 for `main`)
abbrev pub result_of : Flow → Value
result_of (Returned v) = v
result_of flow = zero_value

abbrev pub play_function : Around → FunctionDef → Phrase Value
play_function around f =
    bind (play_stmt around f.body (replicate f.locals zero_value)) (λ _ flow. Gives tt (result_of flow))

-- the function of this number; one that isn't there does nothing
abbrev pub play_called : Around → Option FunctionDef → Phrase Value
play_called around None = Stops Waits
play_called around (Some f) = play_function around f

abbrev pub around_of : ℕ → Start → Around
around_of n start = record { rounds = n; id = start.id; base = start.base }

-- the play of a thread, where each loop makes at most n rounds; it gives the thread's result
abbrev pub play_thread : ℕ → PlainProgram → Start → Phrase ℕ
play_thread n program start =
    bind (play_called (around_of n start) (slice_get program.functions start.function))
    (λ _ v. leave (start.function == program.main) v)

-- the events that a thread makes on these answers, and what comes of it
abbrev pub play : ℕ → PlainProgram → Start → List Answer → Behaviour (Unit {0}) ℕ
play n program start answers = run (play_thread n program start) (fresh_log answers)
