-- The play of statements. A statement gives its flow: how control goes on after it.
--
-- A flow is taken by what stands around: by the next statement, a loop or a switch, in four equations each.
-- A loop has a bound on its rounds, and is cut where that is reached. Read `play_stmt` at the end first: it has an
-- equation for each of the nine statements.
use Rattle.std.specs.Prelude.{ℕ, zero, suc, List, [], ◌∷◌, ◌==◌, if◌then◌else◌, Option, Some, None}
use Rattle.c_tree.specs.declared.expr.Expr.{Expr}
use Rattle.c_tree.specs.declared.stmt.LocalDef.{LocalDef}
use Rattle.c_tree.specs.declared.stmt.LocalKind.{LocalKind}
use Rattle.c_tree.specs.declared.stmt.LocalKind.TheVariants.{Zero, Home, Moved}
use Rattle.c_tree.specs.declared.stmt.Case.{Case}
use Rattle.c_tree.specs.declared.stmt.Stmt.{Stmt, Run, Block', If', Loop', BreakUnless, Break, Continue, Switch', Return, Row_of-Stmt, end_of-Stmt, more_of-Stmt}
use Rattle.ideal_machine.specs.declared.value.Value.{Value}
use Rattle.ideal_machine.specs.Values.{State, zero_value, value_at, put_at}
use Rattle.ideal_machine.specs.Play.{Gives, Stops, Jump, Cut, bind}
use Rattle.ideal_machine.specs.Phrases.{Phrase, if_zero}
use Rattle.ideal_machine.specs.Lifetimes.{make_home}
use Rattle.tree_play.specs.Around.{Around, line_in, Flow, Normal, Broke, Continued, Returned, TextPlay}
use Rattle.tree_play.specs.Memory.{store}
use Rattle.tree_play.specs.Expressions.{play_expr}

-- ---- flows

-- what comes next, where control came to the end of what stands before it
abbrev pub on_normal : (State → TextPlay Flow) → State → Flow → TextPlay Flow
on_normal next state Normal = next state
on_normal next state Broke = Gives state Broke
on_normal next state Continued = Gives state Continued
on_normal next state (Returned v) = Gives state (Returned v)

-- what a loop makes of the flow of a part of it
abbrev pub in_round : (State → TextPlay Flow) → State → Flow → TextPlay Flow
in_round next state Normal = next state
in_round next state Broke = Gives state Normal
in_round next state Continued = next state
in_round next state (Returned v) = Gives state (Returned v)

-- what a switch makes of its body's flow: a `continue` is the loop's around it
abbrev pub after_switch : State → Flow → TextPlay Flow
after_switch state Normal = Gives state Normal
after_switch state Broke = Gives state Normal
after_switch state Continued = Gives state Continued
after_switch state (Returned v) = Gives state (Returned v)

-- ---- loops

-- a loop of at most so many rounds: its body, and then what comes before its next round, where `continue` goes on
abbrev pub loop : ℕ → (body next : State → TextPlay Flow) → State → TextPlay Flow
loop zero body next state = Stops Cut
loop (suc n) body next state =
    bind (body state) (in_round (λ state. bind (next state) (in_round (λ state. Jump (loop n body next state)))))

-- ---- blocks

-- what a local is when its block is entered: 0, or the pointer to its home, which is zero or has a parameter's value
abbrev pub first_value : Around → LocalKind → (line : ℕ) → Value → Phrase Value
first_value around Zero line v = Gives tt zero_value
first_value around (Home bytes) line v = make_home bytes line
first_value around (Moved bytes access) line v =
    bind (make_home bytes line) (λ _ home. bind (store around.base access home v line) (λ _ _. Gives tt home))

-- the locals of a block, in their order; so also those whose declarations a switch passes over
abbrev pub enter_block : Around → List LocalDef → State → TextPlay (Unit {0})
enter_block around [] state = Gives state tt
enter_block around (d ∷ locals) state =
    bind (first_value around d.kind (line_in around d.line) (value_at state d.local)) (λ _ v.
    enter_block around locals (put_at state d.local v))

-- ---- switches

-- the statement where a switch on v goes on
abbrev pub statement_for : List Case → (other v : ℕ) → ℕ
statement_for [] other v = other
statement_for (c ∷ cases) other v = if v == c.value then c.statement else statement_for cases other v

-- ---- returns

abbrev pub play_return : Around → Option Expr → State → TextPlay Flow
play_return around None state = Gives state (Returned zero_value)
play_return around (Some value) state = bind (play_expr around value state) (λ state v. Gives state (Returned v))

abbrev mutual
  pub play_stmt : Around → Stmt → State → TextPlay Flow
  play_stmt around (Run value) state = bind (play_expr around value state) (λ state _. Gives state Normal)
  -- a block is left without an event, however it is left: homes aren't voided
  play_stmt around (Block' locals z body) state =
      bind (enter_block around locals state) (λ state _. play_stmts around body 0 state)
  play_stmt around (If' line test s (more_of-Stmt one end_of-Stmt) s1 (more_of-Stmt other end_of-Stmt)) state =
      bind (play_expr around test state) (λ state v.
      if_zero v.number (play_stmt around other state) (play_stmt around one state))
  play_stmt around (Loop' line s (more_of-Stmt body end_of-Stmt) s1 (more_of-Stmt next end_of-Stmt)) state =
      loop around.rounds (play_stmt around body) (play_stmt around next) state
  play_stmt around (BreakUnless line test) state =
      bind (play_expr around test state) (λ state v. if_zero v.number (Gives state Broke) (Gives state Normal))
  play_stmt around (Break line) state = Gives state Broke
  play_stmt around (Continue line) state = Gives state Continued
  play_stmt around (Switch' line value cases other z body) state =
      bind (play_expr around value state) (λ state v.
      bind (play_stmts around body (statement_for cases other v.number) state) after_switch)
  play_stmt around (Return line value) state = play_return around value state

  -- one statement after another, but for the first so many
  pub play_stmts : {m : _} → Around → Row_of-Stmt m → ℕ → State → TextPlay Flow
  play_stmts around end_of-Stmt skipped state = Gives state Normal
  play_stmts around (more_of-Stmt s rest) (suc skipped) state = play_stmts around rest skipped state
  play_stmts around (more_of-Stmt s rest) zero state =
      bind (play_stmt around s state) (on_normal (λ state. play_stmts around rest 0 state))
