-- The code of an operation and the code of an expression play them.
--
-- For each bound on rounds there is a bound on instructions with which the code makes the play's events, takes its answers and
-- makes as many backward jumps and calls, and then it stands at its end with the value in its register, or has ended
-- like the play, also where the bound cut the play. The premises:
--
--     0 < rounds          with no round a lock is cut between its check and its first round, where code has no place
--     CallRuns            calls are proved after expressions, by induction on their depth
--     HasWords            a number that a compare and exchange finds is compared in 64 bits
use Rattle.std.specs.Prelude.{ℕ, ◌<◌, ◌≤◌, List}
use Rattle.c_tree.specs.declared.expr.Expr.{Expr}
use Rattle.c_tree.specs.declared.operation.Operation.{Operation}
use Rattle.c_tree.specs.Operands.{Outline, Context, OpFits}
use Rattle.c_tree.specs.Fits.{ExprFits}
use Rattle.ideal_machine.specs.declared.value.Value.{Value}
use Rattle.ideal_machine.specs.Values.{State}
use Rattle.ideal_machine.specs.Play.{Log, run}
use Rattle.ideal_machine.specs.Phrases.{Phrase}
use Rattle.tree_play.specs.Around.{line_in}
use Rattle.tree_play.specs.Apply.{apply}
use Rattle.tree_play.specs.Expressions.{play_expr}
use Rattle.expr_gen.specs.Code.{op_code, expr_code}
use Rattle.expr_gen.specs.Stretch.{Site, around_at, Between, Runs, from, HasWords, CallRuns, values_from, Matches, Arrived, InRegister}

-- the operands stand in t, t + 1, .., and the value comes into t
abbrev pub OperationsPlay : Type 0
OperationsPlay =
    (site : Site) (rounds : ℕ) (call : (function line : ℕ) → List Value → Phrase Value) → 0 < rounds → CallRuns site call →
    (outline : Outline) (here : Context) (o : Operation) (line t n from_index to : ℕ) (base registers : List Value) (env : State) (w : Log) →
    here.locals ≤ t → OpFits outline here o n → HasWords w →
    Between site from_index (op_code site.library o line t n from_index) to → Matches here.locals t base registers env →
    Runs site (Arrived here.locals t to base (InRegister t)) (from site from_index registers) w
    (run (apply (around_at site rounds call) o (line_in (around_at site rounds call) line) (values_from registers t n) env) w)

-- the code of every expression plays it, wherever it stands and whatever it is answered
abbrev pub ExpressionsPlay : Type 0
ExpressionsPlay =
    (site : Site) (rounds : ℕ) (call : (function line : ℕ) → List Value → Phrase Value) → 0 < rounds → CallRuns site call →
    (outline : Outline) (here : Context) (e : Expr) (t from_index to : ℕ) (base registers : List Value) (env : State) (w : Log) →
    here.locals ≤ t → ExprFits outline here e → HasWords w →
    Between site from_index (expr_code site.library e t from_index) to → Matches here.locals t base registers env →
    Runs site (Arrived here.locals t to base (InRegister t)) (from site from_index registers) w
    (run (play_expr (around_at site rounds call) e env) w)
