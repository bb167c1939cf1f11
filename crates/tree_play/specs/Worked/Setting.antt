-- How worked plays are written: trees of one line, a setting, and what a tree is said to play.
use Rattle.std.specs.Prelude.{◌≡◌, ℕ, ◌+◌, ◌*◌, List, [], ◌∷◌, ◌++◌, None}
use Rattle.filc_num.specs.declared.reason.Reason.{Reason}
use Rattle.c_tree.specs.declared.operation.Operation.{Operation}
use Rattle.c_tree.specs.declared.operation.Operation.TheVariants as op
use Rattle.c_tree.specs.declared.stmt.LocalDef.{LocalDef}
use Rattle.c_tree.specs.declared.stmt.LocalKind.{LocalKind}
use Rattle.c_tree.specs.declared.stmt.Stmt.{Stmt, Run, Block', If', Loop', end_of-Stmt, more_of-Stmt}
use Rattle.c_tree.specs.declared.expr.Expr.{Expr, Apply', end_of-Expr, more_of-Expr}
use Rattle.ideal_machine.specs.declared.value.Half.TheVariants.{Object as ObjectHalf}
use Rattle.ideal_machine.specs.declared.value.Value.{Value}
use Rattle.ideal_machine.specs.declared.finish.Finish.TheVariants.{Trapped}
use Rattle.ideal_machine.specs.declared.event.Access.{Access}
use Rattle.ideal_machine.specs.declared.event.Event.{Event}
use Rattle.ideal_machine.specs.declared.event.Event.TheVariants.{Trap}
use Rattle.ideal_machine.specs.declared.event.Answer.{Answer}
use Rattle.ideal_machine.specs.declared.event.Answer.TheVariants.{Done}
use Rattle.ideal_machine.specs.Values.{State}
use Rattle.ideal_machine.specs.Play.{Stops, Waits, Finished, fresh_log, Goes, Ends, run}
use Rattle.tree_play.specs.Around.{Around, Flow, TextPlay}
use Rattle.tree_play.specs.Expressions.{play_expr}
use Rattle.tree_play.specs.Statements.{play_stmt}

-- ---- trees, each at line 1

abbrev pub leaf : Operation → Expr
leaf o = Apply' 1 o [] end_of-Expr

abbrev pub one : Operation → Expr → Expr
one o a = Apply' 1 o (tt ∷ []) (more_of-Expr a end_of-Expr)

abbrev pub two : Operation → Expr → Expr → Expr
two o a b = Apply' 1 o (tt ∷ tt ∷ []) (more_of-Expr a (more_of-Expr b end_of-Expr))

abbrev pub three : Operation → Expr → Expr → Expr → Expr
three o a b c = Apply' 1 o (tt ∷ tt ∷ tt ∷ []) (more_of-Expr a (more_of-Expr b (more_of-Expr c end_of-Expr)))

abbrev pub number : ℕ → Expr
number n = leaf (op.Number n)

abbrev pub local : ℕ → Expr
local x = leaf (op.Local x)

abbrev pub static : ℕ → Expr
static n = leaf (op.Static n)

-- ---- a setting: two objects, of which each has its own thousand bytes, and three rounds for each loop

abbrev pub base : ℕ → ℕ
base n = 65536 + 1024 * n

-- nothing is called where single expressions are played
abbrev pub around : Around
around = record {
  rounds = 3;
  id = 65;
  base = base;
  kinds = 0 ∷ 1 ∷ [];
  user_line = None;
  call = λ _ _ _. Stops Waits;
}

-- so many bytes of an object, from an offset
abbrev pub bytes_at : (object offset width : ℕ) → Access
bytes_at object offset width = record { object = object; offset = offset; width = width }

-- a pointer into an object, by the offset
abbrev pub into : (object offset : ℕ) → Value
into object offset = record { number = base object + offset; half = ObjectHalf object }

-- ---- what is played

-- a play that gives a value in a state, when these answers are taken, these events made, and so many backward jumps and calls
abbrev pub YieldsWith : {A : Type 0} → (jumps calls : ℕ) → TextPlay A → List Answer → List Event → State → A → Type 0
YieldsWith jumps calls play answers events state value =
    run play (fresh_log answers) ≡ Goes state value (record { answers = []; events = events; jumps = jumps; calls = calls })

-- the same without a jump or a call
abbrev pub Yields : {A : Type 0} → TextPlay A → List Answer → List Event → State → A → Type 0
Yields play answers events state value = YieldsWith 0 0 play answers events state value

-- a play that traps at line 1 after these events
abbrev pub Traps : {A : Type 0} → TextPlay A → List Answer → List Event → Reason → Type 0
Traps play answers events reason =
    run play (fresh_log (answers ++ Done ∷ []))
    ≡ Ends (Finished (Trapped reason 1)) (record { answers = []; events = events ++ Trap reason 1 ∷ []; jumps = 0; calls = 0 })

-- a play that waits, when this answer doesn't fit what it asks after these events
abbrev pub WaitsAt : {A : Type 0} → TextPlay A → List Answer → List Event → Answer → Type 0
WaitsAt play answers events answer =
    run play (fresh_log (answers ++ answer ∷ [])) ≡ Ends Waits (record { answers = answer ∷ []; events = events; jumps = 0; calls = 0 })

-- an expression, from these locals
abbrev pub expr_play : Expr → State → TextPlay Value
expr_play e state = play_expr around e state

-- ---- statements, at line 1

abbrev pub empty : Stmt
empty = Block' [] [] end_of-Stmt

abbrev pub block_of_one : List LocalDef → Stmt → Stmt
block_of_one locals a = Block' locals (tt ∷ []) (more_of-Stmt a end_of-Stmt)

abbrev pub block_of_two : List LocalDef → Stmt → Stmt → Stmt
block_of_two locals a b = Block' locals (tt ∷ tt ∷ []) (more_of-Stmt a (more_of-Stmt b end_of-Stmt))

abbrev pub block_of_three : List LocalDef → Stmt → Stmt → Stmt → Stmt
block_of_three locals a b c =
    Block' locals (tt ∷ tt ∷ tt ∷ []) (more_of-Stmt a (more_of-Stmt b (more_of-Stmt c end_of-Stmt)))

abbrev pub loop_of : (body next : Stmt) → Stmt
loop_of body next = Loop' 1 _ (more_of-Stmt body end_of-Stmt) _ (more_of-Stmt next end_of-Stmt)

abbrev pub if_of : Expr → (then otherwise : Stmt) → Stmt
if_of test a b = If' 1 test _ (more_of-Stmt a end_of-Stmt) _ (more_of-Stmt b end_of-Stmt)

-- a local where its block is entered
abbrev pub local_of : ℕ → LocalKind → LocalDef
local_of x kind = record { line = 1; local = x; kind = kind }

-- puts out a byte, and sets a local
abbrev pub put : Expr → Stmt
put e = Run (one op.Out e)

abbrev pub set : ℕ → Expr → Stmt
set x e = Run (one (op.SetLocal x) e)

-- a statement, from these locals
abbrev pub stmt_play : Stmt → State → TextPlay Flow
stmt_play s state = play_stmt around s state
