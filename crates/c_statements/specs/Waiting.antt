-- Conditions and blocks, as the code makes their trees.
use Rattle.std.specs.Prelude.{ℕ, List, [], ◌∷◌, ◌++◌, reverse, Result, Ok, Err}
use Rattle.c_syntax.specs.declared.expr.Expr.{Expr}
use Rattle.c_tree.specs.declared.expr.Expr.{Expr as Tree}
use Rattle.c_tree.specs.declared.stmt.Stmt.{Stmt}
use Rattle.c_tree.specs.declared.stmt.Stmt.TheVariants as stmt
use Rattle.c_expr_rules.specs.declared.found.Fault.{Fault}
use Rattle.c_expr_rules.specs.Contexts.{condition}
use Rattle.c_expr_rules.specs.Outcomes.{State, Checked, Fine, next}
use Rattle.c_expr_rules.specs.TypedExpressions.{tree_of}
use Rattle.c_file_rules.specs.Constructs.{Here}

abbrev pub statement_block : List Stmt → Stmt
statement_block body = stmt.Block [] body

-- a loop with a body behind what stands before it, and what comes next
abbrev pub statement_loop : (line : ℕ) → (turn : List Stmt) → Stmt → (step : List Stmt) → Stmt
statement_loop line turn body step = stmt.Loop line (stmt.Block [] (turn ++ body ∷ [])) (stmt.Block [] step)

-- the innermost block of a state
abbrev pub block_left : State → List Stmt → Stmt
block_left s body = stmt.Block (reverse s.above.locals) body

abbrev pub test_of : Here → State → Expr → Checked Tree
test_of here s e = next (condition here.around s e) (λ s t. Fine s (tree_of t.made))

abbrev pub unless_of : Here → State → Expr → Checked Stmt
unless_of here s e = next (test_of here s e) (λ s test. Fine s (stmt.BreakUnless e.span.line test))

-- an assertion is no statement
abbrev pub nothing_asserted : Result (Unit {0}) Fault → Result (List Stmt) Fault
nothing_asserted (Ok x) = Ok []
nothing_asserted (Err fault) = Err fault
