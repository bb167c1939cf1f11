-- A play that allows n rounds of each loop is cut only after n backward jumps.
use Rattle.std.proofs.Common.{ℕ, zero, suc, Option, Some, None, refl}
use Rattle.std.specs.Prelude.{slice_get, replicate, ◌==◌}
use Rattle.filc_num.specs.declared.integer.BinOp.TheVariants.{Sub}
use Rattle.form_tree.specs.declared.expr.Expr.{Expr, Number, Local, Negate', Chain', end_of-Expr, more_of-Expr, Row_of-Link, end_of-Link, more_of-Link}
use Rattle.form_tree.specs.declared.stmt.Stmt.{Stmt, Empty, Assign, While', Block', PutChar, Return, Row_of-Stmt, end_of-Stmt, more_of-Stmt}
use Rattle.form_tree.specs.declared.program.FunctionDef.{FunctionDef}
use Rattle.form_tree.specs.Plain.{PlainProgram}
use Rattle.ideal_machine.specs.declared.value.Value.{Value}
use Rattle.ideal_machine.specs.Values.{State, integer, zero_value}
use Rattle.ideal_machine.specs.Play.{Gives, Jump, bind}
use Rattle.ideal_machine.specs.Phrases.{Start, leave, put_out, arithmetic}
use Rattle.ideal_machine.proofs.Cuts.{IsFar, nearer, bind_far, zero_far, leave_far, out_far, arithmetic_far}
use Rattle.form_play.specs.FormPlay.{Around, Flow, Normal, Broke, Continued, Returned, TextPlay, play_expr, play_links, on_normal, after_body, loop, with_zeros, play_stmt, play_stmts, result_of, play_called, around_of, play_thread}

mutual
  expr_far : (n : ℕ) (e : Expr) (state : State) → IsFar n (play_expr e state)
  expr_far n (Number line ty value) state = tt
  expr_far n (Local line ty local) state = tt
  expr_far n (Negate' line ty s (more_of-Expr operand end_of-Expr)) state =
      bind_far n (play_expr operand state) _ (expr_far n operand state)
      (λ st v. bind_far n (arithmetic Sub ty (integer 0) v line) (λ _ x. Gives st x) (arithmetic_far n Sub ty (integer 0) v line) (λ _ x. tt))
  expr_far n (Chain' line s (more_of-Expr first end_of-Expr) z links) state =
      bind_far n (play_expr first state) (play_links line links) (expr_far n first state) (λ st v. links_far n line links st v)

  links_far : {m : _} (n line : ℕ) (links : Row_of-Link m) (state : State) (left : Value) → IsFar n (play_links line links state left)
  links_far n line end_of-Link state left = tt
  links_far n line (more_of-Link op ty operand links) state left =
      bind_far n (play_expr operand state) _ (expr_far n operand state)
      (λ st right. bind_far n (arithmetic op ty left right line) (λ _ v. play_links line links st v) (arithmetic_far n op ty left right line)
      (λ _ x. links_far n line links st x))

normal_far : (n : ℕ) (next : State → TextPlay Flow) → ((s : State) → IsFar n (next s)) → (s : State) (f : Flow) → IsFar n (on_normal next s f)
normal_far n next h s Normal = h s
normal_far n next h s Broke = tt
normal_far n next h s Continued = tt
normal_far n next h s (Returned v) = tt

body_far : (n : ℕ) (next : State → TextPlay Flow) → ((s : State) → IsFar n (next s)) → (s : State) (f : Flow) → IsFar n (after_body next s f)
body_far n next h s Normal = h s
body_far n next h s Broke = tt
body_far n next h s Continued = h s
body_far n next h s (Returned v) = tt

-- a loop of n rounds, whose body is as far
loop_far :
    (n : ℕ) (test : State → TextPlay Value) (body : State → TextPlay Flow) → ((s : State) → IsFar n (test s)) →
    ((s : State) → IsFar n (body s)) → (s : State) → IsFar n (loop n test body s)
loop_far zero test body t b state = refl
loop_far (suc n) test body t b state =
    let again = λ (s : State). Jump (loop n test body s) in
    bind_far (suc n) (test state) _ (t state)
    (λ st v. zero_far (suc n) v.number (Gives st Normal) (bind (body st) (after_body again)) tt
    (bind_far (suc n) (body st) (after_body again) (b st)
    (body_far (suc n) again (λ s. loop_far n test body (λ s. nearer n (test s) (t s)) (λ s. nearer n (body s) (b s)) s))))

module _ (around : Around) where
  abbrev n : ℕ
  n = around.rounds

  mutual
    stmt_far : (s : Stmt) (state : State) → IsFar n (play_stmt around s state)
    stmt_far Empty state = tt
    stmt_far (Assign line local value) state = bind_far n (play_expr value state) _ (expr_far n value state) (λ st v. tt)
    stmt_far (While' line test s (more_of-Stmt body end_of-Stmt)) state =
        loop_far n (play_expr test) (play_stmt around body) (λ st. expr_far n test st) (λ st. stmt_far body st) state
    stmt_far (Block' locals z body) state = stmts_far body (with_zeros locals state)
    stmt_far (PutChar line value) state =
        bind_far n (play_expr value state) _ (expr_far n value state)
        (λ st v. bind_far n (put_out v line) (λ _ _. Gives st Normal) (out_far n v line) (λ _ _. tt))
    stmt_far (Return line value) state = bind_far n (play_expr value state) _ (expr_far n value state) (λ st v. tt)

    stmts_far : {m : _} (body : Row_of-Stmt m) (state : State) → IsFar n (play_stmts around body state)
    stmts_far end_of-Stmt state = tt
    stmts_far (more_of-Stmt s rest) state =
        bind_far n (play_stmt around s state) (on_normal (play_stmts around rest)) (stmt_far s state)
        (normal_far n (play_stmts around rest) (λ st. stmts_far rest st))

  called_far : (o : Option FunctionDef) → IsFar n (play_called around o)
  called_far None = tt
  called_far (Some f) =
      bind_far n (play_stmt around f.body (replicate f.locals zero_value)) (λ _ flow. Gives tt (result_of flow)) (stmt_far f.body _) (λ st v. tt)

pub thread_far : (n : ℕ) (program : PlainProgram) (start : Start) → IsFar n (play_thread n program start)
thread_far n program start =
    let main = start.function == program.main in
    let o = slice_get program.functions start.function in
    bind_far n (play_called (around_of n start) o) (λ _ v. leave main v) (called_far (around_of n start) o) (λ _ v. leave_far n main v)
