-- Nothing follows an event that ends its thread: it comes last in the text's phrases, and what `bind` puts after them isn't
-- reached.
use Rattle.std.proofs.Common.{◌≡◌, ℕ, zero, suc, List, [], ◌∷◌, ◌++◌, Bool, true, false, Option, Some, None, Result, Ok, Err, refl, sym, ap, subst, ◌∙◌, append_assoc, append-nil}
use Rattle.std.specs.Prelude.{slice_get, replicate, ◌==◌}
use Rattle.filc_num.specs.declared.integer.ArithFault.{ArithFault}
use Rattle.filc_num.specs.declared.reason.Reason.{Reason}
use Rattle.filc_num.specs.declared.integer.BinOp.TheVariants.{Sub}
use Rattle.form_tree.specs.declared.expr.Expr.{Expr, Number, Local, Negate', Chain', end_of-Expr, more_of-Expr, Row_of-Link, end_of-Link, more_of-Link}
use Rattle.form_tree.specs.declared.stmt.Stmt.{Stmt, Empty, Assign, While', Block', PutChar, Return, Row_of-Stmt, end_of-Stmt, more_of-Stmt}
use Rattle.form_tree.specs.declared.program.FunctionDef.{FunctionDef}
use Rattle.form_tree.specs.Plain.{PlainProgram}
use Rattle.ideal_machine.specs.declared.value.Value.{Value}
use Rattle.ideal_machine.specs.declared.event.Event.{Event}
use Rattle.ideal_machine.specs.declared.event.Answer.{Answer}
use Rattle.ideal_machine.specs.Values.{State, integer, zero_value}
use Rattle.ideal_machine.specs.Queries.{Reply, event_of}
use Rattle.ideal_machine.specs.Play.{Play, Gives, Stops, Asks, Jump, Call, Finished, bind, Log, fresh_log, with_event, with_jump, with_call, log_of, run}
use Rattle.ideal_machine.specs.Phrases.{Start, leave, put_out, unless_refused, operator_result, arithmetic_result, arithmetic, if_zero}
use Rattle.ideal_machine.proofs.Runs.{one_reply}
use Rattle.form_play.specs.FormPlay.{Around, Flow, Normal, Broke, Continued, Returned, TextPlay, play_expr, play_links, on_normal, after_body, loop, with_zeros, play_stmt, play_stmts, result_of, play_called, around_of, play_thread}
use Rattle.form_play.specs.EndsLast.{is_end, AreEndedOnce, NothingFollowsAnEnd}

-- ---- plays

-- the program has ended
abbrev IsOver : {S A : Type 0} → Play S A → Type 0
IsOver (Stops (Finished finish)) = Unit {0}
IsOver play = ⊥

-- nothing is asked
abbrev IsQuiet : {S A : Type 0} → Play S A → Type 0
IsQuiet (Gives state value) = Unit {0}
IsQuiet (Stops stop) = Unit {0}
IsQuiet play = ⊥

-- an end is followed by nothing, whatever this play is bound to
abbrev IsInner : {S A : Type 0} → Play S A → Type 0
IsInner (Gives state value) = Unit {0}
IsInner (Stops stop) = Unit {0}
IsInner (Asks query next) = (reply : Reply query) → IsInner (next reply) × (is_end (event_of query reply) ≡ true → IsOver (next reply))
IsInner (Jump next) = IsInner next
IsInner (Call next) = IsInner next

-- an end is followed by nothing
abbrev IsOuter : {S A : Type 0} → Play S A → Type 0
IsOuter (Gives state value) = Unit {0}
IsOuter (Stops stop) = Unit {0}
IsOuter (Asks query next) = (reply : Reply query) → IsOuter (next reply) × (is_end (event_of query reply) ≡ true → IsQuiet (next reply))
IsOuter (Jump next) = IsOuter next
IsOuter (Call next) = IsOuter next

over_bind : {S A T B : Type 0} (p : Play S A) (go : S → A → Play T B) → IsOver p → IsOver (bind p go)
over_bind (Stops (Finished finish)) go h = tt
over_bind p go h = absurd h

over_quiet : {S A : Type 0} (p : Play S A) → IsOver p → IsQuiet p
over_quiet (Stops (Finished finish)) h = tt
over_quiet p h = absurd h

bind_inner : {S A T B : Type 0} (p : Play S A) (go : S → A → Play T B) → IsInner p → ((s : S) (v : A) → IsInner (go s v)) → IsInner (bind p go)
bind_inner (Gives s v) go h each = each s v
bind_inner (Stops e) go h each = tt
bind_inner (Asks q next) go h each = λ reply. (bind_inner (next reply) go (h reply).0 each, λ e. over_bind (next reply) go ((h reply).1 e))
bind_inner (Jump p) go h each = bind_inner p go h each
bind_inner (Call p) go h each = bind_inner p go h each

bind_outer : {S A T B : Type 0} (p : Play S A) (go : S → A → Play T B) → IsInner p → ((s : S) (v : A) → IsOuter (go s v)) → IsOuter (bind p go)
bind_outer (Gives s v) go h each = each s v
bind_outer (Stops e) go h each = tt
bind_outer (Asks q next) go h each =
    λ reply. (bind_outer (next reply) go (h reply).0 each, λ e. over_quiet (bind (next reply) go) (over_bind (next reply) go ((h reply).1 e)))
bind_outer (Jump p) go h each = bind_outer p go h each
bind_outer (Call p) go h each = bind_outer p go h each

-- ---- what a run makes

-- the events that came
record Makes (old new : Log) : Type 0 where
  made : List Event
  events : new.events ≡ old.events ++ made
  ended : AreEndedOnce made

made_nothing : (w : Log) → Makes w w
made_nothing w = record { made = []; events = sym (append-nil w.events); ended = tt }

quiet_log : {S A : Type 0} (p : Play S A) (w : Log) → IsQuiet p → log_of (run p w) ≡ w
quiet_log (Gives s v) w h = refl
quiet_log (Stops e) w h = refl
quiet_log (Asks q next) w h = absurd h
quiet_log (Jump p) w h = absurd h
quiet_log (Call p) w h = absurd h

-- a list that adds nothing is empty
adds_nothing : (l made : List Event) → l ≡ l ++ made → made ≡ []
adds_nothing [] made e = sym e
adds_nothing (x ∷ l) made e = adds_nothing l made (cc)

event_made :
    {S A : Type 0} (e : Event) (rest : List Answer) (w : Log) (p : Play S A) → (is_end e ≡ true → IsQuiet p) → Makes (with_event e rest w) (log_of (run p (with_event e rest w))) →
    Makes w (log_of (run p (with_event e rest w)))
event_made e rest w p quiet m = record {
  made = e ∷ m.made;
  events = m.events ∙ append_assoc w.events (e ∷ []) m.made;
  ended = (λ is. adds_nothing (w.events ++ e ∷ []) m.made (sym (same is) ∙ m.events), m.ended);
} where
  same : is_end e ≡ true → (log_of (run p (with_event e rest w))).events ≡ w.events ++ e ∷ []
  same is = ap (λ l. l.events) (quiet_log p (with_event e rest w) (quiet is))

outer_makes : {S A : Type 0} (p : Play S A) (w : Log) → IsOuter p → Makes w (log_of (run p w))
outer_makes (Gives s v) w h = made_nothing w
outer_makes (Stops e) w h = made_nothing w
outer_makes (Asks q next) w h =
    one_reply (λ o. Makes w (log_of o)) q w.answers w (λ r. run (next r)) (made_nothing w)
    (λ r rest. event_made (event_of q r) rest w (next r) (h r).1 (outer_makes (next r) (with_event (event_of q r) rest w) (h r).0))
outer_makes (Jump p) w h = let m = outer_makes p (with_jump w) h in record { made = m.made; events = m.events; ended = m.ended }
outer_makes (Call p) w h = let m = outer_makes p (with_call w) h in record { made = m.made; events = m.events; ended = m.ended }

-- ---- phrases

refused_inner : {S A : Type 0} (line : ℕ) (go : Play S A) → IsInner go → (reply : Option Reason) → IsInner (unless_refused line go reply)
refused_inner line go h None = h
refused_inner line go h (Some reason) = λ _. (tt, λ _. tt)

out_inner : (v : Value) (line : ℕ) → IsInner (put_out v line)
out_inner v line = λ reply. (refused_inner line (Gives tt tt) tt reply, λ e. absurd (cc))

arithmetic_inner : (r : Result ℕ ArithFault) (line : ℕ) → IsInner (arithmetic_result r line)
arithmetic_inner (Ok n) line = tt
arithmetic_inner (Err fault) line = λ _. (tt, λ _. tt)

leave_outer : (main : Bool) (v : Value) → IsOuter (leave main v)
leave_outer true v = λ _. (tt, λ _. tt)
leave_outer false v = λ _. (tt, λ _. tt)

zero_inner : {S A : Type 0} (n : ℕ) (a b : Play S A) → IsInner a → IsInner b → IsInner (if_zero n a b)
zero_inner zero a b h k = h
zero_inner (suc n) a b h k = k

-- ---- the text

mutual
  expr_inner : (e : Expr) (state : State) → IsInner (play_expr e state)
  expr_inner (Number line ty value) state = tt
  expr_inner (Local line ty local) state = tt
  expr_inner (Negate' line ty s (more_of-Expr operand end_of-Expr)) state =
      bind_inner (play_expr operand state) _ (expr_inner operand state)
      (λ st v. bind_inner (arithmetic Sub ty (integer 0) v line) (λ _ x. Gives st x) (arithmetic_inner (operator_result Sub ty 0 v.number) line) (λ _ x. tt))
  expr_inner (Chain' line s (more_of-Expr first end_of-Expr) z links) state =
      bind_inner (play_expr first state) (play_links line links) (expr_inner first state) (λ st v. links_inner line links st v)

  links_inner : {m : _} (line : ℕ) (links : Row_of-Link m) (state : State) (left : Value) → IsInner (play_links line links state left)
  links_inner line end_of-Link state left = tt
  links_inner line (more_of-Link op ty operand links) state left =
      bind_inner (play_expr operand state) _ (expr_inner operand state)
      (λ st right. bind_inner (arithmetic op ty left right line) (λ _ v. play_links line links st v) (arithmetic_inner (operator_result op ty left.number right.number) line)
      (λ _ x. links_inner line links st x))

normal_inner : (next : State → TextPlay Flow) → ((s : State) → IsInner (next s)) → (s : State) (f : Flow) → IsInner (on_normal next s f)
normal_inner next h s Normal = h s
normal_inner next h s Broke = tt
normal_inner next h s Continued = tt
normal_inner next h s (Returned v) = tt

body_inner : (next : State → TextPlay Flow) → ((s : State) → IsInner (next s)) → (s : State) (f : Flow) → IsInner (after_body next s f)
body_inner next h s Normal = h s
body_inner next h s Broke = tt
body_inner next h s Continued = h s
body_inner next h s (Returned v) = tt

loop_inner :
    (n : ℕ) (test : State → TextPlay Value) (body : State → TextPlay Flow) → ((s : State) → IsInner (test s)) → ((s : State) → IsInner (body s)) →
    (s : State) → IsInner (loop n test body s)
loop_inner zero test body t b state = tt
loop_inner (suc n) test body t b state =
    let again = λ (s : State). Jump (loop n test body s) in
    bind_inner (test state) _ (t state)
    (λ st v. zero_inner v.number (Gives st Normal) (bind (body st) (after_body again)) tt
    (bind_inner (body st) (after_body again) (b st) (body_inner again (λ s. loop_inner n test body t b s))))

module _ (around : Around) where
  mutual
    stmt_inner : (s : Stmt) (state : State) → IsInner (play_stmt around s state)
    stmt_inner Empty state = tt
    stmt_inner (Assign line local value) state = bind_inner (play_expr value state) _ (expr_inner value state) (λ st v. tt)
    stmt_inner (While' line test s (more_of-Stmt body end_of-Stmt)) state =
        loop_inner around.rounds (play_expr test) (play_stmt around body) (λ st. expr_inner test st) (λ st. stmt_inner body st) state
    stmt_inner (Block' locals z body) state = stmts_inner body (with_zeros locals state)
    stmt_inner (PutChar line value) state =
        bind_inner (play_expr value state) _ (expr_inner value state)
        (λ st v. bind_inner (put_out v line) (λ _ _. Gives st Normal) (out_inner v line) (λ _ _. tt))
    stmt_inner (Return line value) state = bind_inner (play_expr value state) _ (expr_inner value state) (λ st v. tt)

    stmts_inner : {m : _} (body : Row_of-Stmt m) (state : State) → IsInner (play_stmts around body state)
    stmts_inner end_of-Stmt state = tt
    stmts_inner (more_of-Stmt s rest) state =
        bind_inner (play_stmt around s state) (on_normal (play_stmts around rest)) (stmt_inner s state)
        (normal_inner (play_stmts around rest) (λ st. stmts_inner rest st))

  called_inner : (o : Option FunctionDef) → IsInner (play_called around o)
  called_inner None = tt
  called_inner (Some f) =
      bind_inner (play_stmt around f.body (replicate f.locals zero_value)) (λ _ flow. Gives tt (result_of flow)) (stmt_inner f.body _) (λ st v. tt)

thread_outer : (n : ℕ) (program : PlainProgram) (start : Start) → IsOuter (play_thread n program start)
thread_outer n program start =
    let main = start.function == program.main in
    let o = slice_get program.functions start.function in
    bind_outer (play_called (around_of n start) o) (λ _ v. leave main v) (called_inner (around_of n start) o) (λ _ v. leave_outer main v)

pub nothing_follows : NothingFollowsAnEnd
nothing_follows n program start answers =
    let m = outer_makes (play_thread n program start) (fresh_log answers) (thread_outer n program start) in
    subst AreEndedOnce (sym m.events) m.ended
