-- A history stays legal with a greater bound: the play with the smaller one is a cut of the other, it took all answers, and
-- each event takes one.
use Rattle.std.proofs.Common.{◌≡◌, ℕ, zero, suc, ◌≤◌, List, [], ◌∷◌, length, Option, Some, None, refl, sym, ap, subst, arith}
use Rattle.std.specs.Prelude.{slice_get, replicate, ◌==◌}
use Rattle.form_tree.specs.declared.stmt.Stmt.{Stmt, Empty, Assign, While', Block', PutChar, Return, Row_of-Stmt, end_of-Stmt, more_of-Stmt}
use Rattle.form_tree.specs.declared.program.FunctionDef.{FunctionDef}
use Rattle.form_tree.specs.Plain.{PlainProgram}
use Rattle.ideal_machine.specs.declared.value.Value.{Value}
use Rattle.ideal_machine.specs.declared.event.Event.{Event}
use Rattle.ideal_machine.specs.declared.event.Event.TheVariants.{Begin}
use Rattle.ideal_machine.specs.Memory.{Memory}
use Rattle.ideal_machine.specs.Values.{State, zero_value}
use Rattle.ideal_machine.specs.Play.{Gives, Jump, bind, fresh_log, log_of}
use Rattle.ideal_machine.specs.Phrases.{Start, leave}
use Rattle.ideal_machine.proofs.Runs.{run_count, reached_events}
use Rattle.ideal_machine.proofs.Cuts.{IsCutOf, cut_self, bind_cut, zero_cut, cut_reaches}
use Rattle.form_play.specs.FormPlay.{Around, Flow, Normal, Broke, Continued, Returned, TextPlay, play_expr, on_normal, after_body, loop, with_zeros, play_stmt, play_stmts, result_of, play_called, around_of, play_thread, play}
use Rattle.form_play.specs.Legal.{History, memory_after, Moment, moments, thread_moments, answers_of, AreShown, IsPlayed, start_of, BeginIsPlayed, ThreadsPlay}
use Rattle.form_play.specs.MoreRounds.{MoreRounds}

-- ---- plays

normal_cut :
    (next next' : State → TextPlay Flow) → ((s : State) → IsCutOf (next s) (next' s)) → (s : State) (f : Flow) →
    IsCutOf (on_normal next s f) (on_normal next' s f)
normal_cut next next' h s Normal = h s
normal_cut next next' h s Broke = refl
normal_cut next next' h s Continued = refl
normal_cut next next' h s (Returned v) = refl

body_cut :
    (next next' : State → TextPlay Flow) → ((s : State) → IsCutOf (next s) (next' s)) → (s : State) (f : Flow) →
    IsCutOf (after_body next s f) (after_body next' s f)
body_cut next next' h s Normal = h s
body_cut next next' h s Broke = refl
body_cut next next' h s Continued = h s
body_cut next next' h s (Returned v) = refl

loop_cut :
    (n n' : ℕ) → n ≤ n' → (test : State → TextPlay Value) (body body' : State → TextPlay Flow) →
    ((s : State) → IsCutOf (body s) (body' s)) → (s : State) → IsCutOf (loop n test body s) (loop n' test body' s)
loop_cut zero n' le test body body' h state = tt
loop_cut (suc n) zero le test body body' h state = absurd (omega arith)
loop_cut (suc n) (suc n') le test body body' h state =
    let again = λ (s : State). Jump (loop n test body s) in
    let again' = λ (s : State). Jump (loop n' test body' s) in
    bind_cut (test state) (test state) _ _ (cut_self (test state))
    (λ st v. zero_cut v.number (Gives st Normal) (bind (body st) (after_body again)) (Gives st Normal) (bind (body' st) (after_body again'))
    refl
    (bind_cut (body st) (body' st) (after_body again) (after_body again') (h st)
    (body_cut again again' (λ s. (loop n' test body' s, refl, loop_cut n n' (omega (arith, le)) test body body' h s)))))

module _ (around around' : Around) (le : around.rounds ≤ around'.rounds) where
  mutual
    stmt_cut : (s : Stmt) (state : State) → IsCutOf (play_stmt around s state) (play_stmt around' s state)
    stmt_cut Empty state = refl
    stmt_cut (Assign line local value) state = cut_self (play_stmt around (Assign line local value) state)
    stmt_cut (While' line test s (more_of-Stmt body end_of-Stmt)) state =
        loop_cut around.rounds around'.rounds le (play_expr test) (play_stmt around body) (play_stmt around' body) (λ st. stmt_cut body st) state
    stmt_cut (Block' locals z body) state = stmts_cut body (with_zeros locals state)
    stmt_cut (PutChar line value) state = cut_self (play_stmt around (PutChar line value) state)
    stmt_cut (Return line value) state = cut_self (play_stmt around (Return line value) state)

    stmts_cut : {m : _} (body : Row_of-Stmt m) (state : State) → IsCutOf (play_stmts around body state) (play_stmts around' body state)
    stmts_cut end_of-Stmt state = refl
    stmts_cut (more_of-Stmt s rest) state =
        bind_cut (play_stmt around s state) (play_stmt around' s state) (on_normal (play_stmts around rest)) (on_normal (play_stmts around' rest))
        (stmt_cut s state) (normal_cut (play_stmts around rest) (play_stmts around' rest) (λ st. stmts_cut rest st))

  called_cut : (o : Option FunctionDef) → IsCutOf (play_called around o) (play_called around' o)
  called_cut None = refl
  called_cut (Some f) =
      let first = replicate f.locals zero_value in
      bind_cut (play_stmt around f.body first) (play_stmt around' f.body first) (λ _ flow. Gives tt (result_of flow)) (λ _ flow. Gives tt (result_of flow))
      (stmt_cut f.body first) (λ st v. refl)

-- a thread with a greater bound, and another id, argument and addresses
pub thread_cut :
    (n n' : ℕ) → n ≤ n' → (program : PlainProgram) (start start' : Start) → start.function ≡ start'.function →
    IsCutOf (play_thread n program start) (play_thread n' program start')
thread_cut n n' le program start start' same =
    let main = start.function == program.main in
    let o = slice_get program.functions start.function in
    subst
    (λ (f : ℕ).
    IsCutOf (play_thread n program start) (bind (play_called (around_of n' start') (slice_get program.functions f)) (λ _ v. leave (f == program.main) v)))
    same
    (bind_cut (play_called (around_of n start) o) (play_called (around_of n' start') o) (λ _ v. leave main v) (λ _ v. leave main v)
    (called_cut (around_of n start) (around_of n' start') le o) (λ _ v. cut_self (leave main v)))

-- ---- histories

pub shown_length : (events : List Event) (made : List Moment) → AreShown events made → length events ≡ length made
shown_length [] [] h = refl
shown_length [] (m ∷ made) h = absurd h
shown_length (e ∷ events) [] h = absurd h
shown_length (e ∷ events) (m ∷ made) h = ap suc (shown_length events made h.1)

pub answers_length : (made : List Moment) → length (answers_of made) ≡ length made
answers_length [] = refl
answers_length (m ∷ made) = ap suc (answers_length made)

module _ (n n' : ℕ) (le : n ≤ n') (program : PlainProgram) where
  played_more : (start : Start) (made : List Moment) → IsPlayed n program start made → IsPlayed n' program start made
  played_more start made h =
      let w = fresh_log (answers_of made) in
      let o = play n program start (answers_of made) in
      let p = play n' program start (answers_of made) in
      let r = cut_reaches (play_thread n program start) (play_thread n' program start) w (thread_cut n n' le program start start refl) in
      let few : length (log_of p).events ≤ length (log_of o).events =
      omega (arith, run_count (play_thread n' program start) w, shown_length (log_of o).events made h, answers_length made) in
      subst (λ (events : List Event). AreShown events made) (sym (reached_events o p r few)) h

  begin_more :
      (base : ℕ → ℕ) (memory : Memory) (slot : ℕ) (event : Event) (made : List Moment) →
      BeginIsPlayed n program base memory slot event made → BeginIsPlayed n' program base memory slot event made
  begin_more base memory slot (Begin function address half) made h =
      played_more (start_of memory slot function address half base) made h
  begin_more base memory slot event made h = tt

  threads_more : (base : ℕ → ℕ) (memory : Memory) (history : History) → ThreadsPlay n program base memory history → ThreadsPlay n' program base memory history
  threads_more base memory [] h = tt
  threads_more base memory (entry ∷ rest) h =
      let after = memory_after memory entry in
      (begin_more base memory entry.actor entry.event (thread_moments entry.actor (moments after rest)) h.0, threads_more base after rest h.1)

pub more_rounds : MoreRounds
more_rounds history program world n n' le h = record {
  allowed = h.allowed;
  played = threads_more n n' le program _ _ history h.played;
}
