-- Nothing follows an event that ends its thread.
use Rattle.std.proofs.Common.{ℕ, zero, suc, sym, subst}
use Rattle.std.specs.Prelude.{◌==◌}
use Rattle.c_tree.specs.Plain.{PlainProgram}
use Rattle.ideal_machine.specs.Values.{State}
use Rattle.ideal_machine.specs.Play.{Jump, bind, fresh_log}
use Rattle.ideal_machine.specs.Phrases.{Start, leave}
use Rattle.ideal_machine.specs.Endings.{AreEndedOnce}
use Rattle.ideal_machine.proofs.LastEvents.{IsInner, IsOuter, bind_inner, bind_outer, leave_outer, inner_relates, outer_makes}
use Rattle.tree_play.specs.Around.{Flow, Normal, Broke, Continued, Returned, TextPlay}
use Rattle.tree_play.specs.Statements.{in_round, loop}
use Rattle.tree_play.specs.TreePlay.{play_first, play_thread}
use Rattle.tree_play.specs.EndsLast.{NothingFollowsAnEnd}
use Rattle.tree_play.proofs.Related.{RelatesLoops, first_function_alike}

round_inner : (next : State → TextPlay Flow) → ((s : State) → IsInner (next s)) → (s : State) (f : Flow) → IsInner (in_round next s f)
round_inner next h s Normal = h s
round_inner next h s Broke = tt
round_inner next h s Continued = h s
round_inner next h s (Returned v) = tt

loop_inner : (n : ℕ) → RelatesLoops n n (λ S A p q. IsInner p)
loop_inner zero body body' next next' b x state = tt
loop_inner (suc n) body body' next next' b x state =
    let again = λ (s : State). Jump (loop n body next s) in
    let step = λ (s : State). bind (next s) (in_round again) in
    bind_inner (body state) (in_round step) (b state)
    (round_inner step (λ s. bind_inner (next s) (in_round again) (x s) (round_inner again (λ s. loop_inner n body body' next next' b x s))))

thread_outer : (n : ℕ) (program : PlainProgram) (start : Start) → IsOuter (play_thread n program start)
thread_outer n program start =
    let main = start.function == program.main in
    bind_outer (play_first n program start) (λ _ v. leave main v)
    (first_function_alike n n (λ S A p q. IsInner p) (inner_relates n) (λ S A. tt) (loop_inner n) program start) (λ _ v. leave_outer main v)

pub nothing_follows : NothingFollowsAnEnd
nothing_follows n program start answers =
    let m = outer_makes (play_thread n program start) (fresh_log answers) (thread_outer n program start) in
    subst AreEndedOnce (sym m.events) m.ended
