-- A greater bound on rounds, or a longer list of answers, only adds.
use Rattle.std.proofs.Common.{inl, inr, ⊎_elim, ℕ, zero, suc, ◌≤◌, refl, arith}
use Rattle.std.specs.Prelude.{◌==◌}
use Rattle.c_tree.specs.Plain.{PlainProgram}
use Rattle.ideal_machine.specs.Values.{State}
use Rattle.ideal_machine.specs.Play.{Jump, bind, fresh_log}
use Rattle.ideal_machine.specs.Phrases.{Start, leave}
use Rattle.ideal_machine.proofs.Cuts.{IsCutOf, cut_self, bind_cut, cut_reaches}
use Rattle.ideal_machine.proofs.Bounds.{cuts_relate}
use Rattle.ideal_machine.proofs.Fewer.{run_fewer}
use Rattle.tree_play.specs.Around.{Flow, Normal, Broke, Continued, Returned, TextPlay}
use Rattle.tree_play.specs.Statements.{in_round, loop}
use Rattle.tree_play.specs.TreePlay.{play_first, play_thread}
use Rattle.tree_play.specs.MoreRounds.{MoreRounds}
use Rattle.tree_play.specs.MoreAnswers.{MoreAnswers}
use Rattle.tree_play.proofs.Related.{RelatesLoops, first_function_alike}

-- ---- rounds

round_cut :
    (next next' : State → TextPlay Flow) → ((s : State) → IsCutOf (next s) (next' s)) → (s : State) (f : Flow) →
    IsCutOf (in_round next s f) (in_round next' s f)
round_cut next next' h s Normal = h s
round_cut next next' h s Broke = refl
round_cut next next' h s Continued = h s
round_cut next next' h s (Returned v) = refl

loop_cut : (n n' : ℕ) → n ≤ n' → RelatesLoops n n' (λ S A p q. IsCutOf p q)
loop_cut zero n' le body body' next next' b x state = tt
loop_cut (suc n) zero le body body' next next' b x state = absurd (omega (arith, le))
loop_cut (suc n) (suc n') le body body' next next' b x state =
    let again = λ (s : State). Jump (loop n body next s) in
    let again' = λ (s : State). Jump (loop n' body' next' s) in
    let step = λ (s : State). bind (next s) (in_round again) in
    let step' = λ (s : State). bind (next' s) (in_round again') in
    bind_cut (body state) (body' state) (in_round step) (in_round step') (b state)
    (round_cut step step' (λ s.
    bind_cut (next s) (next' s) (in_round again) (in_round again') (x s)
    (round_cut again again' (λ s. (loop n' body' next' s, refl, loop_cut n n' (omega (arith, le)) body body' next next' b x s)))))

thread_cut : (n n' : ℕ) → n ≤ n' → (program : PlainProgram) (start : Start) → IsCutOf (play_thread n program start) (play_thread n' program start)
thread_cut n n' le program start =
    let main = start.function == program.main in
    bind_cut (play_first n program start) (play_first n' program start) (λ _ v. leave main v) (λ _ v. leave main v)
    (first_function_alike n n' (λ S A p q. IsCutOf p q) (cuts_relate n n' le) (λ S A. refl) (loop_cut n n' le) program start)
    (λ _ v. cut_self (leave main v))

pub more_rounds : MoreRounds
more_rounds n n' le program start answers =
    cut_reaches (play_thread n program start) (play_thread n' program start) (fresh_log answers) (thread_cut n n' le program start)

-- ---- answers

pub more_answers : MoreAnswers
more_answers n program start answers more =
    ⊎_elim (λ cut. inl (record { taken = cut.taken; events = cut.events })) (λ alike. inr (record { left = alike.left; events = alike.events }))
    (run_fewer more (play_thread n program start) answers (fresh_log answers))
