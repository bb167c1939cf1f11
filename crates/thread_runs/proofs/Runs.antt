-- A run and a play are alike, by induction on the turns.
use Rattle.std.proofs.Common.{◌≡◌, ℕ, zero, suc, ◌+◌, ◌*◌, ◌<◌, ◌≤◌, List, [], ◌∷◌, length, slice_get, Option, Some, None, refl, sym, ap, ◌∙◌, subst, arith}
use Rattle.whole_code.specs.declared.op.Instruction.{Instruction}
use Rattle.whole_code.specs.Plain.{PlainFunction, PlainCode, instruction_at}
use Rattle.ideal_machine.specs.declared.event.Access.{Access}
use Rattle.ideal_machine.specs.declared.event.Answer.{Answer}
use Rattle.ideal_machine.specs.declared.event.Answer.TheVariants.{Done}
use Rattle.ideal_machine.specs.declared.event.Event.{Event}
use Rattle.ideal_machine.specs.Queries.{Query, Reply, reply_to, event_of}
use Rattle.ideal_machine.specs.Play.{Stops, Asks, Waits, Cut, Log, fresh_log, with_event, with_jump, Behaviour, Ends, by_reply, run_query, run}
use Rattle.ideal_machine.specs.Phrases.{Start, Phrase}
use Rattle.whole_thread.specs.declared.stage.Stage.{Stage}
use Rattle.whole_thread.specs.declared.stage.Stage.TheVariants as stage
use Rattle.whole_thread.specs.declared.stage.Want.{Want}
use Rattle.whole_thread.specs.declared.stage.Want.TheVariants as want
use Rattle.whole_thread.specs.Standing.{Standing}
use Rattle.whole_thread.specs.CodePlay.{exec, code_events}
use Rattle.whole_thread.specs.Thread.{Thread, stage_in_round, stage_of, here, want_of, thread_after_step, thread_after_poll, thread_after_begin}
use Rattle.whole_thread.specs.Answers.{thread_after_answer}
use Rattle.whole_thread.specs.PlaysOn.{by_place, in_round_play, plays_from, plays_on, step_play, rest_play, stop_play, AsksThen, Follows, IsThreadOf, ThreadsFollow, StopsOutside, IsWithin, StandsWithin, KeepsRounds, CodeGoesOnHere, BeginFollows, ThreadsStay, RoundsStay}
use Rattle.thread_runs.specs.Run.{query_of, step_log, step_log_by, round_log, stage_log, arrives, takes_answer, stops, turn, thread_run, run_of}
use Rattle.thread_runs.specs.AsPlayed.{RunsAreAsPlayed, PlaysAreRun, RunsBeginAsPlayed}
use Rattle.thread_runs.proofs.Alike.{IsAlike, same, weaker, cut_play, cut_run, weight, light, weightless, turns_for}
use Rattle.thread_runs.proofs.Logs.{step_counts, stop_is, waits_before, stage_within}
use Rattle.thread_runs.proofs.Queries.{asks_first, query_is}

-- what is proved of each turn
pub record Laws : Type 0 where
  pub follow : ThreadsFollow
  pub outside : StopsOutside
  pub within : StandsWithin
  pub goes_on : CodeGoesOnHere
  pub begin : BeginFollows
  pub stay : ThreadsStay
  pub rounds : RoundsStay

module _ (laws : Laws) (code : PlainCode) (places : ℕ → ℕ) (start : Start) where
  -- what is left of an instruction at which a thread stands, and the thread's run
  abbrev Claim : (turns : ℕ) → Type 0
  Claim turns =
      (bound : ℕ) (thread : Thread) (log : Log) (i : Instruction) → IsThreadOf code start thread → KeepsRounds code thread → here code thread ≡ Some i →
      IsAlike turns bound (turns_for bound (weight (stage_of thread) + length log.answers))
      (run (rest_play code (by_place places start) bound i thread (stage_of thread)) log) (thread_run code places turns thread log)

  -- ---- before an instruction

  -- a thread outside of its code waits
  outside : (turns bound k : ℕ) (thread : Thread) (log : Log) → thread.stage ≡ stage.Before → here code thread ≡ None →
      IsAlike (suc turns) (suc bound) (turns_for (suc bound) k) (Ends Waits log) (thread_run code places turns thread log)
  outside zero bound k thread log before nothing = record {
    run_is = λ _ uncut. absurd uncut;
    play_is = λ l _. absurd (omega (arith, l));
    begins = λ l. (same 0 0 0 (Ends Waits log)).begins (omega arith);
  }
  outside (suc turns) bound k thread log before nothing =
      let wants : want_of code thread ≡ want.Stopped = (laws.outside code (by_place places start) bound thread nothing).0 in
      let waits : stops (stage_of thread) log ≡ Ends Waits log = subst (λ (s : Stage). stops (stage_in_round thread.at.granted s) log ≡ Ends Waits log) (sym before) (waits_before thread.at.granted log) in
      subst (λ (b : Behaviour (Unit {0}) ℕ). IsAlike (suc (suc turns)) (suc bound) (turns_for (suc bound) k) (Ends Waits log) b)
      (sym (ap (λ (w : Want). turn (thread_run code places turns) code places thread log w) wants ∙ waits))
      (same (suc (suc turns)) (suc bound) (turns_for (suc bound) k) (Ends Waits log))

  at_instruction :
      (turns : ℕ) → Claim turns → (bound k : ℕ) (thread : Thread) (log : Log) → IsThreadOf code start thread → KeepsRounds code thread → thread.stage ≡ stage.Before →
      length log.answers < k → (g : Option Instruction) → here code thread ≡ g →
      IsAlike (suc turns) (suc bound) (turns_for (suc bound) k) (run (exec code (by_place places start) (suc bound) thread.at) log) (thread_run code places turns thread log)
  at_instruction turns claim bound k thread log is rounds before less None nothing =
      subst (λ (p : Phrase ℕ). IsAlike (suc turns) (suc bound) (turns_for (suc bound) k) (run p log) (thread_run code places turns thread log))
      (sym (laws.outside code (by_place places start) bound thread nothing).1) (outside turns bound k thread log before nothing)
  at_instruction turns claim bound k thread log is rounds before less (Some i) stands =
      let one : weight (stage_of thread) ≤ 1 = light (stage_of thread) in
      subst (λ (p : Phrase ℕ). IsAlike (suc turns) (suc bound) (turns_for (suc bound) k) (run p log) (thread_run code places turns thread log))
      (sym (laws.goes_on code places start bound i thread rounds stands before))
      (weaker (suc turns) (suc bound) (turns_for (suc bound) k) turns bound (turns_for bound (weight (stage_of thread) + length log.answers)) _ _
      (λ l. omega (arith, l)) (λ l. omega (arith, l, one, less)) (claim bound thread log i is rounds stands))

  before_next :
      (turns : ℕ) → Claim turns → (bound k : ℕ) (thread : Thread) (log : Log) → IsThreadOf code start thread → KeepsRounds code thread → thread.stage ≡ stage.Before →
      length log.answers < k →
      IsAlike (suc turns) bound (turns_for bound k) (run (exec code (by_place places start) bound thread.at) log) (thread_run code places turns thread log)
  before_next turns claim zero k thread log is rounds before less = cut_play turns (turns_for 0 k) log (thread_run code places turns thread log)
  before_next turns claim (suc bound) k thread log is rounds before less =
      at_instruction turns claim bound k thread log is rounds before less (here code thread) refl

  before_round :
      (turns : ℕ) → Claim turns → (bound k : ℕ) (thread : Thread) (log : Log) → IsThreadOf code start thread → KeepsRounds code thread → thread.stage ≡ stage.Before →
      length log.answers < k → (g : Option Access) →
      IsAlike (suc turns) bound (turns_for bound k) (run (in_round_play g (exec code (by_place places start) bound thread.at)) log) (thread_run code places turns thread (round_log g log))
  before_round turns claim bound k thread log is rounds before less None = before_next turns claim bound k thread log is rounds before less
  before_round turns claim bound k thread log is rounds before less (Some access) = before_next turns claim bound k thread (with_jump log) is rounds before less

  -- ---- within an instruction

  within_it :
      (turns : ℕ) → Claim turns → (bound k : ℕ) (i : Instruction) (thread : Thread) (log : Log) → IsThreadOf code start thread → KeepsRounds code thread →
      length log.answers < k → (s : Stage) → IsWithin s → thread.stage ≡ s → here code thread ≡ Some i →
      IsAlike (suc turns) bound (turns_for bound k) (run (rest_play code (by_place places start) bound i thread s) log) (thread_run code places turns thread log)
  within_it turns claim bound k i thread log is rounds less s within stage_is stands =
      let stays : stage_of thread ≡ s = ap (λ (s : Stage). stage_in_round thread.at.granted s) stage_is ∙ stage_within thread.at.granted s within in
      let none : weight s ≡ 0 = weightless s within in
      weaker (suc turns) bound (turns_for bound k) turns bound (turns_for bound (weight s + length log.answers)) _ _
      (λ l. omega (arith, l)) (λ l. omega (arith, l, none, less))
      (subst (λ (s : Stage). IsAlike turns bound (turns_for bound (weight s + length log.answers)) (run (rest_play code (by_place places start) bound i thread s) log) (thread_run code places turns thread log))
      stays (claim bound thread log i is rounds stands))

  -- ---- where a thread has come

  come_to :
      (turns : ℕ) → Claim turns → (bound k : ℕ) (i : Instruction) (thread : Thread) (log : Log) → IsThreadOf code start thread → KeepsRounds code thread →
      length log.answers < k → (s : Stage) → thread.stage ≡ s → (IsWithin s → here code thread ≡ Some i) →
      IsAlike (suc turns) bound (turns_for bound k) (run (plays_from code (by_place places start) bound i thread s) log) (thread_run code places turns thread (stage_log s thread.at.granted log))
  come_to turns claim bound k i thread log is rounds less stage.Before stage_is stands = before_round turns claim bound k thread log is rounds stage_is less thread.at.granted
  come_to turns claim bound k i thread log is rounds less s stage_is stands = within_it turns claim bound k i thread log is rounds less s tt stage_is (stands tt)

  comes :
      (turns : ℕ) → Claim turns → (bound k : ℕ) (i : Instruction) (thread : Thread) (log : Log) → IsThreadOf code start thread → KeepsRounds code thread →
      length log.answers < k → (IsWithin thread.stage → here code thread ≡ Some i) →
      IsAlike (suc turns) bound (turns_for bound k) (run (plays_on code (by_place places start) bound i thread) log) (arrives (thread_run code places turns) thread log)
  comes turns claim bound k i thread log is rounds less stands = come_to turns claim bound k i thread log is rounds less thread.stage refl stands

  -- it stands where it stood
  stands_still : (old new : Thread) (i : Instruction) → here code old ≡ Some i → new.at ≡ old.at → here code new ≡ Some i
  stands_still old new i stands still = subst (λ (at : Standing). instruction_at code at.frame.function at.frame.index ≡ Some i) (sym still) stands

  -- ---- an answer

  by_fit :
      (turns : ℕ) → Claim turns → (bound k : ℕ) (i : Instruction) (thread : Thread) (log : Log) → IsThreadOf code start thread → KeepsRounds code thread →
      here code thread ≡ Some i → (query : Query) (next : Reply query → Phrase ℕ) (answer : Answer) (rest : List Answer) → length rest < k →
      ((answer : Answer) (reply : Reply query) → reply_to query answer ≡ Some reply → next reply ≡ plays_on code (by_place places start) bound i (thread_after_answer code thread answer)) →
      (o : Option (Reply query)) → reply_to query answer ≡ o →
      IsAlike (suc turns) bound (turns_for bound k)
      (by_reply o (Ends Waits log) (λ reply. run (next reply) (with_event (event_of query reply) rest log)))
      (by_reply o (Ends Waits log) (λ reply. arrives (thread_run code places turns) (thread_after_answer code thread answer) (with_event (event_of query reply) rest log)))
  by_fit turns claim bound k i thread log is rounds stands query next answer rest less goes None fits = same (suc turns) bound (turns_for bound k) (Ends Waits log)
  by_fit turns claim bound k i thread log is rounds stands query next answer rest less goes (Some reply) fits =
      subst (λ (p : Phrase ℕ). IsAlike (suc turns) bound (turns_for bound k) (run p (with_event (event_of query reply) rest log))
      (arrives (thread_run code places turns) (thread_after_answer code thread answer) (with_event (event_of query reply) rest log))) (sym (goes answer reply fits))
      (comes turns claim bound k i (thread_after_answer code thread answer) (with_event (event_of query reply) rest log)
      (laws.stay code places start thread answer is).0 (laws.rounds code places thread answer rounds).0 less
      (λ within. stands_still thread (thread_after_answer code thread answer) i stands ((laws.within code places thread answer).0 within)))

  by_answer :
      (turns : ℕ) → Claim turns → (bound k : ℕ) (i : Instruction) (thread : Thread) (log : Log) → IsThreadOf code start thread → KeepsRounds code thread →
      here code thread ≡ Some i → (query : Query) (next : Reply query → Phrase ℕ) (answers : List Answer) → length answers ≤ k →
      ((answer : Answer) (reply : Reply query) → reply_to query answer ≡ Some reply → next reply ≡ plays_on code (by_place places start) bound i (thread_after_answer code thread answer)) →
      IsAlike (suc turns) bound (turns_for bound k) (run_query query answers log (λ reply. run (next reply))) (takes_answer (thread_run code places turns) code thread query answers log)
  by_answer turns claim bound k i thread log is rounds stands query next [] less goes = same (suc turns) bound (turns_for bound k) (Ends Waits log)
  by_answer turns claim bound k i thread log is rounds stands query next (answer ∷ rest) less goes =
      by_fit turns claim bound k i thread log is rounds stands query next answer rest less goes (reply_to query answer) refl

  by_event :
      (turns : ℕ) → Claim turns → (bound : ℕ) (i : Instruction) (thread : Thread) (log : Log) → IsThreadOf code start thread → KeepsRounds code thread →
      here code thread ≡ Some i → (event : Event) → want_of code thread ≡ want.Event event →
      AsksThen (rest_play code (by_place places start) bound i thread (stage_of thread)) event (λ answer. plays_on code (by_place places start) bound i (thread_after_answer code thread answer)) →
      IsAlike (suc turns) bound (turns_for bound (weight (stage_of thread) + length log.answers)) (run (rest_play code (by_place places start) bound i thread (stage_of thread)) log)
      (takes_answer (thread_run code places turns) code thread (query_of code thread event) log.answers log)
  by_event turns claim bound i thread log is rounds stands event wish asks =
      let query : asks.query ≡ query_of code thread event =
      sym (ap (λ (p : Phrase ℕ). asks_first event p) asks.asks) ∙ query_is code places start bound i thread event is stands wish in
      subst (λ (q : Query). IsAlike (suc turns) bound (turns_for bound (weight (stage_of thread) + length log.answers)) (run (rest_play code (by_place places start) bound i thread (stage_of thread)) log)
      (takes_answer (thread_run code places turns) code thread q log.answers log)) query
      (subst (λ (p : Phrase ℕ). IsAlike (suc turns) bound (turns_for bound (weight (stage_of thread) + length log.answers)) (run p log)
      (takes_answer (thread_run code places turns) code thread asks.query log.answers log)) (sym asks.asks)
      (by_answer turns claim bound (weight (stage_of thread) + length log.answers) i thread log is rounds stands asks.query asks.next log.answers (omega arith) asks.goes))

  -- ---- a turn

  by_want :
      (turns : ℕ) → Claim turns → (bound : ℕ) (i : Instruction) (thread : Thread) (log : Log) → IsThreadOf code start thread → KeepsRounds code thread →
      here code thread ≡ Some i → (w : Want) → want_of code thread ≡ w →
      Follows code (by_place places start) bound i thread (stage_of thread) (λ answer. thread_after_answer code thread answer) (thread_after_step code places thread) w →
      IsAlike (suc turns) bound (turns_for bound (weight (stage_of thread) + length log.answers)) (run (rest_play code (by_place places start) bound i thread (stage_of thread)) log)
      (turn (thread_run code places turns) code places thread log w)
  by_want turns claim bound i thread log is rounds stands (want.Event event) wish follows = by_event turns claim bound i thread log is rounds stands event wish follows
  by_want turns claim bound i thread log is rounds stands want.Instruction wish follows =
      let step : Thread = thread_after_step code places thread in
      let counts = step_counts code thread i.op (plays_on code (by_place places start) bound i step) log in
      let one : weight (stage_of thread) ≡ 1 = ap (λ (s : Stage). weight s) follows.0 in
      let left : length (step_log code thread i.op log).answers ≡ length log.answers = ap (λ (answers : List Answer). length answers) counts.1 in
      subst (λ (b : Behaviour (Unit {0}) ℕ). IsAlike (suc turns) bound (turns_for bound (weight (stage_of thread) + length log.answers)) b
      (arrives (thread_run code places turns) step (step_log_by code thread (here code thread) log))) (sym (ap (λ (p : Phrase ℕ). run p log) follows.1 ∙ counts.0))
      (subst (λ (g : Option Instruction). IsAlike (suc turns) bound (turns_for bound (weight (stage_of thread) + length log.answers))
      (run (plays_on code (by_place places start) bound i step) (step_log code thread i.op log)) (arrives (thread_run code places turns) step (step_log_by code thread g log))) (sym stands)
      (comes turns claim bound (weight (stage_of thread) + length log.answers) i step (step_log code thread i.op log)
      (laws.stay code places start thread Done is).1 (laws.rounds code places thread Done rounds).1 (omega (arith, one, left))
      (λ within. stands_still thread step i stands ((laws.within code places thread Done).1 within))))
  by_want turns claim bound i thread log is rounds stands want.Poll wish follows =
      let one : weight (stage_of thread) ≡ 1 = ap (λ (s : Stage). weight s) follows.0 in
      subst (λ (p : Phrase ℕ). IsAlike (suc turns) bound (turns_for bound (weight (stage_of thread) + length log.answers)) (run p log)
      (arrives (thread_run code places turns) (thread_after_poll thread) log)) (sym follows.1)
      (comes turns claim bound (weight (stage_of thread) + length log.answers) i (thread_after_poll thread) log
      (laws.stay code places start thread Done is).2 (laws.rounds code places thread Done rounds).2 (omega (arith, one)) (λ within. absurd within))
  by_want turns claim bound i thread log is rounds stands want.Stopped wish follows =
      subst (λ (b : Behaviour (Unit {0}) ℕ). IsAlike (suc turns) bound (turns_for bound (weight (stage_of thread) + length log.answers)) b (stops (stage_of thread) log))
      (sym (ap (λ (p : Phrase ℕ). run p log) follows ∙ stop_is (stage_of thread) log))
      (same (suc turns) bound (turns_for bound (weight (stage_of thread) + length log.answers)) (stops (stage_of thread) log))

  claims : (turns : ℕ) → Claim turns
  claims zero bound thread log i is rounds stands =
      cut_run bound (weight (stage_of thread) + length log.answers) (rest_play code (by_place places start) bound i thread (stage_of thread)) log
  claims (suc turns) bound thread log i is rounds stands =
      by_want turns (claims turns) bound i thread log is rounds stands (want_of code thread) refl (laws.follow code places start bound i thread is stands)

  -- ---- from the beginning

  begun :
      (f : PlainFunction) (old : Thread) (answers : List Answer) (turns bound : ℕ) → slice_get code.functions start.function ≡ Some f →
      IsAlike (suc turns) bound (turns_for bound (suc (length answers))) (code_events bound code (by_place places start) answers) (run_of code places turns start old answers)
  begun f old answers turns bound there =
      let new : Thread = thread_after_begin code start.id start.function start.argument old in
      let begins = laws.begin code places start bound f old there in
      subst (λ (p : Phrase ℕ). IsAlike (suc turns) bound (turns_for bound (suc (length answers))) (run p (fresh_log answers)) (run_of code places turns start old answers)) (sym begins.4)
      (before_next turns (claims turns) bound (suc (length answers)) new (fresh_log answers) begins.0 begins.1 begins.2 (omega arith))

-- ---- the law

pub runs_are_as_played : Laws → RunsAreAsPlayed
runs_are_as_played laws code places start f old answers turns bound there less uncut =
    (begun laws code places start f old answers turns bound there).run_is (omega (arith, less)) uncut

pub plays_are_run : Laws → PlaysAreRun
plays_are_run laws code places start f old answers turns bound there less uncut =
    (begun laws code places start f old answers turns bound there).play_is (omega (arith, less)) uncut

pub runs_begin_as_played : Laws → RunsBeginAsPlayed
runs_begin_as_played laws code places start f old answers turns bound there less =
    (begun laws code places start f old answers turns bound there).begins (omega (arith, less))
