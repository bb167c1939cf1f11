-- What a play makes and what a run makes are alike, by the bounds of both.
use Rattle.std.proofs.Common.{◌≡◌, ℕ, zero, suc, ◌+◌, ◌≤◌, List, [], ◌∷◌, ◌++◌, Option, Some, None, refl, sym, ◌∙◌, arith, append_assoc, append-nil}
use Rattle.ideal_machine.specs.declared.event.Answer.{Answer}
use Rattle.ideal_machine.specs.declared.event.Event.{Event}
use Rattle.ideal_machine.specs.Queries.{Query, Reply, reply_to, event_of}
use Rattle.ideal_machine.specs.Play.{Gives, Stops, Asks, Jump, Call, Waits, Cut, Log, with_event, with_jump, with_call, Behaviour, Ends, log_of, by_reply, run_query, run}
use Rattle.ideal_machine.specs.Phrases.{Phrase}
use Rattle.whole_thread.specs.declared.stage.Stage.{Stage}
use Rattle.whole_thread.specs.declared.stage.Stage.TheVariants as stage
use Rattle.whole_thread.specs.PlaysOn.{IsWithin}
use Rattle.thread_runs.specs.AsPlayed.{IsUncut, GoesBeyond}

-- a run of so many turns, and a play with a bound, which it needs so many turns to follow
pub record IsAlike (turns bound need : ℕ) (play thread : Behaviour (Unit {0}) ℕ) : Type 0 where
  pub run_is : turns ≤ bound → IsUncut thread → play ≡ thread
  pub play_is : need ≤ turns → IsUncut play → play ≡ thread
  pub begins : turns ≤ bound → GoesBeyond thread play

pub same : (turns bound need : ℕ) (b : Behaviour (Unit {0}) ℕ) → IsAlike turns bound need b b
same turns bound need b = record {
  run_is = λ _ _. refl;
  play_is = λ _ _. refl;
  begins = λ _. ([], sym (append-nil (log_of b).events));
}

pub weaker :
    (turns bound need turns' bound' need' : ℕ) (play thread : Behaviour (Unit {0}) ℕ) → (turns ≤ bound → turns' ≤ bound') → (need ≤ turns → need' ≤ turns') →
    IsAlike turns' bound' need' play thread → IsAlike turns bound need play thread
weaker turns bound need turns' bound' need' play thread less enough alike = record {
  run_is = λ l. alike.run_is (less l);
  play_is = λ l. alike.play_is (enough l);
  begins = λ l. alike.begins (less l);
}

-- a play whose bound is reached
pub cut_play : (turns need : ℕ) (log : Log) (thread : Behaviour (Unit {0}) ℕ) → IsAlike (suc turns) 0 need (Ends Cut log) thread
cut_play turns need log thread = record {
  run_is = λ l _. absurd (omega (arith, l));
  play_is = λ _ uncut. absurd uncut;
  begins = λ l. absurd (omega (arith, l));
}

-- ---- a play only adds to what was made

abbrev Grows : Log → Behaviour (Unit {0}) ℕ → Type 0
Grows log b = (more : List Event) × ((log_of b).events ≡ log.events ++ more)

grows_by_reply :
    (query : Query) (next : Reply query → Phrase ℕ) (rest : List Answer) (log : Log) (o : Option (Reply query)) →
    ((reply : Reply query) (log : Log) → Grows log (run (next reply) log)) →
    Grows log (by_reply o (Ends Waits log) (λ reply. run (next reply) (with_event (event_of query reply) rest log)))
grows_by_reply query next rest log None grows = ([], sym (append-nil log.events))
grows_by_reply query next rest log (Some reply) grows =
    let more = grows reply (with_event (event_of query reply) rest log) in
    (event_of query reply ∷ more.0, more.1 ∙ append_assoc log.events (event_of query reply ∷ []) more.0)

grows_by_query :
    (query : Query) (next : Reply query → Phrase ℕ) (answers : List Answer) (log : Log) →
    ((reply : Reply query) (log : Log) → Grows log (run (next reply) log)) → Grows log (run_query query answers log (λ reply. run (next reply)))
grows_by_query query next [] log grows = ([], sym (append-nil log.events))
grows_by_query query next (answer ∷ rest) log grows = grows_by_reply query next rest log (reply_to query answer) grows

grows : (play : Phrase ℕ) (log : Log) → Grows log (run play log)
grows (Gives state value) log = ([], sym (append-nil log.events))
grows (Stops stop) log = ([], sym (append-nil log.events))
grows (Asks query next) log = grows_by_query query next log.answers log (λ reply. grows (next reply))
grows (Jump next) log = grows next (with_jump log)
grows (Call next) log = grows next (with_call log)

-- ---- a run without turns

-- before an instruction a play needs one turn more
abbrev pub weight : Stage → ℕ
weight stage.Before = 1
weight s = 0

pub light : (s : Stage) → weight s ≤ 1
light stage.Before = omega arith
light s = omega arith

pub weightless : (s : Stage) → IsWithin s → weight s ≡ 0
weightless stage.Before within = absurd within
weightless s within = refl

-- two for each instruction, one for each answer, and one for the end
abbrev pub turns_for : (bound left : ℕ) → ℕ
turns_for bound left = bound + bound + left + 1

pub cut_run : (bound left : ℕ) (play : Phrase ℕ) (log : Log) → IsAlike 0 bound (turns_for bound left) (run play log) (Ends Cut log)
cut_run bound left play log = record {
  run_is = λ _ uncut. absurd uncut;
  play_is = λ l _. absurd (omega (arith, l));
  begins = λ _. grows play log;
}
