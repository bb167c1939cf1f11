-- A run of code that plays a program is legal.
--
-- The machine allows each entry, since each has the machine's own answer. The code makes the history's events on its
-- answers and takes them all. So the C text's play, which makes these events and maybe more, makes no more: each event
-- takes an answer, and none is left.
use Rattle.std.proofs.Common.{◌≡◌, inl, ⊎_elim, ℕ, ◌+◌, ◌≤◌, [], ◌∷◌, length, None, Some, refl, sym, ◌∙◌, ap, subst, arith}
use Rattle.std.specs.Prelude.{nat_lt}
use Rattle.std.proofs.lemmas.Bool.{ltb-true, ltb-false}
use Rattle.std.proofs.lemmas.List.Elements.{All-nil}
use Rattle.form_tree.specs.Plain.{PlainProgram}
use Rattle.filc_code.specs.Plain.{PlainCode}
use Rattle.ideal_machine.specs.declared.value.Half.TheVariants.{Nothing}
use Rattle.ideal_machine.specs.declared.event.Event.TheVariants.{Out, Exit, Trap}
use Rattle.ideal_machine.specs.Memory.{Memory, World, address_in, thread_id}
use Rattle.ideal_machine.specs.Beginning.{first_memory}
use Rattle.ideal_machine.specs.Allows.{IsRunning}
use Rattle.ideal_machine.specs.Queries.{Makes}
use Rattle.ideal_machine.specs.Play.{Gives, Stops, Asks, Jump, Call, Finished, fresh_log, log_of}
use Rattle.ideal_machine.specs.Phrases.{Start, Phrase}
use Rattle.ideal_machine.specs.Reaches.{Reaches}
use Rattle.ideal_machine.proofs.Runs.{run_count, reached_events, no_length}
use Rattle.form_play.specs.FormPlay.{play_thread, play}
use Rattle.form_play.specs.Legal.{History, last_memory, AreAllowed, moments, AreShown, IsPlayed, ThreadsPlay, IsLegalHistory}
use Rattle.form_play.proofs.More.{more_rounds}
use Rattle.code_thread.specs.Exec.{exec_thread, code_events}
use Rattle.code_gen.specs.Correct.{Plays}
use Rattle.single_thread.specs.Alone.{made_by, main_start, main_begin, memory_after_begin, history_of_run, jumps_of_run}
use Rattle.single_thread.specs.Runs.{RunsAreLegal, RunsAreLegalByTurns}
use Rattle.single_thread.proofs.Lone.{IsOver, IsLone, thread_lone}
use Rattle.single_thread.proofs.Gained.{by_room, out_made, events_of, entry_answers, lone_gains}
use Rattle.single_thread.proofs.Moments.{lone_own, own_moments, moment_answers, own_shown, own_play}
use Rattle.single_thread.proofs.Fewer.{thread_few}

-- ---- the machine allows each entry

module _ (world : World) where
  over_allowed : (p : Phrase ℕ) → IsOver p → (memory : Memory) → AreAllowed world memory (made_by world p memory)
  over_allowed (Stops (Finished f)) h memory = tt
  over_allowed p h memory = absurd h

  lone_allowed : (p : Phrase ℕ) → IsLone p → (memory : Memory) → IsRunning memory 0 → memory.finish ≡ None → AreAllowed world memory (made_by world p memory)
  lone_allowed (Gives s v) h memory running going = tt
  lone_allowed (Stops e) h memory running going = tt
  lone_allowed (Asks (Makes (Out byte)) next) h memory running going =
      by_room (λ room. nat_lt (length memory.output) world.output ≡ room → AreAllowed world memory (out_made world byte next memory room))
      (λ is. (record { may_make = running; objects = All-nil _; answers = ltb-true (length memory.output) world.output is }, All-nil _, lone_allowed (next None) (h None) _ running going))
      (λ is. (record { may_make = running; objects = All-nil _; answers = ltb-false (length memory.output) world.output is }, All-nil _, lone_allowed (next (Some _)) (h (Some _)) memory running going))
      (nat_lt (length memory.output) world.output) refl
  lone_allowed (Asks (Makes (Exit status)) next) h memory running going = (record { may_make = running; objects = All-nil _; answers = (going, refl) }, All-nil _, over_allowed (next tt) h _)
  lone_allowed (Asks (Makes (Trap reason line)) next) h memory running going = (record { may_make = running; objects = All-nil _; answers = (going, refl) }, All-nil _, over_allowed (next tt) h _)
  lone_allowed (Asks q next) h memory running going = absurd h
  lone_allowed (Jump p) h memory running going = lone_allowed p h memory running going
  lone_allowed (Call p) h memory running going = lone_allowed p h memory running going

-- ---- the thread plays what it makes

module _ (world : World) (program : PlainProgram) (code : PlainCode) (plays : Plays code program) (m : ℕ) (base : ℕ → ℕ) where
  abbrev first : Memory
  first = first_memory world [] code.main

  abbrev after : Memory
  after = memory_after_begin world code

  abbrev thread : Phrase ℕ
  thread = exec_thread m code (main_start code)

  abbrev made : History
  made = made_by world thread after

  abbrev jumps : ℕ
  jumps = jumps_of_run world m code

  -- what legality says that the thread is begun with
  abbrev start : Start
  start = record { id = thread_id first 0; function = code.main; argument = record { number = 0; half = Nothing }; base = base }

  -- its play makes the events of the run
  same_events : (log_of (play (jumps + 1) program start (entry_answers made))).events ≡ events_of made
  same_events =
      let w = fresh_log (entry_answers made) in
      let o = code_events m code start (entry_answers made) in
      let p = play (jumps + 1) program start (entry_answers made) in
      let gained = lone_gains world thread (thread_lone m code) after w refl in
      let as_many : (log_of o).jumps ≡ jumps = omega (arith, gained.jumps) in
      let reaches = subst (λ t. Reaches o (play (t + 1) program start (entry_answers made))) as_many ((plays start (entry_answers made)).of_code m) in
      let few : length (log_of p).events ≤ length (log_of o).events =
      omega (arith, run_count (play_thread (jumps + 1) program start) w, run_count thread w, ap length gained.answers) in
      reached_events o p reaches few ∙ gained.events

  thread_played : IsPlayed (jumps + 1) program start (moments after made)
  thread_played =
      subst (λ answers. AreShown (log_of (play (jumps + 1) program start answers)).events (moments after made)) (sym (moment_answers made after))
      (subst (λ events. AreShown events (moments after made)) (sym same_events) (own_shown made after))

  threads_play : ThreadsPlay (jumps + 1) program base first (history_of_run world m code)
  threads_play =
      let own = lone_own world thread (thread_lone m code) after in
      (subst (IsPlayed (jumps + 1) program start) (sym (own_moments made after own)) thread_played, own_play (jumps + 1) program base made after own)

  -- a thread that made nothing plays, whatever the bound
  nothing_played : (n : ℕ) → IsPlayed n program start []
  nothing_played n =
      let w = fresh_log [] in
      let none : length (log_of (play n program start [])).events ≡ 0 = omega (arith, run_count (play_thread n program start) w) in
      subst (λ events. AreShown events []) (sym (no_length (log_of (play n program start [])).events none)) tt

pub runs_are_legal : RunsAreLegal
runs_are_legal world program code main plays m =
    let history = history_of_run world m code in
    let base = λ (f : ℕ). address_in (last_memory (first_memory world [] f) history) in
    record {
      allowed = subst (λ f. AreAllowed world (first_memory world [] f) history) main
          (record { may_make = (Nothing, refl, inl refl); objects = All-nil _; answers = refl }, All-nil _, lone_allowed world (exec_thread m code (main_start code)) (thread_lone m code) (memory_after_begin world code) refl refl);
      played = subst (λ f. ThreadsPlay (jumps_of_run world m code + 1) program (base f) (first_memory world [] f) history) main
          (threads_play world program code plays m (base code.main));
    }

-- a run that made nothing after its beginning is legal, whatever the bound
module _ (world : World) (program : PlainProgram) (code : PlainCode) (main : code.main ≡ program.main) (plays : Plays code program) where
  beginning_legal : (n : ℕ) → IsLegalHistory (main_begin code ∷ []) program world n
  beginning_legal n =
      let base = λ (f : ℕ). address_in (last_memory (first_memory world [] f) (main_begin code ∷ [])) in
      record {
        allowed = subst (λ f. AreAllowed world (first_memory world [] f) (main_begin code ∷ [])) main (record { may_make = (Nothing, refl, inl refl); objects = All-nil _; answers = refl }, All-nil _, tt);
        played = subst (λ f. ThreadsPlay n program (base f) (first_memory world [] f) (main_begin code ∷ [])) main
            (nothing_played world program code plays 0 (base code.main) n, tt);
      }

pub runs_are_legal_by_turns : RunsAreLegalByTurns
runs_are_legal_by_turns world program code main plays m =
    ⊎_elim
    (λ few. more_rounds (history_of_run world m code) program world (jumps_of_run world m code + 1) m few (runs_are_legal world program code main plays m))
    (λ none. subst (λ made. IsLegalHistory (main_begin code ∷ made) program world m) (sym none.0) (beginning_legal world program code main plays m))
    (thread_few world m code (memory_after_begin world code))
