-- The moments of the one thread: all entries of its history after its beginning are its own, and none begins another.
use Rattle.std.proofs.Common.{◌≡◌, ℕ, List, [], ◌∷◌, length, cond, Bool, false, Some, None, refl, ◌∙◌, ap, eq-eqb}
use Rattle.std.specs.Prelude.{◌==◌, filter, nat_lt, if◌then◌else◌}
use Rattle.form_tree.specs.Plain.{PlainProgram}
use Rattle.ideal_machine.specs.declared.event.Event.{Event}
use Rattle.ideal_machine.specs.declared.event.Event.TheVariants.{Out, Begin, Exit, Trap}
use Rattle.ideal_machine.specs.Memory.{Memory, World}
use Rattle.ideal_machine.specs.Queries.{Makes}
use Rattle.ideal_machine.specs.Play.{Gives, Stops, Asks, Jump, Call, Finished}
use Rattle.ideal_machine.specs.Phrases.{Phrase}
use Rattle.ideal_machine.proofs.Names.{shown_self}
use Rattle.form_play.specs.Legal.{History, memory_after, Moment, moments, is_begin, until_begin, thread_moments, answers_of, AreShown, BeginIsPlayed, ThreadsPlay}
use Rattle.single_thread.specs.Alone.{made_by}
use Rattle.single_thread.proofs.Lone.{IsOver, IsLone}
use Rattle.single_thread.proofs.Gained.{by_room, out_made, events_of, entry_answers}

-- entries of slot 0 in which no thread begins
abbrev pub AreOwn : History → Type 0
AreOwn [] = Unit {0}
AreOwn (entry ∷ rest) = (entry.actor ≡ 0) × (is_begin entry.event ≡ false) × AreOwn rest

-- ---- a play alone makes such

module _ (world : World) where
  over_own : (p : Phrase ℕ) → IsOver p → (memory : Memory) → AreOwn (made_by world p memory)
  over_own (Stops (Finished f)) h memory = tt
  over_own p h memory = absurd h

  pub lone_own : (p : Phrase ℕ) → IsLone p → (memory : Memory) → AreOwn (made_by world p memory)
  lone_own (Gives s v) h memory = tt
  lone_own (Stops e) h memory = tt
  lone_own (Asks (Makes (Out byte)) next) h memory =
      by_room (λ room. AreOwn (out_made world byte next memory room)) (refl, refl, lone_own (next None) (h None) _)
      (refl, refl, lone_own (next (Some _)) (h (Some _)) _) (nat_lt (length memory.output) world.output)
  lone_own (Asks (Makes (Exit status)) next) h memory = (refl, refl, over_own (next tt) h _)
  lone_own (Asks (Makes (Trap reason line)) next) h memory = (refl, refl, over_own (next tt) h _)
  lone_own (Asks q next) h memory = absurd h
  lone_own (Jump p) h memory = lone_own p h memory
  lone_own (Call p) h memory = lone_own p h memory

-- ---- so all its moments are the thread's

abbrev own_of : List Moment → List Moment
own_of all = filter (λ (moment : Moment). moment.entry.actor == 0) all

pub own_moments : (made : History) (memory : Memory) → AreOwn made → thread_moments 0 (moments memory made) ≡ moments memory made
own_moments [] memory h = refl
own_moments (entry ∷ rest) memory h =
    let first : Moment = record { memory = memory; entry = entry } in
    let later = moments (memory_after memory entry) rest in
    ap (λ (own : Bool). until_begin (cond own (first ∷ own_of later) (own_of later))) (eq-eqb entry.actor 0 h.0)
    ∙ ap (λ (begins : Bool). if begins then [] else first ∷ until_begin (own_of later)) h.1
    ∙ ap (λ l. first ∷ l) (own_moments rest (memory_after memory entry) h.2)

pub moment_answers : (made : History) (memory : Memory) → answers_of (moments memory made) ≡ entry_answers made
moment_answers [] memory = refl
moment_answers (entry ∷ rest) memory = ap (λ l. entry.answer ∷ l) (moment_answers rest (memory_after memory entry))

-- an event is shown as it is
pub own_shown : (made : History) (memory : Memory) → AreShown (events_of made) (moments memory made)
own_shown [] memory = tt
own_shown (entry ∷ rest) memory = (shown_self memory entry.event, own_shown rest (memory_after memory entry))

-- ---- and no thread begins after it

module _ (n : ℕ) (program : PlainProgram) (base : ℕ → ℕ) where
  no_begin : (memory : Memory) (slot : ℕ) (event : Event) (made : List Moment) → is_begin event ≡ false → BeginIsPlayed n program base memory slot event made
  no_begin memory slot (Begin function address half) made h = absurd (cc)
  no_begin memory slot event made h = tt

  pub own_play : (made : History) (memory : Memory) → AreOwn made → ThreadsPlay n program base memory made
  own_play [] memory h = tt
  own_play (entry ∷ rest) memory h =
      (no_begin memory entry.actor entry.event _ h.1, own_play rest (memory_after memory entry) h.2)
