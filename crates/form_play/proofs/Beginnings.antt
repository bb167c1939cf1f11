-- Each beginning of a legal history is legal: a thread that got fewer answers made the first of its events.
use Rattle.std.proofs.Common.{◌≡◌, ⊎_elim, ℕ, ◌+◌, ◌≤◌, List, [], ◌∷◌, ◌++◌, length, cond, Bool, true, false, refl, sym, ap, ◌∙◌, subst, arith, length-append, append-nil}
use Rattle.std.specs.Prelude.{◌==◌, filter, if◌then◌else◌}
use Rattle.form_tree.specs.Plain.{PlainProgram}
use Rattle.ideal_machine.specs.declared.event.Event.{Event}
use Rattle.ideal_machine.specs.declared.event.Event.TheVariants.{Begin}
use Rattle.ideal_machine.specs.Memory.{Memory, World}
use Rattle.ideal_machine.specs.Play.{Finished, Waits, Cut, Behaviour, Goes, Ends, fresh_log, log_of}
use Rattle.ideal_machine.specs.Phrases.{Start}
use Rattle.ideal_machine.specs.Reaches.{Reaches}
use Rattle.ideal_machine.proofs.Runs.{run_count, reached_events}
use Rattle.ideal_machine.proofs.Cuts.{cut_reaches}
use Rattle.ideal_machine.proofs.Fewer.{run_fewer}
use Rattle.form_play.specs.FormPlay.{play_thread, play}
use Rattle.form_play.specs.Legal.{History, memory_after, memory_before, AreAllowed, Moment, moments, is_begin, until_begin, thread_moments, answers_of, AreShown, IsPlayed, start_of, BeginIsPlayed, ThreadsPlay}
use Rattle.form_play.specs.Beginnings.{BeginningsAreLegal}
use Rattle.form_play.proofs.More.{thread_cut, shown_length, answers_length}

-- ---- what is allowed

front_allowed : (world : World) (before after : History) (memory : Memory) → AreAllowed world memory (before ++ after) → AreAllowed world memory before
front_allowed world [] after memory h = tt
front_allowed world (entry ∷ before) after memory h = (h.0, h.1, front_allowed world before after (memory_after memory entry) h.2)

-- ---- moments

-- the second list goes on from the first
abbrev GoesOn : List Moment → List Moment → Type 0
GoesOn short long = (more : List Moment) × (long ≡ short ++ more)

moments_on : (before after : History) (memory : Memory) → GoesOn (moments memory before) (moments memory (before ++ after))
moments_on [] after memory = (moments memory after, refl)
moments_on (entry ∷ before) after memory =
    let m : Moment = record { memory = memory; entry = entry } in
    let r = moments_on before after (memory_after memory entry) in (r.0, ap (λ l. m ∷ l) r.1)

abbrev own_of : ℕ → List Moment → List Moment
own_of slot all = filter (λ (m : Moment). m.entry.actor == slot) all

own_on : (slot : ℕ) (a b : List Moment) → own_of slot (a ++ b) ≡ own_of slot a ++ own_of slot b
own_on slot [] b = refl
own_on slot (m ∷ a) b = chosen (m.entry.actor == slot) (own_on slot a b) where
  chosen :
      (c : Bool) → own_of slot (a ++ b) ≡ own_of slot a ++ own_of slot b →
      cond c (m ∷ own_of slot (a ++ b)) (own_of slot (a ++ b)) ≡ cond c (m ∷ own_of slot a) (own_of slot a) ++ own_of slot b
  chosen true e = ap (λ l. m ∷ l) e
  chosen false e = e

until_on : (a b : List Moment) → GoesOn (until_begin a) (until_begin (a ++ b))
until_on [] b = (until_begin b, refl)
until_on (m ∷ a) b = chosen (is_begin m.entry.event) (until_on a b) where
  chosen :
      (c : Bool) → GoesOn (until_begin a) (until_begin (a ++ b)) →
      GoesOn (if c then [] else m ∷ until_begin a) (if c then [] else m ∷ until_begin (a ++ b))
  chosen true r = ([], refl)
  chosen false r = (r.0, ap (λ l. m ∷ l) r.1)

thread_on :
    (slot : ℕ) (before after : History) (memory : Memory) →
    GoesOn (thread_moments slot (moments memory before)) (thread_moments slot (moments memory (before ++ after)))
thread_on slot before after memory =
    let more = moments_on before after memory in
    let r = until_on (own_of slot (moments memory before)) (own_of slot more.0) in
    (r.0, ap (λ l. until_begin (own_of slot l)) more.1 ∙ ap until_begin (own_on slot (moments memory before) more.0) ∙ r.1)

-- ---- plays

answers_on : (a b : List Moment) → answers_of (a ++ b) ≡ answers_of a ++ answers_of b
answers_on [] b = refl
answers_on (m ∷ a) b = ap (λ l. m.entry.answer ∷ l) (answers_on a b)

-- the first events were made at the first moments
shown_front : (events more : List Event) (made rest : List Moment) → length events ≡ length made → AreShown (events ++ more) (made ++ rest) → AreShown events made
shown_front [] more [] rest e h = tt
shown_front [] more (m ∷ made) rest e h = absurd (omega (arith, e))
shown_front (x ∷ events) more [] rest e h = absurd (omega (arith, e))
shown_front (x ∷ events) more (m ∷ made) rest e h = (h.0, shown_front events more made rest (omega (arith, e)) h.1)

reaches_length : (o p : Behaviour (Unit {0}) ℕ) → Reaches o p → length (log_of o).events ≤ length (log_of p).events
reaches_length (Goes s v w) p r = omega (arith, ap (λ q. length (log_of q).events) r)
reaches_length (Ends (Finished f) w) p r = omega (arith, ap (λ q. length (log_of q).events) r)
reaches_length (Ends Waits w) p r = omega (arith, ap (λ q. length (log_of q).events) r)
reaches_length (Ends Cut w) p r = omega (arith, ap length r.events.1, length-append w.events r.events.0)

module _ (n : ℕ) (program : PlainProgram) where
  -- a thread that is played by more moments is played by the first of them
  played_front : (start : Start) (short more : List Moment) → IsPlayed n program start (short ++ more) → IsPlayed n program start short
  played_front start short more h =
      let a = answers_of short in
      let b = answers_of more in
      let p = play_thread n program start in
      let shown = subst (λ answers. AreShown (log_of (play n program start answers)).events (short ++ more)) (answers_on short more) h in
      let long = log_of (play n program start (a ++ b)) in
      let few = log_of (play n program start a) in
      let counts = shown_length long.events (short ++ more) shown in
      let both : length (short ++ more) ≡ length a + length b = omega (arith, length-append short more, answers_length short, answers_length more) in
      let whole : length long.answers ≡ 0 = omega (arith, counts, both, run_count p (fresh_log (a ++ b)), length-append a b) in
      let front = λ (rest : List Event) (none : length few.answers ≡ 0) (e : long.events ≡ few.events ++ rest).
      let as_many : length few.events ≡ length short = omega (arith, none, run_count p (fresh_log a), answers_length short) in
      shown_front few.events rest short more as_many (subst (λ events. AreShown events (short ++ more)) e shown) in
      ⊎_elim (λ cut. front cut.events.0 (ap length cut.taken) cut.events.1)
      (λ alike.
      let none : length few.answers ≡ 0 = omega (arith, whole, ap length alike.left, length-append few.answers b) in
      front [] none (alike.events ∙ sym (append-nil few.events)))
      (run_fewer b p a (fresh_log []))

  -- the same thread with other addresses, of which its text knows nothing
  based_so : (start start' : Start) (made : List Moment) → start.function ≡ start'.function → IsPlayed n program start made → IsPlayed n program start' made
  based_so start start' made same h =
      let w = fresh_log (answers_of made) in
      let o = play n program start (answers_of made) in
      let p = play n program start' (answers_of made) in
      let on = cut_reaches (play_thread n program start) (play_thread n program start') w (thread_cut n n (omega arith) program start start' same) in
      let back = cut_reaches (play_thread n program start') (play_thread n program start) w (thread_cut n n (omega arith) program start' start (sym same)) in
      subst (λ events. AreShown events made) (sym (reached_events o p on (reaches_length p o back))) h

  begin_front :
      (base base' : ℕ → ℕ) (memory : Memory) (slot : ℕ) (event : Event) (short more : List Moment) →
      BeginIsPlayed n program base memory slot event (short ++ more) → BeginIsPlayed n program base' memory slot event short
  begin_front base base' memory slot (Begin function address half) short more h =
      let start = λ (base : ℕ → ℕ). start_of memory slot function address half base in
      based_so (start base) (start base') short refl (played_front (start base) short more h)
  begin_front base base' memory slot event short more h = tt

  threads_front :
      (base base' : ℕ → ℕ) (before after : History) (memory : Memory) → ThreadsPlay n program base memory (before ++ after) →
      ThreadsPlay n program base' memory before
  threads_front base base' [] after memory h = tt
  threads_front base base' (entry ∷ before) after memory h =
      let later = memory_after memory entry in
      let own = thread_on entry.actor before after later in (
        begin_front base base' memory entry.actor entry.event (thread_moments entry.actor (moments later before)) own.0
            (subst (BeginIsPlayed n program base memory entry.actor entry.event) own.1 h.0),
        threads_front base base' before after later h.1,
      )

pub beginnings_are_legal : BeginningsAreLegal
beginnings_are_legal before after program world n h = record {
  allowed = front_allowed world before after (memory_before world program) h.allowed;
  played = threads_front n program _ _ before after (memory_before world program) h.played;
}
