-- A history stays legal with a greater bound, since the play took all answers and each event takes one; and each of its
-- beginnings is legal, since a thread that got fewer answers made the first of its events.
use Rattle.std.proofs.Common.{◌≡◌, ⊎_elim, ℕ, ◌+◌, ◌≤◌, List, [], ◌∷◌, ◌++◌, length, cond, Bool, true, false, Option, Some, None, suc, refl, sym, ap, ◌∙◌, subst, arith, length-append, append-nil}
use Rattle.std.specs.Prelude.{◌==◌, filter, if◌then◌else◌, slice_get, IsSomeAnd}
use Rattle.c_tree.specs.Plain.{PlainProgram}
use Rattle.ideal_machine.specs.declared.event.Event.{Event}
use Rattle.ideal_machine.specs.declared.event.Event.TheVariants.{Begin}
use Rattle.ideal_machine.specs.Memory.{Object, Memory, World}
use Rattle.ideal_machine.specs.Growth.{IsLaterObject}
use Rattle.ideal_machine.specs.Play.{fresh_log, log_of}
use Rattle.ideal_machine.specs.Phrases.{Start}
use Rattle.ideal_machine.proofs.Growth.{events_only_add}
use Rattle.ideal_machine.proofs.Runs.{run_count, reached_events}
use Rattle.tree_play.specs.TreePlay.{play_thread, play}
use Rattle.tree_play.specs.Legal.{History, memory_after, last_memory, AreAllowed, Moment, moments, is_begin, until_begin, thread_moments, answers_of, AreShown, IsPlayed, start_of, BeginIsPlayed, ThreadsPlay, memory_before, LieAt}
use Rattle.tree_play.specs.Histories.{HistoriesStayLegal, BeginningsAreLegal}
use Rattle.tree_play.proofs.More.{more_rounds, more_answers}

shown_length : (events : List Event) (made : List Moment) → AreShown events made → length events ≡ length made
shown_length [] [] h = refl
shown_length [] (m ∷ made) h = absurd h
shown_length (e ∷ events) [] h = absurd h
shown_length (e ∷ events) (m ∷ made) h = ap suc (shown_length events made h.1)

answers_length : (made : List Moment) → length (answers_of made) ≡ length made
answers_length [] = refl
answers_length (m ∷ made) = ap suc (answers_length made)

-- ---- a greater bound

module _ (n n' : ℕ) (le : n ≤ n') (program : PlainProgram) where
  played_more : (start : Start) (made : List Moment) → IsPlayed n program start made → IsPlayed n' program start made
  played_more start made h =
      let w = fresh_log (answers_of made) in
      let o = play n program start (answers_of made) in
      let p = play n' program start (answers_of made) in
      let few : length (log_of p).events ≤ length (log_of o).events =
      omega (arith, run_count (play_thread n' program start) w, shown_length (log_of o).events made h, answers_length made) in
      subst (λ (events : List Event). AreShown events made) (sym (reached_events o p (more_rounds n n' le program start (answers_of made)) few)) h

  begin_more :
      (base : ℕ → ℕ) (memory : Memory) (slot : ℕ) (event : Event) (made : List Moment) →
      BeginIsPlayed n program base memory slot event made → BeginIsPlayed n' program base memory slot event made
  begin_more base memory slot (Begin function address half) made h =
      played_more (start_of memory slot function address half base) made h
  begin_more base memory slot event made h = tt

  threads_more : (base : ℕ → ℕ) (memory : Memory) (history : History) → ThreadsPlay n program base memory history → ThreadsPlay n' program base memory history
  threads_more base memory [] h = tt
  threads_more base memory (entry ∷ rest) h =
      let after = memory_after memory entry in
      (begin_more base memory entry.actor entry.event (thread_moments entry.actor (moments after rest)) h.0, threads_more base after rest h.1)

pub histories_stay_legal : HistoriesStayLegal
histories_stay_legal history program world n n' le h = record {
  allowed = h.allowed;
  base = h.base;
  addresses = h.addresses;
  played = threads_more n n' le program h.base (memory_before world program) history h.played;
}

-- ---- beginnings: what is allowed

front_allowed : (world : World) (before after : History) (memory : Memory) → AreAllowed world memory (before ++ after) → AreAllowed world memory before
front_allowed world [] after memory h = tt
front_allowed world (entry ∷ before) after memory h = (h.0, h.1, front_allowed world before after (memory_after memory entry) h.2)

-- ---- beginnings: objects lie where they lay

-- the object of a number is at this address
abbrev IsAt : Option Object → ℕ → Type 0
IsAt o address = IsSomeAnd o (λ object. object.address ≡ address)

later_at : (o : Option Object) (object : Object) → IsSomeAnd o (IsLaterObject object) → IsAt o object.address
later_at None object h = absurd h
later_at (Some new) object h = h.address

stays_at : (history : History) (memory : Memory) (n address : ℕ) → IsAt (slice_get memory.objects n) address → IsAt (slice_get (last_memory memory history).objects n) address
stays_at [] memory n address h = h
stays_at (entry ∷ rest) memory n address h =
    let after = memory_after memory entry in
    stays_at rest after n address (moved (slice_get memory.objects n) refl h) where
      moved : (o : Option Object) → slice_get memory.objects n ≡ o → IsAt o address → IsAt (slice_get (memory_after memory entry).objects n) address
      moved None e k = absurd k
      moved (Some object) e k =
          subst (IsAt (slice_get (memory_after memory entry).objects n)) k
          (later_at _ object ((events_only_add memory entry.actor entry.event entry.answer).objects n object e))

memory_on : (before after : History) (memory : Memory) → last_memory memory (before ++ after) ≡ last_memory (last_memory memory before) after
memory_on [] after memory = refl
memory_on (entry ∷ before) after memory = memory_on before after (memory_after memory entry)

at_base : (base : ℕ → ℕ) (memory : Memory) (n address : ℕ) (o : Option Object) → slice_get memory.objects n ≡ o → LieAt base memory → IsAt o address → address ≡ base n
at_base base memory n address None e lie h = absurd h
at_base base memory n address (Some object) e lie h = sym h ∙ lie n object e

front_lies : (base : ℕ → ℕ) (before after : History) (memory : Memory) → LieAt base (last_memory memory (before ++ after)) → LieAt base (last_memory memory before)
front_lies base before after memory lie n object e =
    let here : IsAt (slice_get (last_memory memory before).objects n) object.address = subst (λ o. IsAt o object.address) (sym e) refl in
    let all = subst (LieAt base) (memory_on before after memory) lie in
    at_base base (last_memory (last_memory memory before) after) n object.address _ refl all (stays_at after (last_memory memory before) n object.address here)

-- ---- beginnings: moments

-- the second list goes on from the first
abbrev GoesOn : List Moment → List Moment → Type 0
GoesOn short long = (more : List Moment) × (long ≡ short ++ more)

moments_on : (before after : History) (memory : Memory) → GoesOn (moments memory before) (moments memory (before ++ after))
moments_on [] after memory = (moments memory after, refl)
moments_on (entry ∷ before) after memory =
    let m : Moment = record { memory = memory; entry = entry } in
    let r = moments_on before after (memory_after memory entry) in (r.0, ap (λ l. m ∷ l) r.1)

abbrev own_of : ℕ → List Moment → List Moment
own_of slot all = filter (λ (m : Moment). m.entry.actor == slot) all

own_on : (slot : ℕ) (a b : List Moment) → own_of slot (a ++ b) ≡ own_of slot a ++ own_of slot b
own_on slot [] b = refl
own_on slot (m ∷ a) b = chosen (m.entry.actor == slot) (own_on slot a b) where
  chosen :
      (c : Bool) → own_of slot (a ++ b) ≡ own_of slot a ++ own_of slot b →
      cond c (m ∷ own_of slot (a ++ b)) (own_of slot (a ++ b)) ≡ cond c (m ∷ own_of slot a) (own_of slot a) ++ own_of slot b
  chosen true e = ap (λ l. m ∷ l) e
  chosen false e = e

until_on : (a b : List Moment) → GoesOn (until_begin a) (until_begin (a ++ b))
until_on [] b = (until_begin b, refl)
until_on (m ∷ a) b = chosen (is_begin m.entry.event) (until_on a b) where
  chosen :
      (c : Bool) → GoesOn (until_begin a) (until_begin (a ++ b)) →
      GoesOn (if c then [] else m ∷ until_begin a) (if c then [] else m ∷ until_begin (a ++ b))
  chosen true r = ([], refl)
  chosen false r = (r.0, ap (λ l. m ∷ l) r.1)

thread_on :
    (slot : ℕ) (before after : History) (memory : Memory) →
    GoesOn (thread_moments slot (moments memory before)) (thread_moments slot (moments memory (before ++ after)))
thread_on slot before after memory =
    let more = moments_on before after memory in
    let r = until_on (own_of slot (moments memory before)) (own_of slot more.0) in
    (r.0, ap (λ l. until_begin (own_of slot l)) more.1 ∙ ap until_begin (own_on slot (moments memory before) more.0) ∙ r.1)

-- ---- beginnings: plays

answers_on : (a b : List Moment) → answers_of (a ++ b) ≡ answers_of a ++ answers_of b
answers_on [] b = refl
answers_on (m ∷ a) b = ap (λ l. m.entry.answer ∷ l) (answers_on a b)

-- the first events were made at the first moments
shown_front : (events more : List Event) (made rest : List Moment) → length events ≡ length made → AreShown (events ++ more) (made ++ rest) → AreShown events made
shown_front [] more [] rest e h = tt
shown_front [] more (m ∷ made) rest e h = absurd (omega (arith, e))
shown_front (x ∷ events) more [] rest e h = absurd (omega (arith, e))
shown_front (x ∷ events) more (m ∷ made) rest e h = (h.0, shown_front events more made rest (omega (arith, e)) h.1)

module _ (n : ℕ) (program : PlainProgram) (base : ℕ → ℕ) where
  -- a thread that is played by more moments is played by the first of them
  played_front : (start : Start) (short more : List Moment) → IsPlayed n program start (short ++ more) → IsPlayed n program start short
  played_front start short more h =
      let a = answers_of short in
      let b = answers_of more in
      let p = play_thread n program start in
      let shown = subst (λ answers. AreShown (log_of (play n program start answers)).events (short ++ more)) (answers_on short more) h in
      let long = log_of (play n program start (a ++ b)) in
      let few = log_of (play n program start a) in
      let counts = shown_length long.events (short ++ more) shown in
      let both : length (short ++ more) ≡ length a + length b = omega (arith, length-append short more, answers_length short, answers_length more) in
      let whole : length long.answers ≡ 0 = omega (arith, counts, both, run_count p (fresh_log (a ++ b)), length-append a b) in
      let front = λ (rest : List Event) (none : length few.answers ≡ 0) (e : long.events ≡ few.events ++ rest).
      let as_many : length few.events ≡ length short = omega (arith, none, run_count p (fresh_log a), answers_length short) in
      shown_front few.events rest short more as_many (subst (λ events. AreShown events (short ++ more)) e shown) in
      ⊎_elim (λ first. front first.events.0 (ap length first.taken) first.events.1)
      (λ alike.
      let none : length few.answers ≡ 0 = omega (arith, whole, ap length alike.left, length-append few.answers b) in
      front [] none (alike.events ∙ sym (append-nil few.events)))
      (more_answers n program start a b)

  begin_front :
      (memory : Memory) (slot : ℕ) (event : Event) (short more : List Moment) →
      BeginIsPlayed n program base memory slot event (short ++ more) → BeginIsPlayed n program base memory slot event short
  begin_front memory slot (Begin function address half) short more h =
      played_front (start_of memory slot function address half base) short more h
  begin_front memory slot event short more h = tt

  threads_front : (before after : History) (memory : Memory) → ThreadsPlay n program base memory (before ++ after) → ThreadsPlay n program base memory before
  threads_front [] after memory h = tt
  threads_front (entry ∷ before) after memory h =
      let later = memory_after memory entry in
      let own = thread_on entry.actor before after later in (
        begin_front memory entry.actor entry.event (thread_moments entry.actor (moments later before)) own.0
            (subst (BeginIsPlayed n program base memory entry.actor entry.event) own.1 h.0),
        threads_front before after later h.1,
      )

pub beginnings_are_legal : BeginningsAreLegal
beginnings_are_legal before after program world n h = record {
  allowed = front_allowed world before after (memory_before world program) h.allowed;
  base = h.base;
  addresses = front_lies h.base before after (memory_before world program) h.addresses;
  played = threads_front n program h.base before after (memory_before world program) h.played;
}
