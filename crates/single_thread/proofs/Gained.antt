-- A play on the machine's own answers makes what it makes when it runs alone.
use Rattle.std.proofs.Common.{◌≡◌, ℕ, ◌+◌, List, [], ◌∷◌, ◌++◌, length, Bool, true, false, Option, Some, None, refl, sym, ◌∙◌, subst, arith, append_assoc, append-nil}
use Rattle.std.specs.Prelude.{map, nat_lt}
use Rattle.ideal_machine.specs.declared.event.Event.{Event}
use Rattle.ideal_machine.specs.declared.event.Event.TheVariants.{Out, Exit, Trap}
use Rattle.ideal_machine.specs.declared.event.Answer.{Answer}
use Rattle.ideal_machine.specs.declared.event.Answer.TheVariants.{Refused, Done}
use Rattle.ideal_machine.specs.Memory.{Memory, World}
use Rattle.filc_num.specs.declared.reason.Reason.{Reason}
use Rattle.filc_num.specs.declared.reason.Reason.TheVariants.{OutputLimit}
use Rattle.ideal_machine.specs.Queries.{Query, Makes, Reply, reply_to, event_of, room_reply}
use Rattle.ideal_machine.specs.Play.{Gives, Stops, Asks, Jump, Call, Finished, Waits, Ends, Log, with_event, with_jump, with_call, Behaviour, log_of, by_reply, run_query, run}
use Rattle.ideal_machine.specs.Phrases.{Phrase}
use Rattle.form_play.specs.Legal.{Entry, History}
use Rattle.single_thread.specs.Alone.{room_answer, entry_of, memory_with, made_by, jumps_by}
use Rattle.single_thread.proofs.Lone.{IsOver, IsLone}

-- ---- a byte, where there is room for it or not

pub by_room : (P : Bool → Type 0) → P true → P false → (room : Bool) → P room
by_room P h k true = h
by_room P h k false = k

-- what a play makes from a byte on
module _ (world : World) (byte : ℕ) (next : Option Reason → Phrase ℕ) (memory : Memory) (room : Bool) where
  abbrev pub out_made : History
  out_made =
      by_reply (room_reply (room_answer room)) []
      (λ reply. entry_of (Out byte) (room_answer room) ∷ made_by world (next reply) (memory_with memory (Out byte) (room_answer room)))

  abbrev pub out_jumps : ℕ
  out_jumps = by_reply (room_reply (room_answer room)) 0 (λ reply. jumps_by world (next reply) (memory_with memory (Out byte) (room_answer room)))

-- ---- what is gained

abbrev pub events_of : History → List Event
events_of history = map (λ (e : Entry). e.event) history

abbrev pub entry_answers : History → List Answer
entry_answers history = map (λ (e : Entry). e.answer) history

-- what a log has gained when a play made this alone
pub record Gained (made : History) (count : ℕ) (old new : Log) : Type 0 where
  pub answers : new.answers ≡ []
  pub events : new.events ≡ old.events ++ events_of made
  pub jumps : new.jumps ≡ old.jumps + count

-- an answer that fits and is next is taken
query_next :
    (P : Behaviour (Unit {0}) ℕ → Type 0) (q : Query) (left : List Answer) (w : Log) (go : Reply q → Log → Behaviour (Unit {0}) ℕ) (a : Answer) (r : Reply q)
    (rest : List Answer) → left ≡ a ∷ rest → reply_to q a ≡ Some r → P (go r (with_event (event_of q r) rest w)) → P (run_query q left w go)
query_next P q left w go a r rest is fit h =
    subst (λ l. P (run_query q l w go)) (sym is)
    (subst (λ o. P (by_reply o (Ends Waits w) (λ reply. go reply (with_event (event_of q reply) rest w)))) (sym fit) h)

gained_nothing : (w : Log) → w.answers ≡ [] → Gained [] 0 w w
gained_nothing w left = record { answers = left; events = sym (append-nil w.events); jumps = omega arith }

-- an event more at the front
gained_event :
    (e : Event) (a : Answer) (made : History) (jumps : ℕ) (w : Log) (rest : List Answer) (new : Log) → Gained made jumps (with_event e rest w) new →
    Gained (entry_of e a ∷ made) jumps w new
gained_event e a made jumps w rest new h =
    record { answers = h.answers; events = h.events ∙ append_assoc w.events (e ∷ []) _; jumps = h.jumps }

module _ (world : World) where
  -- a play on the answers that it gets alone, which are just the ones left
  abbrev Gains : Phrase ℕ → Type 0
  Gains p =
      (memory : Memory) (w : Log) → w.answers ≡ entry_answers (made_by world p memory) →
      Gained (made_by world p memory) (jumps_by world p memory) w (log_of (run p w))

  over_gains : (p : Phrase ℕ) → IsOver p → Gains p
  over_gains (Stops (Finished f)) h memory w left = gained_nothing w left
  over_gains p h memory w left = absurd h

  -- a query that gets this answer
  next_gains :
      (q : Query) (next : Reply q → Phrase ℕ) (memory : Memory) (w : Log) (a : Answer) (r : Reply q) → reply_to q a ≡ Some r → Gains (next r) →
      w.answers ≡ a ∷ entry_answers (made_by world (next r) (memory_with memory (event_of q r) a)) →
      Gained (entry_of (event_of q r) a ∷ made_by world (next r) (memory_with memory (event_of q r) a)) (jumps_by world (next r) (memory_with memory (event_of q r) a)) w
      (log_of (run_query q w.answers w (λ reply. run (next reply))))
  next_gains q next memory w a r fit gains left =
      let after = memory_with memory (event_of q r) a in
      let made = made_by world (next r) after in
      let jumps = jumps_by world (next r) after in
      let rest = entry_answers made in
      query_next (λ o. Gained (entry_of (event_of q r) a ∷ made) jumps w (log_of o)) q w.answers w (λ reply. run (next reply)) a r rest left fit
      (gained_event (event_of q r) a made jumps w rest _ (gains after (with_event (event_of q r) rest w) refl))

  pub lone_gains : (p : Phrase ℕ) → IsLone p → Gains p
  lone_gains (Gives s v) h memory w left = gained_nothing w left
  lone_gains (Stops e) h memory w left = gained_nothing w left
  lone_gains (Asks (Makes (Out byte)) next) h memory w left =
      by_room
      (λ room. w.answers ≡ entry_answers (out_made world byte next memory room) →
      Gained (out_made world byte next memory room) (out_jumps world byte next memory room) w (log_of (run_query (Makes (Out byte)) w.answers w (λ r. run (next r)))))
      (next_gains (Makes (Out byte)) next memory w Done None refl (lone_gains (next None) (h None)))
      (next_gains (Makes (Out byte)) next memory w (Refused OutputLimit) (Some OutputLimit) refl (lone_gains (next (Some OutputLimit)) (h (Some OutputLimit))))
      (nat_lt (length memory.output) world.output) left
  lone_gains (Asks (Makes (Exit status)) next) h memory w left =
      next_gains (Makes (Exit status)) next memory w Done tt refl (over_gains (next tt) h) left
  lone_gains (Asks (Makes (Trap reason line)) next) h memory w left =
      next_gains (Makes (Trap reason line)) next memory w Done tt refl (over_gains (next tt) h) left
  lone_gains (Asks q next) h memory w left = absurd h
  lone_gains (Jump p) h memory w left =
      let g = lone_gains p h memory (with_jump w) left in record { answers = g.answers; events = g.events; jumps = omega (arith, g.jumps) }
  lone_gains (Call p) h memory w left =
      let g = lone_gains p h memory (with_call w) left in record { answers = g.answers; events = g.events; jumps = g.jumps }
