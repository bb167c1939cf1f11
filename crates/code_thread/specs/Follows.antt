-- The calls of a thread go on in the play of its code: an instruction on registers, or the answer to an event, at a time.
use Rattle.std.specs.Prelude.{◌≡◌, ℕ, suc, true, Some, slice_get}
use Rattle.filc_code.specs.Plain.{PlainFunction, PlainCode}
use Rattle.filc_code.specs.WellFormed.{IsFunctionWellFormed}
use Rattle.ideal_machine.specs.declared.event.Event.{Event}
use Rattle.ideal_machine.specs.declared.event.Answer.{Answer}
use Rattle.ideal_machine.specs.Queries.{Query, Reply, reply_to, wish_of}
use Rattle.ideal_machine.specs.Play.{Asks}
use Rattle.ideal_machine.specs.Phrases.{Start, Phrase}
use Rattle.code_thread.specs.declared.stage.Halt.{Halt}
use Rattle.code_thread.specs.declared.stage.Want.TheVariants.{Event as WantEvent, Instruction as WantInstruction, Stopped}
use Rattle.code_thread.specs.Exec.{exec_thread}
use Rattle.code_thread.specs.Thread.{Thread, want_of, thread_after_begin, thread_after_step, thread_after_answer, halt_play, is_trapping, step_play, plays_on, IsThreadOf}

-- the play asks for this event, and goes on as another by each answer that fits
pub record AsksThen (play : Phrase ℕ) (event : Event) (after : Answer → Phrase ℕ) : Type 0 where
  pub query : Query
  pub next : Reply query → Phrase ℕ
  pub asks : play ≡ Asks query next
  pub wish : wish_of query ≡ event
  pub then : (answer : Answer) (reply : Reply query) → reply_to query answer ≡ Some reply → next reply ≡ after answer

-- what each call does in the play of the code
pub record Follows (code : PlainCode) (f : PlainFunction) : Type 0 where
  -- a thread that begins plays its function
  pub begins : (start : Start) (m : ℕ) → slice_get code.functions start.function ≡ Some f →
      plays_on f.instructions m (thread_after_begin code start.function) ≡ exec_thread m code start
  -- a step is an instruction
  pub steps : (thread : Thread) (m : ℕ) → slice_get code.functions thread.function ≡ Some f → IsThreadOf code thread →
      want_of thread ≡ WantInstruction →
      plays_on f.instructions (suc m) thread
      ≡ step_play thread (thread_after_step code thread) (plays_on f.instructions m (thread_after_step code thread))
  -- an event that is wanted is what the play asks; its answer ends an instruction, unless a trap follows
  pub asks : (thread : Thread) (m : ℕ) (event : Event) → slice_get code.functions thread.function ≡ Some f →
      IsThreadOf code thread → want_of thread ≡ WantEvent event →
      AsksThen (plays_on f.instructions (suc m) thread) event
      (λ answer. plays_on f.instructions m (thread_after_answer code thread answer))
  -- a trap of an instruction that has begun needs none more
  pub trapping : (thread : Thread) (m n : ℕ) → is_trapping thread ≡ true →
      plays_on f.instructions m thread ≡ plays_on f.instructions n thread
  -- a thread that wants nothing has ended
  pub stops : (thread : Thread) (m : ℕ) → want_of thread ≡ Stopped →
      (halt : Halt) × (plays_on f.instructions m thread ≡ halt_play halt)

-- the calls follow the play, whatever the code and the function
abbrev pub ThreadFollows : Type 0
ThreadFollows = (code : PlainCode) (f : PlainFunction) → IsFunctionWellFormed f → Follows code f
