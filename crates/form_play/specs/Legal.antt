-- Legal histories: what a program may do.
--
-- A history is what happened, in the order in which it took effect: events with their answers, and who made
-- them. It is legal where each entry is allowed in the memory that those before it left, and each thread plays
-- its C text on the answers that it got.
use Rattle.std.specs.Prelude.{ℕ, ◌==◌, List, [], ◌∷◌, Bool, true, false, map, filter, if◌then◌else◌}
use Rattle.filc_num.specs.StaticDefs.{PlainStatic}
use Rattle.form_tree.specs.Plain.{PlainProgram}
use Rattle.ideal_machine.specs.declared.value.Half.{Half}
use Rattle.ideal_machine.specs.declared.event.Event.{Event}
use Rattle.ideal_machine.specs.declared.event.Event.TheVariants.{Begin}
use Rattle.ideal_machine.specs.declared.event.Answer.{Answer}
use Rattle.ideal_machine.specs.Memory.{Memory, World, address_in, thread_id}
use Rattle.ideal_machine.specs.Beginning.{first_memory}
use Rattle.ideal_machine.specs.Allows.{IsAllowed}
use Rattle.ideal_machine.specs.Effects.{effect_of}
use Rattle.ideal_machine.specs.Names.{KeepsApart, IsShownAs}
use Rattle.ideal_machine.specs.Play.{log_of}
use Rattle.ideal_machine.specs.Phrases.{Start}
use Rattle.form_play.specs.FormPlay.{play}

-- an event with its actor and its answer
pub record Entry : Type 0 where
  pub actor : ℕ
  pub event : Event
  pub answer : Answer

abbrev pub History : Type 0
History = List Entry

-- ---- what is allowed

-- the memory that an entry leaves
abbrev pub memory_after : Memory → Entry → Memory
memory_after memory entry = effect_of memory entry.actor entry.event entry.answer

-- the memory that a history leaves
abbrev pub last_memory : Memory → History → Memory
last_memory memory [] = memory
last_memory memory (entry ∷ rest) = last_memory (memory_after memory entry) rest

-- each entry is allowed in the memory that the entries before it left, and names no covered object
abbrev pub AreAllowed : World → Memory → History → Type 0
AreAllowed world memory [] = Unit {0}
AreAllowed world memory (entry ∷ rest) =
    IsAllowed world memory entry.actor entry.event entry.answer × KeepsApart memory entry.event entry.answer
    × AreAllowed world (memory_after memory entry) rest

-- ---- what is played

-- an entry, and the memory in which it was made
pub record Moment : Type 0 where
  pub memory : Memory
  pub entry : Entry

-- the moments of a history, from a memory on
abbrev pub moments : Memory → History → List Moment
moments memory [] = []
moments memory (entry ∷ rest) = record { memory = memory; entry = entry } ∷ moments (memory_after memory entry) rest

abbrev pub is_begin : Event → Bool
is_begin (Begin function address half) = true
is_begin event = false

-- the moments up to the next thread's beginning
abbrev pub until_begin : List Moment → List Moment
until_begin [] = []
until_begin (moment ∷ rest) = if is_begin moment.entry.event then [] else moment ∷ until_begin rest

-- the moments of one thread: those of its slot, until another thread begins there
abbrev pub thread_moments : ℕ → List Moment → List Moment
thread_moments slot all = until_begin (filter (λ (moment : Moment). moment.entry.actor == slot) all)

abbrev pub answers_of : List Moment → List Answer
answers_of made = map (λ (moment : Moment). moment.entry.answer) made

-- these events were made at these moments; where an object was freed by then, its half may be Freed
abbrev pub AreShown : List Event → List Moment → Type 0
AreShown [] [] = Unit {0}
AreShown (event ∷ events) (moment ∷ made) = IsShownAs moment.memory event moment.entry.event × AreShown events made
AreShown events made = ⊥

-- these moments are what a thread so begun plays on their answers, where each loop makes at most n rounds
abbrev pub IsPlayed : ℕ → PlainProgram → Start → List Moment → Type 0
IsPlayed n program start made = AreShown (log_of (play n program start (answers_of made))).events made

-- what a thread is begun with in a slot: its id is that of the slot and its generation
abbrev pub start_of : Memory → (slot function address : ℕ) → Half → (ℕ → ℕ) → Start
start_of memory slot function address half base = record {
  id = thread_id memory slot;
  function = function;
  argument = record { number = address; half = half };
  base = base;
}

-- where an event begins a thread in a slot, what follows is played
abbrev pub BeginIsPlayed : ℕ → PlainProgram → (ℕ → ℕ) → Memory → ℕ → Event → List Moment → Type 0
BeginIsPlayed n program base memory slot (Begin function address half) made =
    IsPlayed n program (start_of memory slot function address half base) made
BeginIsPlayed n program base memory slot event made = Unit {0}

-- wherever a thread begins, what it makes is played
abbrev pub ThreadsPlay : ℕ → PlainProgram → (ℕ → ℕ) → Memory → History → Type 0
ThreadsPlay n program base memory [] = Unit {0}
ThreadsPlay n program base memory (entry ∷ rest) =
    let after = memory_after memory entry in
    BeginIsPlayed n program base memory entry.actor entry.event (thread_moments entry.actor (moments after rest))
    × ThreadsPlay n program base after rest

-- ---- legal histories

-- the static objects of a program; the small form has none
abbrev pub statics_of : PlainProgram → List PlainStatic
statics_of program = []

-- the memory in which a run of a program begins
abbrev pub memory_before : World → PlainProgram → Memory
memory_before world program = first_memory world (statics_of program) program.main

-- a history that a program may have, where each loop makes at most n rounds. The first memory has the program's static
-- objects and one started slot, that of `main`, so its Begin comes first. A thread plays nothing after its Exit, Trap or
-- End, so whoever ended the program makes no event after that; others may make some. Objects never move, so a thread
-- finds each one where the last memory has it
pub record IsLegalHistory (history : History) (program : PlainProgram) (world : World) (n : ℕ) : Type 0 where
  pub allowed : AreAllowed world (memory_before world program) history
  pub played :
      ThreadsPlay n program (address_in (last_memory (memory_before world program) history))
      (memory_before world program) history
