-- The objects of a history: none ever moves, two in use share no byte, and what a new one covers is named no more.
use Rattle.std.specs.Prelude.{◌≡◌, ℕ, ◌<◌, ◌++◌, length, true, All, Contains, IsSomeAnd, slice_get}
use Rattle.form_tree.specs.Plain.{PlainProgram}
use Rattle.ideal_machine.specs.Memory.{Memory, World, address_in}
use Rattle.ideal_machine.specs.Names.{event_names, answer_names}
use Rattle.ideal_machine.specs.Growth.{HasLaterObjects}
use Rattle.ideal_machine.specs.Apart.{AreApart}
use Rattle.form_play.specs.Legal.{Entry, History, last_memory, memory_before, AreAllowed}

-- each object stays where it is, with its size; a freed one stays freed, and a covered one covered
abbrev pub ObjectsStay : Type 0
ObjectsStay =
    (memory : Memory) (history : History) → HasLaterObjects memory.objects (last_memory memory history).objects

-- so a thread finds each object that is there where the last memory has it
abbrev pub ObjectsNeverMove : Type 0
ObjectsNeverMove =
    (memory : Memory) (history : History) (n : ℕ) → n < length memory.objects →
    address_in (last_memory memory history) n ≡ address_in memory n

-- at no time do two objects in use share a byte
abbrev pub ObjectsAreApart : Type 0
ObjectsAreApart =
    (program : PlainProgram) (world : World) (history : History) →
    AreApart (last_memory (memory_before world program) history).objects

-- an entry names this object, in its event or in its answer
abbrev pub NamesObject : ℕ → Entry → Type 0
NamesObject n entry = Contains (event_names entry.event ++ answer_names entry.answer) n

-- an object that is covered in a memory is named by no allowed entry from there on
abbrev pub CoveredObjectsAreNotNamed : Type 0
CoveredObjectsAreNotNamed =
    (world : World) (memory : Memory) (history : History) (n : ℕ) → AreAllowed world memory history →
    IsSomeAnd (slice_get memory.objects n) (λ o. o.covered ≡ true) → All (λ entry. ¬ NamesObject n entry) history
