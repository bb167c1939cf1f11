-- What every event leaves as it was. Objects and pairs only grow in number; an object's address, size and kind never change,
-- and a freed or covered object stays so; what was put out, taken in and ended stays.
use Rattle.std.specs.Prelude.{◌≡◌, ℕ, ◌≤◌, List, ◌++◌, length, true, IsSomeAnd, IsSome, Some, slice_get}
use Rattle.ideal_machine.specs.declared.event.Event.{Event}
use Rattle.ideal_machine.specs.declared.event.Answer.{Answer}
use Rattle.ideal_machine.specs.Memory.{Object, Pair, Memory, World}
use Rattle.ideal_machine.specs.Allows.{IsAllowed}
use Rattle.ideal_machine.specs.Effects.{effect_of}

-- the same object at a later time: it may have been written, freed or covered since
pub record IsLaterObject (old new : Object) : Type 0 where
  pub address : new.address ≡ old.address
  pub bytes : new.bytes ≡ old.bytes
  pub kind : new.kind ≡ old.kind
  pub freed : old.freed ≡ true → new.freed ≡ true
  pub covered : old.covered ≡ true → new.covered ≡ true
  pub words : length new.words ≡ length old.words

-- each object is there at its number
abbrev pub HasLaterObjects : List Object → List Object → Type 0
HasLaterObjects old new =
    (n : ℕ) (object : Object) → slice_get old n ≡ Some object → IsSomeAnd (slice_get new n) (IsLaterObject object)

-- the memory at a later time
pub record IsLaterMemory (old new : Memory) : Type 0 where
  pub objects : HasLaterObjects old.objects new.objects
  pub pairs : (more : List Pair) × (new.pairs ≡ old.pairs ++ more)
  pub output : (more : List ℕ) × (new.output ≡ old.output ++ more)
  pub input_taken : old.input_taken ≤ new.input_taken
  pub slots : length new.slots ≡ length old.slots

-- every event leaves a later memory, whatever it is answered
abbrev pub EventsOnlyAdd : Type 0
EventsOnlyAdd =
    (memory : Memory) (actor : ℕ) (event : Event) (answer : Answer) →
    IsLaterMemory memory (effect_of memory actor event answer)

-- an allowed event undoes no end of a cycle and no end of the program
pub record KeepsEnds (old new : Memory) : Type 0 where
  pub cycles : old.cycles ≤ new.cycles
  pub finish : IsSome old.finish → new.finish ≡ old.finish

abbrev pub EventsKeepEnds : Type 0
EventsKeepEnds =
    (world : World) (memory : Memory) (actor : ℕ) (event : Event) (answer : Answer) →
    IsAllowed world memory actor event answer → KeepsEnds memory (effect_of memory actor event answer)
