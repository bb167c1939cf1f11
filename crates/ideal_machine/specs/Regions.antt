-- What an event leaves alone: one that reads changes nothing, one on objects leaves threads and the outside, and one of
-- threads or of the outside leaves every object.
use Rattle.std.specs.Prelude.{◌≡◌, ℕ}
use Rattle.ideal_machine.specs.declared.event.Event.{Event}
use Rattle.ideal_machine.specs.declared.event.Event.TheVariants.{Check, GetInt, SetInt, RmwInt, CasInt, GetHalf, Open, SetHalf, CasHalf, New, Void, Size, Name, Lock}
use Rattle.ideal_machine.specs.declared.event.Answer.{Answer}
use Rattle.ideal_machine.specs.Memory.{Memory}
use Rattle.ideal_machine.specs.Effects.{effect_of}

-- which region of the memory an event may change
pub data Region : Type 0 where
  Nowhere : Region
  OfObjects : Region
  OfThreads : Region

abbrev pub region_of : Event → Region
region_of (Check half address width write) = Nowhere
region_of (GetInt access) = Nowhere
region_of (GetHalf object word) = Nowhere
region_of (Open pair) = Nowhere
region_of (Size half address) = Nowhere
region_of (Name half address) = Nowhere
region_of (SetInt access value) = OfObjects
region_of (RmwInt access operation value) = OfObjects
region_of (CasInt access expected desired) = OfObjects
region_of (SetHalf object word half) = OfObjects
region_of (CasHalf object word seen new) = OfObjects
region_of (New bytes kind) = OfObjects
region_of (Void half address) = OfObjects
region_of (Lock object offset) = OfObjects
region_of event = OfThreads

-- the threads, the input and output, the cycles and the end stay
pub record KeepsThreadsAndOutside (old new : Memory) : Type 0 where
  pub slots : new.slots ≡ old.slots
  pub output : new.output ≡ old.output
  pub input_taken : new.input_taken ≡ old.input_taken
  pub cycles : new.cycles ≡ old.cycles
  pub finish : new.finish ≡ old.finish

-- the objects and the pairs stay
pub record KeepsObjects (old new : Memory) : Type 0 where
  pub objects : new.objects ≡ old.objects
  pub pairs : new.pairs ≡ old.pairs

abbrev pub IsOnlyIn : Region → Memory → Memory → Type 0
IsOnlyIn Nowhere old new = new ≡ old
IsOnlyIn OfObjects old new = KeepsThreadsAndOutside old new
IsOnlyIn OfThreads old new = KeepsObjects old new

abbrev pub EventsChangeTheirRegion : Type 0
EventsChangeTheirRegion =
    (memory : Memory) (actor : ℕ) (event : Event) (answer : Answer) →
    IsOnlyIn (region_of event) memory (effect_of memory actor event answer)
