-- Every half that is kept names an object that is there, and so does every half that is found: an object's number is never
-- a stranger's.
use Rattle.std.specs.Prelude.{◌≡◌, ℕ, ◌<◌, List, length, All, Some, slice_get}
use Rattle.filc_num.specs.StaticDefs.{PlainStatic}
use Rattle.filc_num.specs.declared.statics.StaticHalf.{StaticHalf}
use Rattle.filc_num.specs.declared.statics.StaticHalf.TheVariants as static
use Rattle.ideal_machine.specs.declared.value.Half.{Half}
use Rattle.ideal_machine.specs.declared.value.Half.TheVariants.{Object as ObjectHalf}
use Rattle.ideal_machine.specs.declared.value.Found.{Found}
use Rattle.ideal_machine.specs.declared.value.Found.TheVariants.{Plain, Pair as FoundPair}
use Rattle.ideal_machine.specs.declared.event.Event.{Event}
use Rattle.ideal_machine.specs.declared.event.Answer.{Answer}
use Rattle.ideal_machine.specs.Memory.{Word, Object, Pair, Started, Memory, World}
use Rattle.ideal_machine.specs.Beginning.{first_memory}
use Rattle.ideal_machine.specs.Names.{answer_names}
use Rattle.ideal_machine.specs.Allows.{state_of, IsAllowed}
use Rattle.ideal_machine.specs.Effects.{effect_of}

-- a half that names an object names one of so many
abbrev pub HalfIsThere : ℕ → Half → Type 0
HalfIsThere objects (ObjectHalf n) = n < objects
HalfIsThere objects half = Unit {0}

-- what a word has names one of so many objects, or one of so many pairs
abbrev pub FoundIsThere : (objects pairs : ℕ) → Found → Type 0
FoundIsThere objects pairs (Plain half) = HalfIsThere objects half
FoundIsThere objects pairs (FoundPair number) = number < pairs

-- the halves of all words, of all pairs and of all started threads name objects that are there
pub record HalvesAreThere (memory : Memory) : Type 0 where
  pub words :
      (n k : ℕ) (object : Object) (word : Word) → slice_get memory.objects n ≡ Some object →
      slice_get object.words k ≡ Some word →
      FoundIsThere (length memory.objects) (length memory.pairs) word.half
  pub pairs :
      (n : ℕ) (pair : Pair) → slice_get memory.pairs n ≡ Some pair → HalfIsThere (length memory.objects) pair.half
  pub slots :
      (actor function address : ℕ) (half : Half) → state_of memory actor ≡ Some (Started function address half) →
      HalfIsThere (length memory.objects) half

-- the halves of a program's static objects name its static objects
abbrev pub StaticHalfIsThere : ℕ → StaticHalf → Type 0
StaticHalfIsThere statics (static.Object n) = n < statics
StaticHalfIsThere statics half = Unit {0}

abbrev pub StaticHalvesAreThere : List PlainStatic → Type 0
StaticHalvesAreThere statics =
    (n k : ℕ) (s : PlainStatic) (half : StaticHalf) → slice_get statics n ≡ Some s → slice_get s.halves k ≡ Some half →
    StaticHalfIsThere (length statics) half

-- so it is before the first event, and every allowed event leaves it so
abbrev pub HalvesAreThereFirst : Type 0
HalvesAreThereFirst =
    (world : World) (statics : List PlainStatic) (main : ℕ) → StaticHalvesAreThere statics →
    HalvesAreThere (first_memory world statics main)

abbrev pub HalvesStayThere : Type 0
HalvesStayThere =
    (world : World) (memory : Memory) (actor : ℕ) (event : Event) (answer : Answer) → HalvesAreThere memory →
    IsAllowed world memory actor event answer → HalvesAreThere (effect_of memory actor event answer)

-- what an answer names is there once it was given
abbrev pub AnswersNameObjects : Type 0
AnswersNameObjects =
    (world : World) (memory : Memory) (actor : ℕ) (event : Event) (answer : Answer) → HalvesAreThere memory →
    IsAllowed world memory actor event answer →
    All (λ n. n < length (effect_of memory actor event answer).objects) (answer_names answer)
