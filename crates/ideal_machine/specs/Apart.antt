-- What is apart: the two halves of a word, and the bytes of two objects that are in use.
use Rattle.std.specs.Prelude.{◌≡◌, ◌≢◌, ℕ, ◌+◌, ◌<◌, ◌≤◌, List, map, Bool, true, false, IsTrue, Some, slice_get}
use Rattle.filc_num.specs.StaticDefs.{PlainStatic}
use Rattle.ideal_machine.specs.declared.value.Found.{Found}
use Rattle.ideal_machine.specs.declared.event.Event.{Event}
use Rattle.ideal_machine.specs.declared.event.Event.TheVariants.{SetInt, RmwInt, CasInt, SetHalf, CasHalf, Lock}
use Rattle.ideal_machine.specs.declared.event.Answer.{Answer}
use Rattle.ideal_machine.specs.Memory.{Word, Object, Memory, World}
use Rattle.ideal_machine.specs.Beginning.{first_memory}
use Rattle.ideal_machine.specs.Names.{extent_of}
use Rattle.ideal_machine.specs.Effects.{effect_of}

-- ---- integers and halves

-- the integers and the halves of all objects, word by word
abbrev pub integers_of : Memory → List (List ℕ)
integers_of memory = map (λ (o : Object). map (λ (w : Word). w.integer) o.words) memory.objects

abbrev pub halves_of : Memory → List (List Found)
halves_of memory = map (λ (o : Object). map (λ (w : Word). w.half) o.words) memory.objects

abbrev pub writes_integer : Event → Bool
writes_integer (SetInt access value) = true
writes_integer (RmwInt access operation value) = true
writes_integer (CasInt access expected desired) = true
writes_integer (Lock object offset) = true
writes_integer event = false

abbrev pub writes_half : Event → Bool
writes_half (SetHalf object word half) = true
writes_half (CasHalf object word seen new) = true
writes_half event = false

-- an event that writes an integer leaves every half and every pair
abbrev pub IntegersLeaveHalves : Type 0
IntegersLeaveHalves =
    (memory : Memory) (actor : ℕ) (event : Event) (answer : Answer) → IsTrue (writes_integer event) →
    (halves_of (effect_of memory actor event answer) ≡ halves_of memory)
    × ((effect_of memory actor event answer).pairs ≡ memory.pairs)

-- one that writes a half leaves every integer
abbrev pub HalvesLeaveIntegers : Type 0
HalvesLeaveIntegers =
    (memory : Memory) (actor : ℕ) (event : Event) (answer : Answer) → IsTrue (writes_half event) →
    integers_of (effect_of memory actor event answer) ≡ integers_of memory

-- ---- objects

-- the object takes up this byte
pub record TakesUp (object : Object) (byte : ℕ) : Type 0 where
  pub from : object.address ≤ byte
  pub below : byte < object.address + extent_of object

-- it was neither freed nor covered
pub record IsInUse (object : Object) : Type 0 where
  pub live : object.freed ≡ false
  pub seen : object.covered ≡ false

-- two objects in use share no byte
abbrev pub AreApart : List Object → Type 0
AreApart objects =
    (n m : ℕ) (a b : Object) → n ≢ m → slice_get objects n ≡ Some a → slice_get objects m ≡ Some b →
    IsInUse a → IsInUse b →
    (byte : ℕ) → TakesUp a byte → ¬ TakesUp b byte

-- the static objects are apart, and every event leaves objects apart
abbrev pub StaticsAreApart : Type 0
StaticsAreApart =
    (world : World) (statics : List PlainStatic) (main : ℕ) → AreApart (first_memory world statics main).objects

abbrev pub ObjectsStayApart : Type 0
ObjectsStayApart =
    (memory : Memory) (actor : ℕ) (event : Event) (answer : Answer) → AreApart memory.objects →
    AreApart (effect_of memory actor event answer).objects
