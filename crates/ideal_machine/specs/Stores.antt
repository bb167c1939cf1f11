-- What a store leaves to be read: the bytes that were stored, and everywhere else what was there.
use Rattle.std.specs.Prelude.{◌≡◌, ◌≢◌, ◌⊎◌, ℕ, ◌%◌, ◌^◌, List, length, Some, slice_get}
use Rattle.filc_num.specs.Statics.{payload_words_of}
use Rattle.filc_num.specs.StaticDefs.{PlainStatic}
use Rattle.filc_num.specs.WordBytes.{IsApart}
use Rattle.ideal_machine.specs.declared.value.Half.{Half}
use Rattle.ideal_machine.specs.declared.value.Kept.{Kept}
use Rattle.ideal_machine.specs.declared.value.Kept.TheVariants as kept
use Rattle.ideal_machine.specs.declared.value.Found.TheVariants.{Plain, Pair as FoundPair}
use Rattle.ideal_machine.specs.declared.event.Access.{Access}
use Rattle.ideal_machine.specs.declared.event.Event.{Event}
use Rattle.ideal_machine.specs.declared.event.Answer.{Answer}
use Rattle.ideal_machine.specs.Memory.{Object, Memory, World}
use Rattle.ideal_machine.specs.Beginning.{first_memory}
use Rattle.ideal_machine.specs.Words.{integer_at, with_integer, half_at, with_half}
use Rattle.ideal_machine.specs.Allows.{IsAccess, HasWord}
use Rattle.ideal_machine.specs.Effects.{effect_of}

-- ---- the words of an object

-- each object has a word for each 8 bytes, and one for what is left
abbrev pub AreWhole : List Object → Type 0
AreWhole objects =
    (n : ℕ) (object : Object) → slice_get objects n ≡ Some object → length object.words ≡ payload_words_of object.bytes

-- the static objects of a program have their words and halves
abbrev pub StaticsAreWhole : List PlainStatic → Type 0
StaticsAreWhole statics =
    (n : ℕ) (s : PlainStatic) → slice_get statics n ≡ Some s →
    (length s.words ≡ payload_words_of s.bytes) × (length s.halves ≡ payload_words_of s.bytes)

-- so it is before the first event, and every event leaves it so
abbrev pub ObjectsAreWholeFirst : Type 0
ObjectsAreWholeFirst =
    (world : World) (statics : List PlainStatic) (main : ℕ) → StaticsAreWhole statics →
    AreWhole (first_memory world statics main).objects

abbrev pub ObjectsStayWhole : Type 0
ObjectsStayWhole =
    (memory : Memory) (actor : ℕ) (event : Event) (answer : Answer) → AreWhole memory.objects →
    AreWhole (effect_of memory actor event answer).objects

-- ---- integers

-- the low bytes of a value are read where they were stored
abbrev pub StoredIntegersAreRead : Type 0
StoredIntegersAreRead =
    (memory : Memory) (access : Access) (value : ℕ) → AreWhole memory.objects → IsAccess memory access →
    integer_at (with_integer memory access value) access ≡ value % 256 ^ access.width

-- two accesses share no byte
abbrev pub AccessesAreApart : Access → Access → Type 0
AccessesAreApart a b = (a.object ≢ b.object) ⊎ IsApart a.offset a.width b.offset b.width

-- every other access reads what it read before
abbrev pub OtherIntegersStay : Type 0
OtherIntegersStay =
    (memory : Memory) (stored read : Access) (value : ℕ) → AccessesAreApart stored read →
    integer_at (with_integer memory stored value) read ≡ integer_at memory read

-- ---- halves

-- a half is found where it was stored, and a pair by the number that it got
abbrev pub StoredHalvesAreFound : Type 0
StoredHalvesAreFound =
    (memory : Memory) (object word address : ℕ) (half : Half) → HasWord memory object word →
    (half_at (with_half memory object word (kept.Plain half)) object word ≡ Plain half)
    × (half_at (with_half memory object word (kept.Pair address half)) object word ≡ FoundPair (length memory.pairs))
    × (slice_get (with_half memory object word (kept.Pair address half)).pairs (length memory.pairs)
    ≡ Some (record { address = address; half = half }))

-- in every other word is found what was found before
abbrev pub OtherHalvesStay : Type 0
OtherHalvesStay =
    (memory : Memory) (object word other_object other_word : ℕ) (half : Kept) →
    (object ≢ other_object) ⊎ (word ≢ other_word) →
    half_at (with_half memory object word half) other_object other_word ≡ half_at memory other_object other_word
