-- What an allowed access may touch: bytes of an object that is there, and what a granted check says of them.
use Rattle.std.specs.Prelude.{◌≡◌, ◌≢◌, ◌↔◌, ℕ, ◌+◌, ◌%◌, ◌<◌, ◌≤◌, length, Bool, true, false, Option, Some, None, slice_get}
use Rattle.ideal_machine.specs.declared.value.Half.{Half}
use Rattle.ideal_machine.specs.declared.value.Half.TheVariants.{Object as ObjectHalf}
use Rattle.ideal_machine.specs.declared.event.Access.{Access}
use Rattle.ideal_machine.specs.declared.event.Event.{Event}
use Rattle.ideal_machine.specs.declared.event.Event.TheVariants.{GetInt, SetInt, RmwInt, CasInt, GetHalf, SetHalf, CasHalf, Lock}
use Rattle.ideal_machine.specs.declared.event.Answer.{Answer}
use Rattle.ideal_machine.specs.Memory.{Object, Memory, World, malloc_kind, literal_kind}
use Rattle.ideal_machine.specs.Words.{lock_access}
use Rattle.ideal_machine.specs.Refusals.{check_refusal, void_refusal}
use Rattle.ideal_machine.specs.Allows.{IsAllowed}

-- ---- accesses

-- the bytes that an event accesses
abbrev pub access_of : Event → Option Access
access_of (GetInt access) = Some access
access_of (SetInt access value) = Some access
access_of (RmwInt access operation value) = Some access
access_of (CasInt access expected desired) = Some access
access_of (Lock object offset) = Some (lock_access object offset)
access_of event = None

-- they are bytes of an object that is there
pub record LiesInside (memory : Memory) (access : Access) : Type 0 where
  pub object : Object
  pub there : slice_get memory.objects access.object ≡ Some object
  pub inside : access.offset + access.width ≤ object.bytes

abbrev pub AccessesLieInside : Type 0
AccessesLieInside =
    (world : World) (memory : Memory) (actor : ℕ) (event : Event) (answer : Answer) →
    IsAllowed world memory actor event answer →
    (access : Access) → access_of event ≡ Some access → LiesInside memory access

-- the word of an object whose half an event accesses
pub record WordName : Type 0 where
  pub object : ℕ
  pub word : ℕ

abbrev pub word_of : Event → Option WordName
word_of (GetHalf object word) = Some (record { object = object; word = word })
word_of (SetHalf object word half) = Some (record { object = object; word = word })
word_of (CasHalf object word seen new) = Some (record { object = object; word = word })
word_of event = None

-- it is a word of an object that is there
pub record IsWordOf (memory : Memory) (name : WordName) : Type 0 where
  pub object : Object
  pub there : slice_get memory.objects name.object ≡ Some object
  pub inside : name.word < length object.words

abbrev pub HalvesLieInside : Type 0
HalvesLieInside =
    (world : World) (memory : Memory) (actor : ℕ) (event : Event) (answer : Answer) →
    IsAllowed world memory actor event answer →
    (name : WordName) → word_of event ≡ Some name → IsWordOf memory name

-- ---- checks

-- a pointer may be used so: its half names an object that isn't freed, all the bytes are the object's, the address is
-- aligned, and a literal isn't written
pub record MayAccess (memory : Memory) (half : Half) (address width : ℕ) (write : Bool) : Type 0 where
  pub number : ℕ
  pub object : Object
  pub named : half ≡ ObjectHalf number
  pub there : slice_get memory.objects number ≡ Some object
  pub live : object.freed ≡ false
  pub from : object.address ≤ address
  pub below : address + width ≤ object.address + object.bytes
  pub aligned : address % width ≡ 0
  pub written : write ≡ true → object.kind ≢ literal_kind

-- nothing is refused of a check exactly where that holds
abbrev pub ChecksAreExact : Type 0
ChecksAreExact =
    (memory : Memory) (half : Half) (address width : ℕ) (write : Bool) →
    (check_refusal memory half address width write ≡ None) ↔ MayAccess memory half address width write

-- a pointer may be freed: it is the address of an object that `malloc` made and that isn't freed
pub record MayFree (memory : Memory) (half : Half) (address : ℕ) : Type 0 where
  pub number : ℕ
  pub object : Object
  pub named : half ≡ ObjectHalf number
  pub there : slice_get memory.objects number ≡ Some object
  pub live : object.freed ≡ false
  pub made : object.kind ≡ malloc_kind
  pub own : address ≡ object.address

abbrev pub FreesAreExact : Type 0
FreesAreExact =
    (memory : Memory) (half : Half) (address : ℕ) →
    (void_refusal memory half address ≡ None) ↔ MayFree memory half address
