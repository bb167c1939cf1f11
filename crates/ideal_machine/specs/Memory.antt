-- The memory of the abstract machine: what C's text can know of the world, and nothing of how it is kept.
--
-- Objects are numbered in the order in which they were made, and none is ever taken away: `free` sets
-- `freed`. The two halves of a pointer at rest are apart: a word has an integer and a half, and a store of
-- one leaves the other. A pair is both at once, for atomic pointers; pairs are numbered in the order in
-- which they were stored, and a word has the number. Each thread has a slot.
use Rattle.std.specs.Prelude.{ℕ, ◌+◌, ◌*◌, List, [], Bool, false, true, Option, Some, None, slice_get, unwrap_or}
use Rattle.ideal_machine.specs.declared.value.Half.{Half}
use Rattle.ideal_machine.specs.declared.value.Half.TheVariants.{Nothing}
use Rattle.ideal_machine.specs.declared.value.Found.{Found}
use Rattle.ideal_machine.specs.declared.value.Found.TheVariants.{Plain}
use Rattle.ideal_machine.specs.declared.finish.Finish.{Finish}

-- ---- objects

-- 8 bytes of an object: their integer, and the half that is found there, or a pair by its number
pub record Word : Type 0 where
  pub integer : ℕ
  pub half : Found

-- an object; it is covered once a later one lies on its bytes
pub record Object : Type 0 where
  pub address : ℕ
  pub bytes : ℕ
  pub kind : ℕ
  pub freed : Bool
  pub covered : Bool
  pub words : List Word

-- the kinds of objects: made by `malloc`, `calloc` or `realloc`; the home of a local; a static object; a string literal
abbrev pub malloc_kind : ℕ
malloc_kind = 0

abbrev pub home_kind : ℕ
home_kind = 1

abbrev pub static_kind : ℕ
static_kind = 2

abbrev pub literal_kind : ℕ
literal_kind = 3

-- an address and a half that were stored at once
pub record Pair : Type 0 where
  pub address : ℕ
  pub half : Half

-- ---- threads

-- where the thread of a slot is
pub data SlotState : Type 0 where
  Free : SlotState
  Started : (function address : ℕ) (half : Half) → SlotState
  Running : SlotState
  Ended : (result : ℕ) → SlotState

-- a slot for threads, and how many it has had
pub record Slot : Type 0 where
  pub generation : ℕ
  pub state : SlotState

-- ---- the memory

pub record Memory : Type 0 where
  pub objects : List Object
  pub pairs : List Pair
  pub output : List ℕ
  pub input_taken : ℕ
  pub cycles : ℕ
  pub slots : List Slot
  pub finish : Option Finish

-- what stays during a run: how many slots there are, how many bytes can be put out, and the bytes of the input
pub record World : Type 0 where
  pub slots : ℕ
  pub output : ℕ
  pub input : List ℕ

-- the world where no limits are stated
abbrev pub default_world : List ℕ → World
default_world input = record { slots = 8; output = 1048576; input = input }

-- ---- what a number names

-- what isn't there: it has no bytes
abbrev pub no_object : Object
no_object = record { address = 0; bytes = 0; kind = malloc_kind; freed = true; covered = false; words = [] }

-- a word of zeros
abbrev pub zero_word : Word
zero_word = record { integer = 0; half = Plain Nothing }

-- the object of this number
abbrev pub object_at : Memory → ℕ → Object
object_at memory object = unwrap_or (slice_get memory.objects object) no_object

-- a word of an object
abbrev pub word_at : Memory → (object word : ℕ) → Word
word_at memory object word = unwrap_or (slice_get (object_at memory object).words word) zero_word

-- the address of an object; it never moves
abbrev pub address_in : Memory → ℕ → ℕ
address_in memory object = (object_at memory object).address

-- the id of a slot's thread: no other slot has it, and no thread that the slot had before or will have
abbrev pub id_of : (slot generation : ℕ) → ℕ
id_of slot generation = 64 * generation + slot

-- the id of the thread for which a slot is now
abbrev pub id_or : ℕ → Option Slot → ℕ
id_or slot None = slot
id_or slot (Some s) = id_of slot s.generation

abbrev pub thread_id : Memory → ℕ → ℕ
thread_id memory slot = id_or slot (slice_get memory.slots slot)
