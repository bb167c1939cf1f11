-- The memory before the first event: the static objects at their addresses with their first contents, and a started
-- thread, that of `main`, in slot 0.
use Rattle.std.specs.Prelude.{ℕ, ◌+◌, ◌-◌, ◌*◌, ◌%◌, ◌^◌, List, [], ◌∷◌, false, None, if◌then◌else◌, map, zip, take, sum_by, replicate}
use Rattle.std.specs.List.{enumerate_from}
use Rattle.filc_num.specs.Statics.{payload_words_of}
use Rattle.filc_num.specs.StaticDefs.{PlainStatic}
use Rattle.filc_num.specs.declared.statics.StaticHalf.{StaticHalf}
use Rattle.filc_num.specs.declared.statics.StaticHalf.TheVariants as static
use Rattle.ideal_machine.specs.declared.value.Half.TheVariants.{Nothing, Object as ObjectHalf, Function as FunctionHalf}
use Rattle.ideal_machine.specs.declared.value.Found.TheVariants.{Plain}
use Rattle.ideal_machine.specs.Memory.{Word, Object, Slot, Free, Started, Memory, World, static_kind, literal_kind}

-- ---- addresses

-- Static objects lie one after another, behind 8 words, 6 for each slot and one for each byte of output. Each has 5 words
-- before it, and behind it, unless it is a literal, as many as it has itself
abbrev pub words_of_static : PlainStatic → ℕ
words_of_static s = 5 + payload_words_of s.bytes + (if s.literal then 0 else payload_words_of s.bytes)

abbrev pub words_before_static : World → List PlainStatic → ℕ → ℕ
words_before_static world statics n =
    8 + 6 * world.slots + world.output + sum_by words_of_static (take n statics) + 5

-- the address of the static object of this number
abbrev pub static_address : World → List PlainStatic → ℕ → ℕ
static_address world statics n = 65536 + 8 * words_before_static world statics n

-- the address of the function of this number
abbrev pub function_address : ℕ → ℕ
function_address f = 16 * (f + 1)

-- ---- first contents

-- an address and an offset from it, in 64 bits
abbrev pub address_sum : ℕ → ℕ → ℕ
address_sum address offset = (address + offset) % 2 ^ 64

-- a word of a static object. With a half, its number is an offset from the address of what the half names
abbrev pub first_word : World → List PlainStatic → ℕ → StaticHalf → Word
first_word world statics n static.None = record { integer = n; half = Plain Nothing }
first_word world statics n (static.Object s) =
    record { integer = address_sum (static_address world statics s) n; half = Plain (ObjectHalf s) }
first_word world statics n (static.Function f) =
    record { integer = address_sum (function_address f) n; half = Plain (FunctionHalf f) }

abbrev pub first_words : World → List PlainStatic → PlainStatic → List Word
first_words world statics s =
    map (λ (w : ℕ × StaticHalf). first_word world statics w.0 w.1) (zip s.words s.halves)

-- a static object
abbrev pub static_object : World → List PlainStatic → ℕ → PlainStatic → Object
static_object world statics n s = record {
  address = static_address world statics n;
  bytes = s.bytes;
  kind = if s.literal then literal_kind else static_kind;
  freed = false;
  covered = false;
  words = first_words world statics s;
}

abbrev pub static_objects : World → List PlainStatic → List Object
static_objects world statics =
    map (λ (s : ℕ × PlainStatic). static_object world statics s.0 s.1) (enumerate_from 0 statics)

-- ---- the memory

-- a slot that no thread has had
abbrev pub fresh_slot : Slot
fresh_slot = record { generation = 0; state = Free }

-- the slot in which a run begins: its thread is started with the function of this number
abbrev pub main_slot : ℕ → Slot
main_slot main = record { generation = 0; state = Started main 0 Nothing }

-- the memory of a program with these static objects and a `main` of this number
abbrev pub first_memory : World → List PlainStatic → ℕ → Memory
first_memory world statics main = record {
  objects = static_objects world statics;
  pairs = [];
  output = [];
  input_taken = 0;
  cycles = 0;
  slots = main_slot main ∷ replicate (world.slots - 1) fresh_slot;
  finish = None;
}
