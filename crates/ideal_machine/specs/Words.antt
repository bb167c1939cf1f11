-- What words hold: integers of 1, 2, 4 or 8 bytes within a word, halves beside them, and what an operation makes of an
-- integer.
use Rattle.std.specs.Prelude.{ℕ, ◌-◌, ◌/◌, ◌%◌, List, [], ◌∷◌, ◌++◌, length, Bool, true, false, ◌&&◌, ◌==◌, nat_le, Option, Some, None, Result, Ok, Err, slice_get, slice_set}
use Rattle.filc_num.specs.Integers.{convert_of, binary_of}
use Rattle.filc_num.specs.WordBytes.{bytes_of, with_bytes}
use Rattle.filc_num.specs.declared.integer.IntType.{IntType}
use Rattle.filc_num.specs.declared.integer.BinOp.{BinOp}
use Rattle.filc_num.specs.declared.integer.BinOp.TheVariants.{Shl, Shr}
use Rattle.filc_num.specs.declared.integer.ArithFault.{ArithFault}
use Rattle.ideal_machine.specs.declared.value.Half.{Half}
use Rattle.ideal_machine.specs.declared.value.Half.TheVariants.{Nothing, Freed, Object as ObjectHalf, Function}
use Rattle.ideal_machine.specs.declared.value.Kept.{Kept}
use Rattle.ideal_machine.specs.declared.value.Kept.TheVariants.{Plain as KeptPlain, Pair as KeptPair}
use Rattle.ideal_machine.specs.declared.value.Found.{Found}
use Rattle.ideal_machine.specs.declared.value.Found.TheVariants.{Plain as FoundPlain, Pair as FoundPair}
use Rattle.ideal_machine.specs.declared.event.Seen.{Seen}
use Rattle.ideal_machine.specs.declared.event.Seen.TheVariants.{Any, Found as SeenFound}
use Rattle.ideal_machine.specs.declared.event.Access.{Access}
use Rattle.ideal_machine.specs.declared.event.Operation.{Operation}
use Rattle.ideal_machine.specs.declared.event.Operation.TheVariants.{Set, Compute}
use Rattle.ideal_machine.specs.Memory.{Word, Object, Memory, word_at}

-- ---- a change of one element

abbrev pub set_with : {A : Type 0} → List A → ℕ → (A → A) → Option A → List A
set_with list n change None = list
set_with list n change (Some element) = slice_set list n (change element)

-- the list with the element of this number changed
abbrev pub with_element : {A : Type 0} → List A → ℕ → (A → A) → List A
with_element list n change = set_with list n change (slice_get list n)

-- the memory with one object changed
abbrev pub with_object : Memory → ℕ → (Object → Object) → Memory
with_object memory n change = record memory { objects = with_element memory.objects n change }

-- the memory with one word of an object changed
abbrev pub with_word : Memory → (object word : ℕ) → (Word → Word) → Memory
with_word memory object word change =
    with_object memory object (λ o. record o { words = with_element o.words word change })

-- ---- integers

-- these bytes are among the first `bytes`. There is no sum, as there is none where it is decided: in 64 bits it could wrap
abbrev pub is_within : (bytes offset width : ℕ) → Bool
is_within bytes offset width = nat_le width bytes && nat_le offset (bytes - width)

-- the integer that an access finds: its bytes as an unsigned number
abbrev pub integer_at : Memory → Access → ℕ
integer_at memory access =
    bytes_of (word_at memory access.object (access.offset / 8)).integer (access.offset % 8) access.width

-- the memory with the low bytes of a value there
abbrev pub with_integer : Memory → Access → ℕ → Memory
with_integer memory access value =
    with_word memory access.object (access.offset / 8)
    (λ w. record w { integer = with_bytes w.integer (access.offset % 8) access.width value })

-- the 4 bytes of a lock
abbrev pub lock_access : (object offset : ℕ) → Access
lock_access object offset = record { object = object; offset = offset; width = 4 }

-- ---- halves

-- what a GetHalf finds
abbrev pub half_at : Memory → (object word : ℕ) → Found
half_at memory object word = (word_at memory object word).half

abbrev pub with_found : Memory → (object word : ℕ) → Found → Memory
with_found memory object word found = with_word memory object word (λ w. record w { half = found })

-- the memory with a pair more
abbrev pub with_pair : Memory → ℕ → Half → Memory
with_pair memory address half = record memory { pairs = memory.pairs ++ record { address = address; half = half } ∷ [] }

-- the memory with this half there; a pair gets the next number
abbrev pub with_half : Memory → (object word : ℕ) → Kept → Memory
with_half memory object word (KeptPlain half) = with_found memory object word (FoundPlain half)
with_half memory object word (KeptPair address half) =
    with_found (with_pair memory address half) object word (FoundPair (length memory.pairs))

-- two halves are the same
abbrev pub same_half : Half → Half → Bool
same_half Nothing Nothing = true
same_half Freed Freed = true
same_half (ObjectHalf a) (ObjectHalf b) = a == b
same_half (Function a) (Function b) = a == b
same_half a b = false

-- so are two pairs of one number
abbrev pub same_found : Found → Found → Bool
same_found (FoundPlain a) (FoundPlain b) = same_half a b
same_found (FoundPair a) (FoundPair b) = a == b
same_found a b = false

-- what was found is what an exchange expects
abbrev pub is_seen : Seen → Found → Bool
is_seen Any found = true
is_seen (SeenFound expected) found = same_found expected found

-- ---- operations

-- the right operand as an operator takes it: converted to the operation's type, but for the count of a shift
abbrev pub right_operand : BinOp → IntType → ℕ → ℕ
right_operand Shl ty b = b
right_operand Shr ty b = b
right_operand op ty b = convert_of b ty

-- a op b, made in a type to which both operands are converted (C11 6.3.1.8)
abbrev pub operator_result : BinOp → IntType → ℕ → ℕ → Result ℕ ArithFault
operator_result op ty a b = binary_of op ty (convert_of a ty) (right_operand op ty b)

-- a result as a value of a type, where there is one
abbrev pub result_as : IntType → Result ℕ ArithFault → Option ℕ
result_as ty (Ok n) = Some (convert_of n ty)
result_as ty (Err fault) = None

-- what an operation makes of the old bytes and the event's value: nothing where its operator has no result. The old bytes
-- are a value of the object's type
abbrev pub operation_result : Operation → (old value : ℕ) → Option ℕ
operation_result Set old value = Some value
operation_result (Compute op of_object computed_in) old value =
    result_as of_object (operator_result op computed_in (convert_of old of_object) value)

-- the memory with the result of an operation there, where it has one
abbrev pub with_result : Memory → Access → Option ℕ → Memory
with_result memory access None = memory
with_result memory access (Some value) = with_integer memory access value
