-- What the words code. Each coding is a number for each value; a word codes a value where it is the
-- value's number.
use Rattle.std.specs.Prelude.{ℕ, ◌+◌, ◌*◌, ◌^◌, ◌<◌, ◌≢◌, bit_and}
use Rattle.object_header.specs.declared.cap.Cap.{Cap}
use Rattle.object_header.specs.declared.cap.Cap.TheVariants.{Nothing, Freed, Object, Function, Boxed}
use Rattle.object_header.specs.declared.codings.CellState.{CellState}
use Rattle.object_header.specs.declared.codings.CellState.TheVariants.{Free, Claimed, Live, Void}
use Rattle.object_header.specs.declared.codings.Kind.{Kind}
use Rattle.object_header.specs.declared.codings.Kind.TheVariants.{Malloc, Home, Static, Literal, Table, Boxed as BoxKind}
use Rattle.object_header.specs.declared.codings.SlotState.{SlotState}
use Rattle.object_header.specs.declared.codings.SlotState.TheVariants.{Free as FreeSlot, Filling, Running, Ended}
use Rattle.object_header.specs.declared.codings.TheConstants.{VOID_BIT}
use Rattle.object_header.specs.declared.codings.ExitWord.{ExitWord}
use Rattle.object_header.specs.declared.codings.ExitWord.TheVariants.{Unset, Exited, Trapped}

-- a capability: the two low bits tell its kind, the others its place or its function
abbrev pub cap_code : Cap → ℕ
cap_code Nothing = 0
cap_code Freed = 1
cap_code (Object place) = 4 * place
cap_code (Function function) = 4 * function + 2
cap_code (Boxed place) = 4 * place + 3

-- the capability's place fits, and an object's is not 0
abbrev pub HasPlace : Cap → Type 0
HasPlace Nothing = Unit {0}
HasPlace Freed = Unit {0}
HasPlace (Object place) = (0 < place) × (place < 2 ^ 62)
HasPlace (Function function) = function < 2 ^ 32
HasPlace (Boxed place) = place < 2 ^ 62

-- a cell's state; a void cell is a live one with the void bit, 4
abbrev pub state_code : CellState → ℕ
state_code Free = 0
state_code Claimed = 1
state_code Live = 2
state_code Void = 6

-- the state has the void bit
abbrev pub HasVoidBit : ℕ → Type 0
HasVoidBit state = bit_and state VOID_BIT ≢ 0

-- the kinds in their order
abbrev pub kind_number : Kind → ℕ
kind_number Malloc = 0
kind_number Home = 1
kind_number Static = 2
kind_number Literal = 3
kind_number Table = 4
kind_number BoxKind = 5

-- a header's bytes and kind
abbrev pub size_code : ℕ → Kind → ℕ
size_code bytes kind = 16 * bytes + kind_number kind

-- a slot's states in the order of a thread's life
abbrev pub slot_state_number : SlotState → ℕ
slot_state_number FreeSlot = 0
slot_state_number Filling = 1
slot_state_number Running = 2
slot_state_number Ended = 3

-- a slot's generation and state
abbrev pub slot_code : ℕ → SlotState → ℕ
slot_code generation state = 4 * generation + slot_state_number state

-- how the program ended; a trap has a reason's number and a line
abbrev pub exit_code : ExitWord → ℕ
exit_code Unset = 0
exit_code (Exited status) = status + 1
exit_code (Trapped reason line) = 2 ^ 32 * reason + line

-- the numbers fit, and the reason's is not 0
abbrev pub IsExit : ExitWord → Type 0
IsExit Unset = Unit {0}
IsExit (Exited status) = status < 256
IsExit (Trapped reason line) = (0 < reason) × (reason < 2 ^ 32) × (line < 2 ^ 32)
