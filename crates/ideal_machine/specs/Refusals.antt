-- Why the machine refuses a pointer: of several reasons, the first that holds.
use Rattle.std.specs.Prelude.{ℕ, ◌-◌, ◌%◌, Bool, not, ◌&&◌, ◌||◌, ◌==◌, nat_le, if◌then◌else◌, Option, Some, None}
use Rattle.filc_num.specs.declared.reason.Reason.{Reason}
use Rattle.filc_num.specs.declared.reason.Reason.TheVariants.{NoCapability, FunctionData, Freed, Bounds, Alignment, ReadOnly, BadFree}
use Rattle.ideal_machine.specs.declared.value.Half.{Half}
use Rattle.ideal_machine.specs.declared.value.Half.TheVariants.{Nothing, Freed as FreedHalf, Object as ObjectHalf, Function}
use Rattle.ideal_machine.specs.Memory.{Object, Memory, object_at, malloc_kind, literal_kind}
use Rattle.ideal_machine.specs.Words.{is_within}

-- ---- the check of an access

-- every byte of an access at this address is one of the object's
abbrev pub has_bytes : Object → (address width : ℕ) → Bool
has_bytes object address width =
    nat_le object.address address && is_within object.bytes (address - object.address) width

-- why an object can't be read so, or written
abbrev pub access_refusal : Object → (address width : ℕ) → Bool → Option Reason
access_refusal object address width write =
    if object.freed then Some Freed
    else if not (has_bytes object address width) then Some Bounds
    else if not (address % width == 0) then Some Alignment
    else if write && (object.kind == literal_kind) then Some ReadOnly
    else None

-- why a pointer can't be used so
abbrev pub check_refusal : Memory → Half → (address width : ℕ) → Bool → Option Reason
check_refusal memory Nothing address width write = Some NoCapability
check_refusal memory (Function f) address width write = Some FunctionData
check_refusal memory FreedHalf address width write = Some Freed
check_refusal memory (ObjectHalf n) address width write = access_refusal (object_at memory n) address width write

-- ---- free

-- why an object can't be freed by this address: it was freed, it is none of `malloc`'s, or the address isn't its own
abbrev pub free_refusal : Object → ℕ → Option Reason
free_refusal object address =
    if object.freed then Some Freed
    else if not (object.kind == malloc_kind) || not (address == object.address) then Some BadFree
    else None

-- why a pointer can't be freed
abbrev pub void_refusal : Memory → Half → ℕ → Option Reason
void_refusal memory Nothing address = Some NoCapability
void_refusal memory (Function f) address = Some FunctionData
void_refusal memory FreedHalf address = Some Freed
void_refusal memory (ObjectHalf n) address = free_refusal (object_at memory n) address

-- the bytes of the object of a half
abbrev pub bytes_behind : Memory → Half → ℕ
bytes_behind memory (ObjectHalf n) = (object_at memory n).bytes
bytes_behind memory half = 0
