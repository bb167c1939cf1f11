-- The registers of a thread's frames, numbered from 0 through the frames, the innermost first.
--
-- A register may have lost its object, where the object's cell is freed: its half becomes Freed, and nothing else
-- changes. What a thread wants is told of its registers each time, so an event that has the half from there has Freed too.
use Rattle.std.specs.Prelude.{ℕ, zero, suc, ◌+◌, ◌-◌, ◌*◌, min, List, [], ◌∷◌, length, nat_lt, slice_index_or, if◌then◌else◌}
use Rattle.filc_num.specs.declared.registers.TheConstants.{REGISTERS}
use Rattle.ideal_machine.specs.declared.value.Half.TheVariants.{Freed}
use Rattle.ideal_machine.specs.declared.value.Value.{Value}
use Rattle.ideal_machine.specs.Values.{value_at, put_at}
use Rattle.whole_thread.specs.Standing.{Caller}
use Rattle.whole_thread.specs.Thread.{Thread}
use Rattle.thread_steps.specs.declared.activation.Activation.{Activation}
use Rattle.thread_steps.specs.Blocks.{no_activation}

-- ---- reading

-- how many there are in a frame and in those of the callers
abbrev pub count_in : List Value → List Caller → ℕ
count_in registers [] = length registers
count_in registers (caller ∷ callers) = length registers + count_in caller.frame.registers callers

abbrev pub register_count : Thread → ℕ
register_count thread = count_in thread.at.frame.registers thread.at.callers

abbrev pub register_in : List Value → List Caller → ℕ → Value
register_in registers [] r = value_at registers r
register_in registers (caller ∷ callers) r =
    if nat_lt r (length registers) then value_at registers r else register_in caller.frame.registers callers (r - length registers)

abbrev pub register_of : Thread → ℕ → Value
register_of thread r = register_in thread.at.frame.registers thread.at.callers r

-- ---- writing

abbrev pub caller_with : Caller → (r : ℕ) → Value → Caller
caller_with caller r v = record caller { frame = record caller.frame { registers = put_at caller.frame.registers r v } }

abbrev pub callers_with : List Caller → (r : ℕ) → Value → List Caller
callers_with [] r v = []
callers_with (caller ∷ callers) r v =
    if nat_lt r (length caller.frame.registers) then caller_with caller r v ∷ callers
    else caller ∷ callers_with callers (r - length caller.frame.registers) v

abbrev pub thread_with : Thread → (r : ℕ) → Value → Thread
thread_with thread r v =
    if nat_lt r (length thread.at.frame.registers)
    then record thread { at = record thread.at { frame = record thread.at.frame { registers = put_at thread.at.frame.registers r v } } }
    else record thread { at = record thread.at { callers = callers_with thread.at.callers (r - length thread.at.frame.registers) v } }

-- the half of a register becomes Freed
abbrev pub thread_with_freed : Thread → (r : ℕ) → Thread
thread_with_freed thread r = thread_with thread r (record (register_of thread r) { half = Freed })

-- ---- in the block

-- how many registers an activation with so many values has there
abbrev pub values_in_frame : ℕ → ℕ
values_in_frame values = min values REGISTERS

-- how many those have together that wait below a depth
abbrev pub waiting_count : List Activation → (depth : ℕ) → ℕ
waiting_count waiting zero = 0
waiting_count waiting (suc depth) =
    values_in_frame (slice_index_or waiting depth no_activation).values + waiting_count waiting depth

-- how many there are from a depth on outwards, where the frame at the depth has so many values
abbrev pub block_count : List Activation → (depth values : ℕ) → ℕ
block_count waiting depth values = values_in_frame values + waiting_count waiting depth

-- where a register stands in the block
abbrev pub block_index : List Activation → (depth values r : ℕ) → ℕ
block_index waiting zero values r = r
block_index waiting (suc depth) values r =
    if nat_lt r (values_in_frame values) then REGISTERS * suc depth + r
    else block_index waiting depth (slice_index_or waiting depth no_activation).values (r - values_in_frame values)
