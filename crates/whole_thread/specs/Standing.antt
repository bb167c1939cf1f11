-- Where a thread of code stands: its activations, the place in the code, and the registers.
use Rattle.std.specs.Prelude.{ℕ, ◌+◌, ◌-◌, List, length, map, take, replicate, ◌++◌, Option, Some, None, if◌then◌else◌}
use Rattle.whole_code.specs.declared.op.Instruction.{Instruction}
use Rattle.whole_code.specs.Plain.{PlainFunction}
use Rattle.whole_code.specs.Operands.{numbers_from}
use Rattle.ideal_machine.specs.declared.value.Value.{Value}
use Rattle.ideal_machine.specs.declared.event.Access.{Access}
use Rattle.ideal_machine.specs.Values.{zero_value, value_at, put_at}

-- an activation of a function: the function's number, the index where it stands in the function's code, the line of its
-- call, which a thread's first function doesn't have, and its registers
pub record Frame : Type 0 where
  pub function : ℕ
  pub index : ℕ
  pub called_at : Option ℕ
  pub registers : List Value

-- an activation that waits for one that it called: it goes on where its frame stands, with what is returned in this
-- register
pub record Caller : Type 0 where
  pub frame : Frame
  pub result : ℕ

-- the activations that wait, from the innermost on, and the one that is carried out; and where its instruction makes one
-- more round, the access that its check has granted: a lock, or a compare and exchange of a pointer
pub record Standing : Type 0 where
  pub callers : List Caller
  pub frame : Frame
  pub granted : Option Access

-- ---- activations

-- the activations beside a thread's first: 1,024 in all
abbrev pub further_activations : ℕ
further_activations = 1023

-- how many more there may be
abbrev pub room : Standing → ℕ
room at = further_activations - length at.callers

-- a function's first registers are its parameters, and the others are zero
abbrev pub first_registers : PlainFunction → List Value → List Value
first_registers f arguments = take f.values (take f.parameters arguments ++ replicate f.values zero_value)

-- the line of a trap: the instruction's own, but in library text that of the call, which is a call in the user's text
-- where there is one
abbrev pub line_or : Option ℕ → ℕ → ℕ
line_or None line = line
line_or (Some call_line) line = call_line

abbrev pub trap_line : Frame → Instruction → ℕ
trap_line frame i = if i.library then line_or frame.called_at i.line else i.line

-- ---- registers

abbrev pub register : Standing → ℕ → Value
register at r = value_at at.frame.registers r

-- so many registers, from a first one on
abbrev pub registers_from : Standing → (first count : ℕ) → List Value
registers_from at first count = map (register at) (numbers_from first count)

abbrev pub with_register : Standing → (d : ℕ) → Value → Standing
with_register at d v = record at { frame = record at.frame { registers = put_at at.frame.registers d v } }

-- ---- places

-- before the instruction at an index
abbrev pub at_index : Standing → ℕ → Standing
at_index at index = record at { frame = record at.frame { index = index }; granted = None }

-- before the next one
abbrev pub onward : Standing → Standing
onward at = at_index at (at.frame.index + 1)

-- at one more round of the instruction, whose check has granted this
abbrev pub in_round : Standing → Access → Standing
in_round at access = record at { granted = Some access }
