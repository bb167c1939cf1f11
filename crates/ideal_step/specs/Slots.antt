-- Slots as the abstract machine sees them.
use Rattle.ideal_machine.specs.Memory.{SlotState, Free, Started, Running, Ended}
use Rattle.ideal_step.specs.declared.slot.State.{State}
use Rattle.ideal_step.specs.declared.slot.State.TheVariants as kept

-- where the thread of a slot is
abbrev pub slot_state : State → SlotState
slot_state kept.Free = Free
slot_state (kept.Started function address half) = Started function address half
slot_state kept.Running = Running
slot_state (kept.Ended result) = Ended result
