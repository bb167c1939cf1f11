-- What holds of each change to a memory holds of every event's effect.
use Rattle.std.proofs.Common.{ℕ, ◌+◌, Bool, true, false, Option, Some, None}
use Rattle.std.specs.Prelude.{if◌then◌else◌, ◌==◌, ◌^◌, ◌%◌}
use Rattle.ideal_machine.specs.declared.value.Half.{Half}
use Rattle.ideal_machine.specs.declared.value.Kept.{Kept}
use Rattle.ideal_machine.specs.declared.finish.Finish.{Finish}
use Rattle.ideal_machine.specs.declared.event.Access.{Access}
use Rattle.ideal_machine.specs.declared.event.Event.{Event}
use Rattle.ideal_machine.specs.declared.event.Event.TheVariants.{SetInt, RmwInt, CasInt, SetHalf, CasHalf, New, Void, Lock, Out, Input, Spawn, Begin, End, Join, Collected, Exit, Trap}
use Rattle.ideal_machine.specs.declared.event.Answer.{Answer}
use Rattle.ideal_machine.specs.declared.event.Answer.TheVariants.{Granted, Done, Number, Found, Made}
use Rattle.ideal_machine.specs.Memory.{Slot, Memory}
use Rattle.ideal_machine.specs.Words.{with_integer, operation_result, with_result, lock_access, with_half, is_seen}
use Rattle.ideal_machine.specs.Names.{with_new_object}
use Rattle.ideal_machine.specs.Effects.{new_object, with_freed, with_slot, with_byte, with_finish, effect_of}

-- P holds of each change
pub record OfEachChange (P : Memory → Type 0) (memory : Memory) : Type 0 where
  pub same : P memory
  pub integer : (access : Access) (value : ℕ) → P (with_integer memory access value)
  pub half : (object word : ℕ) (half : Kept) → P (with_half memory object word half)
  pub new : (bytes kind address : ℕ) → P (with_new_object memory (new_object bytes kind address))
  pub freed : (half : Half) → P (with_freed memory half)
  pub slot : (n : ℕ) (change : Slot → Slot) → P (with_slot memory n change)
  pub byte : (byte : ℕ) → P (with_byte memory byte)
  pub input : P (record memory { input_taken = memory.input_taken + 1 })
  pub cycle : (cycle : ℕ) → P (record memory { cycles = cycle })
  pub finish : (finish : Finish) → P (with_finish memory finish)

pub either : (P : Memory → Type 0) (b : Bool) (x y : Memory) → P x → P y → P (if b then x else y)
either P true x y h k = h
either P false x y h k = k

result_case : (P : Memory → Type 0) (memory : Memory) → OfEachChange P memory → (access : Access) (o : Option ℕ) → P (with_result memory access o)
result_case P memory h access None = h.same
result_case P memory h access (Some value) = h.integer access value

pub of_effect :
    (P : Memory → Type 0) (memory : Memory) → OfEachChange P memory → (actor : ℕ) (event : Event) (answer : Answer) →
    P (effect_of memory actor event answer)
of_effect P memory h actor (SetInt access value) Done = h.integer access value
of_effect P memory h actor (RmwInt access operation value) (Number old) =
    result_case P memory h access (operation_result operation old value)
of_effect P memory h actor (CasInt access expected desired) (Number old) =
    either P (old == expected % 256 ^ access.width) (with_integer memory access desired) memory (h.integer access desired) h.same
of_effect P memory h actor (SetHalf object word half) Done = h.half object word half
of_effect P memory h actor (CasHalf object word seen new) (Found found) =
    either P (is_seen seen found) (with_half memory object word new) memory (h.half object word new) h.same
of_effect P memory h actor (New bytes kind) (Made object address) = h.new bytes kind address
of_effect P memory h actor (Void half address) Granted = h.freed half
of_effect P memory h actor (Lock object offset) Done = h.integer (lock_access object offset) 1
of_effect P memory h actor (Out byte) Done = h.byte byte
of_effect P memory h actor Input (Number byte) = h.input
of_effect P memory h actor (Spawn function address half) (Number id) = h.slot _ _
of_effect P memory h actor (Begin function address half) Done = h.slot _ _
of_effect P memory h actor (End result) Done = h.slot _ _
of_effect P memory h actor (Join id) (Number result) = h.slot _ _
of_effect P memory h actor (Collected cycle) Done = h.cycle cycle
of_effect P memory h actor (Exit status) Done = h.finish _
of_effect P memory h actor (Trap reason line) Done = h.finish _
of_effect P memory h actor event answer = h.same
