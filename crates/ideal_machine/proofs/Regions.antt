-- What an event leaves alone.
use Rattle.std.proofs.Common.{ℕ, Option, Some, None, refl}
use Rattle.std.specs.Prelude.{◌==◌, ◌^◌, ◌%◌}
use Rattle.ideal_machine.specs.declared.value.Half.{Half}
use Rattle.ideal_machine.specs.declared.value.Half.TheVariants.{Object as ObjectHalf}
use Rattle.ideal_machine.specs.declared.value.Kept.{Kept}
use Rattle.ideal_machine.specs.declared.value.Kept.TheVariants.{Plain, Pair as PairKept}
use Rattle.ideal_machine.specs.declared.event.Access.{Access}
use Rattle.ideal_machine.specs.declared.event.Event.TheVariants.{Check, GetInt, SetInt, RmwInt, CasInt, GetHalf, Open, SetHalf, CasHalf, New, Void, Size, Name, Lock, Out, Input, Spawn, Begin, End, Join, Collected, Exit, Trap}
use Rattle.ideal_machine.specs.declared.event.Answer.TheVariants.{Granted, Done, Number, Found, Made}
use Rattle.ideal_machine.specs.Memory.{Memory}
use Rattle.ideal_machine.specs.Words.{with_integer, operation_result, with_result, with_half, is_seen, lock_access}
use Rattle.ideal_machine.specs.Effects.{with_freed}
use Rattle.ideal_machine.specs.Regions.{KeepsThreadsAndOutside, EventsChangeTheirRegion}
use Rattle.ideal_machine.proofs.EffectCases.{either}

module _ (memory : Memory) where
  same : KeepsThreadsAndOutside memory memory
  same = record { slots = refl; output = refl; input_taken = refl; cycles = refl; finish = refl }

  integer_keeps : (access : Access) (value : ℕ) → KeepsThreadsAndOutside memory (with_integer memory access value)
  integer_keeps access value = record { slots = refl; output = refl; input_taken = refl; cycles = refl; finish = refl }

  result_keeps : (access : Access) (o : Option ℕ) → KeepsThreadsAndOutside memory (with_result memory access o)
  result_keeps access None = same
  result_keeps access (Some value) = integer_keeps access value

  half_keeps : (object word : ℕ) (half : Kept) → KeepsThreadsAndOutside memory (with_half memory object word half)
  half_keeps object word (Plain half) = record { slots = refl; output = refl; input_taken = refl; cycles = refl; finish = refl }
  half_keeps object word (PairKept address half) = record { slots = refl; output = refl; input_taken = refl; cycles = refl; finish = refl }

  freed_keeps : (half : Half) → KeepsThreadsAndOutside memory (with_freed memory half)
  freed_keeps (ObjectHalf n) = record { slots = refl; output = refl; input_taken = refl; cycles = refl; finish = refl }
  freed_keeps half = same

pub events_change_their_region : EventsChangeTheirRegion
events_change_their_region memory actor (Check half address width write) answer = refl
events_change_their_region memory actor (GetInt access) answer = refl
events_change_their_region memory actor (GetHalf object word) answer = refl
events_change_their_region memory actor (Open pair) answer = refl
events_change_their_region memory actor (Size half address) answer = refl
events_change_their_region memory actor (Name half address) answer = refl
events_change_their_region memory actor (SetInt access value) Done = integer_keeps memory access value
events_change_their_region memory actor (SetInt access value) answer = same memory
events_change_their_region memory actor (RmwInt access operation value) (Number old) =
    result_keeps memory access (operation_result operation old value)
events_change_their_region memory actor (RmwInt access operation value) answer = same memory
events_change_their_region memory actor (CasInt access expected desired) (Number old) =
    either (KeepsThreadsAndOutside memory) (old == expected % 256 ^ access.width) (with_integer memory access desired) memory
    (integer_keeps memory access desired) (same memory)
events_change_their_region memory actor (CasInt access expected desired) answer = same memory
events_change_their_region memory actor (SetHalf object word half) Done = half_keeps memory object word half
events_change_their_region memory actor (SetHalf object word half) answer = same memory
events_change_their_region memory actor (CasHalf object word seen new) (Found found) =
    either (KeepsThreadsAndOutside memory) (is_seen seen found) (with_half memory object word new) memory
    (half_keeps memory object word new) (same memory)
events_change_their_region memory actor (CasHalf object word seen new) answer = same memory
events_change_their_region memory actor (New bytes kind) (Made object address) =
    record { slots = refl; output = refl; input_taken = refl; cycles = refl; finish = refl }
events_change_their_region memory actor (New bytes kind) answer = same memory
events_change_their_region memory actor (Void half address) Granted = freed_keeps memory half
events_change_their_region memory actor (Void half address) answer = same memory
events_change_their_region memory actor (Lock object offset) Done = integer_keeps memory (lock_access object offset) 1
events_change_their_region memory actor (Lock object offset) answer = same memory
events_change_their_region memory actor (Out byte) Done = record { objects = refl; pairs = refl }
events_change_their_region memory actor Input (Number byte) = record { objects = refl; pairs = refl }
events_change_their_region memory actor (Spawn function address half) (Number id) = record { objects = refl; pairs = refl }
events_change_their_region memory actor (Begin function address half) Done = record { objects = refl; pairs = refl }
events_change_their_region memory actor (End result) Done = record { objects = refl; pairs = refl }
events_change_their_region memory actor (Join id) (Number result) = record { objects = refl; pairs = refl }
events_change_their_region memory actor (Collected cycle) Done = record { objects = refl; pairs = refl }
events_change_their_region memory actor (Exit status) Done = record { objects = refl; pairs = refl }
events_change_their_region memory actor (Trap reason line) Done = record { objects = refl; pairs = refl }
events_change_their_region memory actor event answer = record { objects = refl; pairs = refl }
