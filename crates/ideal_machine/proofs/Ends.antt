-- No allowed event undoes an end: of a cycle, or of the program.
use Rattle.std.proofs.Common.{◌≡◌, ℕ, Option, Some, None, refl, subst, arith}
use Rattle.std.specs.Prelude.{IsSome, ◌==◌, ◌^◌, ◌%◌}
use Rattle.ideal_machine.specs.declared.value.Half.{Half}
use Rattle.ideal_machine.specs.declared.value.Half.TheVariants.{Object as ObjectHalf}
use Rattle.ideal_machine.specs.declared.value.Kept.{Kept}
use Rattle.ideal_machine.specs.declared.value.Kept.TheVariants.{Plain, Pair as PairKept}
use Rattle.ideal_machine.specs.declared.finish.Finish.{Finish}
use Rattle.ideal_machine.specs.declared.event.Access.{Access}
use Rattle.ideal_machine.specs.declared.event.Event.TheVariants.{SetInt, RmwInt, CasInt, SetHalf, CasHalf, New, Void, Lock, Out, Input, Spawn, Begin, End, Join, Collected, Exit, Trap}
use Rattle.ideal_machine.specs.declared.event.Answer.TheVariants.{Granted, Done, Number, Found, Made}
use Rattle.ideal_machine.specs.Memory.{Memory}
use Rattle.ideal_machine.specs.Words.{with_integer, operation_result, with_result, with_half, is_seen}
use Rattle.ideal_machine.specs.Effects.{with_freed, with_finish}
use Rattle.ideal_machine.specs.Growth.{KeepsEnds, EventsKeepEnds}
use Rattle.ideal_machine.proofs.EffectCases.{either}

module _ (memory : Memory) where
  same : KeepsEnds memory memory
  same = record { cycles = omega arith; finish = λ h. refl }

  integer_keeps : (access : Access) (value : ℕ) → KeepsEnds memory (with_integer memory access value)
  integer_keeps access value = record { cycles = omega arith; finish = λ h. refl }

  result_keeps : (access : Access) (o : Option ℕ) → KeepsEnds memory (with_result memory access o)
  result_keeps access None = same
  result_keeps access (Some value) = integer_keeps access value

  half_keeps : (object word : ℕ) (half : Kept) → KeepsEnds memory (with_half memory object word half)
  half_keeps object word (Plain half) = record { cycles = omega arith; finish = λ h. refl }
  half_keeps object word (PairKept address half) = record { cycles = omega arith; finish = λ h. refl }

  freed_keeps : (half : Half) → KeepsEnds memory (with_freed memory half)
  freed_keeps (ObjectHalf n) = record { cycles = omega arith; finish = λ h. refl }
  freed_keeps half = same

  -- the program hadn't ended
  finish_keeps : (finish : Finish) → memory.finish ≡ None → KeepsEnds memory (with_finish memory finish)
  finish_keeps finish going =
      record { cycles = omega arith; finish = λ h. absurd (let none : IsSome {T = Finish} None = subst IsSome going h in cc) }

pub events_keep_ends : EventsKeepEnds
events_keep_ends world memory actor (SetInt access value) Done h = integer_keeps memory access value
events_keep_ends world memory actor (RmwInt access operation value) (Number old) h =
    result_keeps memory access (operation_result operation old value)
events_keep_ends world memory actor (CasInt access expected desired) (Number old) h =
    either (KeepsEnds memory) (old == expected % 256 ^ access.width) (with_integer memory access desired) memory
    (integer_keeps memory access desired) (same memory)
events_keep_ends world memory actor (SetHalf object word half) Done h = half_keeps memory object word half
events_keep_ends world memory actor (CasHalf object word seen new) (Found found) h =
    either (KeepsEnds memory) (is_seen seen found) (with_half memory object word new) memory
    (half_keeps memory object word new) (same memory)
events_keep_ends world memory actor (New bytes kind) (Made object address) h = record { cycles = omega arith; finish = λ h. refl }
events_keep_ends world memory actor (Void half address) Granted h = freed_keeps memory half
events_keep_ends world memory actor (Lock object offset) Done h = record { cycles = omega arith; finish = λ h. refl }
events_keep_ends world memory actor (Out byte) Done h = record { cycles = omega arith; finish = λ h. refl }
events_keep_ends world memory actor Input (Number byte) h = record { cycles = omega arith; finish = λ h. refl }
events_keep_ends world memory actor (Spawn function address half) (Number id) h = record { cycles = omega arith; finish = λ h. refl }
events_keep_ends world memory actor (Begin function address half) Done h = record { cycles = omega arith; finish = λ h. refl }
events_keep_ends world memory actor (End result) Done h = record { cycles = omega arith; finish = λ h. refl }
events_keep_ends world memory actor (Join id) (Number result) h = record { cycles = omega arith; finish = λ h. refl }
events_keep_ends world memory actor (Collected cycle) Done h = record { cycles = omega (arith, h.answers.0); finish = λ h. refl }
events_keep_ends world memory actor (Exit status) Done h = finish_keeps memory _ h.answers.0
events_keep_ends world memory actor (Trap reason line) Done h = finish_keeps memory _ h.answers.0
events_keep_ends world memory actor event answer h = same memory
