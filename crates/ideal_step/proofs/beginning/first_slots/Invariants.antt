-- The slots so far: that of `main`, and those that no thread has had.
use Rattle.std.proofs.Common.{◌≡◌, ◌≤◌, ◌∷◌, replicate}
use Rattle.ideal_machine.specs.Beginning.{main_slot, fresh_slot}
use Rattle.ideal_step.proofs.beginning.first_slots.Given as goal

abbrev pub invariant-loop-number : goal.invariant-loop-number
invariant-loop-number l = (l._number ≤ 7) × (l.slots.items ≡ main_slot l.fn.main ∷ replicate l._number fresh_slot)
