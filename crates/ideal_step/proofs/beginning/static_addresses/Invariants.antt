-- The addresses so far, and the next one.
use Rattle.std.proofs.Common.{◌≡◌, ◌+◌, ◌≤◌, ℕ, List, length, slice_index_or}
use Rattle.filc_num.specs.StaticDefs.{PlainStatic}
use Rattle.ideal_machine.specs.Beginning.{static_address}
use Rattle.ideal_step.specs.Statics.{first_world, plain_statics}
use Rattle.ideal_step.proofs.beginning.static_addresses.Given as goal

pub record AddressesUpTo (statics : List PlainStatic) (addresses : List ℕ) (address made : ℕ) : Type 0 where
  pub within : made ≤ length statics
  pub count : length addresses ≡ made + 1
  pub next : address ≡ static_address first_world statics made
  pub each : (n d : ℕ) → n ≤ made → slice_index_or addresses n d ≡ static_address first_world statics n

abbrev pub invariant-loop-object : goal.invariant-loop-object
invariant-loop-object l = AddressesUpTo (plain_statics l.fn.statics) l.addresses.items l.address l.object-index
