-- Static objects as they are kept, and their addresses.
use Rattle.std.specs.Prelude.{◌≡◌, ℕ, ◌+◌, ◌<◌, ◌≤◌, ◌^◌, List, [], length, map, slice_index_or}
use Rattle.filc_num.specs.declared.statics.StaticDef.{StaticDef}
use Rattle.filc_num.specs.StaticDefs.{PlainStatic, plain_static}
use Rattle.ideal_machine.specs.Memory.{World, default_world}
use Rattle.ideal_machine.specs.Beginning.{static_address}

-- the limits of every run; no input plays a part before the first event
abbrev pub first_world : World
first_world = default_world []

abbrev pub plain_statics : List StaticDef → List PlainStatic
plain_statics statics = map plain_static statics

-- what lies behind the last static object has an address too
abbrev pub HaveAddresses : List PlainStatic → Type 0
HaveAddresses statics = static_address first_world statics (length statics) < 2 ^ 64

-- the list has the address of each static object, and last the one behind them
pub record AreAddresses (statics : List PlainStatic) (addresses : List ℕ) : Type 0 where
  pub count : length addresses ≡ length statics + 1
  pub each : (n d : ℕ) → n ≤ length statics → slice_index_or addresses n d ≡ static_address first_world statics n
