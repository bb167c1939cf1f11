-- What is passed to a function that is called: its first registers are the arguments, and the others are zero.
use Rattle.std.specs.Prelude.{ℕ, ◌+◌, List, nat_lt, if◌then◌else◌}
use Rattle.ideal_machine.specs.declared.value.Value.{Value}
use Rattle.ideal_machine.specs.Values.{zero_value, value_at}

-- the value of the callee's register k, of which the first `given` are in the caller's registers from a place of the block on
abbrev pub callee_register : List Value → (from given k : ℕ) → Value
callee_register registers from given k = if nat_lt k given then value_at registers (from + k) else zero_value

-- the value of the register k of a thread's first function, of which the first `given` have the argument
abbrev pub first_register : Value → (given k : ℕ) → Value
first_register argument given k = if nat_lt k given then argument else zero_value
