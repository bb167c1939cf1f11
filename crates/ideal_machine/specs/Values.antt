-- Values by their number: the locals of a function, and the registers of its code.
--
-- A list of values has one at every number: past its end they are zero, and a write there fills it up.
use Rattle.std.specs.Prelude.{ℕ, zero, suc, List, [], ◌∷◌}
use Rattle.ideal_machine.specs.declared.value.Half.TheVariants.{Nothing}
use Rattle.ideal_machine.specs.declared.value.Value.{Value}

-- an integer: its bits, without a capability
abbrev pub integer : ℕ → Value
integer n = record { number = n; half = Nothing }

-- what each local is when its block is entered
abbrev pub zero_value : Value
zero_value = integer 0

-- what a thread keeps between its events: the values of its locals
abbrev pub State : Type 0
State = List Value

-- the value of this number
abbrev pub value_at : List Value → ℕ → Value
value_at [] n = zero_value
value_at (v ∷ values) zero = v
value_at (v ∷ values) (suc n) = value_at values n

-- the values with this one at a number
abbrev pub put_at : List Value → ℕ → Value → List Value
put_at [] zero x = x ∷ []
put_at [] (suc n) x = zero_value ∷ put_at [] n x
put_at (v ∷ values) zero x = x ∷ values
put_at (v ∷ values) (suc n) x = v ∷ put_at values n x
