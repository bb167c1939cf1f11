-- What a function that reads a production returned.
use Rattle.std.specs.Prelude.{Result}
use Rattle.c_parts.specs.Production.{Production}
use Rattle.c_cursor.specs.Input.{Input, answer, Gives}
use Rattle.c_cursor.specs.declared.fault.Fault.{Fault}

-- a cursor was here before, a function returned this, and left the cursor there: so the production is read
abbrev pub Reads : {X : Type 0} → Production X → (old : Input) → Result X Fault → (new : Input) → Type 0
Reads production old result new = Gives (answer production.read old) result new
