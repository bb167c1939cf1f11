-- Events that end their thread, or the program with it.
use Rattle.std.specs.Prelude.{◌≡◌, List, [], ◌∷◌, Bool, true, false}
use Rattle.ideal_machine.specs.declared.event.Event.{Event}
use Rattle.ideal_machine.specs.declared.event.Event.TheVariants.{End, Exit, Trap}

-- the event ends its thread
abbrev pub is_end : Event → Bool
is_end (End result) = true
is_end (Exit status) = true
is_end (Trap reason line) = true
is_end event = false

-- an event that ends the thread is the last one
abbrev pub AreEndedOnce : List Event → Type 0
AreEndedOnce [] = Unit {0}
AreEndedOnce (event ∷ rest) = (is_end event ≡ true → rest ≡ []) × AreEndedOnce rest
