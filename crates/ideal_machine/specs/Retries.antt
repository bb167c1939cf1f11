-- Asking once, and asking again until something is found.
--
-- A step that gives nothing is made once more: a backward jump to itself, as code stays at the instruction. So each
-- retry is counted as a jump, and a retry has the bound that every loop has.
use Rattle.std.specs.Prelude.{ℕ, zero, suc, Option, Some, None}
use Rattle.ideal_machine.specs.declared.event.Event.{Event}
use Rattle.ideal_machine.specs.Queries.{EventReply, Makes}
use Rattle.ideal_machine.specs.Play.{Gives, Stops, Asks, Jump, Cut, bind}
use Rattle.ideal_machine.specs.Phrases.{Phrase}

-- an event, and its reply
abbrev pub ask : (event : Event) → Phrase (EventReply event)
ask event = Asks (Makes event) (λ reply. Gives tt reply)

-- what was found, or else this
abbrev pub or_else : {X : Type 0} → Option X → Phrase X → Phrase X
or_else None other = other
or_else (Some x) other = Gives tt x

-- a step again and again, at most so often, until it gives something
abbrev pub retry : {X : Type 0} → ℕ → Phrase (Option X) → Phrase X
retry zero step = Stops Cut
retry (suc n) step = bind step (λ _ found. or_else found (Jump (retry n step)))
