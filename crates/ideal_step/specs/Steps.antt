-- What a step of the machine is.
use Rattle.std.specs.Prelude.{ℕ, List}
use Rattle.ideal_machine.specs.declared.event.Event.{Event}
use Rattle.ideal_machine.specs.declared.event.Answer.{Answer}
use Rattle.ideal_machine.specs.Memory.{Memory, default_world}
use Rattle.ideal_machine.specs.Names.{KeepsApart}
use Rattle.ideal_machine.specs.Allows.{IsAllowed}

-- with this input the actor may make the event and get the answer, and neither names a covered object
pub record IsStep (input : List ℕ) (memory : Memory) (actor : ℕ) (event : Event) (answer : Answer) : Type 0 where
  pub allowed : IsAllowed (default_world input) memory actor event answer
  pub apart : KeepsApart memory event answer
