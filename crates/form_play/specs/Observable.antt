-- What the outside sees of a history: the bytes that were put out, and how the program ended.
use Rattle.std.specs.Prelude.{ℕ, List, [], ◌∷◌, ◌++◌, Option, Some, None}
use Rattle.ideal_machine.specs.declared.finish.Finish.{Finish}
use Rattle.ideal_machine.specs.declared.finish.Finish.TheVariants.{Exited, Trapped}
use Rattle.ideal_machine.specs.declared.event.Event.{Event}
use Rattle.ideal_machine.specs.declared.event.Event.TheVariants.{Out, Exit, Trap}
use Rattle.ideal_machine.specs.declared.event.Answer.{Answer}
use Rattle.ideal_machine.specs.declared.event.Answer.TheVariants.{Done}
use Rattle.form_play.specs.Legal.{History}

-- the bytes of an entry: that of an Out that was done
abbrev pub bytes_of_event : Event → Answer → List ℕ
bytes_of_event (Out byte) Done = byte ∷ []
bytes_of_event event answer = []

-- the end of the program by an entry
abbrev pub finish_of_event : Event → Option Finish
finish_of_event (Exit status) = Some (Exited status)
finish_of_event (Trap reason line) = Some (Trapped reason line)
finish_of_event event = None

abbrev pub bytes_of : History → List ℕ
bytes_of [] = []
bytes_of (entry ∷ rest) = bytes_of_event entry.event entry.answer ++ bytes_of rest

abbrev pub first_some : Option Finish → Option Finish → Option Finish
first_some None other = other
first_some (Some finish) other = Some finish

abbrev pub finish_of : History → Option Finish
finish_of [] = None
finish_of (entry ∷ rest) = first_some (finish_of_event entry.event) (finish_of rest)

-- the bytes put out, in order, and the Exit or Trap that came, or none
pub record Observable : Type 0 where
  pub bytes : List ℕ
  pub finish : Option Finish

abbrev pub observable_of : History → Observable
observable_of history = record { bytes = bytes_of history; finish = finish_of history }
