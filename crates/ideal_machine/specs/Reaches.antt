-- How one behaviour reaches another: what a run that its bound cut says of one that goes on.
use Rattle.std.specs.Prelude.{◌≡◌, ◌≤◌, List, ◌++◌}
use Rattle.ideal_machine.specs.declared.event.Event.{Event}
use Rattle.ideal_machine.specs.Play.{Cut, Log, Behaviour, Goes, Ends, log_of}

-- one log is later than another: its events go on from the other's, and it has as many jumps and calls at least
pub record IsLater (old new : Log) : Type 0 where
  pub events : (more : List Event) × (new.events ≡ old.events ++ more)
  pub jumps : old.jumps ≤ new.jumps
  pub calls : old.calls ≤ new.calls

-- where the first was cut, its events are a prefix of the other's; where it wasn't, the two are the same
abbrev pub Reaches : {S A : Type 0} → Behaviour S A → Behaviour S A → Type 0
Reaches (Goes state value log) other = other ≡ Goes state value log
Reaches (Ends Cut log) other = IsLater log (log_of other)
Reaches (Ends stop log) other = other ≡ Ends stop log
