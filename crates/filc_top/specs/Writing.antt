-- Writing a text, or the bytes in front of a fault.
use Rattle.std.specs.Prelude.{ℕ, ◌<◌, List, [], ◌∷◌, ◌++◌, length, take, Result, Ok, Err}
use Rattle.filc_io.specs.Counts.{HasRisen}
use Rattle.filc_io.specs.Outside.{SinkState, Takes}

-- pieces, one after another
abbrev pub concat : List (List ℕ) → List ℕ
concat [] = []
concat (piece ∷ pieces) = piece ++ concat pieces

-- a sink failed when it had taken only some of these bytes
pub record FailsWithin (old new : SinkState) (text : List ℕ) : Type 0 where
  pub count : ℕ
  pub some : count < length text
  pub front : Takes old new (take count text)
  pub failed : HasRisen old.faults new.faults

-- a sink took this text, or failed within it
abbrev pub Writes : {T U : Type 0} → SinkState → SinkState → List ℕ → Result T U → Type 0
Writes old new text (Ok done) = Takes old new text
Writes old new text (Err fault) = FailsWithin old new text
