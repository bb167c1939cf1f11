-- What a piece does whatever answers it gets: while other threads change the words in between.
--
-- Alone, the words decide what a piece is answered. Here the answers are any list.
use Rattle.std.specs.Prelude.{◌≡◌, ℕ, List, [], ◌∷◌}
use Rattle.heap_words.specs.Alone.{IsGoingOn}
use Rattle.heap_words.specs.Work.{Work}
use Rattle.heap_words.specs.declared.op.WordOp.{WordOp}
use Rattle.heap_words.specs.declared.piece.Step.TheVariants.{Done}

-- an operation, and the answer that it got
pub record Answered : Type 0 where
  pub op : WordOp
  pub answer : ℕ

module _ {P T : Type 0} (work : Work P T) where
  -- the operations that a piece makes where it gets these answers
  abbrev pub operations_at : P → List ℕ → List Answered
  operations_at piece [] = []
  operations_at piece (answer ∷ answers) =
      record { op = work.wants piece; answer = answer } ∷ operations_at (work.takes piece answer).piece answers

  -- it goes on at each of these answers but the last one, and tells this at the last one
  abbrev pub TellsAfter : P → List ℕ → T → Type 0
  TellsAfter piece [] out = ⊥
  TellsAfter piece (answer ∷ []) out = (work.takes piece answer).told ≡ Done out
  TellsAfter piece (answer ∷ (next ∷ answers)) out =
      IsGoingOn (work.takes piece answer).told × TellsAfter (work.takes piece answer).piece (next ∷ answers) out
