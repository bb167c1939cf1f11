-- The step law of a piece: what one step of it does on any words that it can meet, whatever other
-- threads did before.
--
-- Each piece gives this shape its own content: an operation on one part of the words, what that
-- changes, a fact that holds before each of its steps, why it may wait, and what it means that it
-- is done. Beside the law of a step stand two more: the fact is true at the start, and it is kept
-- by what other threads may change.
use Rattle.std.specs.Prelude.{◌≡◌, ℕ, ◌<◌, List, length, slice_index}
use Rattle.heap_words.specs.Operations.{place_of, word_after, answer_of, words_after, FitsWord}
use Rattle.heap_words.specs.Work.{Next, Work}
use Rattle.heap_words.specs.declared.op.WordOp.{WordOp}
use Rattle.heap_words.specs.declared.piece.Step.{Step}
use Rattle.heap_words.specs.declared.piece.Step.TheVariants.{More, Waits, Done}

-- what is known after a step, by what it told: the fact holds again where it goes on, and fewer
-- steps are left than before, unless it waits. `left` counts the steps behind the next one
module _ {P T : Type 0} (left : P → ℕ) where
  abbrev pub IsKnown : ℕ → (P → Type 0) → Type 0 → (T → Type 0) → P → Step T → Type 0
  IsKnown before Holds Lost Ends piece More = Holds piece × (left piece < before)
  IsKnown before Holds Lost Ends piece Waits = Holds piece × Lost
  IsKnown before Holds Lost Ends piece (Done out) = Ends out

  abbrev pub IsKnownOf : ℕ → (P → Type 0) → Type 0 → (T → Type 0) → Next P T → Type 0
  IsKnownOf before Holds Lost Ends next = IsKnown before Holds Lost Ends next.piece next.told

-- one step of a piece on these words, with so many steps left: it makes this operation, on one of
-- the words and with numbers that fit, and changes the word that `Changes` names
pub record Steps {P T : Type 0} (work : Work P T) (left : P → ℕ) (words : List ℕ) (piece : P) (op : WordOp) (Changes : ℕ → List ℕ → Type 0) (Holds : List ℕ → P → Type 0) (Lost : Type 0) (Ends : List ℕ → T → Type 0) : Type 0 where
  pub wants_is : work.wants piece ≡ op
  pub inside : place_of op < length words
  pub fits : FitsWord op
  pub leaves : Changes (word_after op (slice_index words (place_of op))) (words_after op words)
  pub known : IsKnownOf left (left piece) (Holds (words_after op words)) Lost (Ends (words_after op words)) (work.takes piece (answer_of op words))
