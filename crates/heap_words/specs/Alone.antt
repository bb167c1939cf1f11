-- What a piece does alone: on words that nobody else changes while it makes its steps.
--
-- `alone` makes its steps on a list of words, so many or until it is done. `EndsAlone` says that
-- so many are enough, and what it tells and leaves then.
use Rattle.std.specs.Prelude.{◌≡◌, ℕ, zero, suc, ◌<◌, List, length}
use Rattle.heap_words.specs.Operations.{place_of, answer_of, words_after}
use Rattle.heap_words.specs.Work.{Next, Work}
use Rattle.heap_words.specs.declared.piece.Step.{Step}
use Rattle.heap_words.specs.declared.piece.Step.TheVariants.{More, Waits, Done}

-- the piece isn't done
abbrev pub IsGoingOn : {T : Type 0} → Step T → Type 0
IsGoingOn More = Unit {0}
IsGoingOn Waits = Unit {0}
IsGoingOn (Done out) = ⊥

-- where a piece is after some steps: what it told, what it is, and the words that it left
pub record Run (P T : Type 0) : Type 0 where
  pub told : Step T
  pub piece : P
  pub words : List ℕ

-- goes on from where a piece is, unless it is done
abbrev pub goes_on : {P T : Type 0} → (P → List ℕ → Run P T) → Step T → P → List ℕ → Run P T
goes_on rest More piece words = rest piece words
goes_on rest Waits piece words = rest piece words
goes_on rest (Done out) piece words = record { told = Done out; piece = piece; words = words }

module _ {P T : Type 0} (work : Work P T) where
  -- what becomes of it by the answer that it gets on these words
  abbrev pub next_on : P → List ℕ → Next P T
  next_on piece words = work.takes piece (answer_of (work.wants piece) words)

  -- one step
  abbrev pub one_step : P → List ℕ → Run P T
  one_step piece words = record {
    told = (next_on piece words).told;
    piece = (next_on piece words).piece;
    words = words_after (work.wants piece) words;
  }

  -- so many steps, or as many as it takes until the piece is done
  abbrev pub alone : ℕ → P → List ℕ → Run P T
  alone zero piece words = record { told = More; piece = piece; words = words }
  alone (suc steps) piece words =
      let step = one_step piece words in goes_on (alone steps) step.told step.piece step.words

  -- each of these steps is made on one of the words
  abbrev pub StaysInside : ℕ → P → List ℕ → Type 0
  StaysInside zero piece words = Unit {0}
  StaysInside (suc steps) piece words =
      let step = one_step piece words in
      (place_of (work.wants piece) < length words) × (IsGoingOn step.told → StaysInside steps step.piece step.words)

  -- alone it is done within so many steps, tells this, and leaves these words
  pub record FinishesWithin (steps : ℕ) (piece : P) (words : List ℕ) (out : T) (left : List ℕ) : Type 0 where
    pub inside : StaysInside steps piece words
    pub tells_out : (alone steps piece words).told ≡ Done out
    pub leaves : (alone steps piece words).words ≡ left

  -- alone it is done within so many steps, and this holds of what it tells and leaves
  pub record EndsAlone (steps : ℕ) (piece : P) (words : List ℕ) (Holds : T → List ℕ → Type 0) : Type 0 where
    pub out : T
    pub left : List ℕ
    pub finishes : FinishesWithin steps piece words out left
    pub holds : Holds out left
