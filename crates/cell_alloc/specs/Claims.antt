-- What a claim finds, alone and with any answers: the first free cell of the class, or none.
use Rattle.std.specs.Prelude.{◌≡◌, ◌≢◌, ℕ, ◌+◌, ◌<◌, List, [], ◌∷◌, ◌++◌, length, All, Option, Some, None}
use Rattle.heap_words.specs.Answers.{Answered}
use Rattle.heap_words.specs.declared.op.WordOp.TheVariants.{Load, Exchange}
use Rattle.object_header.specs.Codings.{state_code}
use Rattle.object_header.specs.Contents.{ChangesOnly, state_at}
use Rattle.object_header.specs.WordMap.{Layout, Cell, Header, IsCell, place_of, place_of_site}
use Rattle.object_header.specs.declared.codings.CellState.TheVariants.{Free, Claimed}
use Rattle.object_header.specs.declared.words.HeaderWord.TheVariants.{State}

-- the cell is free, and none of the class before it is
pub record IsFirstFree (l : Layout) (words : List ℕ) (class cell : ℕ) : Type 0 where
  pub in_class : IsCell l.classes class cell
  pub free : state_at l words (Cell class cell) ≡ state_code Free
  pub first : (before : ℕ) → before < cell → state_at l words (Cell class before) ≢ state_code Free

-- there is such a class, and none of its cells is free
pub record IsFull (l : Layout) (words : List ℕ) (class : ℕ) : Type 0 where
  pub in_range : class < length l.classes
  pub none_free : (cell : ℕ) → IsCell l.classes class cell → state_at l words (Cell class cell) ≢ state_code Free

-- what a claim of this cell tells and leaves
abbrev pub ClaimsCell : Layout → List ℕ → ℕ → ℕ → Option ℕ → List ℕ → Type 0
ClaimsCell l words class cell out left =
    (out ≡ Some (place_of_site l (Cell class cell))) × ChangesOnly l words left (Header (Cell class cell) State) (state_code Claimed)

-- what a claim tells and leaves where nothing is ever collected: the first free cell, which is
-- claimed then, or none where none is free
abbrev pub ClaimsAlone : Layout → List ℕ → ℕ → Option ℕ → List ℕ → Type 0
ClaimsAlone l words class None left = IsFull l words class × (left ≡ words)
ClaimsAlone l words class (Some place) left =
    (cell : ℕ) × IsFirstFree l words class cell × (place ≡ place_of_site l (Cell class cell))
    × ChangesOnly l words left (Header (Cell class cell) State) (state_code Claimed)

-- how a look at a cell went that didn't take it
pub data Look : Type 0 where
  -- the load gave another word than that of a free cell
  Taken : (word : ℕ) → Look
  -- the load gave that of a free cell, but the exchange found another word
  Lost : (word : ℕ) → Look

-- the word that showed that the cell wasn't free
abbrev pub word_in : Look → ℕ
word_in (Taken word) = word
word_in (Lost word) = word

-- the load of a cell's state, and the exchange that claims the cell, with their answers
abbrev pub loads : Layout → ℕ → ℕ → ℕ → Answered
loads l class cell answer = record { op = Load (place_of l (Header (Cell class cell) State)); answer = answer }

abbrev pub exchanges : Layout → ℕ → ℕ → ℕ → Answered
exchanges l class cell answer = record {
  op = Exchange (place_of l (Header (Cell class cell) State)) (state_code Free) (state_code Claimed);
  answer = answer;
}

-- the operations of a look at a cell
abbrev pub operations_of : Layout → ℕ → ℕ → Look → List Answered
operations_of l class cell (Taken word) = loads l class cell word ∷ []
operations_of l class cell (Lost word) = loads l class cell (state_code Free) ∷ (exchanges l class cell word ∷ [])

-- the operations of a look at each cell from this one on
abbrev pub operations_from : Layout → ℕ → ℕ → List Look → List Answered
operations_from l class cell [] = []
operations_from l class cell (look ∷ looks) = operations_of l class cell look ++ operations_from l class (cell + 1) looks

-- these operations are one look at each of the class's first cells, in order, and each look showed
-- that the cell wasn't free
pub record PassesOver (l : Layout) (class cells : ℕ) (made : List Answered) : Type 0 where
  pub looks : List Look
  pub as_many : length looks ≡ cells
  pub not_free : All (λ look. word_in look ≢ state_code Free) looks
  pub made_are : made ≡ operations_from l class 0 looks

-- these operations pass over the cells before the one at this place, and then take this one
pub record Wins (l : Layout) (class place : ℕ) (made : List Answered) : Type 0 where
  pub cell : ℕ
  pub in_class : IsCell l.classes class cell
  pub place_is : place_of_site l (Cell class cell) ≡ place
  pub before : List Answered
  pub passes : PassesOver l class cell before
  pub made_are : made ≡ before ++ (loads l class cell (state_code Free) ∷ (exchanges l class cell (state_code Free) ∷ []))
