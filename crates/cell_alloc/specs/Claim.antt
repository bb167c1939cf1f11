-- Claiming a cell, step by step.
use Rattle.std.specs.Prelude.{◌≡◌, ◌≢◌, ℕ, List, ◌+◌, ◌-◌, ◌*◌, ◌%◌, ◌^◌, ◌==◌, nat_lt, Option, Some, None, if◌then◌else◌}
use Rattle.heap_words.specs.Steps.{Steps}
use Rattle.heap_words.specs.Work.{Next, Work}
use Rattle.heap_words.specs.declared.op.WordOp.{WordOp}
use Rattle.heap_words.specs.declared.op.WordOp.TheVariants.{Load, Exchange}
use Rattle.heap_words.specs.declared.piece.Step.TheVariants.{More, Done}
use Rattle.object_header.specs.Codings.{state_code}
use Rattle.object_header.specs.Contents.{ChangesOnly, state_at}
use Rattle.object_header.specs.WordMap.{Layout, Cell, Header, IsCell, cell_size, class_at, place_of, place_of_site, place_of_header}
use Rattle.object_header.specs.declared.codings.CellState.TheVariants.{Free, Claimed}
use Rattle.object_header.specs.declared.codings.Collect.{Collect}
use Rattle.object_header.specs.declared.codings.Collect.TheVariants.{Never}
use Rattle.object_header.specs.declared.words.HeaderWord.TheVariants.{State}
use Rattle.cell_alloc.specs.declared.claim.Claim.{Claim}
use Rattle.cell_alloc.specs.declared.claim.ClaimStage.{ClaimStage}
use Rattle.cell_alloc.specs.declared.claim.ClaimStage.TheVariants.{Looking, Taking}

-- at a cell of the class
abbrev pub claim_at : Layout → ℕ → Collect → ℕ → ClaimStage → Claim
claim_at l class collect cell stage = record {
  first = place_of_site l (Cell class 0);
  size = cell_size (class_at l.classes class);
  cells = (class_at l.classes class).1;
  cell = cell;
  stage = stage;
  collect = collect;
}

-- at its start
abbrev pub claim : Layout → ℕ → Collect → Claim
claim l class collect = claim_at l class collect 0 Looking

-- the place of the cell that it is at, reckoned in 64 bits
abbrev pub claim_place : Claim → ℕ
claim_place piece = (piece.first + piece.cell * piece.size % 2 ^ 64) % 2 ^ 64

-- what it does with the state word at a place
unfoldable pub claim_op : ClaimStage → ℕ → WordOp
claim_op Looking place = Load place
claim_op Taking place = Exchange place (state_code Free) (state_code Claimed)

-- it goes on with the next cell, and is done behind the last one
unfoldable pub pass_over : Claim → Next Claim (Option ℕ)
pass_over piece =
    if nat_lt (piece.cell + 1) piece.cells
    then record { piece = record piece { cell = piece.cell + 1; stage = Looking }; told = More }
    else record { piece = piece; told = Done None }

-- a cell that is found free is taken, and won by the exchange
unfoldable pub take_free : Claim → ClaimStage → Next Claim (Option ℕ)
take_free piece Looking = record { piece = record piece { stage = Taking }; told = More }
take_free piece Taking = record { piece = piece; told = Done (Some (claim_place piece)) }

-- any other cell is passed over; so is one whose exchange is lost
abbrev pub claim_work : Work Claim (Option ℕ)
claim_work = record {
  wants = λ piece. claim_op piece.stage (place_of_header (claim_place piece) State);
  takes = λ piece answer. if answer == state_code Free then take_free piece piece.stage else pass_over piece;
}

-- how many steps come behind the next one, at most: two for each cell
unfoldable pub steps_from : ℕ → ClaimStage → ℕ
steps_from cells Looking = 2 * cells - 1
steps_from cells Taking = 2 * cells - 2

abbrev pub claim_left : Claim → ℕ
claim_left piece = steps_from (piece.cells - piece.cell) piece.stage

-- the piece is at a cell of this class of the map
pub record OfClass (l : Layout) (class : ℕ) (piece : Claim) : Type 0 where
  pub in_class : IsCell l.classes class piece.cell
  pub first_is : piece.first ≡ place_of_site l (Cell class 0)
  pub size_is : piece.size ≡ cell_size (class_at l.classes class)
  pub cells_are : piece.cells ≡ (class_at l.classes class).1

-- it changes no word where it tells none, and where nothing is ever collected it tells it at the
-- last cell alone, where this look found that it isn't free; it tells a place where its exchange
-- found this cell free and made it a claimed one
unfoldable pub IsClaimOut : Layout → List ℕ → List ℕ → ℕ → Claim → Option ℕ → Type 0
IsClaimOut l words left class piece None =
    (left ≡ words)
    × (piece.collect ≡ Never → (piece.cell + 1 ≡ (class_at l.classes class).1) × (state_at l words (Cell class piece.cell) ≢ state_code Free))
IsClaimOut l words left class piece (Some place) =
    (piece.stage ≡ Taking) × (place ≡ place_of_site l (Cell class piece.cell)) × (state_at l words (Cell class piece.cell) ≡ state_code Free)
    × ChangesOnly l words left (Header (Cell class piece.cell) State) (state_code Claimed)

-- one step; where it goes on, it stays in its class and keeps its `collect`
abbrev pub ClaimSteps : Layout → List ℕ → ℕ → Claim → Type 0
ClaimSteps l words class piece =
    Steps claim_work claim_left words piece (claim_op piece.stage (place_of l (Header (Cell class piece.cell) State))) (λ word left. ChangesOnly l words left (Header (Cell class piece.cell) State) word)
    (λ left next. OfClass l class next × (next.collect ≡ piece.collect)) ⊥ (λ left out. IsClaimOut l words left class piece out)
