-- One step of a claim.
use Rattle.std.proofs.Common.{◌≡◌, ◌≢◌, ℕ, ◌+◌, ◌-◌, ◌*◌, ◌≤◌, List, Option, Some, None, if◌then◌else◌, ◌==◌, slice_set, refl, sym, ap, ◌∙◌, subst, arith}
use Rattle.std.proofs.lemmas.List.{set-get_or}
use Rattle.heap_words.specs.Steps.{IsKnownOf}
use Rattle.heap_words.specs.Work.{Next}
use Rattle.heap_words.specs.declared.piece.Step.TheVariants.{More, Done}
use Rattle.heap_words.proofs.Rules.{by_less, by_equal}
use Rattle.object_header.specs.Contents.{IsLaidOut, state_at}
use Rattle.object_header.specs.WordMap.{Layout, Part, Cell, Header, IsCell, IsWellFormed, class_at, place_of, place_of_site, place_of_header}
use Rattle.object_header.specs.declared.codings.Collect.{Collect}
use Rattle.object_header.specs.declared.words.HeaderWord.TheVariants.{State, Table}
use Rattle.object_header.proofs.MapProofs.{map_laws}
use Rattle.cell_alloc.specs.declared.claim.Claim.{Claim}
use Rattle.cell_alloc.specs.declared.claim.ClaimStage.{ClaimStage}
use Rattle.cell_alloc.specs.declared.claim.ClaimStage.TheVariants.{Looking, Taking}
use Rattle.cell_alloc.specs.Claim.{claim_at, claim_place, claim_op, pass_over, take_free, claim_work, claim_left, steps_from, OfClass, IsClaimOut, ClaimSteps}

module _ (l : Layout) (class : ℕ) (collect : Collect) (well_formed : IsWellFormed l) where
  abbrev at : ℕ → ClaimStage → Claim
  at cell stage = claim_at l class collect cell stage

  -- the place of the cell, and that of its state
  pub place_at : (cell : ℕ) (stage : ClaimStage) → IsCell l.classes class cell → claim_place (at cell stage) ≡ place_of_site l (Cell class cell)
  place_at cell stage is = omega (arith, (map_laws.partition l).inside (Header (Cell class cell) Table) is, well_formed.small)

  pub wants_at : (cell : ℕ) (stage : ClaimStage) → IsCell l.classes class cell → claim_work.wants (at cell stage) ≡ claim_op stage (place_of l (Header (Cell class cell) State))
  wants_at cell stage is = ap (claim_op stage) (ap (λ place. place_of_header place State) (place_at cell stage is) ∙ map_laws.header l (Cell class cell) State)

module _ (l : Layout) (words : List ℕ) (class : ℕ) (collect : Collect) (laid_out : IsLaidOut l words) where
  abbrev piece_at : ℕ → ClaimStage → Claim
  piece_at cell stage = claim_at l class collect cell stage

  abbrev cells : ℕ
  cells = (class_at l.classes class).1

  abbrev part : ℕ → Part
  part cell = Header (Cell class cell) State

  abbrev state : ℕ → ℕ
  state cell = state_at l words (Cell class cell)

  abbrev Keeps : Claim → Type 0
  Keeps piece = OfClass l class piece × (piece.collect ≡ collect)

  of : (cell : ℕ) (stage : ClaimStage) → IsCell l.classes class cell → Keeps (piece_at cell stage)
  of cell stage is = (record { in_class = is; first_is = refl; size_is = refl; cells_are = refl }, refl)

  abbrev Known : ℕ → List ℕ → ℕ → ClaimStage → Next Claim (Option ℕ) → Type 0
  Known before w cell stage next = IsKnownOf claim_left before (λ p. Keeps p) ⊥ (λ out. IsClaimOut l words w class (piece_at cell stage) out) next

  -- a cell that isn't free is passed over
  passes : (before : ℕ) (w : List ℕ) (cell : ℕ) (stage : ClaimStage) → IsCell l.classes class cell → w ≡ words → state cell ≢ 0 → 2 * (cells - cell) - 2 ≤ before → Known before w cell stage (pass_over (piece_at cell stage))
  unfolding pass_over steps_from IsClaimOut
  passes before w cell stage is stays not_free few =
      by_less (λ b. Known before w cell stage (if b then record { piece = piece_at (cell + 1) Looking; told = More } else record { piece = piece_at cell stage; told = Done None })) (cell + 1) cells
      (λ more. (of (cell + 1) Looking (record { class_in_range = is.class_in_range; cell_in_range = more }), omega (arith, few, more)))
      (λ last. (stays, λ _. (omega (arith, last, is.cell_in_range), not_free)))

  steps_at : (cell : ℕ) (stage : ClaimStage) → IsCell l.classes class cell → ClaimSteps l words class (piece_at cell stage)
  unfolding claim_op take_free steps_from IsClaimOut
  steps_at cell Looking is =
      let place = place_of l (part cell) in
      record {
        wants_is = wants_at l class collect laid_out.well_formed cell Looking is;
        inside = map_laws.inside l words (part cell) laid_out is;
        fits = map_laws.fits l (part cell) laid_out.well_formed is;
        leaves = map_laws.one_part l words (part cell) (state cell) laid_out is;
        known =
            by_equal (λ b. Known (2 * (cells - cell) - 1) (slice_set words place (state cell)) cell Looking (if b then record { piece = piece_at cell Taking; told = More } else pass_over (piece_at cell Looking))) (state cell) 0
            (λ free. (of cell Taking is, omega (arith, is.cell_in_range)))
            (λ not_free. passes (2 * (cells - cell) - 1) (slice_set words place (state cell)) cell Looking is (set-get_or words place 0) not_free (omega arith));
      }
  steps_at cell Taking is =
      let place = place_of l (part cell) in
      record {
        wants_is = wants_at l class collect laid_out.well_formed cell Taking is;
        inside = map_laws.inside l words (part cell) laid_out is;
        fits = (map_laws.fits l (part cell) laid_out.well_formed is, omega arith, omega arith);
        leaves = map_laws.one_part l words (part cell) (if state cell == 0 then 1 else state cell) laid_out is;
        known =
            by_equal (λ b. Known (2 * (cells - cell) - 2) (slice_set words place (if b then 1 else state cell)) cell Taking (if b then record { piece = piece_at cell Taking; told = Done (Some (claim_place (piece_at cell Taking))) } else pass_over (piece_at cell Taking))) (state cell) 0
            (λ free. (refl, place_at l class collect laid_out.well_formed cell Taking is, free, map_laws.one_part l words (part cell) 1 laid_out is))
            (λ not_free. passes (2 * (cells - cell) - 2) (slice_set words place (state cell)) cell Taking is (set-get_or words place 0) not_free (omega arith));
      }

pub steps : (l : Layout) (words : List ℕ) (class : ℕ) (piece : Claim) → IsLaidOut l words → OfClass l class piece → ClaimSteps l words class piece
steps l words class piece laid_out is =
    subst (λ first. ClaimSteps l words class (record piece { first = first })) (sym is.first_is)
    (subst (λ size. ClaimSteps l words class (record (claim_at l class piece.collect piece.cell piece.stage) { size = size; cells = piece.cells })) (sym is.size_is)
    (subst (λ cells. ClaimSteps l words class (record (claim_at l class piece.collect piece.cell piece.stage) { cells = cells })) (sym is.cells_are)
    (steps_at l words class piece.collect laid_out piece.cell piece.stage is.in_class)))
