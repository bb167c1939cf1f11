-- A claim alone.
use Rattle.std.proofs.Common.{◌≡◌, ◌≢◌, ℕ, ◌+◌, ◌-◌, ◌<◌, Bool, List, Option, Some, None, inl, inr, if◌then◌else◌, slice_set, refl, sym, ap, subst, arith}
use Rattle.std.proofs.lemmas.Bool.{cases_lt, eq-eqb}
use Rattle.std.proofs.lemmas.List.{set-get_or}
use Rattle.heap_words.specs.Alone.{EndsAlone}
use Rattle.heap_words.specs.Steps.{IsKnownOf}
use Rattle.heap_words.specs.Work.{Next}
use Rattle.heap_words.specs.declared.piece.Step.TheVariants.{More, Done}
use Rattle.heap_words.proofs.Rules.{by_less, by_equal, StepsAlone, ends_alone}
use Rattle.object_header.specs.Contents.{IsLaidOut, state_at}
use Rattle.object_header.specs.WordMap.{Layout, Part, Cell, Header, IsCell, class_at, place_of}
use Rattle.object_header.specs.declared.codings.Collect.{Collect}
use Rattle.object_header.specs.declared.words.HeaderWord.TheVariants.{State}
use Rattle.object_header.proofs.MapProofs.{map_laws}
use Rattle.cell_alloc.specs.declared.claim.Claim.{Claim}
use Rattle.cell_alloc.specs.declared.claim.ClaimStage.{ClaimStage}
use Rattle.cell_alloc.specs.declared.claim.ClaimStage.TheVariants.{Looking, Taking}
use Rattle.cell_alloc.specs.Claim.{claim, claim_at, claim_place, claim_op, pass_over, take_free, claim_work, OfClass}
use Rattle.cell_alloc.specs.Claims.{ClaimsAlone, ClaimsCell, IsFirstFree}
use Rattle.cell_alloc.proofs.ClaimSteps.{place_at, wants_at}

module _ (l : Layout) (words : List ℕ) (class : ℕ) (collect : Collect) (laid_out : IsLaidOut l words) where
  abbrev at : ℕ → ClaimStage → Claim
  at cell stage = claim_at l class collect cell stage

  abbrev cells : ℕ
  cells = (class_at l.classes class).1

  abbrev part : ℕ → Part
  part cell = Header (Cell class cell) State

  abbrev state : ℕ → ℕ
  state cell = state_at l words (Cell class cell)

  -- a cell that is about to be taken is free
  abbrev IsFreeAt : ℕ → ClaimStage → Type 0
  IsFreeAt cell Looking = Unit {0}
  IsFreeAt cell Taking = state cell ≡ 0

  -- the cells before the one that it is at aren't free, and no word has changed
  record HoldsAt (w : List ℕ) (cell : ℕ) (stage : ClaimStage) : Type 0 where
    stays : w ≡ words
    in_class : IsCell l.classes class cell
    first : (before : ℕ) → before < cell → state before ≢ 0
    free : IsFreeAt cell stage

  abbrev Holds : List ℕ → Claim → Type 0
  Holds w piece = (cell : ℕ) × (stage : ClaimStage) × (piece ≡ at cell stage) × HoldsAt w cell stage

  abbrev Ends : List ℕ → Option ℕ → Type 0
  Ends w out = ClaimsAlone l words class out w

  -- a load for each cell from here on, or the exchange
  abbrev left_at : ℕ → ClaimStage → ℕ
  left_at cell Looking = cells - cell
  left_at cell Taking = 0

  abbrev left : Claim → ℕ
  left piece = left_at piece.cell piece.stage

  abbrev Known : ℕ → List ℕ → Next Claim (Option ℕ) → Type 0
  Known before w next = IsKnownOf left before (Holds w) ⊥ (Ends w) next

  abbrev Alone : List ℕ → Claim → Type 0
  Alone = StepsAlone claim_work left Holds Ends

  -- the cells up to this one aren't free
  none_so_far : (cell : ℕ) → ((before : ℕ) → before < cell → state before ≢ 0) → state cell ≢ 0 → (before : ℕ) → before < cell + 1 → state before ≢ 0
  none_so_far cell first not_free before below = elim (cases_lt before cell) [
    | inl earlier ↦ first before earlier
    | inr here ↦ subst (λ n. state n ≢ 0) (let same : cell ≡ before = omega (arith, below, here) in same) not_free
  ]

  passes : (w : List ℕ) (cell : ℕ) → w ≡ words → HoldsAt words cell Looking → state cell ≢ 0 → Known (cells - cell) w (pass_over (at cell Looking))
  unfolding pass_over
  passes w cell stays holds not_free =
      let none = none_so_far cell holds.first not_free in
      by_less (λ b. Known (cells - cell) w (if b then record { piece = at (cell + 1) Looking; told = More } else record { piece = at cell Looking; told = Done None })) (cell + 1) cells
      (λ more. ((cell + 1, Looking, refl, record { stays = stays; in_class = record { class_in_range = holds.in_class.class_in_range; cell_in_range = more }; first = none; free = tt }), omega (arith, more)))
      (λ last. (record { in_range = holds.in_class.class_in_range; none_free = λ other is. none other (omega (arith, last, is.cell_in_range)) }, stays))

  step_at : (cell : ℕ) (stage : ClaimStage) → HoldsAt words cell stage → Alone words (at cell stage)
  unfolding claim_op take_free
  step_at cell Looking holds =
      let place = place_of l (part cell) in
      record {
        op = claim_op Looking place;
        wants_is = wants_at l class collect laid_out.well_formed cell Looking holds.in_class;
        inside = map_laws.inside l words (part cell) laid_out holds.in_class;
        known =
            by_equal (λ b. Known (cells - cell) (slice_set words place (state cell)) (if b then record { piece = at cell Taking; told = More } else pass_over (at cell Looking))) (state cell) 0
            (λ free. ((cell, Taking, refl, record { stays = set-get_or words place 0; in_class = holds.in_class; first = holds.first; free = free }), omega (arith, holds.in_class.cell_in_range)))
            (λ not_free. passes (slice_set words place (state cell)) cell (set-get_or words place 0) holds not_free);
      }
  step_at cell Taking holds =
      let place = place_of l (part cell) in
      let taken : ClaimsAlone l words class (Some (claim_place (at cell Taking))) (slice_set words place 1) =
      (cell, record { in_class = holds.in_class; free = holds.free; first = holds.first }, place_at l class collect laid_out.well_formed cell Taking holds.in_class, map_laws.one_part l words (part cell) 1 laid_out holds.in_class) in
      record {
        op = claim_op Taking place;
        wants_is = wants_at l class collect laid_out.well_formed cell Taking holds.in_class;
        inside = map_laws.inside l words (part cell) laid_out holds.in_class;
        known = subst (λ (b : Bool). Known 0 (slice_set words place (if b then 1 else state cell)) (if b then record { piece = at cell Taking; told = Done (Some (claim_place (at cell Taking))) } else pass_over (at cell Taking))) (sym (eq-eqb (state cell) 0 holds.free)) taken;
      }

  step : (piece : Claim) (w : List ℕ) → Holds w piece → Alone w piece
  step piece w (cell, stage, is, holds) =
      subst (λ p. Alone w p) (sym is) (subst (λ ws. Alone ws (at cell stage)) (sym holds.stays) (step_at cell stage (record { stays = refl; in_class = holds.in_class; first = holds.first; free = holds.free })))

  pub ends : OfClass l class (claim l class collect) → EndsAlone claim_work (cells + 1) (claim l class collect) words (ClaimsAlone l words class)
  ends is = ends_alone claim_work left Holds Ends step (cells + 1) (claim l class collect) words (0, Looking, refl, record { stays = refl; in_class = is.in_class; first = λ before below. absurd (omega (arith, below)); free = tt }) (omega arith)

module _ (l : Layout) (words : List ℕ) (class cell : ℕ) (is : IsFirstFree l words class cell) where
  -- there is one first free cell
  same_cell : (other : ℕ) → IsFirstFree l words class other → other ≡ cell
  same_cell other is_other = elim (cases_lt other cell) [
    | inl before ↦ absurd (is.first other before is_other.free)
    | inr past ↦ elim (cases_lt cell other) [
      | inl before ↦ absurd (is_other.first cell before is.free)
      | inr behind ↦ omega (arith, past, behind)
    ]
  ]

  -- where it is free it is claimed
  taken_of : (out : Option ℕ) (left : List ℕ) → ClaimsAlone l words class out left → ClaimsCell l words class cell out left
  taken_of None left (full, stays) = absurd (full.none_free cell is.in_class is.free)
  taken_of (Some place) left (other, is_other, place_is, changes) = subst (λ n. ClaimsCell l words class n (Some place) left) (same_cell other is_other) (ap Some place_is, changes)

  pub ends_taken : (collect : Collect) → IsLaidOut l words → OfClass l class (claim l class collect) → EndsAlone claim_work ((class_at l.classes class).1 + 1) (claim l class collect) words (ClaimsCell l words class cell)
  ends_taken collect laid_out of_class =
      let run = ends l words class collect laid_out of_class in
      record { out = run.out; left = run.left; finishes = run.finishes; holds = taken_of run.out run.left run.holds }
