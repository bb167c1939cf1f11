-- A publish: its step, and what it does alone.
use Rattle.std.proofs.Common.{◌≡◌, ℕ, ◌+◌, ◌*◌, ◌^◌, ◌<◌, ◌≤◌, List, if◌then◌else◌, nat_lt, slice_set, refl, sym, ap, ◌∙◌, subst, arith}
use Rattle.heap_words.specs.Alone.{EndsAlone}
use Rattle.heap_words.specs.Operations.{words_after}
use Rattle.heap_words.specs.Steps.{IsKnownOf}
use Rattle.heap_words.specs.Work.{with_stage}
use Rattle.heap_words.specs.declared.op.WordOp.{WordOp}
use Rattle.heap_words.specs.declared.op.WordOp.TheVariants.{Store}
use Rattle.heap_words.proofs.Rules.{by_less, StepsAlone, alone_by, ends_alone}
use Rattle.object_header.specs.Contents.{IsLaidOut, ChangesOnly, ChangesWithin, IsPartOf, IsPublished, KeepsSite}
use Rattle.object_header.specs.WordMap.{Layout, Site, Part, IsSite, IsPart, payload_words, place_of, place_of_site}
use Rattle.object_header.specs.declared.codings.Kind.{Kind}
use Rattle.object_header.proofs.MapProofs.{map_laws}
use Rattle.cell_alloc.specs.declared.publish.Publish.{Publish}
use Rattle.cell_alloc.specs.declared.publish.PublishStage.{PublishStage}
use Rattle.cell_alloc.specs.declared.publish.PublishStage.TheVariants.{ClearLink, SetSize, ClearTable, ClearWord, SetMark, SetState}
use Rattle.cell_alloc.specs.Publish.{publish, stage_place, stage_word, publish_next, publish_work, publish_left, stage_part, stores_before, IsInPayload, OfSite, IsFilled, IsFilledTo, IsSameObject, PublishSteps}
use Rattle.cell_alloc.proofs.Filling.{is_part, of_site, place_at, word_fits, unfilled, kept, filled_by, published}

module _ (l : Layout) (words : List ℕ) (site : Site) (piece : Publish) (laid_out : IsLaidOut l words) (is : OfSite l site piece) where
  abbrev at : PublishStage → Publish
  at stage = record piece { stage = stage }

  abbrev Filled : List ℕ → ℕ → Type 0
  Filled w stores = IsFilledTo l w site piece.bytes piece.kind piece.colour piece.payload stores

  abbrev left : PublishStage → List ℕ
  left stage = slice_set words (place_of l (stage_part site stage)) (stage_word piece.bytes piece.kind piece.colour stage)

  abbrev Holds : PublishStage → Publish → Type 0
  Holds stage next = OfSite l site next × IsFilled l (left stage) site next × IsSameObject (at stage) next

  part_of : (stage : PublishStage) → IsInPayload piece.payload stage → IsPart l (stage_part site stage)
  part_of stage inside = is_part l site piece.payload stage is.in_map is.payload_is inside

  changes : (stage : PublishStage) → IsInPayload piece.payload stage → ChangesOnly l words (left stage) (stage_part site stage) (stage_word piece.bytes piece.kind piece.colour stage)
  changes stage inside = map_laws.one_part l words (stage_part site stage) (stage_word piece.bytes piece.kind piece.colour stage) laid_out (part_of stage inside)

  of : (stage : PublishStage) → IsInPayload piece.payload stage → OfSite l site (at stage)
  of stage inside = record {
    in_map = is.in_map;
    cell_is = is.cell_is;
    payload_is = is.payload_is;
    fits = is.fits;
    bytes_fit = is.bytes_fit;
    colour_fits = is.colour_fits;
    in_payload = inside;
  }

  -- it goes on with the next store
  goes : (stage next : PublishStage) → IsInPayload piece.payload stage → IsInPayload piece.payload next → Filled words (stores_before piece.payload stage) → stores_before piece.payload next ≡ stores_before piece.payload stage + 1 → stores_before piece.payload next ≤ piece.payload + 4 → Holds stage (at next) × (publish_left (at next) < publish_left (at stage))
  goes stage next inside inside' filled more few =
      let filled' = filled_by l site piece.bytes piece.kind piece.colour piece.payload is.in_map is.payload_is words (left stage) stage inside (changes stage inside) filled in
      ((of next inside', subst (λ n. Filled (left stage) n) (sym more) filled', record { bytes_are = refl; kind_is = refl; colour_is = refl }), omega (arith, more, few))

  abbrev Known : PublishStage → Type 0
  Known stage = IsKnownOf publish_left (publish_left (at stage)) (Holds stage) ⊥ (λ out. IsPublished l (left stage) site piece.bytes piece.kind piece.colour) (with_stage at (publish_next piece.payload stage))

  -- it clears the payload from this word on, and then sets the mark
  clears : (stage : PublishStage) (word : ℕ) → IsInPayload piece.payload stage → Filled words (stores_before piece.payload stage) → word + 3 ≡ stores_before piece.payload stage + 1 → word ≤ piece.payload → Holds stage (at (if nat_lt word piece.payload then ClearWord word else SetMark)) × (publish_left (at (if nat_lt word piece.payload then ClearWord word else SetMark)) < publish_left (at stage))
  unfolding stores_before IsInPayload
  clears stage word inside filled more few =
      by_less (λ b. Holds stage (at (if b then ClearWord word else SetMark)) × (publish_left (at (if b then ClearWord word else SetMark)) < publish_left (at stage))) word piece.payload
      (λ some. goes stage (ClearWord word) inside some filled more (omega (arith, some)))
      (λ none. goes stage SetMark inside tt filled (omega (arith, more, none, few)) (omega arith))

  known_at : (stage : PublishStage) → IsInPayload piece.payload stage → Filled words (stores_before piece.payload stage) → Known stage
  unfolding publish_next stores_before IsInPayload
  known_at ClearLink inside filled = goes ClearLink SetSize tt tt filled (omega arith) (omega arith)
  known_at SetSize inside filled = goes SetSize ClearTable tt tt filled (omega arith) (omega arith)
  known_at ClearTable inside filled = clears ClearTable 0 tt filled (omega arith) (omega arith)
  known_at (ClearWord word) inside filled = clears (ClearWord word) (word + 1) inside filled (omega arith) (omega (arith, inside))
  known_at SetMark inside filled = goes SetMark SetState tt tt filled (omega arith) (omega arith)
  known_at SetState inside filled = published l site piece.bytes piece.kind piece.colour piece.payload is.in_map is.payload_is words (left SetState) is.fits (changes SetState inside) filled

  step : (stage : PublishStage) → IsInPayload piece.payload stage → Filled words (stores_before piece.payload stage) → PublishSteps l words site (at stage)
  step stage inside filled = record {
    wants_is = ap (λ place. Store place (stage_word piece.bytes piece.kind piece.colour stage)) (ap (λ cell. stage_place cell stage) is.cell_is ∙ place_at l site stage laid_out.well_formed (part_of stage inside));
    inside = map_laws.inside l words (stage_part site stage) laid_out (part_of stage inside);
    fits = (map_laws.fits l (stage_part site stage) laid_out.well_formed (part_of stage inside), word_fits piece.bytes piece.kind piece.colour stage is.bytes_fit is.colour_fits);
    leaves = changes stage inside;
    known = known_at stage inside filled;
  }

pub steps : (l : Layout) (words : List ℕ) (site : Site) (piece : Publish) → IsLaidOut l words → OfSite l site piece → IsFilled l words site piece → PublishSteps l words site piece
steps l words site piece laid_out is filled = step l words site piece laid_out is piece.stage is.in_payload filled

pub starts : (l : Layout) (words : List ℕ) (site : Site) (bytes colour : ℕ) (kind : Kind) → IsSite l site → bytes ≤ 8 * payload_words l site → bytes < 2 ^ 60 → colour < 2 ^ 64 → let piece = publish (payload_words l site) (place_of_site l site) bytes kind colour in OfSite l site piece × IsFilled l words site piece
unfolding stores_before IsInPayload
starts l words site bytes colour kind is fits few small =
    (record { in_map = is; cell_is = refl; payload_is = refl; fits = fits; bytes_fit = few; colour_fits = small; in_payload = tt }, unfilled l site bytes kind colour (payload_words l site) is refl words)

pub keeps : (l : Layout) (old new : List ℕ) (site : Site) (piece : Publish) → OfSite l site piece → KeepsSite l old new site → IsFilled l old site piece → IsFilled l new site piece
keeps l old new site piece is stays filled =
    kept l site piece.bytes piece.kind piece.colour piece.payload is.in_map is.payload_is old new (stores_before piece.payload piece.stage) stays filled

-- ---- alone
module _ (l : Layout) (words : List ℕ) (site : Site) (bytes colour : ℕ) (kind : Kind) (laid_out : IsLaidOut l words) where
  abbrev first : Publish
  first = publish (payload_words l site) (place_of_site l site) bytes kind colour

  record AloneHolds (w : List ℕ) (piece : Publish) : Type 0 where
    of : OfSite l site piece
    filled : IsFilled l w site piece
    same : IsSameObject first piece
    within : ChangesWithin l words w site

  abbrev AloneEnds : List ℕ → Unit {0} → Type 0
  AloneEnds w out = IsPublished l w site bytes kind colour × ChangesWithin l words w site

  abbrev Alone : List ℕ → Publish → Type 0
  Alone = StepsAlone publish_work publish_left AloneHolds AloneEnds

  -- a store to a part of the site changes nothing outside
  within_more : (w left : List ℕ) (part : Part) (word : ℕ) → IsPartOf site part → ChangesWithin l words w site → ChangesOnly l w left part word → ChangesWithin l words left site
  within_more w left part word own within changes = record {
    as_many = changes.as_many ∙ within.as_many;
    others = λ other is not_own. changes.others other is (λ same. not_own (subst (λ p. IsPartOf site p) (sym same) own)) ∙ within.others other is not_own;
  }

  alone : (piece : Publish) (w : List ℕ) → AloneHolds w piece → Alone w piece
  alone piece w holds =
      let part : Part = stage_part site piece.stage in
      let op : WordOp = Store (place_of l part) (stage_word piece.bytes piece.kind piece.colour piece.stage) in
      let there : IsLaidOut l w = record { well_formed = laid_out.well_formed; as_many = holds.within.as_many ∙ laid_out.as_many } in
      let step = steps l w site piece there holds.of holds.filled in
      let within : ChangesWithin l words (words_after op w) site = within_more w (words_after op w) part (stage_word piece.bytes piece.kind piece.colour piece.stage) (of_site site piece.stage) holds.within step.leaves in
      let same = holds.same in
      alone_by publish_work publish_left w piece op (λ word left. ChangesOnly l w left part word) (λ left next. OfSite l site next × IsFilled l left site next × IsSameObject piece next) AloneHolds (λ left out. IsPublished l left site piece.bytes piece.kind piece.colour) AloneEnds step
      (λ next known. record { of = known.0; filled = known.1; same = record { bytes_are = known.2.bytes_are ∙ same.bytes_are; kind_is = known.2.kind_is ∙ same.kind_is; colour_is = known.2.colour_is ∙ same.colour_is }; within = within })
      (λ out told. (subst (λ b. IsPublished l (words_after op w) site b kind colour) same.bytes_are (subst (λ k. IsPublished l (words_after op w) site piece.bytes k colour) same.kind_is (subst (λ c. IsPublished l (words_after op w) site piece.bytes piece.kind c) same.colour_is told)), within))

  pub ends : IsSite l site → bytes ≤ 8 * payload_words l site → bytes < 2 ^ 60 → colour < 2 ^ 64 → EndsAlone publish_work (payload_words l site + 5) first words (λ out left. AloneEnds left out)
  unfolding stores_before
  ends is fits few small =
      let start = starts l words site bytes colour kind is fits few small in
      ends_alone publish_work publish_left AloneHolds AloneEnds alone (payload_words l site + 5) first words
      (record { of = start.0; filled = start.1; same = record { bytes_are = refl; kind_is = refl; colour_is = refl }; within = record { as_many = refl; others = λ other in_map not_own. refl } }) (omega arith)
