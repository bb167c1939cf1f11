-- Publishing a cell, step by step.
use Rattle.std.specs.Prelude.{◌≡◌, ℕ, ◌+◌, ◌-◌, ◌*◌, ◌^◌, ◌<◌, ◌≤◌, nat_lt, List, if◌then◌else◌}
use Rattle.heap_words.specs.Steps.{Steps}
use Rattle.heap_words.specs.Work.{Next, Work, with_stage}
use Rattle.heap_words.specs.declared.op.WordOp.TheVariants.{Store}
use Rattle.heap_words.specs.declared.piece.Step.TheVariants.{More, Done}
use Rattle.object_header.specs.Codings.{state_code, size_code}
use Rattle.object_header.specs.Contents.{ChangesOnly, IsPublished, word_at}
use Rattle.object_header.specs.WordMap.{Layout, Site, Part, Header, Payload, IsSite, payload_words, place_of, place_of_header, place_of_site, place_of_word}
use Rattle.object_header.specs.declared.codings.CellState.TheVariants.{Live}
use Rattle.object_header.specs.declared.codings.Kind.{Kind}
use Rattle.object_header.specs.declared.words.HeaderWord.TheVariants.{State, Mark, Link, Size, Table}
use Rattle.cell_alloc.specs.declared.publish.Publish.{Publish}
use Rattle.cell_alloc.specs.declared.publish.PublishStage.{PublishStage}
use Rattle.cell_alloc.specs.declared.publish.PublishStage.TheVariants.{ClearLink, SetSize, ClearTable, ClearWord, SetMark, SetState}

-- about to make an object of a cell with so many payload words
abbrev pub publish : ℕ → ℕ → ℕ → Kind → ℕ → Publish
publish payload cell bytes kind colour = record {
  cell = cell;
  bytes = bytes;
  kind = kind;
  colour = colour;
  payload = payload;
  stage = ClearLink;
}

-- the place that a stage stores to, and what it stores there
unfoldable pub stage_place : ℕ → PublishStage → ℕ
stage_place cell ClearLink = place_of_header cell Link
stage_place cell SetSize = place_of_header cell Size
stage_place cell ClearTable = place_of_header cell Table
stage_place cell (ClearWord word) = place_of_word cell word
stage_place cell SetMark = place_of_header cell Mark
stage_place cell SetState = place_of_header cell State

unfoldable pub stage_word : ℕ → Kind → ℕ → PublishStage → ℕ
stage_word bytes kind colour ClearLink = 0
stage_word bytes kind colour SetSize = size_code bytes kind
stage_word bytes kind colour ClearTable = 0
stage_word bytes kind colour (ClearWord word) = 0
stage_word bytes kind colour SetMark = colour
stage_word bytes kind colour SetState = state_code Live

-- the payload from this word on, and then the mark
abbrev pub clear_from : ℕ → ℕ → PublishStage
clear_from payload word = if nat_lt word payload then ClearWord word else SetMark

-- the state comes last
unfoldable pub publish_next : ℕ → PublishStage → Next PublishStage (Unit {0})
publish_next payload ClearLink = record { piece = SetSize; told = More }
publish_next payload SetSize = record { piece = ClearTable; told = More }
publish_next payload ClearTable = record { piece = clear_from payload 0; told = More }
publish_next payload (ClearWord word) = record { piece = clear_from payload (word + 1); told = More }
publish_next payload SetMark = record { piece = SetState; told = More }
publish_next payload SetState = record { piece = SetState; told = Done tt }

abbrev pub publish_work : Work Publish (Unit {0})
publish_work = record {
  wants = λ piece. Store (stage_place piece.cell piece.stage) (stage_word piece.bytes piece.kind piece.colour piece.stage);
  takes = λ piece answer. with_stage (λ stage. record piece { stage = stage }) (publish_next piece.payload piece.stage);
}

-- how many stores come before a stage's, where there are so many payload words
unfoldable pub stores_before : ℕ → PublishStage → ℕ
stores_before payload ClearLink = 0
stores_before payload SetSize = 1
stores_before payload ClearTable = 2
stores_before payload (ClearWord word) = word + 3
stores_before payload SetMark = payload + 3
stores_before payload SetState = payload + 4

-- how many come behind it
abbrev pub publish_left : Publish → ℕ
publish_left piece = piece.payload + 4 - stores_before piece.payload piece.stage

-- ---- one step among those of other threads

-- the part that a stage stores to
unfoldable pub stage_part : Site → PublishStage → Part
stage_part site ClearLink = Header site Link
stage_part site SetSize = Header site Size
stage_part site ClearTable = Header site Table
stage_part site (ClearWord word) = Payload site word
stage_part site SetMark = Header site Mark
stage_part site SetState = Header site State

-- a stage that clears a payload word clears one of so many
unfoldable pub IsInPayload : ℕ → PublishStage → Type 0
IsInPayload payload ClearLink = Unit {0}
IsInPayload payload SetSize = Unit {0}
IsInPayload payload ClearTable = Unit {0}
IsInPayload payload (ClearWord word) = word < payload
IsInPayload payload SetMark = Unit {0}
IsInPayload payload SetState = Unit {0}

-- the piece is of this site, which holds its bytes
pub record OfSite (l : Layout) (site : Site) (piece : Publish) : Type 0 where
  pub in_map : IsSite l site
  pub cell_is : piece.cell ≡ place_of_site l site
  pub payload_is : piece.payload ≡ payload_words l site
  pub fits : piece.bytes ≤ 8 * payload_words l site
  pub bytes_fit : piece.bytes < 2 ^ 60
  pub colour_fits : piece.colour < 2 ^ 64
  pub in_payload : IsInPayload piece.payload piece.stage

-- so many stores stand in the words: the link, the size, the table word, the payload, and the mark
pub record IsFilledTo (l : Layout) (words : List ℕ) (site : Site) (bytes : ℕ) (kind : Kind) (colour payload stores : ℕ) : Type 0 where
  pub link : 0 < stores → word_at l words (Header site Link) ≡ 0
  pub size : 1 < stores → word_at l words (Header site Size) ≡ size_code bytes kind
  pub table : 2 < stores → word_at l words (Header site Table) ≡ 0
  pub payload_word : (word : ℕ) → word + 3 < stores → word < payload → word_at l words (Payload site word) ≡ 0
  pub mark : payload + 3 < stores → word_at l words (Header site Mark) ≡ colour

-- each store before the piece's stage stands
abbrev pub IsFilled : Layout → List ℕ → Site → Publish → Type 0
IsFilled l words site piece =
    IsFilledTo l words site piece.bytes piece.kind piece.colour piece.payload (stores_before piece.payload piece.stage)

-- a piece that makes the same object
pub record IsSameObject (piece next : Publish) : Type 0 where
  pub bytes_are : next.bytes ≡ piece.bytes
  pub kind_is : next.kind ≡ piece.kind
  pub colour_is : next.colour ≡ piece.colour

-- one step
abbrev pub PublishSteps : Layout → List ℕ → Site → Publish → Type 0
PublishSteps l words site piece =
    Steps publish_work publish_left words piece (Store (place_of l (stage_part site piece.stage)) (stage_word piece.bytes piece.kind piece.colour piece.stage)) (λ word left. ChangesOnly l words left (stage_part site piece.stage) word)
    (λ left next. OfSite l site next × IsFilled l left site next × IsSameObject piece next) ⊥
    (λ left out. IsPublished l left site piece.bytes piece.kind piece.colour)
