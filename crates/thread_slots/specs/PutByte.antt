-- A byte of the output, step by step.
use Rattle.std.specs.Prelude.{◌≡◌, ◌≢◌, ◌⊎◌, ℕ, ◌+◌, ◌-◌, ◌*◌, ◌<◌, ◌≤◌, ◌==◌, nat_lt, List, [], ◌∷◌, ◌++◌, length, All, Result, Ok, Err, if◌then◌else◌}
use Rattle.filc_num.specs.declared.reason.Reason.{Reason}
use Rattle.filc_num.specs.declared.reason.Reason.TheVariants.{OutputLimit}
use Rattle.heap_words.specs.Answers.{Answered}
use Rattle.heap_words.specs.Operations.{answer_of}
use Rattle.heap_words.specs.Steps.{Steps}
use Rattle.heap_words.specs.Work.{Next, Work, with_stage}
use Rattle.heap_words.specs.declared.op.WordOp.{WordOp}
use Rattle.heap_words.specs.declared.op.WordOp.TheVariants.{Load, Store, Exchange}
use Rattle.heap_words.specs.declared.piece.Step.TheVariants.{More, Done}
use Rattle.object_header.specs.Contents.{ChangesOnly}
use Rattle.object_header.specs.WordMap.{Layout, Part, Fixed, Output, place_of, place_of_fixed, place_of_output}
use Rattle.object_header.specs.declared.words.FixedWord.TheVariants.{OutputHint}
use Rattle.thread_slots.specs.Output.{IsWritten, Writes}
use Rattle.thread_slots.specs.declared.put_byte.PutByte.{PutByte}
use Rattle.thread_slots.specs.declared.put_byte.PutStage.{PutStage}
use Rattle.thread_slots.specs.declared.put_byte.PutStage.TheVariants.{LoadHint, LoadWord, TakeWord, StoreHint}

-- nothing, or why no byte was put out
abbrev pub PutOut : Type 0
PutOut = Result (Unit {0}) Reason

-- at its start
abbrev pub put_byte : ℕ → ℕ → ℕ → PutByte
put_byte slots out_words byte = record { slots = slots; out_words = out_words; byte = byte; stage = LoadHint }

-- the hint, a word until one isn't taken, that word, and the hint again
unfoldable pub put_place : ℕ → PutStage → ℕ
put_place slots LoadHint = place_of_fixed OutputHint
put_place slots (LoadWord index) = place_of_output slots index
put_place slots (TakeWord index) = place_of_output slots index
put_place slots (StoreHint index) = place_of_fixed OutputHint

-- what a stage does with the word at its place
unfoldable pub put_op : ℕ → PutStage → ℕ → WordOp
put_op byte LoadHint place = Load place
put_op byte (LoadWord index) place = Load place
put_op byte (TakeWord index) place = Exchange place 0 (byte + 1)
put_op byte (StoreHint index) place = Store place (index + 1)

-- it goes on with this output word where there is one, and else stays where it is and gives up
unfoldable pub look_at : ℕ → PutStage → ℕ → Next PutStage PutOut
look_at out_words stage index =
    if nat_lt index out_words then record { piece = LoadWord index; told = More } else record { piece = stage; told = Done (Err OutputLimit) }

-- a word that is taken sends it to the next one, also where only the exchange shows that
unfoldable pub put_next : ℕ → PutStage → ℕ → Next PutStage PutOut
put_next out_words LoadHint answer = look_at out_words LoadHint answer
put_next out_words (LoadWord index) answer =
    if answer == 0 then record { piece = TakeWord index; told = More } else look_at out_words (LoadWord index) (index + 1)
put_next out_words (TakeWord index) answer =
    if answer == 0 then record { piece = StoreHint index; told = More } else look_at out_words (TakeWord index) (index + 1)
put_next out_words (StoreHint index) answer = record { piece = StoreHint index; told = Done (Ok tt) }

abbrev pub put_work : Work PutByte PutOut
put_work = record {
  wants = λ piece. put_op piece.byte piece.stage (put_place piece.slots piece.stage);
  takes = λ piece answer. with_stage (λ stage. record piece { stage = stage }) (put_next piece.out_words piece.stage answer);
}

-- how many steps come behind a stage's, at most: two for each word, and the store of the hint
unfoldable pub steps_from : ℕ → PutStage → ℕ
steps_from out_words LoadHint = 2 * out_words + 2
steps_from out_words (LoadWord index) = 2 * (out_words - index) + 1
steps_from out_words (TakeWord index) = 2 * (out_words - index)
steps_from out_words (StoreHint index) = 0

abbrev pub put_left : PutByte → ℕ
put_left piece = steps_from piece.out_words piece.stage

-- ---- one step among those of other threads

-- the part that a stage is about
unfoldable pub put_part : PutStage → Part
put_part LoadHint = Fixed OutputHint
put_part (LoadWord index) = Output index
put_part (TakeWord index) = Output index
put_part (StoreHint index) = Fixed OutputHint

-- where so many bytes are put out, the output words before the one that it is at are taken
unfoldable pub IsBehind : ℕ → ℕ → PutStage → Type 0
IsBehind out_words count LoadHint = Unit {0}
IsBehind out_words count (LoadWord index) = (index < out_words) × (index ≤ count)
IsBehind out_words count (TakeWord index) = (index < out_words) × (index ≤ count)
IsBehind out_words count (StoreHint index) = index < count

-- the piece belongs to this map, where these bytes are put out
pub record OfOutput (l : Layout) (bytes : List ℕ) (piece : PutByte) : Type 0 where
  pub slots_are : piece.slots ≡ l.slots
  pub out_words_are : piece.out_words ≡ l.out_words
  pub byte_fits : piece.byte < 256
  pub behind : IsBehind l.out_words (length bytes) piece.stage

-- the bytes that are put out after a stage and its answer: one more where the exchange wins
unfoldable pub bytes_after : ℕ → PutStage → ℕ → List ℕ → List ℕ
bytes_after byte LoadHint answer bytes = bytes
bytes_after byte (LoadWord index) answer bytes = bytes
bytes_after byte (TakeWord index) answer bytes = if answer == 0 then bytes ++ byte ∷ [] else bytes
bytes_after byte (StoreHint index) answer bytes = bytes

-- how many bytes the piece has put out: one from the exchange that wins on
unfoldable pub bytes_put : PutStage → ℕ
bytes_put LoadHint = 0
bytes_put (LoadWord index) = 0
bytes_put (TakeWord index) = 0
bytes_put (StoreHint index) = 1

-- a step at this stage, where `bytes` are put out before it and `after` then, puts as many more out
-- as make it so many that the piece has put out
abbrev pub MakesPut : List ℕ → List ℕ → PutStage → ℕ → Type 0
MakesPut bytes after stage count = length after + bytes_put stage ≡ length bytes + count

-- it ends well with one byte put out, and gives up with none, only where all output words are taken
abbrev pub IsPut : Layout → List ℕ → List ℕ → PutStage → PutOut → Type 0
IsPut l bytes after stage (Ok done) = MakesPut bytes after stage 1
IsPut l bytes after stage (Err reason) =
    MakesPut bytes after stage 0 × (reason ≡ OutputLimit) × (length bytes ≡ l.out_words)

-- the operation of its next step, on a part, and the bytes that are put out after it
abbrev pub put_op_in : Layout → PutByte → WordOp
put_op_in l piece = put_op piece.byte piece.stage (place_of l (put_part piece.stage))

abbrev pub bytes_then : Layout → List ℕ → List ℕ → PutByte → List ℕ
bytes_then l words bytes piece = bytes_after piece.byte piece.stage (answer_of (put_op_in l piece) words) bytes

-- what holds where it goes on: the output is in order, and it has the same byte to put out
pub record GoesOn (l : Layout) (left bytes after : List ℕ) (piece next : PutByte) : Type 0 where
  pub written : IsWritten l left after
  pub of_output : OfOutput l after next
  pub byte_is : next.byte ≡ piece.byte
  pub makes : MakesPut bytes after piece.stage (bytes_put next.stage)

-- one step, where these bytes are put out
abbrev pub PutSteps : Layout → List ℕ → List ℕ → PutByte → Type 0
PutSteps l words bytes piece =
    Steps put_work put_left words piece (put_op_in l piece) (λ word left. ChangesOnly l words left (put_part piece.stage) word)
    (λ left next. GoesOn l left bytes (bytes_then l words bytes piece) piece next)
    ⊥
    (λ left out. IsWritten l left (bytes_then l words bytes piece) × IsPut l bytes (bytes_then l words bytes piece) piece.stage out)

-- ---- alone, and with any answers

-- alone it puts its byte behind these ones, or changes no word where there is no room
abbrev pub PutsAlone : Layout → List ℕ → List ℕ → ℕ → PutOut → List ℕ → Type 0
PutsAlone l words bytes byte (Ok done) left =
    (length bytes < l.out_words) × Writes l words left (length bytes) byte × IsWritten l left (bytes ++ byte ∷ [])
PutsAlone l words bytes byte (Err reason) left =
    (reason ≡ OutputLimit) × (length bytes ≡ l.out_words) × (left ≡ words)

-- a load of this output word, or an exchange of it, found it taken
pub record FoundTaken (slots byte index : ℕ) (made : Answered) : Type 0 where
  pub looks : (made.op ≡ Load (place_of_output slots index)) ⊎ (made.op ≡ Exchange (place_of_output slots index) 0 (byte + 1))
  pub taken : made.answer ≢ 0

-- an operation that changes no word with this answer: a load, or an exchange that is lost
abbrev pub OnlyLooks : WordOp → ℕ → Type 0
OnlyLooks (Load place) answer = Unit {0}
OnlyLooks (Exchange place expected new) answer = answer ≢ expected
OnlyLooks other answer = ⊥

abbrev pub LeavesWords : Answered → Type 0
LeavesWords made = OnlyLooks made.op made.answer

-- the exchange that wins this output word for the byte, and the store of the hint behind it
abbrev pub wins : ℕ → ℕ → ℕ → Answered
wins slots byte index = record { op = Exchange (place_of_output slots index) 0 (byte + 1); answer = 0 }

abbrev pub stores : ℕ → ℕ → Answered
stores index answer = record { op = Store (place_of_fixed OutputHint) (index + 1); answer = answer }

-- these operations change no word, but for the last two: they win a free output word for the byte,
-- and store the hint behind it
pub record PutsOnce (slots out_words byte : ℕ) (made : List Answered) : Type 0 where
  pub index : ℕ
  pub is_output : index < out_words
  pub answer : ℕ
  pub before : List Answered
  pub looks : All LeavesWords before
  pub made_are : made ≡ before ++ (wins slots byte index ∷ (stores index answer ∷ []))
