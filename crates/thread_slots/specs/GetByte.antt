-- A byte of the input, step by step.
use Rattle.std.specs.Prelude.{◌≡◌, ◌≢◌, ℕ, ◌+◌, ◌%◌, ◌^◌, ◌<◌, ◌≤◌, ◌==◌, nat_lt, List, Option, Some, None, IfSome, if◌then◌else◌}
use Rattle.heap_words.specs.Steps.{Steps}
use Rattle.heap_words.specs.Work.{Next, Work, with_stage}
use Rattle.heap_words.specs.declared.op.WordOp.{WordOp}
use Rattle.heap_words.specs.declared.op.WordOp.TheVariants.{Load, Exchange}
use Rattle.heap_words.specs.declared.piece.Step.TheVariants.{More, Waits, Done}
use Rattle.object_header.specs.Contents.{ChangesOnly, word_at}
use Rattle.object_header.specs.WordMap.{Layout, Fixed, place_of, place_of_fixed}
use Rattle.object_header.specs.declared.words.FixedWord.TheVariants.{InputCount}
use Rattle.thread_slots.specs.declared.get_byte.GetByte.{GetByte}

-- at its start
abbrev pub get_byte : ℕ → GetByte
get_byte length = record { length = length; found = None }

-- the load of the input count, and then the exchange of the number that was found
unfoldable pub get_op : Option ℕ → ℕ → WordOp
get_op None place = Load place
get_op (Some byte) place = Exchange place byte ((byte + 1) % 2 ^ 64)

-- a number below the input's length is kept for the exchange, and forgotten where that is lost; the
-- end is told by the load, and a byte by the exchange that wins
unfoldable pub get_next : ℕ → Option ℕ → ℕ → Next (Option ℕ) (Option ℕ)
get_next length None answer =
    if nat_lt answer length then record { piece = Some answer; told = More } else record { piece = None; told = Done None }
get_next length (Some byte) answer =
    if answer == byte then record { piece = Some byte; told = Done (Some byte) } else record { piece = None; told = Waits }

abbrev pub get_work : Work GetByte (Option ℕ)
get_work = record {
  wants = λ piece. get_op piece.found (place_of_fixed InputCount);
  takes = λ piece answer. with_stage (λ found. record piece { found = found }) (get_next piece.length piece.found answer);
}

-- how many steps come behind its next one, at most, while it doesn't wait
unfoldable pub get_steps : Option ℕ → ℕ
get_steps None = 1
get_steps (Some byte) = 0

-- ---- one step among those of other threads

-- a number that it found is below the input's length
pub record OfInput (piece : GetByte) : Type 0 where
  pub length_fits : piece.length < 2 ^ 64
  pub below : IfSome piece.found (λ byte. byte < piece.length)

-- it loses an exchange only where another number stands there
unfoldable pub IsLost : ℕ → Option ℕ → Type 0
IsLost word None = ⊥
IsLost word (Some byte) = word ≢ byte

-- it tells none only at the input's end, and a byte's number only where that was the next one
unfoldable pub IsGot : Layout → List ℕ → List ℕ → ℕ → Option ℕ → Type 0
IsGot l words left length None = length ≤ word_at l words (Fixed InputCount)
IsGot l words left length (Some byte) =
    (byte < length) × (word_at l words (Fixed InputCount) ≡ byte) × (word_at l left (Fixed InputCount) ≡ byte + 1)

-- one step; where it goes on, its length stays, and a number that it has found is that of the load
abbrev pub GetSteps : Layout → List ℕ → GetByte → Type 0
GetSteps l words piece =
    Steps get_work (λ p. get_steps p.found) words piece (get_op piece.found (place_of l (Fixed InputCount))) (λ word left. ChangesOnly l words left (Fixed InputCount) word)
    (λ left next. OfInput next × (next.length ≡ piece.length) × IfSome next.found (λ byte. word_at l words (Fixed InputCount) ≡ byte))
    (IsLost (word_at l words (Fixed InputCount)) piece.found)
    (λ left out. IsGot l words left piece.length out)

-- alone it takes the next byte of an input of so many, or changes no word at the input's end
abbrev pub GetsAlone : Layout → List ℕ → ℕ → Option ℕ → List ℕ → Type 0
GetsAlone l words length None left = (length ≤ word_at l words (Fixed InputCount)) × (left ≡ words)
GetsAlone l words length (Some byte) left =
    (byte < length) × (word_at l words (Fixed InputCount) ≡ byte) × ChangesOnly l words left (Fixed InputCount) (byte + 1)
