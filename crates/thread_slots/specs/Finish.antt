-- Ending the run, in one step: where the exit word is unset, it is exchanged.
use Rattle.std.specs.Prelude.{◌≡◌, ◌≢◌, ℕ, ◌^◌, ◌<◌, ◌==◌, List, Bool, true, false}
use Rattle.heap_words.specs.Steps.{Steps}
use Rattle.heap_words.specs.Work.{Work}
use Rattle.heap_words.specs.declared.op.WordOp.TheVariants.{Exchange}
use Rattle.heap_words.specs.declared.piece.Step.TheVariants.{Done}
use Rattle.object_header.specs.Codings.{exit_code}
use Rattle.object_header.specs.Contents.{ChangesOnly, word_at}
use Rattle.object_header.specs.WordMap.{Layout, Fixed, place_of, place_of_fixed}
use Rattle.object_header.specs.declared.codings.ExitWord.TheVariants.{Unset}
use Rattle.object_header.specs.declared.words.FixedWord.TheVariants.{Exit}
use Rattle.thread_slots.specs.declared.finish.Finish.{Finish}

-- at its start
abbrev pub finish : ℕ → Finish
finish word = record { word = word }

-- it won where it found the word unset
abbrev pub finish_work : Work Finish Bool
finish_work = record {
  wants = λ piece. Exchange (place_of_fixed Exit) (exit_code Unset) piece.word;
  takes = λ piece answer. record { piece = piece; told = Done (answer == exit_code Unset) };
}

-- the word is below 2^64 and not the unset one; the piece asks no more of an exit word
pub record OfExit (piece : Finish) : Type 0 where
  pub fits : piece.word < 2 ^ 64
  pub is_set : piece.word ≢ exit_code Unset

-- it tells that it ended the run exactly where the exit word was unset; then that word is its own,
-- and else it stays
unfoldable pub IsEnded : Layout → List ℕ → List ℕ → ℕ → Bool → Type 0
IsEnded l words left word true =
    (word_at l words (Fixed Exit) ≡ exit_code Unset) × ChangesOnly l words left (Fixed Exit) word
IsEnded l words left word false = (word_at l words (Fixed Exit) ≢ exit_code Unset) × (left ≡ words)

-- its step
abbrev pub FinishSteps : Layout → List ℕ → Finish → Type 0
FinishSteps l words piece =
    Steps finish_work (λ p. 0) words piece (Exchange (place_of l (Fixed Exit)) (exit_code Unset) piece.word) (λ word left. ChangesOnly l words left (Fixed Exit) word)
    (λ left next. ⊥) ⊥ (λ left out. IsEnded l words left piece.word out)
