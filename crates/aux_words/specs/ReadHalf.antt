-- Getting the half of an object's word, step by step.
use Rattle.std.specs.Prelude.{◌≡◌, ◌≢◌, ℕ, ◌==◌, List, Option, Some, None, if◌then◌else◌}
use Rattle.heap_words.specs.Steps.{Steps}
use Rattle.heap_words.specs.Work.{Next, Work, with_stage}
use Rattle.heap_words.specs.declared.op.WordOp.TheVariants.{Load}
use Rattle.heap_words.specs.declared.piece.Step.TheVariants.{More, Done}
use Rattle.object_header.specs.Contents.{ChangesOnly, word_at}
use Rattle.object_header.specs.Halves.{table_of}
use Rattle.object_header.specs.WordMap.{Layout, Site, Part, place_of}
use Rattle.aux_words.specs.HalfSteps.{half_place, half_part, half_steps, OfWord}
use Rattle.aux_words.specs.declared.read_half.ReadHalf.{ReadHalf}

-- at its start
abbrev pub read_half : ℕ → ℕ → ReadHalf
read_half object word = record { object = object; word = word; table = None }

-- without a table it tells 0, and else the half
unfoldable pub read_next : Option ℕ → ℕ → Next (Option ℕ) ℕ
read_next None answer =
    if answer == 0 then record { piece = None; told = Done 0 } else record { piece = Some answer; told = More }
read_next (Some table) answer = record { piece = Some table; told = Done answer }

abbrev pub read_work : Work ReadHalf ℕ
read_work = record {
  wants = λ piece. Load (half_place piece.object piece.word piece.table);
  takes = λ piece answer. with_stage (λ table. record piece { table = table }) (read_next piece.table answer);
}

-- the word of the half, which is 0 where the object has no table
abbrev pub IsHalfWord : Layout → List ℕ → Site → Part → ℕ → Type 0
IsHalfWord l words site half word =
    (table_of l words site ≡ 0 → word ≡ 0) × (table_of l words site ≢ 0 → word ≡ word_at l words half)

-- one step, where this is the word's half
abbrev pub ReadSteps : Layout → List ℕ → Site → Part → ReadHalf → Type 0
ReadSteps l words site half piece =
    Steps read_work (λ p. half_steps p.table) words piece (Load (place_of l (half_part site half piece.table))) (λ word left. ChangesOnly l words left (half_part site half piece.table) word)
    (λ left next. OfWord l left site next.object next.word next.table × (next.word ≡ piece.word)) ⊥ (λ left out. IsHalfWord l words site half out)
