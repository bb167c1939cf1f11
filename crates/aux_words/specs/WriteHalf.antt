-- Setting the half of an object's word, step by step.
use Rattle.std.specs.Prelude.{◌≡◌, ◌≢◌, ℕ, ◌^◌, ◌<◌, ◌==◌, List, Option, Some, None, if◌then◌else◌}
use Rattle.heap_words.specs.Steps.{Steps}
use Rattle.heap_words.specs.Work.{Next, Work, with_stage}
use Rattle.heap_words.specs.declared.op.WordOp.{WordOp}
use Rattle.heap_words.specs.declared.op.WordOp.TheVariants.{Load, Store}
use Rattle.heap_words.specs.declared.piece.Step.TheVariants.{More, Done}
use Rattle.object_header.specs.Contents.{ChangesOnly}
use Rattle.object_header.specs.Halves.{table_of}
use Rattle.object_header.specs.WordMap.{Layout, Site, Part, place_of}
use Rattle.aux_words.specs.HalfSteps.{half_place, half_part, half_steps, OfWord}
use Rattle.aux_words.specs.declared.write_half.WriteHalf.{WriteHalf}

-- at its start, with a table that is known or not
abbrev pub write_half : ℕ → ℕ → ℕ → Option ℕ → WriteHalf
write_half object word cap table = record { object = object; word = word; cap = cap; table = table }

-- the load of the table word, and then the store of the half
unfoldable pub write_op : ℕ → Option ℕ → ℕ → WordOp
write_op cap None place = Load place
write_op cap (Some table) place = Store place cap

-- without a table it is done
unfoldable pub write_next : Option ℕ → ℕ → Next (Option ℕ) (Unit {0})
write_next None answer =
    if answer == 0 then record { piece = None; told = Done tt } else record { piece = Some answer; told = More }
write_next (Some table) answer = record { piece = Some table; told = Done tt }

abbrev pub write_work : Work WriteHalf (Unit {0})
write_work = record {
  wants = λ piece. write_op piece.cap piece.table (half_place piece.object piece.word piece.table);
  takes = λ piece answer. with_stage (λ table. record piece { table = table }) (write_next piece.table answer);
}

-- the piece is about this word of the object, and the capability's word is one; where the object
-- has no table, it is that of no capability
pub record OfWrite (l : Layout) (words : List ℕ) (site : Site) (piece : WriteHalf) : Type 0 where
  pub of_word : OfWord l words site piece.object piece.word piece.table
  pub cap_fits : piece.cap < 2 ^ 64
  pub has_table : table_of l words site ≡ 0 → piece.cap ≡ 0

-- the half has the capability's word, and each other part its old one; where the object has no
-- table, no word changes
abbrev pub SetsHalf : Layout → List ℕ → List ℕ → Site → Part → ℕ → Type 0
SetsHalf l old new site half cap =
    (table_of l old site ≡ 0 → (cap ≡ 0) × (new ≡ old)) × (table_of l old site ≢ 0 → ChangesOnly l old new half cap)

-- one step, where this is the word's half
abbrev pub WriteSteps : Layout → List ℕ → Site → Part → WriteHalf → Type 0
WriteSteps l words site half piece =
    Steps write_work (λ p. half_steps p.table) words piece (write_op piece.cap piece.table (place_of l (half_part site half piece.table))) (λ word left. ChangesOnly l words left (half_part site half piece.table) word)
    (λ left next. OfWrite l left site next × (next.word ≡ piece.word) × (next.cap ≡ piece.cap)) ⊥ (λ left out. SetsHalf l words left site half piece.cap)
