-- A `Finish`: its step, and what it does alone.
use Rattle.std.proofs.Common.{ℕ, List, slice_set, arith, if◌then◌else◌, eqb, refl}
use Rattle.std.proofs.lemmas.List.{set-get_or}
use Rattle.heap_words.specs.Alone.{EndsAlone}
use Rattle.heap_words.specs.declared.op.WordOp.TheVariants.{Exchange}
use Rattle.heap_words.proofs.Rules.{by_equal, ends_at_once}
use Rattle.object_header.specs.Codings.{exit_code}
use Rattle.object_header.specs.Contents.{IsLaidOut, ChangesOnly, word_at}
use Rattle.object_header.specs.WordMap.{Layout, Fixed, place_of}
use Rattle.object_header.specs.declared.codings.ExitWord.TheVariants.{Unset}
use Rattle.object_header.specs.declared.words.FixedWord.TheVariants.{Exit}
use Rattle.object_header.proofs.MapProofs.{map_laws}
use Rattle.thread_slots.specs.Finish.{finish, finish_work, OfExit, IsEnded, FinishSteps}
use Rattle.thread_slots.specs.declared.finish.Finish.{Finish}

module _ (l : Layout) (words : List ℕ) (laid_out : IsLaidOut l words) where
  abbrev exit : ℕ
  exit = word_at l words (Fixed Exit)

  ended : (word : ℕ) → IsEnded l words (slice_set words (place_of l (Fixed Exit)) (if eqb exit 0 then word else exit)) word (eqb exit 0)
  unfolding IsEnded
  ended word =
      by_equal (λ b. IsEnded l words (slice_set words (place_of l (Fixed Exit)) (if b then word else exit)) word b) exit 0
      (λ unset. (unset, map_laws.one_part l words (Fixed Exit) word laid_out tt))
      (λ set. (set, set-get_or words (place_of l (Fixed Exit)) 0))

  pub steps : (piece : Finish) → OfExit piece → FinishSteps l words piece
  steps piece is = record {
    wants_is = refl;
    inside = map_laws.inside l words (Fixed Exit) laid_out tt;
    fits = (map_laws.fits l (Fixed Exit) laid_out.well_formed tt, omega arith, is.fits);
    leaves = map_laws.one_part l words (Fixed Exit) (if eqb exit 0 then piece.word else exit) laid_out tt;
    known = ended piece.word;
  }

pub ends : (l : Layout) (words : List ℕ) (word : ℕ) → IsLaidOut l words → OfExit (finish word) → EndsAlone finish_work 1 (finish word) words (λ out left. IsEnded l words left word out)
ends l words word laid_out is =
    let run = ends_at_once finish_work words (finish word) (λ word left. ChangesOnly l words left (Fixed Exit) word) (λ left out. IsEnded l words left word out) (Exchange (place_of l (Fixed Exit)) (exit_code Unset) word) (steps l words laid_out (finish word) is) in
    record { out = run.out; left = run.left; finishes = run.finishes; holds = run.holds.1 }
