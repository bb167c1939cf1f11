-- A part has one of the words, and one word is one part.
use Rattle.std.proofs.Common.{ℕ, ◌<◌, List, length, slice_set, sym, subst}
use Rattle.std.proofs.lemmas.List.{get_or-set_same, get_or-set_other, length-set}
use Rattle.object_header.specs.WordMap.{Layout, Part, IsPart, place_of}
use Rattle.object_header.specs.Contents.{IsLaidOut, ChangesOnly}
use Rattle.object_header.proofs.Covers.{partition}

-- a part lies inside the words
pub place_of-inside : (l : Layout) (words : List ℕ) (part : Part) → IsLaidOut l words → IsPart l part → place_of l part < length words
place_of-inside l words part laid_out is_part =
    subst (λ n. place_of l part < n) (sym laid_out.as_many) ((partition l).inside part is_part)

pub ChangesOnly-set : (l : Layout) (words : List ℕ) (part : Part) (word : ℕ) → IsLaidOut l words → IsPart l part → ChangesOnly l words (slice_set words (place_of l part) word) part word
ChangesOnly-set l words part word laid_out is_part =
    let inside : place_of l part < length words = place_of-inside l words part laid_out is_part in
    record {
      as_many = length-set words (place_of l part) word;
      changed = get_or-set_same words (place_of l part) word 0 inside;
      others = λ other is_other differs. get_or-set_other words (place_of l part) (place_of l other) word 0 (λ same. differs ((partition l).disjoint other part is_other is_part same));
    }
