-- The contents of the heap: the words of a map, part by part.
use Rattle.std.specs.Prelude.{◌≡◌, ◌≢◌, ℕ, ◌*◌, ◌<◌, ◌≤◌, List, length, slice_index}
use Rattle.object_header.specs.Codings.{state_code, size_code}
use Rattle.object_header.specs.WordMap.{Layout, Site, Part, Fixed, Acknowledgement, Slot, Output, Header, Payload, StaticTable, IsWellFormed, IsPart, payload_words, words_of, place_of}
use Rattle.object_header.specs.declared.codings.CellState.TheVariants.{Live}
use Rattle.object_header.specs.declared.codings.Kind.{Kind}
use Rattle.object_header.specs.declared.words.HeaderWord.TheVariants.{State, Mark, Link, Size, Table}

-- the words are those of a map as runs have it
pub record IsLaidOut (l : Layout) (words : List ℕ) : Type 0 where
  pub well_formed : IsWellFormed l
  pub as_many : length words ≡ words_of l

-- the word of a part
abbrev pub word_at : Layout → List ℕ → Part → ℕ
word_at l words part = slice_index words (place_of l part)

-- the word of a site's state
abbrev pub state_at : Layout → List ℕ → Site → ℕ
state_at l words site = word_at l words (Header site State)

-- the part has this word now, and each other part has its old one
pub record ChangesOnly (l : Layout) (old new : List ℕ) (part : Part) (word : ℕ) : Type 0 where
  pub as_many : length new ≡ length old
  pub changed : word_at l new part ≡ word
  pub others : (other : Part) → IsPart l other → other ≢ part → word_at l new other ≡ word_at l old other

-- the part is one of this site's words
abbrev pub IsPartOf : Site → Part → Type 0
IsPartOf site (Fixed word) = ⊥
IsPartOf site (Acknowledgement slot) = ⊥
IsPartOf site (Slot slot word) = ⊥
IsPartOf site (Output index) = ⊥
IsPartOf site (Header other word) = other ≡ site
IsPartOf site (Payload other word) = other ≡ site
IsPartOf site (StaticTable index word) = ⊥

-- each part that isn't the site's has its old word
pub record ChangesWithin (l : Layout) (old new : List ℕ) (site : Site) : Type 0 where
  pub as_many : length new ≡ length old
  pub others : (other : Part) → IsPart l other → ¬ IsPartOf site other → word_at l new other ≡ word_at l old other

-- each part of the site has its old word
pub record KeepsSite (l : Layout) (old new : List ℕ) (site : Site) : Type 0 where
  pub same : (part : Part) → IsPart l part → IsPartOf site part → word_at l new part ≡ word_at l old part

-- the cell is a live one with these bytes, which it holds, with this kind and this mark, and all
-- else of it is 0
pub record IsPublished (l : Layout) (words : List ℕ) (cell : Site) (bytes : ℕ) (kind : Kind) (colour : ℕ) : Type 0 where
  pub fits : bytes ≤ 8 * payload_words l cell
  pub state : word_at l words (Header cell State) ≡ state_code Live
  pub mark : word_at l words (Header cell Mark) ≡ colour
  pub link : word_at l words (Header cell Link) ≡ 0
  pub size : word_at l words (Header cell Size) ≡ size_code bytes kind
  pub table : word_at l words (Header cell Table) ≡ 0
  pub payload : (word : ℕ) → word < payload_words l cell → word_at l words (Payload cell word) ≡ 0
