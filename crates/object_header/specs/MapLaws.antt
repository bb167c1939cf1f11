-- The laws of the map that each piece of heap work rests on.
use Rattle.std.specs.Prelude.{◌≡◌, ◌≢◌, ℕ, ◌+◌, ◌^◌, ◌<◌, ◌≤◌, List, length, slice_set}
use Rattle.object_header.specs.Contents.{IsLaidOut, ChangesOnly, IsPartOf, KeepsSite}
use Rattle.object_header.specs.Halves.{table_of, IsHalf}
use Rattle.object_header.specs.WordMap.{Layout, Site, Static, Part, Header, Payload, StaticTable, IsWellFormed, IsSite, IsPart, IsCell, IsStaticTable, IsPartition, IsWordOf, static_at, static_size, payload_words, place_of, place_of_site, place_of_header, place_of_word}
use Rattle.object_header.specs.declared.words.HeaderWord.{HeaderWord}

pub record MapLaws : Type 0 where
  -- the parts of a map are disjoint and cover it, and each has one of the words
  pub partition : (l : Layout) → IsPartition l
  pub inside : (l : Layout) (words : List ℕ) (part : Part) → IsLaidOut l words → IsPart l part → place_of l part < length words
  pub fits : (l : Layout) (part : Part) → IsWellFormed l → IsPart l part → place_of l part < 2 ^ 64
  -- where one word is set, one part has it, and the other parts stay; so does each other site
  pub one_part : (l : Layout) (words : List ℕ) (part : Part) (word : ℕ) → IsLaidOut l words → IsPart l part → ChangesOnly l words (slice_set words (place_of l part) word) part word
  pub laid_out : (l : Layout) (old new : List ℕ) (part : Part) (word : ℕ) → IsLaidOut l old → ChangesOnly l old new part word → IsLaidOut l new
  pub other_sites_stay : (l : Layout) (old new : List ℕ) (part : Part) (word : ℕ) (site : Site) → ChangesOnly l old new part word → ¬ IsPartOf site part → KeepsSite l old new site
  -- where the place of an object, a cell or a table is known, those of its words need no map
  pub header : (l : Layout) (site : Site) (word : HeaderWord) → place_of_header (place_of_site l site) word ≡ place_of l (Header site word)
  pub payload : (l : Layout) (site : Site) (word : ℕ) → IsWellFormed l → IsPart l (Payload site word) → place_of_word (place_of_site l site) word ≡ place_of l (Payload site word)
  pub static_table : (l : Layout) (index word : ℕ) → IsWellFormed l → IsPart l (StaticTable index word) → place_of_word (place_of l (StaticTable index 0)) word ≡ place_of l (StaticTable index word)
  -- a place tells the site, and so does a part; the next static comes behind a static and its table
  pub one_site : (l : Layout) (site other : Site) → IsSite l site → IsSite l other → place_of_site l site ≡ place_of_site l other → site ≡ other
  pub one_owner : (site other : Site) (part : Part) → IsPartOf site part → IsPartOf other part → site ≡ other
  pub next_static : (l : Layout) (index : ℕ) → index < length l.statics → place_of_site l (Static (index + 1)) ≡ place_of_site l (Static index) + static_size (static_at l.statics index)
  -- two cells share no word
  pub cells_apart : (classes : List (ℕ × ℕ)) (class cell other_class other_cell word : ℕ) → IsCell classes class cell → IsCell classes other_class other_cell → IsWordOf classes class cell word → IsWordOf classes other_class other_cell word → (other_class ≡ class) × (other_cell ≡ cell)
  -- a word of an object has a half where the object's table word names its own table, or another
  -- site of at least as many words
  pub own_half : (l : Layout) (words : List ℕ) (index word : ℕ) → IsStaticTable l.statics index word → table_of l words (Static index) ≡ place_of l (StaticTable index 0) → IsHalf l words (Static index) word (StaticTable index word)
  pub cell_half : (l : Layout) (words : List ℕ) (site table : Site) (word : ℕ) → IsPart l (Payload site word) → IsSite l table → table ≢ site → payload_words l site ≤ payload_words l table → table_of l words site ≡ place_of_site l table → IsHalf l words site word (Payload table word)
