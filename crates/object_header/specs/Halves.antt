-- Where the capability of an object's word is kept: the word's half.
--
-- The header of an object names its table, which has a word for each word of the object: the word's
-- half. A static object's table lies behind it, and any other is a cell of its own. An object with
-- no table has halves that are 0. A table is never the object itself, so a half that is stored
-- leaves the integers of the object as they are.
use Rattle.std.specs.Prelude.{◌≡◌, ◌≢◌, ℕ, ◌+◌, List, Option, Some, None}
use Rattle.object_header.specs.WordMap.{Layout, Site, Part, Fixed, Acknowledgement, Slot, Output, Header, Payload, StaticTable, IsPart, place_of}
use Rattle.object_header.specs.Contents.{IsPartOf, word_at}
use Rattle.object_header.specs.declared.words.HeaderWord.TheVariants.{Table}

-- where the words of the object's table begin, or 0
abbrev pub table_of : Layout → List ℕ → Site → ℕ
table_of l words site = word_at l words (Header site Table)

-- a part that may be a word of a table
abbrev pub IsOfTable : Part → Type 0
IsOfTable (Fixed word) = ⊥
IsOfTable (Acknowledgement slot) = ⊥
IsOfTable (Slot slot word) = ⊥
IsOfTable (Output index) = ⊥
IsOfTable (Header site word) = ⊥
IsOfTable (Payload site word) = Unit {0}
IsOfTable (StaticTable index word) = Unit {0}

-- the object has a table, this part of it is the word's half, and it is no word of the object
pub record IsHalf (l : Layout) (words : List ℕ) (site : Site) (word : ℕ) (half : Part) : Type 0 where
  pub has_table : table_of l words site ≢ 0
  pub in_map : IsPart l half
  pub of_table : IsOfTable half
  pub not_own : ¬ IsPartOf site half
  pub lies : place_of l half ≡ table_of l words site + word

-- a table word that was loaded, and wasn't 0, is the one that the object has
unfoldable pub KnowsTable : Layout → List ℕ → Site → Option ℕ → Type 0
KnowsTable l words site None = Unit {0}
KnowsTable l words site (Some table) = (table ≢ 0) × (table ≡ table_of l words site)
