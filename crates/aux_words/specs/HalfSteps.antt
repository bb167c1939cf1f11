-- What getting a half and setting one have in common: first the table word, and then a word of the
-- table.
use Rattle.std.specs.Prelude.{◌≡◌, ◌≢◌, ◌⊎◌, ℕ, List, Option, Some, None}
use Rattle.object_header.specs.Halves.{table_of, IsHalf, KnowsTable}
use Rattle.object_header.specs.WordMap.{Layout, Site, Part, Header, Payload, IsPart, place_of_header, place_of_word, place_of_site}
use Rattle.object_header.specs.declared.words.HeaderWord.TheVariants.{Table}

-- the place of the table word, and then that of the half
unfoldable pub half_place : ℕ → ℕ → Option ℕ → ℕ
half_place object word None = place_of_header object Table
half_place object word (Some table) = place_of_word table word

-- the same as parts
unfoldable pub half_part : Site → Part → Option ℕ → Part
half_part site half None = Header site Table
half_part site half (Some table) = half

-- how many steps come behind the next one, at most
unfoldable pub half_steps : Option ℕ → ℕ
half_steps None = 1
half_steps (Some table) = 0

-- the piece is about this word of the object, and a table that it has loaded is the object's own
pub record OfWord (l : Layout) (words : List ℕ) (site : Site) (object word : ℕ) (table : Option ℕ) : Type 0 where
  pub in_map : IsPart l (Payload site word)
  pub object_is : object ≡ place_of_site l site
  pub knows : KnowsTable l words site table

-- a table that the object had stands
abbrev pub KeepsTable : Layout → List ℕ → List ℕ → Site → Type 0
KeepsTable l old new site = table_of l old site ≢ 0 → table_of l new site ≡ table_of l old site

-- this is the word's half, or the object has no table
abbrev pub HasHalf : Layout → List ℕ → Site → ℕ → Part → Type 0
HasHalf l words site word half = (table_of l words site ≡ 0) ⊎ IsHalf l words site word half
