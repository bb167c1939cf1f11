-- What getting a half and setting one have in common.
use Rattle.std.proofs.Common.{◌≡◌, ℕ, ◌+◌, ◌^◌, ◌<◌, List, Option, Some, None, inl, inr, refl, sym, ap, ◌∙◌, arith}
use Rattle.object_header.specs.Contents.{IsLaidOut, ChangesOnly, word_at}
use Rattle.object_header.specs.Halves.{table_of, IsHalf, KnowsTable}
use Rattle.object_header.specs.WordMap.{Layout, Site, Part, Header, Payload, IsPart, place_of, place_of_word, place_of_site, place_of_header}
use Rattle.object_header.specs.declared.words.HeaderWord.TheVariants.{Table}
use Rattle.object_header.proofs.MapProofs.{map_laws}
use Rattle.aux_words.specs.HalfSteps.{OfWord, KeepsTable, HasHalf}

-- the object of the piece has its table word there
pub header_at : (l : Layout) (site : Site) (object : ℕ) → object ≡ place_of_site l site → place_of_header object Table ≡ place_of l (Header site Table)
header_at l site object is = ap (λ o. place_of_header o Table) is ∙ map_laws.header l site Table

small_place : (first word place : ℕ) → place ≡ first + word → place < 2 ^ 64 → place_of_word first word ≡ place
small_place first word place is small = omega arith

-- where a table is known, there is a half, and it lies in that table
pub known_half : (l : Layout) (words : List ℕ) (site : Site) (word table : ℕ) (half : Part) → KnowsTable l words site (Some table) → HasHalf l words site word half → IsHalf l words site word half
unfolding KnowsTable
known_half l words site word table half knows (inl none) = absurd (knows.0 (knows.1 ∙ none))
known_half l words site word table half knows (inr is) = is

pub half_at : (l : Layout) (words : List ℕ) (site : Site) (word table : ℕ) (half : Part) → IsLaidOut l words → KnowsTable l words site (Some table) → IsHalf l words site word half → place_of_word table word ≡ place_of l half
unfolding KnowsTable
half_at l words site word table half laid_out knows is =
    ap (λ t. place_of_word t word) knows.1 ∙ small_place (table_of l words site) word (place_of l half) is.lies (map_laws.fits l half laid_out.well_formed is.in_map)

pub starts : (l : Layout) (words : List ℕ) (site : Site) (word : ℕ) → IsPart l (Payload site word) → OfWord l words site (place_of_site l site) word None
unfolding KnowsTable
starts l words site word is = record { in_map = is; object_is = refl; knows = tt }

pub KnowsTable-kept : (l : Layout) (old new : List ℕ) (site : Site) (table : Option ℕ) → KeepsTable l old new site → KnowsTable l old site table → KnowsTable l new site table
unfolding KnowsTable
KnowsTable-kept l old new site None stays knows = tt
KnowsTable-kept l old new site (Some table) stays knows = (knows.0, knows.1 ∙ sym (stays (λ none. knows.0 (knows.1 ∙ none))))

pub keeps : (l : Layout) (old new : List ℕ) (site : Site) (object word : ℕ) (table : Option ℕ) → KeepsTable l old new site → OfWord l old site object word table → OfWord l new site object word table
keeps l old new site object word table stays is = record { in_map = is.in_map; object_is = is.object_is; knows = KnowsTable-kept l old new site table stays is.knows }

-- a stored half is no word of the object: its integers and its header stay
pub word_stays : (l : Layout) (old new : List ℕ) (site : Site) (word cap other : ℕ) (half : Part) → IsHalf l old site word half → ChangesOnly l old new half cap → IsPart l (Payload site other) → word_at l new (Payload site other) ≡ word_at l old (Payload site other)
word_stays l old new site word cap other half is changes in_map = (map_laws.other_sites_stay l old new half cap site changes is.not_own).same (Payload site other) in_map refl

pub half_stays : (l : Layout) (old new : List ℕ) (site : Site) (word cap : ℕ) (half : Part) → IsPart l (Payload site word) → IsHalf l old site word half → ChangesOnly l old new half cap → IsHalf l new site word half
half_stays l old new site word cap half in_map is changes =
    let table : table_of l new site ≡ table_of l old site = (map_laws.other_sites_stay l old new half cap site changes is.not_own).same (Header site Table) in_map.0 refl in
    record {
      has_table = λ none. is.has_table (sym table ∙ none);
      in_map = is.in_map;
      of_table = is.of_table;
      not_own = is.not_own;
      lies = is.lies ∙ ap (λ t. t + word) (sym table);
    }
