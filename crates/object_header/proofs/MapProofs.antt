-- The laws of the map, each by its lemma.
use Rattle.std.proofs.Common.{◌≡◌, ◌≢◌, ℕ, ◌+◌, ◌*◌, ◌^◌, ◌<◌, ◌≤◌, List, length, take, inl, inr, sym, ap, ◌∙◌, subst, arith}
use Rattle.std.proofs.lemmas.Bool.{cases_lt}
use Rattle.std.proofs.Math.Nat.{mul-le-mul_right}
use Rattle.object_header.specs.Contents.{IsLaidOut, ChangesOnly, IsPartOf, KeepsSite}
use Rattle.object_header.specs.Halves.{table_of, IsHalf}
use Rattle.object_header.specs.MapLaws.{MapLaws}
use Rattle.object_header.specs.WordMap.{Layout, Site, Static, Part, Fixed, Acknowledgement, Slot, Output, Header, Payload, StaticTable, IsWellFormed, IsSite, IsPart, IsCell, IsWordOf, IsStaticTable, cell_size, class_at, static_at, static_size, words_together, payload_words, place_of, place_of_site, place_of_header, place_of_word}
use Rattle.object_header.specs.declared.words.HeaderWord.{HeaderWord}
use Rattle.object_header.proofs.Sites.{one_site, next_static}
use Rattle.object_header.proofs.CellLemmas.{words_together-mono, cell_end}
use Rattle.object_header.proofs.Contents.{place_of-inside, ChangesOnly-set}
use Rattle.object_header.proofs.Covers.{partition}

-- a part that isn't the site's differs from one that is
other_sites_stay : (l : Layout) (old new : List ℕ) (part : Part) (word : ℕ) (site : Site) → ChangesOnly l old new part word → ¬ IsPartOf site part → KeepsSite l old new site
other_sites_stay l old new part word site changes other =
    record { same = λ mine is of_site. changes.others mine is (λ same. other (subst (λ p. IsPartOf site p) same of_site)) }

laid_out : (l : Layout) (old new : List ℕ) (part : Part) (word : ℕ) → IsLaidOut l old → ChangesOnly l old new part word → IsLaidOut l new
laid_out l old new part word is changes = record { well_formed = is.well_formed; as_many = changes.as_many ∙ is.as_many }

one_owner : (site other : Site) (part : Part) → IsPartOf site part → IsPartOf other part → site ≡ other
one_owner site other (Fixed word) mine its = absurd mine
one_owner site other (Acknowledgement slot) mine its = absurd mine
one_owner site other (Slot slot word) mine its = absurd mine
one_owner site other (Output index) mine its = absurd mine
one_owner site other (Header owner word) mine its = sym mine ∙ its
one_owner site other (Payload owner word) mine its = sym mine ∙ its
one_owner site other (StaticTable index word) mine its = absurd mine

place_of-fits : (l : Layout) (part : Part) → IsWellFormed l → IsPart l part → place_of l part < 2 ^ 64
place_of-fits l part well_formed is = omega (arith, (partition l).inside part is, well_formed.small)

header_place : (l : Layout) (site : Site) (word : HeaderWord) → place_of_header (place_of_site l site) word ≡ place_of l (Header site word)
header_place l site word = omega arith

payload_place : (l : Layout) (site : Site) (word : ℕ) → IsWellFormed l → IsPart l (Payload site word) → place_of_word (place_of_site l site) word ≡ place_of l (Payload site word)
payload_place l site word well_formed is = omega (arith, (partition l).inside (Payload site word) is, well_formed.small)

table_place : (l : Layout) (index word : ℕ) → IsWellFormed l → IsPart l (StaticTable index word) → place_of_word (place_of l (StaticTable index 0)) word ≡ place_of l (StaticTable index word)
table_place l index word well_formed is = omega (arith, (partition l).inside (StaticTable index word) is, well_formed.small)

next_place : (l : Layout) (index : ℕ) → index < length l.statics → place_of_site l (Static (index + 1)) ≡ place_of_site l (Static index) + static_size (static_at l.statics index)
next_place l index h = omega (arith, next_static l index h)

-- a class before another one ends before it begins
class_before : (classes : List (ℕ × ℕ)) (class cell other_class other_cell word : ℕ) → IsCell classes class cell → IsWordOf classes class cell word → IsWordOf classes other_class other_cell word → class < other_class → ⊥
class_before classes class cell other_class other_cell word is mine other before =
    omega (arith, mine.before_end, other.from_start, cell_end classes class cell is, words_together-mono classes (class + 1) other_class (omega arith))

cell_before : (from size cell other_cell word : ℕ) → word < from + cell * size + size → from + other_cell * size ≤ word → cell < other_cell → ⊥
cell_before from size cell other_cell word mine other before =
    omega (arith, mul-le-mul_right {m = cell + 1} {n = other_cell} size (omega arith))

cells_apart : (classes : List (ℕ × ℕ)) (class cell other_class other_cell word : ℕ) → IsCell classes class cell → IsCell classes other_class other_cell → IsWordOf classes class cell word → IsWordOf classes other_class other_cell word → (other_class ≡ class) × (other_cell ≡ cell)
cells_apart classes class cell other_class other_cell word is other_is mine other =
    let same : other_class ≡ class = elim (cases_lt class other_class) [
      | inl before ↦ absurd (class_before classes class cell other_class other_cell word is mine other before)
      | inr h ↦ elim (cases_lt other_class class) [
        | inl behind ↦ absurd (class_before classes other_class other_cell class cell word other_is other mine behind)
        | inr h' ↦ omega arith
      ]
    ] in
    let here : IsWordOf classes class other_cell word = subst (λ c. IsWordOf classes c other_cell word) same other in (
      same,
      elim (cases_lt cell other_cell) [
        | inl before ↦ absurd (cell_before (words_together (take class classes)) (cell_size (class_at classes class)) cell other_cell word (omega (arith, mine.before_end)) (omega (arith, here.from_start)) before)
        | inr h ↦ elim (cases_lt other_cell cell) [
          | inl behind ↦ absurd (cell_before (words_together (take class classes)) (cell_size (class_at classes class)) other_cell cell word (omega (arith, here.before_end)) (omega (arith, mine.from_start)) behind)
          | inr h' ↦ omega arith
        ]
      ],
    )

own_half : (l : Layout) (words : List ℕ) (index word : ℕ) → IsStaticTable l.statics index word → table_of l words (Static index) ≡ place_of l (StaticTable index 0) → IsHalf l words (Static index) word (StaticTable index word)
own_half l words index word is names = record {
  has_table = λ none. omega arith;
  in_map = is;
  of_table = tt;
  not_own = λ own. own;
  lies = omega arith;
}

cell_half : (l : Layout) (words : List ℕ) (site table : Site) (word : ℕ) → IsPart l (Payload site word) → IsSite l table → table ≢ site → payload_words l site ≤ payload_words l table → table_of l words site ≡ place_of_site l table → IsHalf l words site word (Payload table word)
cell_half l words site table word is is_table differs fits names = record {
  has_table = λ none. omega arith;
  in_map = (is_table, omega (arith, is.1));
  of_table = tt;
  not_own = λ own. differs own;
  lies = ap (λ place. place + word) (sym names);
}

pub map_laws : MapLaws
map_laws = record {
  partition = partition;
  inside = place_of-inside;
  fits = place_of-fits;
  one_part = ChangesOnly-set;
  laid_out = laid_out;
  other_sites_stay = other_sites_stay;
  header = header_place;
  payload = payload_place;
  static_table = table_place;
  one_site = one_site;
  one_owner = one_owner;
  next_static = next_place;
  cells_apart = cells_apart;
  own_half = own_half;
  cell_half = cell_half;
}
