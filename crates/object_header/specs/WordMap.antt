-- The map of words: what each word of the heap is for.
--
-- The words lie in this order: eight single words, an acknowledgement for each thread slot, five
-- words for each slot, the output words, the static objects, and then the cells of the heap, class
-- by class. A static object and a cell are sites alike: five header words, and then the payload.
-- Behind a static's payload lies its table of as many words, where it has one.
--
-- A part is one word's use. `place_of` says where a part lies, and `IsPartition` that the parts of
-- a map are disjoint and cover it.
use Rattle.std.specs.Prelude.{◌≡◌, ℕ, ◌+◌, ◌-◌, ◌*◌, ◌%◌, ◌^◌, ◌<◌, ◌≤◌, Bool, true, ◌&&◌, nat_lt, IsTrue, List, [], ◌∷◌, length, take, sum_by, slice_index_or, if◌then◌else◌}
use Rattle.std.specs.List.{list_all}
use Rattle.object_header.specs.declared.words.FixedWord.{FixedWord}
use Rattle.object_header.specs.declared.words.FixedWord.TheVariants.{Exit, Order, Cycle, Request, GreyHead, OutputHint, InputCount, Unused}
use Rattle.object_header.specs.declared.words.SlotWord.{SlotWord}
use Rattle.object_header.specs.declared.words.SlotWord.TheVariants.{State, Function, Address, Capability, Result}
use Rattle.object_header.specs.declared.words.HeaderWord.{HeaderWord}
use Rattle.object_header.specs.declared.words.HeaderWord.TheVariants.{State as HeaderState, Mark, Link, Size, Table}
use Rattle.object_header.specs.declared.words.StaticSize.{StaticSize}

-- what a map is made of; a class is a pair of its payload words and its number of cells
pub record Layout : Type 0 where
  pub slots : ℕ
  pub out_words : ℕ
  pub statics : List StaticSize
  pub classes : List (ℕ × ℕ)

-- what has a header: a static object by its number, or a cell by its class and its number there
pub data Site : Type 0 where
  Static : (index : ℕ) → Site
  Cell : (class cell : ℕ) → Site

-- what a word is for
pub data Part : Type 0 where
  Fixed : (word : FixedWord) → Part
  Acknowledgement : (slot : ℕ) → Part
  Slot : (slot : ℕ) (word : SlotWord) → Part
  Output : (index : ℕ) → Part
  Header : (site : Site) (word : HeaderWord) → Part
  Payload : (site : Site) (word : ℕ) → Part
  StaticTable : (index word : ℕ) → Part

-- the places of the single words
abbrev pub place_of_fixed : FixedWord → ℕ
place_of_fixed Exit = 0
place_of_fixed Order = 1
place_of_fixed Cycle = 2
place_of_fixed Request = 3
place_of_fixed GreyHead = 4
place_of_fixed OutputHint = 5
place_of_fixed InputCount = 6
place_of_fixed Unused = 7

-- the order of a slot's words
abbrev pub slot_word_number : SlotWord → ℕ
slot_word_number State = 0
slot_word_number Function = 1
slot_word_number Address = 2
slot_word_number Capability = 3
slot_word_number Result = 4

-- the order of the header words
abbrev pub header_word_number : HeaderWord → ℕ
header_word_number HeaderState = 0
header_word_number Mark = 1
header_word_number Link = 2
header_word_number Size = 3
header_word_number Table = 4

-- the place of a slot's acknowledgement
abbrev pub place_of_acknowledgement : ℕ → ℕ
place_of_acknowledgement slot = 8 + slot

-- the place of a slot's word, where there are so many slots
abbrev pub place_of_slot : ℕ → ℕ → SlotWord → ℕ
place_of_slot slots slot word = 8 + slots + 5 * slot + slot_word_number word

-- the place of an output word, where there are so many slots
abbrev pub place_of_output : ℕ → ℕ → ℕ
place_of_output slots index = 8 + 6 * slots + index

-- the place of a header word, where the first payload word has this place
abbrev pub place_of_header : ℕ → HeaderWord → ℕ
place_of_header place word = place - 5 + header_word_number word

-- the place of a word, counted from the first one; it is reckoned in 64 bits
abbrev pub place_of_word : ℕ → ℕ → ℕ
place_of_word first word = (first + word) % 2 ^ 64

-- how many words a static takes, with its header and its table
abbrev pub static_size : StaticSize → ℕ
static_size s = 5 + s.words + (if s.table then s.words else 0)

-- where the statics begin, and where they end and the cells begin
abbrev pub statics_start : Layout → ℕ
statics_start l = 8 + 6 * l.slots + l.out_words

abbrev pub cells_start : Layout → ℕ
cells_start l = statics_start l + sum_by static_size l.statics

-- the class of that number
abbrev pub class_at : List (ℕ × ℕ) → ℕ → ℕ × ℕ
class_at classes class = slice_index_or classes class (0, 0)

-- how many words a cell of a class takes, with its header
abbrev pub cell_size : ℕ × ℕ → ℕ
cell_size class = class.0 + 5

-- how many words the cells of a class take, with their headers
abbrev pub class_size : ℕ × ℕ → ℕ
class_size class = class.1 * cell_size class

-- how many words the cells of these classes take
abbrev pub words_together : List (ℕ × ℕ) → ℕ
words_together classes = sum_by class_size classes

-- how many words the map has
abbrev pub words_of : Layout → ℕ
words_of l = cells_start l + words_together l.classes

-- the static of that number
abbrev pub static_at : List StaticSize → ℕ → StaticSize
static_at statics index = slice_index_or statics index (record { words = 0; table = true })

-- where a cell begins among the cells, with its header
abbrev pub cell_offset : List (ℕ × ℕ) → ℕ → ℕ → ℕ
cell_offset classes class cell =
    words_together (take class classes) + cell * cell_size (class_at classes class)

-- where a site begins, with its header
abbrev pub site_start : Layout → Site → ℕ
site_start l (Static index) = statics_start l + sum_by static_size (take index l.statics)
site_start l (Cell class cell) = cells_start l + cell_offset l.classes class cell

-- a site's place: that of its first payload word
abbrev pub place_of_site : Layout → Site → ℕ
place_of_site l site = site_start l site + 5

-- how many payload words a site has
abbrev pub payload_words : Layout → Site → ℕ
payload_words l (Static index) = (static_at l.statics index).words
payload_words l (Cell class cell) = (class_at l.classes class).0

-- there is such a class, and it has such a cell
pub record IsCell (classes : List (ℕ × ℕ)) (class cell : ℕ) : Type 0 where
  pub class_in_range : class < length classes
  pub cell_in_range : cell < (class_at classes class).1

-- the word is one of the cell's, of its header or of its payload, counted from the first cell's
-- start
pub record IsWordOf (classes : List (ℕ × ℕ)) (class cell word : ℕ) : Type 0 where
  pub from_start : cell_offset classes class cell ≤ word
  pub before_end : word < cell_offset classes class cell + cell_size (class_at classes class)

-- the map has such a site
abbrev pub IsSite : Layout → Site → Type 0
IsSite l (Static index) = index < length l.statics
IsSite l (Cell class cell) = IsCell l.classes class cell

-- a static has such a table word
pub record IsStaticTable (statics : List StaticSize) (index word : ℕ) : Type 0 where
  pub index_in_range : index < length statics
  pub has_table : (static_at statics index).table ≡ true
  pub word_in_range : word < (static_at statics index).words

-- the map has such a part
abbrev pub IsPart : Layout → Part → Type 0
IsPart l (Fixed word) = Unit {0}
IsPart l (Acknowledgement slot) = slot < l.slots
IsPart l (Slot slot word) = slot < l.slots
IsPart l (Output index) = index < l.out_words
IsPart l (Header site word) = IsSite l site
IsPart l (Payload site word) = IsSite l site × (word < payload_words l site)
IsPart l (StaticTable index word) = IsStaticTable l.statics index word

-- a map of these slots, output words, statics and classes
abbrev pub layout_of : ℕ → ℕ → List StaticSize → List (ℕ × ℕ) → Layout
layout_of slots out_words statics classes = record {
  slots = slots;
  out_words = out_words;
  statics = statics;
  classes = classes;
}

-- where a part lies
abbrev pub place_of : Layout → Part → ℕ
place_of l (Fixed word) = place_of_fixed word
place_of l (Acknowledgement slot) = place_of_acknowledgement slot
place_of l (Slot slot word) = place_of_slot l.slots slot word
place_of l (Output index) = place_of_output l.slots index
place_of l (Header site word) = site_start l site + header_word_number word
place_of l (Payload site word) = place_of_site l site + word
place_of l (StaticTable index word) =
    place_of_site l (Static index) + (static_at l.statics index).words + word

-- each class has more payload words than the one before it
abbrev pub ascends : List (ℕ × ℕ) → Bool
ascends [] = true
ascends (c ∷ []) = true
ascends (c ∷ (d ∷ ds)) = nat_lt c.0 d.0 && ascends (d ∷ ds)

-- a map as runs have it: some slots and at most 64, some output words, some classes and at most 14
-- that ascend and have cells, and fewer than 2^60 words
pub record IsWellFormed (l : Layout) : Type 0 where
  pub some_slot : 0 < l.slots
  pub few_slots : l.slots ≤ 64
  pub some_output : 0 < l.out_words
  pub some_class : 0 < length l.classes
  pub few_classes : length l.classes ≤ 14
  pub ascending : IsTrue (ascends l.classes)
  pub some_cell : IsTrue (list_all (λ class. nat_lt 0 class.1) l.classes)
  pub small : words_of l < 2 ^ 60

-- the parts of a map are disjoint and cover it
pub record IsPartition (l : Layout) : Type 0 where
  pub inside : (part : Part) → IsPart l part → place_of l part < words_of l
  pub disjoint : (part other : Part) → IsPart l part → IsPart l other → place_of l part ≡ place_of l other → part ≡ other
  pub covers : (place : ℕ) → place < words_of l → (part : Part) × IsPart l part × (place_of l part ≡ place)
