-- The parts of a map are disjoint, since a place tells its part, and cover it.
use Rattle.std.proofs.Common.{◌≡◌, ℕ, ◌+◌, ◌-◌, ◌*◌, ◌/◌, ◌%◌, ◌<◌, zero, suc, Bool, true, false, nat_lt, if◌then◌else◌, List, [], ◌∷◌, length, take, sum_by, refl, sym, ap, ◌∙◌, subst, zero-add, add-zero, add_assoc, arith}
use Rattle.std.proofs.lemmas.Bool.Decides.{nat_tests}
use Rattle.object_header.specs.WordMap.{Layout, Static, Cell, Part, Fixed, Acknowledgement, Slot, Output, Header, Payload, StaticTable, slot_word_number, header_word_number, static_size, class_at, static_at, cell_offset, site_start, IsCell, IsPart, place_of}
use Rattle.object_header.specs.declared.words.FixedWord.{FixedWord}
use Rattle.object_header.specs.declared.words.FixedWord.TheVariants.{Exit, Order, Cycle, Request, GreyHead, OutputHint, InputCount, Unused}
use Rattle.object_header.specs.declared.words.SlotWord.{SlotWord}
use Rattle.object_header.specs.declared.words.SlotWord.TheVariants.{State, Function, Address, Capability, Result}
use Rattle.object_header.specs.declared.words.HeaderWord.{HeaderWord}
use Rattle.object_header.specs.declared.words.HeaderWord.TheVariants.{State as HeaderState, Mark, Link, Size, Table}
use Rattle.object_header.specs.declared.words.StaticSize.{StaticSize}
use Rattle.std.proofs.lemmas.List.Sums.{sum_by_more_le, sum_by-cons}
use Rattle.std.proofs.lemmas.Nat.{div-mul-add, mod-mul-add}
use Rattle.std.proofs.Math.Nat.{mul-le-mul_right}

-- the part at a place below n is that of the front, and behind it that of the rest
abbrev split : ℕ → ℕ → (ℕ → Part) → (ℕ → Part) → Part
split n place front rest = if nat_lt place n then front place else rest (place - n)

split-front : (n place : ℕ) (front rest : ℕ → Part) → place < n → split n place front rest ≡ front place
split-front n place front rest h = grind (arith, nat_tests)

split-rest : (n place : ℕ) (front rest : ℕ → Part) → split n (n + place) front rest ≡ rest place
split-rest n place front rest =
    let past : nat_lt (n + place) n ≡ false = grind (arith, nat_tests) in
    let less : n + place - n ≡ place = omega arith in
    rw (past, less) refl

-- the single word at a place
abbrev pub fixed_from : ℕ → FixedWord
fixed_from zero = Exit
fixed_from (suc zero) = Order
fixed_from (suc (suc zero)) = Cycle
fixed_from (suc (suc (suc zero))) = Request
fixed_from (suc (suc (suc (suc zero)))) = GreyHead
fixed_from (suc (suc (suc (suc (suc zero))))) = OutputHint
fixed_from (suc (suc (suc (suc (suc (suc zero)))))) = InputCount
fixed_from (suc (suc (suc (suc (suc (suc (suc n))))))) = Unused

-- the slot word of a number
abbrev pub slot_word_from : ℕ → SlotWord
slot_word_from zero = State
slot_word_from (suc zero) = Function
slot_word_from (suc (suc zero)) = Address
slot_word_from (suc (suc (suc zero))) = Capability
slot_word_from (suc (suc (suc (suc n)))) = Result

-- the header word of a number
abbrev pub header_word_from : ℕ → HeaderWord
header_word_from zero = HeaderState
header_word_from (suc zero) = Mark
header_word_from (suc (suc zero)) = Link
header_word_from (suc (suc (suc zero))) = Size
header_word_from (suc (suc (suc (suc n)))) = Table

header_word_from-number : (word : HeaderWord) → header_word_from (header_word_number word) ≡ word
header_word_from-number HeaderState = refl
header_word_from-number Mark = refl
header_word_from-number Link = refl
header_word_from-number Size = refl
header_word_from-number Table = refl

pub header_word_number-small : (word : HeaderWord) → header_word_number word < 5
header_word_number-small HeaderState = omega arith
header_word_number-small Mark = omega arith
header_word_number-small Link = omega arith
header_word_number-small Size = omega arith
header_word_number-small Table = omega arith

pub header_word_number-from : (n : ℕ) → n < 5 → header_word_number (header_word_from n) ≡ n
header_word_number-from zero h = refl
header_word_number-from (suc zero) h = refl
header_word_number-from (suc (suc zero)) h = refl
header_word_number-from (suc (suc (suc zero))) h = refl
header_word_number-from (suc (suc (suc (suc n)))) h = omega arith

slot_word_from-number : (word : SlotWord) → slot_word_from (slot_word_number word) ≡ word
slot_word_from-number State = refl
slot_word_from-number Function = refl
slot_word_from-number Address = refl
slot_word_from-number Capability = refl
slot_word_from-number Result = refl

pub slot_word_number-small : (word : SlotWord) → slot_word_number word < 5
slot_word_number-small State = omega arith
slot_word_number-small Function = omega arith
slot_word_number-small Address = omega arith
slot_word_number-small Capability = omega arith
slot_word_number-small Result = omega arith

pub slot_word_number-from : (n : ℕ) → n < 5 → slot_word_number (slot_word_from n) ≡ n
slot_word_number-from zero h = refl
slot_word_number-from (suc zero) h = refl
slot_word_number-from (suc (suc zero)) h = refl
slot_word_number-from (suc (suc (suc zero))) h = refl
slot_word_number-from (suc (suc (suc (suc n)))) h = omega arith

-- the slot's word at a place from the first slot on
abbrev slot_part : ℕ → Part
slot_part place = Slot (place / 5) (slot_word_from (place % 5))

-- the part of a static at a place from its start on
abbrev in_static : ℕ → ℕ → ℕ → Part
in_static index words place = split 5 place (λ n. Header (Static index) (header_word_from n)) (λ n. split words n (Payload (Static index)) (StaticTable index))

-- the part at a place from the first of these statics on, which have numbers from `index` on
abbrev static_part : ℕ → List StaticSize → ℕ → Part
static_part index [] place = Fixed Unused
static_part index (s ∷ ss) place = split (static_size s) place (in_static index s.words) (static_part (suc index) ss)

-- the part of a cell at a place from its start on
abbrev in_cell : ℕ → ℕ → ℕ → Part
in_cell class cell place = split 5 place (λ n. Header (Cell class cell) (header_word_from n)) (Payload (Cell class cell))

-- the part at a place from the first of these classes on, which have numbers from `class` on
abbrev cell_part : ℕ → List (ℕ × ℕ) → ℕ → Part
cell_part class [] place = Fixed Unused
cell_part class (c ∷ cs) place = split (c.1 * (c.0 + 5)) place (λ n. in_cell class (n / (c.0 + 5)) (n % (c.0 + 5))) (cell_part (suc class) cs)

-- the part at a place from the statics on, from the output words on, from the slots on, from the
-- acknowledgements on
abbrev from_statics : Layout → ℕ → Part
from_statics l place = split (sum_by static_size l.statics) place (static_part zero l.statics) (cell_part zero l.classes)

abbrev from_output : Layout → ℕ → Part
from_output l place = split l.out_words place Output (from_statics l)

abbrev from_slots : Layout → ℕ → Part
from_slots l place = split (5 * l.slots) place slot_part (from_output l)

abbrev from_acknowledgements : Layout → ℕ → Part
from_acknowledgements l place = split l.slots place Acknowledgement (from_slots l)

-- the part at a place
abbrev pub part_at : Layout → ℕ → Part
part_at l place = split 8 place (λ n. Fixed (fixed_from n)) (from_acknowledgements l)

behind_fixed : (l : Layout) (n : ℕ) → part_at l (8 + n) ≡ from_acknowledgements l n
behind_fixed l n = split-rest 8 n (λ n. Fixed (fixed_from n)) (from_acknowledgements l)

behind_acknowledgements : (l : Layout) (n : ℕ) → part_at l (8 + (l.slots + n)) ≡ from_slots l n
behind_acknowledgements l n = behind_fixed l (l.slots + n) ∙ split-rest l.slots n Acknowledgement (from_slots l)

behind_slots : (l : Layout) (n : ℕ) → part_at l (8 + (l.slots + (5 * l.slots + n))) ≡ from_output l n
behind_slots l n = behind_acknowledgements l (5 * l.slots + n) ∙ split-rest (5 * l.slots) n slot_part (from_output l)

behind_output : (l : Layout) (n : ℕ) → part_at l (8 + (l.slots + (5 * l.slots + (l.out_words + n)))) ≡ from_statics l n
behind_output l n = behind_slots l (l.out_words + n) ∙ split-rest l.out_words n Output (from_statics l)

behind_statics : (l : Layout) (n : ℕ) → part_at l (8 + (l.slots + (5 * l.slots + (l.out_words + (sum_by static_size l.statics + n))))) ≡ cell_part zero l.classes n
behind_statics l n = behind_output l (sum_by static_size l.statics + n) ∙ split-rest (sum_by static_size l.statics) n (static_part zero l.statics) (cell_part zero l.classes)

-- a place behind the first static
further : (s : StaticSize) (ss : List StaticSize) (i place : ℕ) → sum_by static_size (take (suc i) (s ∷ ss)) + place ≡ static_size s + (sum_by static_size (take i ss) + place)
further s ss i place = omega (arith, sum_by-cons static_size s (take i ss))

-- a place behind the first class
further_class : (c : ℕ × ℕ) (cs : List (ℕ × ℕ)) (class cell place : ℕ) → cell_offset (c ∷ cs) (suc class) cell + place ≡ c.1 * (c.0 + 5) + (cell_offset cs class cell + place)
further_class c cs class cell place = omega (arith, sum_by-cons (λ class. class.1 * (class.0 + 5)) c (take class cs))

-- the part of a static, from the start of the statics on
static_part-at : (first : ℕ) (statics : List StaticSize) (i place : ℕ) → i < length statics → place < static_size (static_at statics i) → static_part first statics (sum_by static_size (take i statics) + place) ≡ in_static (first + i) (static_at statics i).words place
static_part-at first [] i place hi hp = absurd (omega arith)
static_part-at first (s ∷ ss) zero place hi hp =
    ap (static_part first (s ∷ ss)) (zero-add place) ∙ split-front (static_size s) place (in_static first s.words) (static_part (suc first) ss) hp ∙ ap (λ n. in_static n s.words place) (sym (add-zero first))
static_part-at first (s ∷ ss) (suc i) place hi hp =
    ap (static_part first (s ∷ ss)) (further s ss i place)
    ∙ split-rest (static_size s) (sum_by static_size (take i ss) + place) (in_static first s.words) (static_part (suc first) ss)
    ∙ static_part-at (suc first) ss i place (omega arith) hp
    ∙ ap (λ n. in_static n (static_at ss i).words place) (let e : suc first + i ≡ first + suc i = omega arith in e)

-- the part of a cell, from the start of the cells on
cell_part-at : (first : ℕ) (classes : List (ℕ × ℕ)) (class cell place : ℕ) → IsCell classes class cell → place < (class_at classes class).0 + 5 → cell_part first classes (cell_offset classes class cell + place) ≡ in_cell (first + class) cell place
cell_part-at first [] class cell place is hp = absurd (omega (arith, is.class_in_range))
cell_part-at first (c ∷ cs) zero cell place is hp =
    let there : cell_offset (c ∷ cs) zero cell + place ≡ cell * (c.0 + 5) + place = omega arith in
    let low : cell * (c.0 + 5) + place < c.1 * (c.0 + 5) = omega (arith, mul-le-mul_right {m = cell + 1} {n = c.1} (c.0 + 5) (omega (arith, is.cell_in_range))) in
    ap (cell_part first (c ∷ cs)) there
    ∙ split-front (c.1 * (c.0 + 5)) (cell * (c.0 + 5) + place) (λ n. in_cell first (n / (c.0 + 5)) (n % (c.0 + 5))) (cell_part (suc first) cs) low
    ∙ ap (λ n. in_cell first n ((cell * (c.0 + 5) + place) % (c.0 + 5))) (div-mul-add cell (c.0 + 5) place hp)
    ∙ ap (in_cell first cell) (mod-mul-add cell (c.0 + 5) place hp)
    ∙ ap (λ n. in_cell n cell place) (sym (add-zero first))
cell_part-at first (c ∷ cs) (suc class) cell place is hp =
    ap (cell_part first (c ∷ cs)) (further_class c cs class cell place)
    ∙ split-rest (c.1 * (c.0 + 5)) (cell_offset cs class cell + place) (λ n. in_cell first (n / (c.0 + 5)) (n % (c.0 + 5))) (cell_part (suc first) cs)
    ∙ cell_part-at (suc first) cs class cell place (record { class_in_range = omega (arith, is.class_in_range); cell_in_range = is.cell_in_range }) hp
    ∙ ap (λ n. in_cell n cell place) (let e : suc first + class ≡ first + suc class = omega arith in e)

-- the part at a static's place, and at a cell's
at_static : (l : Layout) (i n : ℕ) → i < length l.statics → n < static_size (static_at l.statics i) → part_at l (site_start l (Static i) + n) ≡ in_static i (static_at l.statics i).words n
at_static l i n hi hn =
    let inside : sum_by static_size (take i l.statics) + n < sum_by static_size l.statics = omega (arith, sum_by_more_le static_size l.statics i (record { words = 0; table = true }) hi) in
    let there : site_start l (Static i) + n ≡ 8 + (l.slots + (5 * l.slots + (l.out_words + (sum_by static_size (take i l.statics) + n)))) = omega arith in
    ap (part_at l) there
    ∙ behind_output l (sum_by static_size (take i l.statics) + n)
    ∙ split-front (sum_by static_size l.statics) (sum_by static_size (take i l.statics) + n) (static_part zero l.statics) (cell_part zero l.classes) inside
    ∙ static_part-at zero l.statics i n hi hn
    ∙ ap (λ j. in_static j (static_at l.statics i).words n) (zero-add i)

at_cell : (l : Layout) (class cell n : ℕ) → IsCell l.classes class cell → n < (class_at l.classes class).0 + 5 → part_at l (site_start l (Cell class cell) + n) ≡ in_cell class cell n
at_cell l class cell n is hn =
    let there : site_start l (Cell class cell) + n ≡ 8 + (l.slots + (5 * l.slots + (l.out_words + (sum_by static_size l.statics + (cell_offset l.classes class cell + n))))) = omega arith in
    ap (part_at l) there
    ∙ behind_statics l (cell_offset l.classes class cell + n)
    ∙ cell_part-at zero l.classes class cell n is hn
    ∙ ap (λ j. in_cell j cell n) (zero-add class)

-- the words of a static, and of a cell
in_static-header : (index words : ℕ) (word : HeaderWord) → in_static index words (header_word_number word) ≡ Header (Static index) word
in_static-header index words word = split-front 5 (header_word_number word) (λ n. Header (Static index) (header_word_from n)) (λ n. split words n (Payload (Static index)) (StaticTable index)) (header_word_number-small word) ∙ ap (Header (Static index)) (header_word_from-number word)

in_static-payload : (index words n : ℕ) → n < words → in_static index words (5 + n) ≡ Payload (Static index) n
in_static-payload index words n h = split-rest 5 n (λ n. Header (Static index) (header_word_from n)) (λ n. split words n (Payload (Static index)) (StaticTable index)) ∙ split-front words n (Payload (Static index)) (StaticTable index) h

in_static-table : (index words n : ℕ) → in_static index words (5 + (words + n)) ≡ StaticTable index n
in_static-table index words n = split-rest 5 (words + n) (λ n. Header (Static index) (header_word_from n)) (λ n. split words n (Payload (Static index)) (StaticTable index)) ∙ split-rest words n (Payload (Static index)) (StaticTable index)

in_cell-header : (class cell : ℕ) (word : HeaderWord) → in_cell class cell (header_word_number word) ≡ Header (Cell class cell) word
in_cell-header class cell word = split-front 5 (header_word_number word) (λ n. Header (Cell class cell) (header_word_from n)) (Payload (Cell class cell)) (header_word_number-small word) ∙ ap (Header (Cell class cell)) (header_word_from-number word)

in_cell-payload : (class cell n : ℕ) → in_cell class cell (5 + n) ≡ Payload (Cell class cell) n
in_cell-payload class cell n = split-rest 5 n (λ n. Header (Cell class cell) (header_word_from n)) (Payload (Cell class cell))

-- a place tells its part
pub part_at-place_of : (l : Layout) (part : Part) → IsPart l part → part_at l (place_of l part) ≡ part
part_at-place_of l (Fixed Exit) is = refl
part_at-place_of l (Fixed Order) is = refl
part_at-place_of l (Fixed Cycle) is = refl
part_at-place_of l (Fixed Request) is = refl
part_at-place_of l (Fixed GreyHead) is = refl
part_at-place_of l (Fixed OutputHint) is = refl
part_at-place_of l (Fixed InputCount) is = refl
part_at-place_of l (Fixed Unused) is = refl
part_at-place_of l (Acknowledgement slot) is = behind_fixed l slot ∙ split-front l.slots slot Acknowledgement (from_slots l) is
part_at-place_of l (Slot slot word) is =
    let n = slot_word_number word in
    let small = slot_word_number-small word in
    let there : place_of l (Slot slot word) ≡ 8 + (l.slots + (5 * slot + n)) = omega arith in
    let low : 5 * slot + n < 5 * l.slots = omega (arith, is) in
    let quotient : (5 * slot + n) / 5 ≡ slot = omega arith in
    let remainder : (5 * slot + n) % 5 ≡ n = omega arith in
    ap (part_at l) there
    ∙ behind_acknowledgements l (5 * slot + n)
    ∙ split-front (5 * l.slots) (5 * slot + n) slot_part (from_output l) low
    ∙ ap (λ k. Slot k (slot_word_from ((5 * slot + n) % 5))) quotient
    ∙ ap (λ k. Slot slot (slot_word_from k)) remainder
    ∙ ap (Slot slot) (slot_word_from-number word)
part_at-place_of l (Output index) is =
    let there : place_of l (Output index) ≡ 8 + (l.slots + (5 * l.slots + index)) = omega arith in
    ap (part_at l) there ∙ behind_slots l index ∙ split-front l.out_words index Output (from_statics l) is
part_at-place_of l (Header (Static index) word) is =
    at_static l index (header_word_number word) is (omega (arith, header_word_number-small word)) ∙ in_static-header index (static_at l.statics index).words word
part_at-place_of l (Header (Cell class cell) word) is =
    at_cell l class cell (header_word_number word) is (omega (arith, header_word_number-small word)) ∙ in_cell-header class cell word
part_at-place_of l (Payload (Static index) word) is =
    ap (part_at l) (add_assoc (site_start l (Static index)) 5 word)
    ∙ at_static l index (5 + word) is.0 (omega (arith, is.1)) ∙ in_static-payload index (static_at l.statics index).words word is.1
part_at-place_of l (Payload (Cell class cell) word) is =
    ap (part_at l) (add_assoc (site_start l (Cell class cell)) 5 word)
    ∙ at_cell l class cell (5 + word) is.0 (omega (arith, is.1)) ∙ in_cell-payload class cell word
part_at-place_of l (StaticTable index word) is =
    let words = (static_at l.statics index).words in
    let there : place_of l (StaticTable index word) ≡ site_start l (Static index) + (5 + (words + word)) = omega arith in
    let P : Bool → Type 0 = λ b. 5 + (words + word) < 5 + words + (if b then words else 0) in
    let low : 5 + (words + word) < static_size (static_at l.statics index) = subst P (sym is.has_table) (omega (arith, is.word_in_range)) in
    ap (part_at l) there ∙ at_static l index (5 + (words + word)) is.index_in_range low ∙ in_static-table index words word
