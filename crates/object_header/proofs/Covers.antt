-- The parts of a map lie inside it, and each place in it is a part's.
use Rattle.std.proofs.Common.{◌≡◌, ℕ, ◌+◌, ◌-◌, ◌*◌, ◌/◌, ◌%◌, ◌<◌, ◌≤◌, inl, inr, zero, suc, Bool, true, false, if◌then◌else◌, List, [], ◌∷◌, length, take, sum_by, get_or, refl, sym, ap, ◌∙◌, subst, arith}
use Rattle.std.proofs.lemmas.Bool.{cases_lt}
use Rattle.std.proofs.lemmas.List.Sums.{sum_by_more_le, sum_by-cons}
use Rattle.std.proofs.Math.Nat.{mul-le-mul_right, div-lt_iff_lt-mul, div-add-mod}
use Rattle.object_header.specs.WordMap.{Layout, Static, Cell, Part, Fixed, Acknowledgement, Slot, Output, Header, Payload, StaticTable, place_of_fixed, static_size, statics_start, cells_start, class_at, words_together, words_of, static_at, site_start, IsCell, IsPart, place_of, IsPartition}
use Rattle.object_header.specs.declared.words.FixedWord.TheVariants.{Exit, Order, Cycle, Request, GreyHead, OutputHint, InputCount, Unused}
use Rattle.object_header.specs.declared.words.StaticSize.{StaticSize}
use Rattle.object_header.proofs.Partition.{fixed_from, slot_word_from, header_word_from, slot_word_number-small, slot_word_number-from, header_word_number-small, header_word_number-from, part_at, part_at-place_of}

-- blocks that lie one after another, each as long as f says: each place within all of them is
-- within one
block_covers : {A : Type 0} (f : A → ℕ) (xs : List A) (d : A) (place : ℕ) → place < sum_by f xs → (i : ℕ) × (rest : ℕ) × (i < length xs) × (rest < f (get_or xs i d)) × (sum_by f (take i xs) + rest ≡ place)
block_covers f [] d place h = absurd (omega arith)
block_covers f (x ∷ xs) d place h =
    elim (cases_lt place (f x)) [
      | inl low ↦ (zero, place, omega arith, low, omega arith)
      | inr high ↦
          let there = block_covers f xs d (place - f x) (omega (arith, sum_by-cons f x xs)) in
          (suc there.0, there.1, omega (arith, there.2), there.3, omega (arith, there.4, sum_by-cons f x (take there.0 xs)))
    ]

-- a site with what belongs to it ends within the map
pub static_end-inside : (l : Layout) (index : ℕ) → index < length l.statics → site_start l (Static index) + static_size (static_at l.statics index) ≤ cells_start l
static_end-inside l index h = omega (arith, sum_by_more_le static_size l.statics index (record { words = 0; table = true }) h)

pub cell_end-inside : (l : Layout) (class cell : ℕ) → IsCell l.classes class cell → site_start l (Cell class cell) + ((class_at l.classes class).0 + 5) ≤ words_of l
cell_end-inside l class cell is =
    omega (
      arith,
      sum_by_more_le (λ c. c.1 * (c.0 + 5)) l.classes class (0, 0) is.class_in_range,
      mul-le-mul_right {m = cell + 1} {n = (class_at l.classes class).1} ((class_at l.classes class).0 + 5) (omega (arith, is.cell_in_range)),
    )

table_inside : (s : StaticSize) (word : ℕ) → s.table ≡ true → word < s.words → 5 + (s.words + word) < static_size s
table_inside s word has h = rw has (omega arith)

inside : (l : Layout) (part : Part) → IsPart l part → place_of l part < words_of l
inside l (Fixed Exit) is = omega arith
inside l (Fixed Order) is = omega arith
inside l (Fixed Cycle) is = omega arith
inside l (Fixed Request) is = omega arith
inside l (Fixed GreyHead) is = omega arith
inside l (Fixed OutputHint) is = omega arith
inside l (Fixed InputCount) is = omega arith
inside l (Fixed Unused) is = omega arith
inside l (Acknowledgement slot) is = omega arith
inside l (Slot slot word) is = omega (arith, slot_word_number-small word)
inside l (Output index) is = omega arith
inside l (Header (Static index) word) is = omega (arith, header_word_number-small word, static_end-inside l index is)
inside l (Header (Cell class cell) word) is = omega (arith, header_word_number-small word, cell_end-inside l class cell is)
inside l (Payload (Static index) word) is = omega (arith, is.1, static_end-inside l index is.0)
inside l (Payload (Cell class cell) word) is = omega (arith, is.1, cell_end-inside l class cell is.0)
inside l (StaticTable index word) is =
    omega (arith, static_end-inside l index is.index_in_range, table_inside (static_at l.statics index) word is.has_table is.word_in_range)

-- the part that lies at a place
abbrev PartAt : Layout → ℕ → Type 0
PartAt l place = (part : Part) × IsPart l part × (place_of l part ≡ place)

place_of_fixed-from : (n : ℕ) → n < 8 → place_of_fixed (fixed_from n) ≡ n
place_of_fixed-from zero h = refl
place_of_fixed-from (suc zero) h = refl
place_of_fixed-from (suc (suc zero)) h = refl
place_of_fixed-from (suc (suc (suc zero))) h = refl
place_of_fixed-from (suc (suc (suc (suc zero)))) h = refl
place_of_fixed-from (suc (suc (suc (suc (suc zero))))) h = refl
place_of_fixed-from (suc (suc (suc (suc (suc (suc zero)))))) h = refl
place_of_fixed-from (suc (suc (suc (suc (suc (suc (suc n))))))) h = omega arith

slot_covers : (l : Layout) (n : ℕ) → n < 5 * l.slots → PartAt l (8 + l.slots + n)
slot_covers l n h =
    let small : n % 5 < 5 = omega arith in
    (Slot (n / 5) (slot_word_from (n % 5)), omega arith, omega (arith, slot_word_number-from (n % 5) small))

-- a place behind a static's payload is its table's
has_table : (s : StaticSize) (n : ℕ) → 5 + s.words ≤ n → n < static_size s → s.table ≡ true
has_table s n low high =
    (elim s.table as (λ b. n < 5 + s.words + (if b then s.words else 0) → b ≡ true) [
      | true ↦ λ _. refl
      | false ↦ λ h. absurd (omega arith)
    ]) high

table_word : (s : StaticSize) (n : ℕ) → n < static_size s → s.table ≡ true → n < 5 + s.words + s.words
table_word s n h has = let P : Bool → Type 0 = λ b. n < 5 + s.words + (if b then s.words else 0) in subst P has h

in_static-covers : (l : Layout) (i n : ℕ) → i < length l.statics → n < static_size (static_at l.statics i) → PartAt l (site_start l (Static i) + n)
in_static-covers l i n hi hn =
    elim (cases_lt n 5) [
      | inl low ↦ (Header (Static i) (header_word_from n), hi, ap (λ k. site_start l (Static i) + k) (header_word_number-from n low))
      | inr high ↦ elim (cases_lt n (5 + (static_at l.statics i).words)) [
        | inl low ↦ (Payload (Static i) (n - 5), (hi, omega arith), omega arith)
        | inr past ↦
            let has = has_table (static_at l.statics i) n past hn in (
              StaticTable i (n - 5 - (static_at l.statics i).words),
              record { index_in_range = hi; has_table = has; word_in_range = omega (arith, table_word (static_at l.statics i) n hn has) },
              omega arith,
            )
      ]
    ]

static_covers : (l : Layout) (n : ℕ) → n < sum_by static_size l.statics → PartAt l (statics_start l + n)
static_covers l n h =
    let there = block_covers static_size l.statics (record { words = 0; table = true }) n h in
    let part = in_static-covers l there.0 there.1 there.2 there.3 in
    (part.0, part.1, omega (arith, part.2, there.4))

in_cell-covers : (l : Layout) (class cell n : ℕ) → IsCell l.classes class cell → n < (class_at l.classes class).0 + 5 → PartAt l (site_start l (Cell class cell) + n)
in_cell-covers l class cell n is hn =
    elim (cases_lt n 5) [
      | inl low ↦ (Header (Cell class cell) (header_word_from n), is, ap (λ k. site_start l (Cell class cell) + k) (header_word_number-from n low))
      | inr high ↦ (Payload (Cell class cell) (n - 5), (is, omega arith), omega arith)
    ]

cell_covers : (l : Layout) (n : ℕ) → n < words_together l.classes → PartAt l (cells_start l + n)
cell_covers l n h =
    let there = block_covers (λ c. c.1 * (c.0 + 5)) l.classes (0, 0) n h in
    let size = (class_at l.classes there.0).0 + 5 in
    let cell : there.1 / size < (class_at l.classes there.0).1 = (div-lt_iff_lt-mul {k = size} {x = there.1} {y = (class_at l.classes there.0).1} (omega arith)).1 there.3 in
    let part = in_cell-covers l there.0 (there.1 / size) (there.1 % size) (record { class_in_range = there.2; cell_in_range = cell }) (omega arith) in
    (part.0, part.1, omega (arith, part.2, there.4, div-add-mod there.1 size))

covers : (l : Layout) (place : ℕ) → place < words_of l → PartAt l place
covers l place h =
    elim (cases_lt place 8) [
      | inl low ↦ (Fixed (fixed_from place), tt, place_of_fixed-from place low)
      | inr h8 ↦ elim (cases_lt place (8 + l.slots)) [
        | inl low ↦ (Acknowledgement (place - 8), omega arith, omega arith)
        | inr ha ↦ elim (cases_lt place (8 + 6 * l.slots)) [
          | inl low ↦
              let part = slot_covers l (place - (8 + l.slots)) (omega arith) in
              (part.0, part.1, omega (arith, part.2))
          | inr hs ↦ elim (cases_lt place (statics_start l)) [
            | inl low ↦ (Output (place - (8 + 6 * l.slots)), omega arith, omega arith)
            | inr ho ↦ elim (cases_lt place (cells_start l)) [
              | inl low ↦
                  let part = static_covers l (place - statics_start l) (omega arith) in
                  (part.0, part.1, omega (arith, part.2))
              | inr hc ↦
                  let part = cell_covers l (place - cells_start l) (omega arith) in
                  (part.0, part.1, omega (arith, part.2))
            ]
          ]
        ]
      ]
    ]

-- the parts of any map are disjoint and cover it
pub partition : (l : Layout) → IsPartition l
partition l = record {
  inside = inside l;
  disjoint = λ part other is is' e. sym (part_at-place_of l part is) ∙ ap (part_at l) e ∙ part_at-place_of l other is';
  covers = covers l;
}
