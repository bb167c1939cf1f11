-- Where cells lie: class after class, and within a class cell after cell.
use Rattle.std.proofs.Common.{◌≡◌, ℕ, ◌+◌, ◌-◌, ◌*◌, ◌/◌, ◌%◌, ◌<◌, ◌≤◌, inl, inr, zero, suc, List, [], ◌∷◌, length, take, sym, subst, arith}
use Rattle.std.proofs.lemmas.Bool.{cases_lt}
use Rattle.std.proofs.lemmas.List.Sums.{sum_by_more, sum_by_more_le, sum_by-cons, sum_by-take-le}
use Rattle.std.proofs.Math.Nat.{mul-le-mul_right, mul-mod_left, mul-div_cancel}
use Rattle.object_header.specs.WordMap.{class_at, class_size, words_together, cell_offset, IsCell}

-- one class more
pub words_together-more : (classes : List (ℕ × ℕ)) (i : ℕ) → i < length classes → words_together (take (i + 1) classes) ≡ words_together (take i classes) + class_size (class_at classes i)
words_together-more classes i h = sum_by_more class_size classes i (0, 0) h

-- the words up to the end of a class are no more than all
pub class_inside : (classes : List (ℕ × ℕ)) (i : ℕ) → i < length classes → words_together (take i classes) + class_size (class_at classes i) ≤ words_together classes
class_inside classes i h = sum_by_more_le class_size classes i (0, 0) h

-- fewer classes take no more words
pub words_together-mono : (classes : List (ℕ × ℕ)) (i j : ℕ) → i ≤ j → words_together (take i classes) ≤ words_together (take j classes)
words_together-mono [] zero j h = omega arith
words_together-mono [] (suc i) j h = omega arith
words_together-mono (c ∷ cs) zero j h = omega arith
words_together-mono (c ∷ cs) (suc i) zero h = absurd (omega arith)
words_together-mono (c ∷ cs) (suc i) (suc j) h =
    omega (arith, words_together-mono cs i j (omega arith), sum_by-cons class_size c (take i cs), sum_by-cons class_size c (take j cs))

-- a cell ends within its class, and before the heap does
pub cell_end : (classes : List (ℕ × ℕ)) (class cell : ℕ) → IsCell classes class cell → cell_offset classes class cell + ((class_at classes class).0 + 5) ≤ words_together (take (class + 1) classes)
cell_end classes class cell is =
    omega (
      arith,
      words_together-more classes class is.class_in_range,
      mul-le-mul_right {m = cell + 1} {n = (class_at classes class).1} ((class_at classes class).0 + 5) (omega (arith, is.cell_in_range)),
    )

pub cell_end-all : (classes : List (ℕ × ℕ)) (class cell : ℕ) → IsCell classes class cell → cell_offset classes class cell + ((class_at classes class).0 + 5) ≤ words_together classes
cell_end-all classes class cell is =
    omega (arith, cell_end classes class cell is, sum_by-take-le class_size classes (class + 1))

-- a cell that begins within a class is of that class
other_class : (classes : List (ℕ × ℕ)) (class d m at : ℕ) → IsCell classes d m → cell_offset classes d m ≡ at → words_together (take class classes) ≤ at → at < words_together (take (class + 1) classes) → d ≡ class
other_class classes class d m at is e from to =
    elim (cases_lt d class) [
      | inl h ↦ absurd (omega (arith, cell_end classes d m is, words_together-mono classes (d + 1) class (omega arith)))
      | inr h ↦ elim (cases_lt class d) [
        | inl h' ↦ absurd (omega (arith, words_together-mono classes (class + 1) d (omega arith)))
        | inr h' ↦ omega arith
      ]
    ]

-- its number is the quotient by the cells' size, with no remainder
pub cell_within : (classes : List (ℕ × ℕ)) (class d m at from size together : ℕ) → class < length classes → from ≡ words_together (take class classes) → size ≡ (class_at classes class).0 + 5 → together ≡ class_size (class_at classes class) → from ≤ at → at < from + together → IsCell classes d m → cell_offset classes d m ≡ at → (d ≡ class) × (m ≡ (at - from) / size) × ((at - from) % size ≡ 0)
cell_within classes class d m at from size together h is_from is_size is_together low high is e =
    let upper : at < words_together (take (class + 1) classes) =
    omega (arith, words_together-more classes class h) in
    let same : d ≡ class = other_class classes class d m at is e (rw (← is_from) low) upper in
    let P : ℕ → Type 0 = λ x. cell_offset classes x m ≡ at in
    let there : cell_offset classes class m ≡ at = subst P same e in
    let into : at - from ≡ m * size = rw (is_from, is_size) (omega arith) in
    (same, rw into (sym (mul-div_cancel m (omega arith))), rw into (mul-mod_left m size))
