-- Multiples of an alignment.
use Rattle.std.proofs.Common.{◌≡◌, refl, zero, suc, ◌-◌, ◌+◌, ℕ, ◌*◌, ◌/◌, ◌%◌, ◌<◌, ◌≤◌, sym, ap, ◌∙◌, arith}
use Rattle.std.proofs.lemmas.Nat.{mul-mod_second, mul-le, div-add-mod'}
use Rattle.std.proofs.Math.Nat.{div-mul-le_self, mod-lt, mod-eq_of_lt, mod_self, sub-zero, add-zero, mul-mod_left, lt_of_mul-lt-mul_right}
use Rattle.std.specs.Int.{next_multiple_of}
use Rattle.c_types.specs.LayoutLaws.{IsLeastMultiple}
use Rattle.c_types.specs.Extents.{IsExtent}

-- the elements of an array together
pub IsExtent-array : (count size align : ℕ) → 0 < count → IsExtent size align → count ≤ 131072 / size → IsExtent (count * size) align
IsExtent-array count size align p h q =
    record {
      some = grind (arith, h.some, p);
      bounded = omega (arith, mul-le count size (131072 / size) size q (omega arith), div-mul-le_self 131072 size);
      of_a_scalar = h.of_a_scalar;
      whole = sym (mul-mod_second count size align) ∙ ap (λ (n : ℕ). (count * n) % align) h.whole ∙ omega arith;
    }

-- the next multiple is one, reaches, and is less than one step away
next_bounds : (x a : ℕ) → 0 < a → (x ≤ next_multiple_of x a) × (next_multiple_of x a < x + a) × (next_multiple_of x a % a ≡ 0)
next_bounds x a p = by_rest (x % a) refl where
  by_rest : (r : ℕ) → x % a ≡ r → (x ≤ next_multiple_of x a) × (next_multiple_of x a < x + a) × (next_multiple_of x a % a ≡ 0)
  by_rest zero e =
      let z : (a - x % a) % a ≡ 0 = ap (λ (k : ℕ). (a - k) % a) e ∙ ap (λ (k : ℕ). k % a) (sub-zero a) ∙ mod_self a in
      (omega arith, omega arith, ap (λ (k : ℕ). (x + k) % a) z ∙ ap (λ (k : ℕ). k % a) (add-zero x) ∙ e)
  by_rest (suc r) e =
      let l : x % a < a = mod-lt x p in
      let s : (a - x % a) % a ≡ a - x % a = mod-eq_of_lt (omega arith) in
      let n : next_multiple_of x a ≡ (x / a + 1) * a = omega (arith, div-add-mod' x a) in
      (omega arith, omega arith, ap (λ (k : ℕ). k % a) n ∙ mul-mod_left (x / a + 1) a)

-- of two multiples, one that is less than a step above the other is not above it
below_a_step : (n k a : ℕ) → n % a ≡ 0 → k % a ≡ 0 → n < k + a → n ≤ k
below_a_step n k a p q h =
    let m : n ≡ n / a * a = omega (arith, div-add-mod' n a) in
    let l : k ≡ k / a * a = omega (arith, div-add-mod' k a) in
    let s : (k / a + 1) * a ≡ k / a * a + a = omega arith in
    let t : n / a < k / a + 1 = lt_of_mul-lt-mul_right a (omega arith) in
    omega (arith, mul-le (n / a) a (k / a) a (omega arith) (omega arith))

pub next_multiple_of-least : (x a : ℕ) → 0 < a → IsLeastMultiple (next_multiple_of x a) a x
next_multiple_of-least x a p =
    let b = next_bounds x a p in
    record { multiple = b.2; reaches = b.0; least = λ k e h. below_a_step (next_multiple_of x a) k a b.2 e (omega (arith, b.1)) }
