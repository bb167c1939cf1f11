-- The 64 bits of an integer: they are those of the kept value that stands for it, and those of a product
-- are the product of the bits, modulo 2 ^ 64.
use Rattle.std.proofs.Common.{◌≡◌, ℕ, ◌*◌, ◌%◌, ◌^◌, ◌<◌, Bool, true, false, cond, ℤ, pos, negsuc, ◌-◌, ◌*ℤ◌, ◌+ℤ◌, ◌-ℤ◌, ◌+◌, refl, sym, ap, ◌∙◌, arith, w64}
use Rattle.std.specs.Int.{cast_signed, cast_unsigned, int_wrap, int_rem_euclid}
use Rattle.std.specs.Int.RustNames.{unsigned_abs}
use Rattle.std.proofs.lemmas.Int.{of_z-to_z, wrapping_mul-bits, int_wrap-mul_left, int_wrap-mul_right, ints}
use Rattle.std.proofs.lemmas.Nat.{mod_below, mul-mod_second}
use Rattle.filc_num.specs.declared.integer.IntType.{IntType}
use Rattle.filc_num.specs.Integers.{bits_of, value_of, is_signed}

pub bits_of-lt : (z : ℤ) → bits_of z < 2 ^ 64
bits_of-lt (pos n) = mod_below n (2 ^ 64) (omega arith)
bits_of-lt (negsuc n) = omega arith

pub bits_of_kept : (v : ℕ) → v < 2 ^ 64 → bits_of (cast_signed w64 v) ≡ v
bits_of_kept v h = grind (arith, ints)

pub bits_of-value_of : (ty : IntType) (v : ℕ) → v < 2 ^ 64 → bits_of (value_of ty v) ≡ v
bits_of-value_of ty v h = by_sign (is_signed ty) where
  by_sign : (b : Bool) → bits_of (cond b (cast_signed w64 v) (pos v)) ≡ v
  by_sign true = bits_of_kept v h
  by_sign false = omega arith

-- the residue that wrapping at 64 bits takes
bits_of-residue : (z : ℤ) → unsigned_abs (int_rem_euclid z (pos (2 ^ 64))) ≡ bits_of z
bits_of-residue (pos n) = refl
bits_of-residue (negsuc n) = refl

wrap_is : (z : ℤ) → int_wrap w64 z ≡ cast_signed w64 (bits_of z)
unfolding int_wrap
wrap_is z = ap (cast_signed w64) (bits_of-residue z)

same_bits : (m n : ℕ) → m < 2 ^ 64 → n < 2 ^ 64 → cast_signed w64 m ≡ cast_signed w64 n → m ≡ n
same_bits m n p q e = sym (of_z-to_z w64 m p) ∙ ap (cast_unsigned w64) e ∙ of_z-to_z w64 n q

pub bits_of-mul : (x y : ℤ) → bits_of (x *ℤ y) ≡ (bits_of x * bits_of y) % 2 ^ 64
bits_of-mul x y =
    same_bits _ _ (bits_of-lt (x *ℤ y)) (mod_below (bits_of x * bits_of y) (2 ^ 64) (omega arith))
    (sym (wrap_is (x *ℤ y))
    ∙ sym (int_wrap-mul_left w64 x y)
    ∙ sym (int_wrap-mul_right w64 (int_wrap w64 x) y)
    ∙ ap (λ (z : ℤ). int_wrap w64 (z *ℤ int_wrap w64 y)) (wrap_is x)
    ∙ ap (λ (z : ℤ). int_wrap w64 (cast_signed w64 (bits_of x) *ℤ z)) (wrap_is y)
    ∙ sym (wrapping_mul-bits w64 (bits_of x) (bits_of y) (bits_of-lt x) (bits_of-lt y)))

pub sum_of_values : (ty : IntType) (a b : ℕ) → a < 2 ^ 64 → b < 2 ^ 64 → bits_of (value_of ty a +ℤ value_of ty b) ≡ (a + b) % 2 ^ 64
sum_of_values ty a b p q = by_sign (is_signed ty) where
  by_sign : (s : Bool) → bits_of (cond s (cast_signed w64 a) (pos a) +ℤ cond s (cast_signed w64 b) (pos b)) ≡ (a + b) % 2 ^ 64
  by_sign true = grind (arith, ints)
  by_sign false = refl

pub difference_of_values : (ty : IntType) (a b : ℕ) → a < 2 ^ 64 → b < 2 ^ 64 → bits_of (value_of ty a -ℤ value_of ty b) ≡ (a + (2 ^ 64 - b)) % 2 ^ 64
difference_of_values ty a b p q = by_sign (is_signed ty) where
  by_sign : (s : Bool) → bits_of (cond s (cast_signed w64 a) (pos a) -ℤ cond s (cast_signed w64 b) (pos b)) ≡ (a + (2 ^ 64 - b)) % 2 ^ 64
  by_sign true = grind (arith, ints)
  by_sign false = grind (arith, ints)

pub product_of_values : (ty : IntType) (a b : ℕ) → a < 2 ^ 64 → b < 2 ^ 64 → bits_of (value_of ty a *ℤ value_of ty b) ≡ (a * b) % 2 ^ 64
product_of_values ty a b p q =
    bits_of-mul (value_of ty a) (value_of ty b)
    ∙ ap (λ (n : ℕ). (n * bits_of (value_of ty b)) % 2 ^ 64) (bits_of-value_of ty a p)
    ∙ ap (λ (n : ℕ). (a * n) % 2 ^ 64) (bits_of-value_of ty b q)

pub product_with_power : (ty : IntType) (a k : ℕ) → a < 2 ^ 64 → k < 64 → bits_of (value_of ty a *ℤ pos (2 ^ k)) ≡ (a * 2 ^ k) % 2 ^ 64
product_with_power ty a k p q =
    bits_of-mul (value_of ty a) (pos (2 ^ k))
    ∙ ap (λ (n : ℕ). (n * (2 ^ k % 2 ^ 64)) % 2 ^ 64) (bits_of-value_of ty a p)
    ∙ mul-mod_second a (2 ^ k) (2 ^ 64)
