-- Laws of conversion, over the width.
use Rattle.std.proofs.Common.{◌≡◌, ◌≢◌, ℕ, ◌+◌, ◌*◌, ◌/◌, ◌%◌, ◌^◌, ◌<◌, ◌≤◌, ◌-◌, Bool, true, false, cond, ℤ, pos, negsuc, ◌≤ℤ◌, refl, sym, ap, ◌∙◌, arith, w64, subst}
use Rattle.std.proofs.lemmas.Int.{ints}
use Rattle.std.proofs.lemmas.Nat.{mod-pow-add, mod_low, mod_below, pow_pos}
use Rattle.std.proofs.lemmas.Bool.Decides.{nat_tests}
use Rattle.std.specs.Int.{cast_signed}
use Rattle.filc_num.specs.declared.integer.IntType.{IntType}
use Rattle.filc_num.specs.declared.integer.IntType.TheVariants.{Bool as BoolType, I8, U8, I16, U16, I32, U32, I64, U64}
use Rattle.filc_num.specs.Integers.{width_of, count_of, half_of, bytes_of, is_signed, least_of, greatest_of, value_of, extend, bits_of, wrap, convert_of, IsValue}
use Rattle.filc_num.proofs.Residues.{bits_of-lt, bits_of-value_of}

pub IsValue-convert_of : (ty : IntType) (v : ℕ) → IsValue ty (convert_of v ty)
unfolding convert_of
IsValue-convert_of BoolType v = record { fits = grind (arith, nat_tests); from_least = grind (arith, ints, nat_tests); to_greatest = grind (arith, ints, nat_tests) }
IsValue-convert_of I8 v = record { fits = grind (arith, nat_tests); from_least = grind (arith, ints, nat_tests); to_greatest = grind (arith, ints, nat_tests) }
IsValue-convert_of U8 v = record { fits = grind (arith, nat_tests); from_least = grind (arith, ints, nat_tests); to_greatest = grind (arith, ints, nat_tests) }
IsValue-convert_of I16 v = record { fits = grind (arith, nat_tests); from_least = grind (arith, ints, nat_tests); to_greatest = grind (arith, ints, nat_tests) }
IsValue-convert_of U16 v = record { fits = grind (arith, nat_tests); from_least = grind (arith, ints, nat_tests); to_greatest = grind (arith, ints, nat_tests) }
IsValue-convert_of I32 v = record { fits = grind (arith, nat_tests); from_least = grind (arith, ints, nat_tests); to_greatest = grind (arith, ints, nat_tests) }
IsValue-convert_of U32 v = record { fits = grind (arith, nat_tests); from_least = grind (arith, ints, nat_tests); to_greatest = grind (arith, ints, nat_tests) }
IsValue-convert_of I64 v = record { fits = grind (arith, nat_tests); from_least = grind (arith, ints, nat_tests); to_greatest = grind (arith, ints, nat_tests) }
IsValue-convert_of U64 v = record { fits = grind (arith, nat_tests); from_least = grind (arith, ints, nat_tests); to_greatest = grind (arith, ints, nat_tests) }

pub convert_of-value : (ty : IntType) (v : ℕ) → IsValue ty v → convert_of v ty ≡ v
unfolding convert_of
convert_of-value BoolType v h = grind (arith, ints, nat_tests)
convert_of-value I8 v h = grind (arith, ints, nat_tests)
convert_of-value U8 v h = grind (arith, ints, nat_tests)
convert_of-value I16 v h = grind (arith, ints, nat_tests)
convert_of-value U16 v h = grind (arith, ints, nat_tests)
convert_of-value I32 v h = grind (arith, ints, nat_tests)
convert_of-value U32 v h = grind (arith, ints, nat_tests)
convert_of-value I64 v h = grind (arith, ints, nat_tests)
convert_of-value U64 v h = grind (arith, ints, nat_tests)

-- a value of a type that is not `_Bool` is congruent to what was converted
pub convert_of-congruent : (ty : IntType) (v : ℕ) → ty ≢ BoolType → convert_of v ty % count_of ty ≡ v % count_of ty
unfolding convert_of
convert_of-congruent BoolType v h = absurd (h refl)
convert_of-congruent I8 v h = grind (arith, nat_tests)
convert_of-congruent U8 v h = grind (arith, nat_tests)
convert_of-congruent I16 v h = grind (arith, nat_tests)
convert_of-congruent U16 v h = grind (arith, nat_tests)
convert_of-congruent I32 v h = grind (arith, nat_tests)
convert_of-congruent U32 v h = grind (arith, nat_tests)
convert_of-congruent I64 v h = grind (arith, nat_tests)
convert_of-congruent U64 v h = grind (arith, nat_tests)

-- a conversion looks at the low bits alone
pub convert_of-low : (ty : IntType) (u v : ℕ) → ty ≢ BoolType → u % count_of ty ≡ v % count_of ty → convert_of u ty ≡ convert_of v ty
unfolding convert_of
convert_of-low BoolType u v h e = absurd (h refl)
convert_of-low I8 u v h e = ap (extend I8) e
convert_of-low U8 u v h e = ap (extend U8) e
convert_of-low I16 u v h e = ap (extend I16) e
convert_of-low U16 u v h e = ap (extend U16) e
convert_of-low I32 u v h e = ap (extend I32) e
convert_of-low U32 u v h e = ap (extend U32) e
convert_of-low I64 u v h e = ap (extend I64) e
convert_of-low U64 u v h e = ap (extend U64) e

-- two values of a type that are congruent are equal
pub same_value : (ty : IntType) (u v : ℕ) → IsValue ty u → IsValue ty v → u % count_of ty ≡ v % count_of ty → u ≡ v
same_value BoolType u v p q e = grind (arith, ints)
same_value I8 u v p q e = grind (arith, ints)
same_value U8 u v p q e = grind (arith, ints)
same_value I16 u v p q e = grind (arith, ints)
same_value U16 u v p q e = grind (arith, ints)
same_value I32 u v p q e = grind (arith, ints)
same_value U32 u v p q e = grind (arith, ints)
same_value I64 u v p q e = grind (arith, ints)
same_value U64 u v p q e = grind (arith, ints)

-- the low bits of the low bits
mod-mod_pow : (n j k : ℕ) → n % 2 ^ (j + k) % 2 ^ k ≡ n % 2 ^ k
mod-mod_pow n j k =
    ap (λ (m : ℕ). m % 2 ^ k) (mod-pow-add n j k) ∙ mod_low (n / 2 ^ k % 2 ^ j) k (n % 2 ^ k) (mod_below n (2 ^ k) (pow_pos k))

low_of_low : (m n i j : ℕ) → i ≤ j → m % 2 ^ j ≡ n % 2 ^ j → m % 2 ^ i ≡ n % 2 ^ i
low_of_low m n i j h e =
    let split : j ≡ (j - i) + i = omega arith in
    sym (mod-mod_pow m (j - i) i) ∙ ap (λ (k : ℕ). k % 2 ^ i) (subst (λ (k : ℕ). m % 2 ^ k ≡ n % 2 ^ k) split e) ∙ mod-mod_pow n (j - i) i

-- a conversion by way of a type that is no narrower
pub convert_of-twice : (s ty : IntType) (v : ℕ) → s ≢ BoolType → ty ≢ BoolType → width_of ty ≤ width_of s → convert_of (convert_of v s) ty ≡ convert_of v ty
convert_of-twice s ty v p q h =
    convert_of-low ty (convert_of v s) v q (low_of_low (convert_of v s) v (width_of ty) (width_of s) h (convert_of-congruent s v p))

-- the positive half of a type's values fits 63 bits
pub half_of-le : (ty : IntType) → half_of ty ≤ 2 ^ 63
half_of-le BoolType = omega arith
half_of-le I8 = omega arith
half_of-le U8 = omega arith
half_of-le I16 = omega arith
half_of-le U16 = omega arith
half_of-le I32 = omega arith
half_of-le U32 = omega arith
half_of-le I64 = omega arith
half_of-le U64 = omega arith

count_of-le : (ty : IntType) → count_of ty ≤ 2 ^ 64
count_of-le BoolType = omega arith
count_of-le I8 = omega arith
count_of-le U8 = omega arith
count_of-le I16 = omega arith
count_of-le U16 = omega arith
count_of-le I32 = omega arith
count_of-le U32 = omega arith
count_of-le I64 = omega arith
count_of-le U64 = omega arith

-- the same by the signs of two types, with their halves and counts
same_reading : (b d : Bool) (h k m n v : ℕ) → 0 < k → k ≤ 2 ^ 63 → cond d (negsuc (k - 1)) (pos 0) ≤ℤ cond b (negsuc (h - 1)) (pos 0) → cond b (pos (h - 1)) (pos (m - 1)) ≤ℤ cond d (pos (k - 1)) (pos (n - 1)) → cond b (cast_signed w64 v) (pos v) ≤ℤ cond b (pos (h - 1)) (pos (m - 1)) → cond d (cast_signed w64 v) (pos v) ≡ cond b (cast_signed w64 v) (pos v)
same_reading true true h k m n v p q low high top = refl
same_reading false false h k m n v p q low high top = refl
same_reading false true h k m n v p q low high top = omega (arith, ints)
same_reading true false h k m n v p q low high top = absurd (omega (arith, ints))

-- v stands for the same integer in a type that has all integers of its own
pub value_of_wider : (s ty : IntType) (v : ℕ) → IsValue s v → least_of ty ≤ℤ least_of s → greatest_of s ≤ℤ greatest_of ty → value_of ty v ≡ value_of s v
value_of_wider s ty v h low high =
    same_reading (is_signed s) (is_signed ty) (half_of s) (half_of ty) (count_of s) (count_of ty) v (pow_pos (width_of ty - 1)) (half_of-le ty) low high h.to_greatest

int_le_trans : {a b c : ℤ} → a ≤ℤ b → b ≤ℤ c → a ≤ℤ c
int_le_trans p q = omega (arith, ints)

pub IsValue-wider : (s ty : IntType) (v : ℕ) → IsValue s v → least_of ty ≤ℤ least_of s → greatest_of s ≤ℤ greatest_of ty → IsValue ty v
IsValue-wider s ty v h low high =
    let e = value_of_wider s ty v h low high in
    record { fits = h.fits; from_least = rw e (int_le_trans low h.from_least); to_greatest = rw e (int_le_trans h.to_greatest high) }

-- the low bytes of a value are enough to read it back
pub convert_of-stored : (ty : IntType) (v : ℕ) → IsValue ty v → convert_of (v % 2 ^ (8 * bytes_of ty)) ty ≡ v
unfolding convert_of
convert_of-stored BoolType v h = grind (arith, ints, nat_tests)
convert_of-stored I8 v h = grind (arith, ints, nat_tests)
convert_of-stored U8 v h = grind (arith, ints, nat_tests)
convert_of-stored I16 v h = grind (arith, ints, nat_tests)
convert_of-stored U16 v h = grind (arith, ints, nat_tests)
convert_of-stored I32 v h = grind (arith, ints, nat_tests)
convert_of-stored U32 v h = grind (arith, ints, nat_tests)
convert_of-stored I64 v h = grind (arith, ints, nat_tests)
convert_of-stored U64 v h = grind (arith, ints, nat_tests)

-- a signed reading gives back an integer that it has room for
signed_reading : (z : ℤ) (k : ℕ) → 0 < k → k ≤ 2 ^ 63 → negsuc (k - 1) ≤ℤ z → z ≤ℤ pos (k - 1) → cast_signed w64 (bits_of z) ≡ z
signed_reading (pos n) k p q low high = omega (arith, ints)
signed_reading (negsuc n) k p q low high = let small : n < 2 ^ 63 = omega (arith, ints) in grind (arith, ints, nat_tests)

unsigned_reading : (z : ℤ) (m : ℕ) → m ≤ 2 ^ 64 → pos 0 ≤ℤ z → z ≤ℤ pos (m - 1) → pos (bits_of z) ≡ z
unsigned_reading (pos n) m q low high = omega (arith, ints)
unsigned_reading (negsuc n) m q low high = absurd (omega (arith, ints))

reading : (b : Bool) (z : ℤ) (k m : ℕ) → 0 < k → k ≤ 2 ^ 63 → m ≤ 2 ^ 64 → cond b (negsuc (k - 1)) (pos 0) ≤ℤ z → z ≤ℤ cond b (pos (k - 1)) (pos (m - 1)) → cond b (cast_signed w64 (bits_of z)) (pos (bits_of z)) ≡ z
reading true z k m p q r low high = signed_reading z k p q low high
reading false z k m p q r low high = unsigned_reading z m r low high

-- the bits of an integer of a type's range are the value that stands for it
pub value_of-bits_of : (ty : IntType) (z : ℤ) → least_of ty ≤ℤ z → z ≤ℤ greatest_of ty → value_of ty (bits_of z) ≡ z
value_of-bits_of ty z low high =
    reading (is_signed ty) z (half_of ty) (count_of ty) (pow_pos (width_of ty - 1)) (half_of-le ty) (count_of-le ty) low high

pub IsValue-bits_of : (ty : IntType) (z : ℤ) → least_of ty ≤ℤ z → z ≤ℤ greatest_of ty → IsValue ty (bits_of z)
IsValue-bits_of ty z low high =
    let e = value_of-bits_of ty z low high in
    record { fits = bits_of-lt z; from_least = rw e low; to_greatest = rw e high }

-- an integer of the type's range is wrapped to the value that stands for it
pub value_of-wrap : (ty : IntType) (z : ℤ) → least_of ty ≤ℤ z → z ≤ℤ greatest_of ty → value_of ty (wrap ty z) ≡ z
value_of-wrap ty z low high =
    ap (value_of ty) (convert_of-value ty (bits_of z) (IsValue-bits_of ty z low high)) ∙ value_of-bits_of ty z low high

-- two values that stand for one integer are equal
pub value_of-injective : (ty : IntType) (u v : ℕ) → IsValue ty u → IsValue ty v → value_of ty u ≡ value_of ty v → u ≡ v
value_of-injective ty u v p q e =
    sym (bits_of-value_of ty u p.fits) ∙ ap bits_of e ∙ bits_of-value_of ty v q.fits

-- each type has 0, and each but `_Bool` has more than 1
holds_zero : (ty : IntType) → least_of ty ≤ℤ pos 0
holds_zero ty = by_sign (is_signed ty) where
  by_sign : (b : Bool) → cond b (negsuc (half_of ty - 1)) (pos 0) ≤ℤ pos 0
  by_sign true = omega (arith, ints)
  by_sign false = omega (arith, ints)

holds_one : (ty : IntType) → ty ≢ BoolType → pos 1 ≤ℤ greatest_of ty
holds_one BoolType n = absurd (n refl)
holds_one I8 n = omega (arith, ints)
holds_one U8 n = omega (arith, ints)
holds_one I16 n = omega (arith, ints)
holds_one U16 n = omega (arith, ints)
holds_one I32 n = omega (arith, ints)
holds_one U32 n = omega (arith, ints)
holds_one I64 n = omega (arith, ints)
holds_one U64 n = omega (arith, ints)

-- widened and back
pub convert_of-back : (s ty : IntType) (v : ℕ) → IsValue s v → ty ≢ BoolType → width_of s ≤ width_of ty → convert_of (convert_of v ty) s ≡ v
convert_of-back BoolType ty v h n w =
    let e = convert_of-value ty v (IsValue-wider BoolType ty v h (holds_zero ty) (holds_one ty n)) in
    ap (λ (u : ℕ). convert_of u BoolType) e ∙ convert_of-value BoolType v h
convert_of-back I8 ty v h n w = convert_of-twice ty I8 v n (λ (e : I8 ≡ BoolType). cc) w ∙ convert_of-value I8 v h
convert_of-back U8 ty v h n w = convert_of-twice ty U8 v n (λ (e : U8 ≡ BoolType). cc) w ∙ convert_of-value U8 v h
convert_of-back I16 ty v h n w = convert_of-twice ty I16 v n (λ (e : I16 ≡ BoolType). cc) w ∙ convert_of-value I16 v h
convert_of-back U16 ty v h n w = convert_of-twice ty U16 v n (λ (e : U16 ≡ BoolType). cc) w ∙ convert_of-value U16 v h
convert_of-back I32 ty v h n w = convert_of-twice ty I32 v n (λ (e : I32 ≡ BoolType). cc) w ∙ convert_of-value I32 v h
convert_of-back U32 ty v h n w = convert_of-twice ty U32 v n (λ (e : U32 ≡ BoolType). cc) w ∙ convert_of-value U32 v h
convert_of-back I64 ty v h n w = convert_of-twice ty I64 v n (λ (e : I64 ≡ BoolType). cc) w ∙ convert_of-value I64 v h
convert_of-back U64 ty v h n w = convert_of-twice ty U64 v n (λ (e : U64 ≡ BoolType). cc) w ∙ convert_of-value U64 v h
