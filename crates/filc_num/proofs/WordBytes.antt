-- Bytes of a word by powers of two: what is put is got, and the other bytes stay.
use Rattle.std.proofs.Common.{◌≡◌, ◌⊎◌, ℕ, suc, zero, ◌+◌, ◌*◌, ◌/◌, ◌%◌, ◌^◌, ◌<◌, ◌≤◌, ◌-◌, refl, sym, ap, ◌∙◌, arith, inl, inr, subst, bit_and}
use Rattle.std.proofs.lemmas.Nat.{pow_pos, pow-add, shr-shr, shr_split, field_of, mod_below, mod_low, shr_high, shr_below, mod-pow-add, mul-add-lt, and_mask}
use Rattle.std.proofs.Math.Nat.{pow-suc, mod-mod, pow-le-pow_right}
use Rattle.std.proofs.Math.Pow.{mod-mod-pow}
use Rattle.filc_num.specs.WordBytes.{bytes_of, with_bytes, IsWidth, IsApart}

-- the place of a byte as a power of two
pub byte_power : (k : ℕ) → 256 ^ k ≡ 2 ^ (8 * k)
byte_power zero = refl
byte_power (suc k) =
    let e : 8 * suc k ≡ 8 * k + 8 = omega arith in
    let p : 2 ^ (8 * k + 8) ≡ 2 ^ (8 * k) * 2 ^ 8 = pow-add 2 (8 * k) 8 in
    pow-suc 256 k ∙ ap (λ (n : ℕ). n * 256) (byte_power k) ∙ sym p ∙ ap (λ (n : ℕ). 2 ^ n) (sym e)

byte_powers : (j k : ℕ) → 256 ^ (j + k) ≡ 2 ^ (8 * j + 8 * k)
byte_powers j k = let e : 8 * (j + k) ≡ 8 * j + 8 * k = omega arith in byte_power (j + k) ∙ ap (λ (n : ℕ). 2 ^ n) e

-- j bits of n, from bit i on
bits : (n i j : ℕ) → ℕ
bits n i j = n / 2 ^ i % 2 ^ j

-- n with the low j bits of v from bit i on
with_bits : (n i j v : ℕ) → ℕ
with_bits n i j v = n / 2 ^ (i + j) * 2 ^ (i + j) + v % 2 ^ j * 2 ^ i + n % 2 ^ i

bytes_are_bits : (n o w : ℕ) → bytes_of n o w ≡ bits n (8 * o) (8 * w)
unfolding bits
bytes_are_bits n o w =
    ap (λ (m : ℕ). n / m % 256 ^ w) (byte_power o) ∙ ap (λ (m : ℕ). n / 2 ^ (8 * o) % m) (byte_power w)

put_bits : (n o w v : ℕ) → with_bytes n o w v ≡ with_bits n (8 * o) (8 * w) v
unfolding with_bits
put_bits n o w v =
    ap (λ (m : ℕ). n / m * m + v % 256 ^ w * 256 ^ o + n % 256 ^ o) (byte_powers o w)
    ∙ ap (λ (m : ℕ). n / 2 ^ (8 * o + 8 * w) * 2 ^ (8 * o + 8 * w) + v % m * 256 ^ o + n % 256 ^ o) (byte_power w)
    ∙ ap (λ (m : ℕ). n / 2 ^ (8 * o + 8 * w) * 2 ^ (8 * o + 8 * w) + v % 2 ^ (8 * w) * m + n % m) (byte_power o)

-- the bits of v and below them are fewer than i + j
low_part : (n i j v : ℕ) → v % 2 ^ j * 2 ^ i + n % 2 ^ i < 2 ^ (i + j)
low_part n i j v =
    let e : 2 ^ (i + j) ≡ 2 ^ i * 2 ^ j = pow-add 2 i j in
    rw e (mul-add-lt (v % 2 ^ j) (2 ^ i) (n % 2 ^ i) (2 ^ j) (mod_below v (2 ^ j) (pow_pos j)) (mod_below n (2 ^ i) (pow_pos i)))

above_low : (a b c : ℕ) → a + b + c ≡ a + (b + c)
above_low a b c = omega arith

high_is : (n i j v : ℕ) → with_bits n i j v / 2 ^ (i + j) ≡ n / 2 ^ (i + j)
unfolding with_bits
high_is n i j v =
    rw (above_low (n / 2 ^ (i + j) * 2 ^ (i + j)) (v % 2 ^ j * 2 ^ i) (n % 2 ^ i))
    (shr_high (n / 2 ^ (i + j)) (i + j) (v % 2 ^ j * 2 ^ i + n % 2 ^ i) (low_part n i j v))

-- the same word by the bits from i on
from_bit : (h p q x r : ℕ) → h * (p * q) + x * p + r ≡ (h * q + x) * p + r
from_bit h p q x r = grind arith

as_shifted : (n i j v : ℕ) → with_bits n i j v ≡ (n / 2 ^ (i + j) * 2 ^ j + v % 2 ^ j) * 2 ^ i + n % 2 ^ i
unfolding with_bits
as_shifted n i j v =
    let e : 2 ^ (i + j) ≡ 2 ^ i * 2 ^ j = pow-add 2 i j in
    ap (λ (m : ℕ). n / 2 ^ (i + j) * m + v % 2 ^ j * 2 ^ i + n % 2 ^ i) e ∙ from_bit (n / 2 ^ (i + j)) (2 ^ i) (2 ^ j) (v % 2 ^ j) (n % 2 ^ i)

low_is : (n i j v : ℕ) → with_bits n i j v % 2 ^ i ≡ n % 2 ^ i
low_is n i j v =
    ap (λ (m : ℕ). m % 2 ^ i) (as_shifted n i j v)
    ∙ mod_low (n / 2 ^ (i + j) * 2 ^ j + v % 2 ^ j) i (n % 2 ^ i) (mod_below n (2 ^ i) (pow_pos i))

got_bits : (n i j v : ℕ) → bits (with_bits n i j v) i j ≡ v % 2 ^ j
unfolding bits
got_bits n i j v =
    ap (λ (m : ℕ). m / 2 ^ i % 2 ^ j) (as_shifted n i j v)
    ∙ ap (λ (m : ℕ). m % 2 ^ j) (shr_high (n / 2 ^ (i + j) * 2 ^ j + v % 2 ^ j) i (n % 2 ^ i) (mod_below n (2 ^ i) (pow_pos i)))
    ∙ mod_low (n / 2 ^ (i + j)) j (v % 2 ^ j) (mod_below v (2 ^ j) (pow_pos j))

-- bits above
above_bits : (n i j v a b : ℕ) → i + j ≤ a → bits (with_bits n i j v) a b ≡ bits n a b
unfolding bits
above_bits n i j v a b h =
    let e : a ≡ (i + j) + (a - (i + j)) = omega arith in
    let P : ℕ → Type 0 = λ k. with_bits n i j v / 2 ^ k % 2 ^ b ≡ n / 2 ^ k % 2 ^ b in
    let k : ℕ = a - (i + j) in
    subst P (sym e)
    (ap (λ (m : ℕ). m % 2 ^ b)
    (sym (shr-shr (with_bits n i j v) (i + j) k) ∙ ap (λ (m : ℕ). m / 2 ^ k) (high_is n i j v) ∙ shr-shr n (i + j) k))

-- bits below hang on the low bits alone
low_bits : (m n i a b : ℕ) → a + b ≤ i → m % 2 ^ i ≡ n % 2 ^ i → bits m a b ≡ bits n a b
unfolding bits
low_bits m n i a b h e =
    let split : i ≡ (i - (b + a)) + (b + a) = omega arith in
    let same : m % 2 ^ (b + a) ≡ n % 2 ^ (b + a) =
    sym (mod-mod-pow m (i - (b + a)) (b + a))
    ∙ ap (λ (k : ℕ). k % 2 ^ (b + a)) (subst (λ (k : ℕ). m % 2 ^ k ≡ n % 2 ^ k) split e)
    ∙ mod-mod-pow n (i - (b + a)) (b + a) in
    sym (field_of m b a) ∙ ap (λ (k : ℕ). k / 2 ^ a) same ∙ field_of n b a

apart_bits : (n i j v a b : ℕ) → (i + j ≤ a) ⊎ (a + b ≤ i) → bits (with_bits n i j v) a b ≡ bits n a b
apart_bits n i j v a b (inl h) = above_bits n i j v a b h
apart_bits n i j v a b (inr h) = low_bits (with_bits n i j v) n i a b h (low_is n i j v)

same_parts : (n i j : ℕ) → n / 2 ^ (i + j) * 2 ^ (i + j) + n / 2 ^ i % 2 ^ j * 2 ^ i + n % 2 ^ i ≡ n
same_parts n i j =
    let e : j + i ≡ i + j = omega arith in
    above_low (n / 2 ^ (i + j) * 2 ^ (i + j)) (n / 2 ^ i % 2 ^ j * 2 ^ i) (n % 2 ^ i)
    ∙ ap (λ (m : ℕ). n / 2 ^ (i + j) * 2 ^ (i + j) + m) (sym (mod-pow-add n j i) ∙ ap (λ (k : ℕ). n % 2 ^ k) e)
    ∙ shr_split n (i + j)

same_bits : (n i j : ℕ) → with_bits n i j (bits n i j) ≡ n
unfolding bits with_bits
same_bits n i j =
    ap (λ (m : ℕ). n / 2 ^ (i + j) * 2 ^ (i + j) + m * 2 ^ i + n % 2 ^ i) (mod-mod (n / 2 ^ i) (2 ^ j)) ∙ same_parts n i j

fits_bits : (n i j v m : ℕ) → i + j ≤ m → n < 2 ^ m → with_bits n i j v < 2 ^ m
unfolding with_bits
fits_bits n i j v m h p =
    let e : m ≡ (m - (i + j)) + (i + j) = omega arith in
    let high : n / 2 ^ (i + j) < 2 ^ (m - (i + j)) =
    shr_below n (m - (i + j)) (i + j) (subst (λ (k : ℕ). n < 2 ^ k) e p) in
    let q : 2 ^ m ≡ 2 ^ (i + j) * 2 ^ (m - (i + j)) =
    ap (λ (k : ℕ). 2 ^ k) (let f : m ≡ (i + j) + (m - (i + j)) = omega arith in f) ∙ pow-add 2 (i + j) (m - (i + j)) in
    rw (above_low (n / 2 ^ (i + j) * 2 ^ (i + j)) (v % 2 ^ j * 2 ^ i) (n % 2 ^ i), q)
    (mul-add-lt (n / 2 ^ (i + j)) (2 ^ (i + j)) (v % 2 ^ j * 2 ^ i + n % 2 ^ i) (2 ^ (m - (i + j))) high (low_part n i j v))

-- ---- bytes

pub got_bytes : (n o w v : ℕ) → bytes_of (with_bytes n o w v) o w ≡ v % 256 ^ w
got_bytes n o w v =
    ap (λ (m : ℕ). bytes_of m o w) (put_bits n o w v)
    ∙ bytes_are_bits (with_bits n (8 * o) (8 * w) v) o w
    ∙ got_bits n (8 * o) (8 * w) v
    ∙ ap (λ (m : ℕ). v % m) (sym (byte_power w))

eightfold : (o w a b : ℕ) → IsApart o w a b → (8 * o + 8 * w ≤ 8 * a) ⊎ (8 * a + 8 * b ≤ 8 * o)
eightfold o w a b (inl h) = inl (omega arith)
eightfold o w a b (inr h) = inr (omega arith)

pub apart_bytes : (n o w v a b : ℕ) → IsApart o w a b → bytes_of (with_bytes n o w v) a b ≡ bytes_of n a b
apart_bytes n o w v a b h =
    ap (λ (m : ℕ). bytes_of m a b) (put_bits n o w v)
    ∙ bytes_are_bits (with_bits n (8 * o) (8 * w) v) a b
    ∙ apart_bits n (8 * o) (8 * w) v (8 * a) (8 * b) (eightfold o w a b h)
    ∙ sym (bytes_are_bits n a b)

pub same_bytes : (n o w : ℕ) → with_bytes n o w (bytes_of n o w) ≡ n
same_bytes n o w =
    ap (λ (m : ℕ). with_bytes n o w m) (bytes_are_bits n o w)
    ∙ put_bits n o w (bits n (8 * o) (8 * w))
    ∙ same_bits n (8 * o) (8 * w)

pub fits_bytes : (n o w v : ℕ) → o + w ≤ 8 → n < 2 ^ 64 → with_bytes n o w v < 2 ^ 64
fits_bytes n o w v h p =
    let q : 8 * o + 8 * w ≤ 64 = omega arith in
    rw (put_bits n o w v) (fits_bits n (8 * o) (8 * w) v 64 q p)

-- ---- masks and shifts

pub low_by_mask : (v w : ℕ) → IsWidth w → bit_and v (18446744073709551615 / 2 ^ (64 - 8 * w)) ≡ v % 256 ^ w
low_by_mask v w (inl e) = rw e (and_mask v 8)
low_by_mask v w (inr (inl e)) = rw e (and_mask v 16)
low_by_mask v w (inr (inr (inl e))) = rw e (and_mask v 32)
low_by_mask v w (inr (inr (inr e))) = rw e (and_mask v 64)

-- what is taken away is a part of the word
pub taken_fits : (n o w : ℕ) → bytes_of n o w * 2 ^ (8 * o) ≤ n
taken_fits n o w =
    let e = bytes_are_bits n o w in
    let p = same_parts n (8 * o) (8 * w) in
    let q : bytes_of n o w * 2 ^ (8 * o) ≡ n / 2 ^ (8 * o) % 2 ^ (8 * w) * 2 ^ (8 * o) =
    ap (λ (m : ℕ). m * 2 ^ (8 * o)) (unfold bits in e) in
    omega (arith, p, q)

-- what comes in its place has room
pub shifted_fits : (o w v : ℕ) → o + w ≤ 8 → v % 256 ^ w * 2 ^ (8 * o) < 2 ^ 64
shifted_fits o w v h =
    let p : v % 2 ^ (8 * w) * 2 ^ (8 * o) + 0 % 2 ^ (8 * o) < 2 ^ (8 * o + 8 * w) = low_part 0 (8 * o) (8 * w) v in
    let q : v % 256 ^ w * 2 ^ (8 * o) ≡ v % 2 ^ (8 * w) * 2 ^ (8 * o) =
    ap (λ (m : ℕ). v % m * 2 ^ (8 * o)) (byte_power w) in
    let r : 8 * o + 8 * w ≤ 64 = omega arith in
    let s : 2 ^ (8 * o + 8 * w) ≤ 2 ^ 64 = pow-le-pow_right (omega arith) r in
    omega (arith, p, q, s)

exchange : (n h x y r : ℕ) → h + x + r ≡ n → (n - x) + y ≡ h + y + r
exchange n h x y r e = omega arith

pub replaced : (n o w v : ℕ) → (n - bytes_of n o w * 2 ^ (8 * o)) + v % 256 ^ w * 2 ^ (8 * o) ≡ with_bytes n o w v
replaced n o w v =
    let p = same_parts n (8 * o) (8 * w) in
    let high : ℕ = n / 2 ^ (8 * o + 8 * w) * 2 ^ (8 * o + 8 * w) in
    let x : bytes_of n o w * 2 ^ (8 * o) ≡ n / 2 ^ (8 * o) % 2 ^ (8 * w) * 2 ^ (8 * o) =
    ap (λ (m : ℕ). m * 2 ^ (8 * o)) (unfold bits in bytes_are_bits n o w) in
    let y : v % 256 ^ w * 2 ^ (8 * o) ≡ v % 2 ^ (8 * w) * 2 ^ (8 * o) =
    ap (λ (m : ℕ). v % m * 2 ^ (8 * o)) (byte_power w) in
    ap (λ (m : ℕ). (n - m) + v % 256 ^ w * 2 ^ (8 * o)) x
    ∙ ap (λ (m : ℕ). (n - n / 2 ^ (8 * o) % 2 ^ (8 * w) * 2 ^ (8 * o)) + m) y
    ∙ exchange n high (n / 2 ^ (8 * o) % 2 ^ (8 * w) * 2 ^ (8 * o)) (v % 2 ^ (8 * w) * 2 ^ (8 * o)) (n % 2 ^ (8 * o)) p
    ∙ sym (unfold with_bits in put_bits n o w v)
