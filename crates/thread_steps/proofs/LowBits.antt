-- The low bits of a result depend on those of the operands alone.
use Rattle.std.proofs.Common.{◌≡◌, ◌≢◌, ℕ, ◌+◌, ◌*◌, ◌/◌, ◌%◌, ◌^◌, ◌<◌, ◌≤◌, ◌-◌, ◌*ℤ◌, cond, pos, refl, sym, ap, ◌∙◌, arith, subst, IsTrue, Ok, Err, Bool}
use Rattle.std.specs.Prelude.{bit_and, bit_or, bit_xor}
use Rattle.std.proofs.lemmas.Nat.{mod-pow-add, mod_low, mod_below, pow_pos, mul-mod, and_mod, or_mod, xor_mod}
use Rattle.std.proofs.Math.Nat.{add-mod}
use Rattle.filc_num.specs.declared.integer.IntType.{IntType}
use Rattle.filc_num.specs.declared.integer.IntType.TheVariants.{Bool as BoolType, I8, U8, I16, U16, I32, U32, I64, U64}
use Rattle.filc_num.specs.declared.integer.ArithFault.TheVariants.{Shift}
use Rattle.filc_num.specs.declared.integer.BinOp.TheVariants.{Add, Sub, Mul, And, Or, Xor, Shl}
use Rattle.filc_num.specs.Integers.{width_of, value_of, bits_of, convert_of, is_promoted, binary_of}
use Rattle.filc_num.proofs.Conversions.{IsValue-convert_of, convert_of-low, convert_of-congruent}
use Rattle.filc_num.proofs.Residues.{sum_of_values, difference_of_values, product_of_values, product_with_power}
use Rattle.ideal_machine.specs.Phrases.{operator_result}
use Rattle.thread_steps.proofs.Passing.{lt_true}
use Rattle.thread_steps.proofs.Registers.{not_less}

-- two numbers have the same low bits
abbrev SameLow : (w m n : ℕ) → Type 0
SameLow w m n = m % 2 ^ w ≡ n % 2 ^ w

-- the low bits of the low 64 bits
short : (n w : ℕ) → w ≤ 64 → SameLow w (n % 2 ^ 64) n
short n w le =
    let split : 64 ≡ (64 - w) + w = omega arith in
    ap (λ (k : ℕ). n % 2 ^ k % 2 ^ w) split
    ∙ ap (λ (m : ℕ). m % 2 ^ w) (mod-pow-add n (64 - w) w)
    ∙ mod_low (n / 2 ^ w % 2 ^ (64 - w)) w (n % 2 ^ w) (mod_below n (2 ^ w) (pow_pos w))

sum_low : (w a b c d : ℕ) → w ≤ 64 → SameLow w a c → SameLow w b d → SameLow w ((a + b) % 2 ^ 64) ((c + d) % 2 ^ 64)
sum_low w a b c d le p q =
    short (a + b) w le
    ∙ add-mod a b (2 ^ w)
    ∙ ap (λ (n : ℕ). (n + b % 2 ^ w) % 2 ^ w) p
    ∙ ap (λ (n : ℕ). (c % 2 ^ w + n) % 2 ^ w) q
    ∙ sym (add-mod c d (2 ^ w))
    ∙ sym (short (c + d) w le)

product_low : (w a b c d : ℕ) → w ≤ 64 → SameLow w a c → SameLow w b d → SameLow w ((a * b) % 2 ^ 64) ((c * d) % 2 ^ 64)
product_low w a b c d le p q =
    short (a * b) w le
    ∙ mul-mod a b (2 ^ w)
    ∙ ap (λ (n : ℕ). (n * (b % 2 ^ w)) % 2 ^ w) p
    ∙ ap (λ (n : ℕ). (c % 2 ^ w * n) % 2 ^ w) q
    ∙ sym (mul-mod c d (2 ^ w))
    ∙ sym (short (c * d) w le)

-- what is left of 2 ^ 64
rest_low : (ty : IntType) (b d : ℕ) → IsTrue (is_promoted ty) → b < 2 ^ 64 → d < 2 ^ 64 → SameLow (width_of ty) b d → SameLow (width_of ty) (2 ^ 64 - b) (2 ^ 64 - d)
rest_low BoolType b d h p q e = absurd (cc)
rest_low I8 b d h p q e = absurd (cc)
rest_low U8 b d h p q e = absurd (cc)
rest_low I16 b d h p q e = absurd (cc)
rest_low U16 b d h p q e = absurd (cc)
rest_low I32 b d h p q e = omega arith
rest_low U32 b d h p q e = omega arith
rest_low I64 b d h p q e = omega arith
rest_low U64 b d h p q e = omega arith

promoted_short : (ty : IntType) → width_of ty ≤ 64
promoted_short BoolType = omega arith
promoted_short I8 = omega arith
promoted_short U8 = omega arith
promoted_short I16 = omega arith
promoted_short U16 = omega arith
promoted_short I32 = omega arith
promoted_short U32 = omega arith
promoted_short I64 = omega arith
promoted_short U64 = omega arith

module _ (ty : IntType) (promoted : IsTrue (is_promoted ty)) where
  no_bool : ty ≢ BoolType
  no_bool e = let h : IsTrue (is_promoted BoolType) = subst (λ (s : IntType). IsTrue (is_promoted s)) e promoted in absurd (cc)

  -- an operand and its conversion
  same_low : (v : ℕ) → SameLow (width_of ty) v (convert_of v ty)
  same_low v = sym (convert_of-congruent ty v no_bool)

  fits : (v : ℕ) → convert_of v ty < 2 ^ 64
  fits v = (IsValue-convert_of ty v).fits

  pub sum_is : (a b : ℕ) → Ok (convert_of ((a + b) % 2 ^ 64) ty) ≡ operator_result Add ty a b
  unfolding binary_of
  sum_is a b =
      ap (λ (n : ℕ). Ok n)
      (convert_of-low ty ((a + b) % 2 ^ 64) ((convert_of a ty + convert_of b ty) % 2 ^ 64) no_bool
      (sum_low (width_of ty) a b (convert_of a ty) (convert_of b ty) (promoted_short ty) (same_low a) (same_low b))
      ∙ ap (λ (n : ℕ). convert_of n ty) (sym (sum_of_values ty (convert_of a ty) (convert_of b ty) (fits a) (fits b))))

  pub difference_is : (a b : ℕ) → b < 2 ^ 64 → Ok (convert_of ((a + (2 ^ 64 - b)) % 2 ^ 64) ty) ≡ operator_result Sub ty a b
  unfolding binary_of
  difference_is a b lt =
      ap (λ (n : ℕ). Ok n)
      (convert_of-low ty ((a + (2 ^ 64 - b)) % 2 ^ 64) ((convert_of a ty + (2 ^ 64 - convert_of b ty)) % 2 ^ 64) no_bool
      (sum_low (width_of ty) a (2 ^ 64 - b) (convert_of a ty) (2 ^ 64 - convert_of b ty) (promoted_short ty) (same_low a)
      (rest_low ty b (convert_of b ty) promoted lt (fits b) (same_low b)))
      ∙ ap (λ (n : ℕ). convert_of n ty) (sym (difference_of_values ty (convert_of a ty) (convert_of b ty) (fits a) (fits b))))

  pub product_is : (a b : ℕ) → Ok (convert_of ((a * b) % 2 ^ 64) ty) ≡ operator_result Mul ty a b
  unfolding binary_of
  product_is a b =
      ap (λ (n : ℕ). Ok n)
      (convert_of-low ty ((a * b) % 2 ^ 64) ((convert_of a ty * convert_of b ty) % 2 ^ 64) no_bool
      (product_low (width_of ty) a b (convert_of a ty) (convert_of b ty) (promoted_short ty) (same_low a) (same_low b))
      ∙ ap (λ (n : ℕ). convert_of n ty) (sym (product_of_values ty (convert_of a ty) (convert_of b ty) (fits a) (fits b))))

  pub and_is : (a b : ℕ) → Ok (convert_of (bit_and a b) ty) ≡ operator_result And ty a b
  unfolding binary_of
  and_is a b =
      ap (λ (n : ℕ). Ok n)
      (convert_of-low ty (bit_and a b) (bit_and (convert_of a ty) (convert_of b ty)) no_bool
      (and_mod a b (width_of ty)
      ∙ ap (λ (n : ℕ). bit_and n (b % 2 ^ width_of ty)) (same_low a)
      ∙ ap (λ (n : ℕ). bit_and (convert_of a ty % 2 ^ width_of ty) n) (same_low b)
      ∙ sym (and_mod (convert_of a ty) (convert_of b ty) (width_of ty))))

  pub or_is : (a b : ℕ) → Ok (convert_of (bit_or a b) ty) ≡ operator_result Or ty a b
  unfolding binary_of
  or_is a b =
      ap (λ (n : ℕ). Ok n)
      (convert_of-low ty (bit_or a b) (bit_or (convert_of a ty) (convert_of b ty)) no_bool
      (or_mod a b (width_of ty)
      ∙ ap (λ (n : ℕ). bit_or n (b % 2 ^ width_of ty)) (same_low a)
      ∙ ap (λ (n : ℕ). bit_or (convert_of a ty % 2 ^ width_of ty) n) (same_low b)
      ∙ sym (or_mod (convert_of a ty) (convert_of b ty) (width_of ty))))

  pub xor_is : (a b : ℕ) → Ok (convert_of (bit_xor a b) ty) ≡ operator_result Xor ty a b
  unfolding binary_of
  xor_is a b =
      ap (λ (n : ℕ). Ok n)
      (convert_of-low ty (bit_xor a b) (bit_xor (convert_of a ty) (convert_of b ty)) no_bool
      (xor_mod a b (width_of ty)
      ∙ ap (λ (n : ℕ). bit_xor n (b % 2 ^ width_of ty)) (same_low a)
      ∙ ap (λ (n : ℕ). bit_xor (convert_of a ty % 2 ^ width_of ty) n) (same_low b)
      ∙ sym (xor_mod (convert_of a ty) (convert_of b ty) (width_of ty))))

  pub shift_is : (a k : ℕ) → k < width_of ty → Ok (convert_of ((a * 2 ^ k) % 2 ^ 64) ty) ≡ operator_result Shl ty a k
  unfolding binary_of
  shift_is a k lt =
      ap (λ (n : ℕ). Ok n)
      (convert_of-low ty ((a * 2 ^ k) % 2 ^ 64) ((convert_of a ty * 2 ^ k) % 2 ^ 64) no_bool
      (product_low (width_of ty) a (2 ^ k) (convert_of a ty) (2 ^ k) (promoted_short ty) (same_low a) refl)
      ∙ ap (λ (n : ℕ). convert_of n ty) (sym (product_with_power ty (convert_of a ty) k (fits a) (omega (arith, lt, promoted_short ty)))))
      ∙ ap (λ (b : Bool). cond b (Ok (convert_of (bits_of (value_of ty (convert_of a ty) *ℤ pos (2 ^ k))) ty)) (Err Shift)) (sym (lt_true k (width_of ty) lt))

  pub shift_fails : (a k : ℕ) → width_of ty ≤ k → Err Shift ≡ operator_result Shl ty a k
  unfolding binary_of
  shift_fails a k le =
      ap (λ (b : Bool). cond b (Ok (convert_of (bits_of (value_of ty (convert_of a ty) *ℤ pos (2 ^ k))) ty)) (Err Shift)) (sym (not_less k (width_of ty) le))
