-- What the operators give: values, truths, and errors by the rule.
use Rattle.std.proofs.Common.{◌≡◌, ◌⊎◌, ◌↔◌, ℕ, ◌-◌, ◌^◌, ◌<◌, ◌≤◌, Bool, true, false, cond, not, ◌&&◌, ◌||◌, pos, negsuc, refl, arith, w64, Ok, Err, IfOk, IsTrue, IsOkAnd}
use Rattle.std.specs.Prelude.{◌==◌, nat_lt}
use Rattle.std.specs.Int.{cast_signed}
use Rattle.std.proofs.lemmas.Int.{ints}
use Rattle.std.proofs.lemmas.Nat.{pow_pos}
use Rattle.std.proofs.lemmas.Bool.Decides.{nat_tests}
use Rattle.filc_num.specs.declared.integer.IntType.{IntType}
use Rattle.filc_num.specs.declared.integer.IntType.TheVariants.{I32}
use Rattle.filc_num.specs.declared.integer.BinOp.{BinOp}
use Rattle.filc_num.specs.declared.integer.BinOp.TheVariants.{Add, Sub, Mul, Div, Rem, And, Or, Xor, Shl, Shr, Lt, Le, Gt, Ge, Eq, Ne}
use Rattle.filc_num.specs.declared.integer.ArithFault.{ArithFault}
use Rattle.filc_num.specs.declared.integer.ArithFault.TheVariants.{Divide, Shift}
use Rattle.filc_num.specs.Integers.{width_of, half_of, is_signed, value_of, convert_of, IsValue, can_divide, HasNoQuotient, truth_of, is_comparison, result_type_of, binary_of}
use Rattle.filc_num.proofs.Conversions.{IsValue-convert_of, half_of-le}

IsValue-truth_of : (b : Bool) → IsValue I32 (truth_of b)
IsValue-truth_of true = record { fits = omega arith; from_least = omega (arith, ints); to_greatest = omega (arith, ints) }
IsValue-truth_of false = record { fits = omega arith; from_least = omega (arith, ints); to_greatest = omega (arith, ints) }

if_converted : (b : Bool) (ty : IntType) (v : ℕ) (e : ArithFault) → IfOk (cond b (Ok (convert_of v ty)) (Err e)) (IsValue ty)
if_converted true ty v e = IsValue-convert_of ty v
if_converted false ty v e = tt

pub IsValue-binary_of : (op : BinOp) (ty : IntType) (a b : ℕ) → IfOk (binary_of op ty a b) (IsValue (result_type_of op ty))
unfolding binary_of
IsValue-binary_of Add ty a b = IsValue-convert_of ty _
IsValue-binary_of Sub ty a b = IsValue-convert_of ty _
IsValue-binary_of Mul ty a b = IsValue-convert_of ty _
IsValue-binary_of Div ty a b = if_converted (can_divide ty a b) ty _ Divide
IsValue-binary_of Rem ty a b = if_converted (can_divide ty a b) ty _ Divide
IsValue-binary_of And ty a b = IsValue-convert_of ty _
IsValue-binary_of Or ty a b = IsValue-convert_of ty _
IsValue-binary_of Xor ty a b = IsValue-convert_of ty _
IsValue-binary_of Shl ty a b = if_converted (nat_lt b (width_of ty)) ty _ Shift
IsValue-binary_of Shr ty a b = if_converted (nat_lt b (width_of ty)) ty _ Shift
IsValue-binary_of Lt ty a b = IsValue-truth_of _
IsValue-binary_of Le ty a b = IsValue-truth_of _
IsValue-binary_of Gt ty a b = IsValue-truth_of _
IsValue-binary_of Ge ty a b = IsValue-truth_of _
IsValue-binary_of Eq ty a b = IsValue-truth_of _
IsValue-binary_of Ne ty a b = IsValue-truth_of _

truth_of-le : (b : Bool) → truth_of b ≤ 1
truth_of-le true = omega arith
truth_of-le false = omega arith

pub comparison_is_truth : (op : BinOp) (ty : IntType) (a b : ℕ) → IsTrue (is_comparison op) → IsOkAnd (binary_of op ty a b) (λ n. n ≤ 1)
unfolding binary_of
comparison_is_truth Add ty a b h = cc
comparison_is_truth Sub ty a b h = cc
comparison_is_truth Mul ty a b h = cc
comparison_is_truth Div ty a b h = cc
comparison_is_truth Rem ty a b h = cc
comparison_is_truth And ty a b h = cc
comparison_is_truth Or ty a b h = cc
comparison_is_truth Xor ty a b h = cc
comparison_is_truth Shl ty a b h = cc
comparison_is_truth Shr ty a b h = cc
comparison_is_truth Lt ty a b h = truth_of-le _
comparison_is_truth Le ty a b h = truth_of-le _
comparison_is_truth Gt ty a b h = truth_of-le _
comparison_is_truth Ge ty a b h = truth_of-le _
comparison_is_truth Eq ty a b h = truth_of-le _
comparison_is_truth Ne ty a b h = truth_of-le _

no_quotient : (s : Bool) (k a b : ℕ) → 0 < k → k ≤ 2 ^ 63 → a < 2 ^ 64 → b < 2 ^ 64 → not (b == 0 || (s && (a == 2 ^ 64 - k && b == 2 ^ 64 - 1))) ≡ false → (cond s (cast_signed w64 b) (pos b) ≡ pos 0) ⊎ ((cond s (cast_signed w64 a) (pos a) ≡ cond s (negsuc (k - 1)) (pos 0)) × (cond s (cast_signed w64 b) (pos b) ≡ negsuc 0))
no_quotient true k a b p q u v h = grind (arith, ints, nat_tests)
no_quotient false k a b p q u v h = grind (arith, ints, nat_tests)

no_quotient_back : (s : Bool) (k a b : ℕ) → 0 < k → k ≤ 2 ^ 63 → a < 2 ^ 64 → b < 2 ^ 64 → (cond s (cast_signed w64 b) (pos b) ≡ pos 0) ⊎ ((cond s (cast_signed w64 a) (pos a) ≡ cond s (negsuc (k - 1)) (pos 0)) × (cond s (cast_signed w64 b) (pos b) ≡ negsuc 0)) → not (b == 0 || (s && (a == 2 ^ 64 - k && b == 2 ^ 64 - 1))) ≡ false
no_quotient_back true k a b p q u v h = grind (arith, ints, nat_tests)
no_quotient_back false k a b p q u v h = grind (arith, ints, nat_tests)

if_refused : (b : Bool) (n : ℕ) (e : ArithFault) → (cond b (Ok n) (Err e) ≡ Err e) ↔ (b ≡ false)
if_refused true n e = (λ (h : Ok n ≡ Err e). cc, λ (h : true ≡ false). cc)
if_refused false n e = (λ _. refl, λ _. refl)

can_divide_fails : (ty : IntType) (a b : ℕ) → IsValue ty a → IsValue ty b → (can_divide ty a b ≡ false) ↔ HasNoQuotient ty (value_of ty a) (value_of ty b)
can_divide_fails ty a b p q =
    (no_quotient (is_signed ty) (half_of ty) a b (pow_pos (width_of ty - 1)) (half_of-le ty) p.fits q.fits, no_quotient_back (is_signed ty) (half_of ty) a b (pow_pos (width_of ty - 1)) (half_of-le ty) p.fits q.fits)

joined : {P Q R : Type 0} → P ↔ Q → Q ↔ R → P ↔ R
joined f g = (λ p. g.0 (f.0 p), λ r. f.1 (g.1 r))

pub quotient_fails : (ty : IntType) (a b : ℕ) → IsValue ty a → IsValue ty b → (binary_of Div ty a b ≡ Err Divide) ↔ HasNoQuotient ty (value_of ty a) (value_of ty b)
unfolding binary_of
quotient_fails ty a b p q = joined (if_refused (can_divide ty a b) _ Divide) (can_divide_fails ty a b p q)

pub remainder_fails : (ty : IntType) (a b : ℕ) → IsValue ty a → IsValue ty b → (binary_of Rem ty a b ≡ Err Divide) ↔ HasNoQuotient ty (value_of ty a) (value_of ty b)
unfolding binary_of
remainder_fails ty a b p q = joined (if_refused (can_divide ty a b) _ Divide) (can_divide_fails ty a b p q)

not_below : (m n : ℕ) → (nat_lt m n ≡ false) ↔ (n ≤ m)
not_below m n = (λ (h : nat_lt m n ≡ false). grind (arith, nat_tests), λ (h : n ≤ m). grind (arith, nat_tests))

pub left_shift_fails : (ty : IntType) (a b : ℕ) → (binary_of Shl ty a b ≡ Err Shift) ↔ (width_of ty ≤ b)
unfolding binary_of
left_shift_fails ty a b = joined (if_refused (nat_lt b (width_of ty)) _ Shift) (not_below b (width_of ty))

pub right_shift_fails : (ty : IntType) (a b : ℕ) → (binary_of Shr ty a b ≡ Err Shift) ↔ (width_of ty ≤ b)
unfolding binary_of
right_shift_fails ty a b = joined (if_refused (nat_lt b (width_of ty)) _ Shift) (not_below b (width_of ty))
