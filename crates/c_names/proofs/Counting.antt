-- Counts of elements by their values, and what a type is completed with.
use Rattle.std.proofs.Common.{◌≡◌, ℕ, ◌≤◌, ◌<◌, Some, None, refl, sym, ap, ◌∙◌, arith}
use Rattle.std.specs.Prelude.{Option}
use native.Mathlib.Decide.{dec_le}
use denote.Struct.Record.{values_one}
use Rattle.c_types.specs.contracts.ctype.ElementCount as CountType
use Rattle.c_types.specs.declared.ctype.ElementCount.{ElementCount}
use Rattle.c_types.specs.Extensions.{count_if, count_of}

count_there : (c : ElementCount) (p : Dec (1 ≤ c.value)) → count_if c.value p ≡ Some c
count_there c (yes p) =
    let made : ElementCount = record { value = c.value; some = p } in ap Some (values_one CountType.struct CountType.the_propositions made c refl)
count_there c (no p) = absurd (p c.some)

-- a count is the one of its value
pub count_known : (c : ElementCount) → count_of c.value ≡ Some c
count_known c = count_there c (dec_le 1 c.value)

none_there : (n : ℕ) (p : Dec (1 ≤ n)) → n ≡ 0 → count_if n p ≡ None
none_there n (yes p) e = absurd (omega (arith, p, e))
none_there n (no p) e = refl

-- there is none of no elements
pub count_none : (n : ℕ) → n ≡ 0 → count_of n ≡ None
count_none n e = none_there n (dec_le 1 n) e
