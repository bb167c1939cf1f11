-- Counts in 64 bits: the greater of two, and one with so many before it.
use Rattle.std.proofs.Common.{◌≡◌, ℕ, ◌+◌, ◌-◌, ◌^◌, ◌<◌, ◌≤◌, max, min, arith}
use Rattle.std.specs.Prelude.{Result, Ok, Err, MatchResult}
use Rattle.c_temporaries.specs.TemporaryLists.{as_u64}

-- the greater of two counts
pub greater_count : (n m a b c : ℕ) → a ≡ as_u64 n → b ≡ as_u64 m → c ≡ max a b → c ≡ as_u64 (max n m)
greater_count n m a b c a-is b-is c-is = omega arith

-- a count with so many before it
pub count_behind : (k n a c : ℕ) → a ≡ as_u64 n → c ≡ min (a + k) (2 ^ 64 - 1) → c ≡ as_u64 (k + n)
count_behind k n a c a-is c-is = omega arith

-- before the first element
pub none_needed : (n : ℕ) → max n 0 ≡ n
none_needed n = omega arith

-- a count that a u32 holds is that of the tree
pub whole_count :
    {E : Type 0} (r : Result ℕ E) (count needed : ℕ) → count ≡ as_u64 needed → MatchResult r (λ n. (n ≡ count) × (n < 2 ^ 32)) (λ _. 2 ^ 32 ≤ count) →
    MatchResult r (λ n. n ≡ needed) (λ _. 2 ^ 32 ≤ needed)
whole_count (Ok n) count needed e h = omega (arith, e, h.0, h.1)
whole_count (Err _) count needed e h = omega (arith, e, h)
