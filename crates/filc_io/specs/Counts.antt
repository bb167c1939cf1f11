-- Counts of faults, which are kept in a u64. A count never falls. It rises at each fault until it
-- stands at the greatest u64, and there it stays.
use Rattle.std.specs.Prelude.{ℕ, ◌+◌, ◌-◌, ◌^◌, ◌≤◌, min}

-- one more, or the greatest u64
abbrev pub count_after : ℕ → ℕ
count_after count = min (count + 1) (2 ^ 64 - 1)

-- the count rose: it is greater than before, or it stands at the greatest u64
abbrev pub HasRisen : ℕ → ℕ → Type 0
HasRisen before now = count_after before ≤ now
