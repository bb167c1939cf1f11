-- A rise stays a rise, whatever comes before and after it, since counts never fall.
use Rattle.std.proofs.Common.{ℕ, ◌≤◌, arith}
use Rattle.filc_io.specs.Counts.{HasRisen}

-- a count that never fell, and then rose
pub HasRisen-later : (first before now : ℕ) → first ≤ before → HasRisen before now → HasRisen first now
HasRisen-later first before now h risen = omega arith

-- a count that rose, and then never fell
pub HasRisen-kept : (before now last : ℕ) → HasRisen before now → now ≤ last → HasRisen before last
HasRisen-kept before now last risen h = omega arith
