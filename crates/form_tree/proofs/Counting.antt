-- Counting the greatest of a list, up to 256.
use Rattle.std.proofs.Common.{◌≡◌, ◌≤◌, ℕ, min, max, arith}

-- before the first of a list
pub count_starts : (most first rest whole : ℕ) → most ≡ min first 256 → whole ≡ max first rest → (most ≤ 256) × (min (max most rest) 256 ≡ min whole 256)
count_starts most first rest whole e w = (omega arith, omega arith)

-- after the last
pub count_ends : (most rest whole : ℕ) → rest ≡ 0 → (most ≤ 256) × (min (max most rest) 256 ≡ min whole 256) → most ≡ min whole 256
count_ends most rest whole e h = omega (arith, h.0, h.1)

-- of two
pub count_both : (a b x y whole : ℕ) → a ≡ min x 256 → b ≡ min y 256 → whole ≡ max x y → max a b ≡ min whole 256
count_both a b x y whole e f w = omega arith
