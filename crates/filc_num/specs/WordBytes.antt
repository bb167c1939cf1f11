-- Bytes of a word: byte k of it has the place of 256 ^ k, so the lowest comes first.
use Rattle.std.specs.Prelude.{◌≡◌, ◌⊎◌, ℕ, ◌+◌, ◌*◌, ◌/◌, ◌%◌, ◌^◌, ◌≤◌}

-- the number that `width` bytes are, from byte `offset` on
abbrev pub bytes_of : (word offset width : ℕ) → ℕ
bytes_of word offset width = word / 256 ^ offset % 256 ^ width

-- the word with the low bytes of a value there: the bytes above, the value's, the bytes below
abbrev pub with_bytes : (word offset width value : ℕ) → ℕ
with_bytes word offset width value =
    word / 256 ^ (offset + width) * 256 ^ (offset + width) + value % 256 ^ width * 256 ^ offset + word % 256 ^ offset

-- how many bytes an access may touch
abbrev pub IsWidth : ℕ → Type 0
IsWidth width = (width ≡ 1) ⊎ (width ≡ 2) ⊎ (width ≡ 4) ⊎ (width ≡ 8)

-- two runs of bytes share none
abbrev pub IsApart : (offset width other size : ℕ) → Type 0
IsApart offset width other size = (offset + width ≤ other) ⊎ (other + size ≤ offset)
