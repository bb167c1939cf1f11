-- The size of a static object in words.
use Rattle.std.specs.Prelude.{ℕ}
use Rattle.std.specs.Int.{div_ceil}

-- how many words of eight bytes hold an object's bytes
abbrev pub payload_words_of : ℕ → ℕ
payload_words_of bytes = div_ceil bytes 8
