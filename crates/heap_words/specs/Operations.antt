-- What an operation leaves and what it answers.
--
-- `word_after` is what one atomic step of the processor does to one word. The rest says the same of
-- a list of words: the operation changes the word at its place, and answers by the word found
-- there.
use Rattle.std.specs.Prelude.{ℕ, ◌+◌, ◌%◌, ◌^◌, ◌<◌, ◌==◌, max, bit_or, List, slice_index, slice_set, if◌then◌else◌}
use Rattle.heap_words.specs.declared.op.WordOp.{WordOp}
use Rattle.heap_words.specs.declared.op.WordOp.TheVariants.{Load, Store, Swap, Add, Or, Max, Exchange}

-- the place of its word
abbrev pub place_of : WordOp → ℕ
place_of (Load place) = place
place_of (Store place new) = place
place_of (Swap place new) = place
place_of (Add place number) = place
place_of (Or place bits) = place
place_of (Max place number) = place
place_of (Exchange place expected new) = place

-- what it leaves of a word
abbrev pub word_after : WordOp → ℕ → ℕ
word_after (Load place) word = word
word_after (Store place new) word = new
word_after (Swap place new) word = new
word_after (Add place number) word = (word + number) % 2 ^ 64
word_after (Or place bits) word = bit_or word bits
word_after (Max place number) word = max word number
word_after (Exchange place expected new) word = if word == expected then new else word

-- what it answers where it found a word
abbrev pub answer_at : WordOp → ℕ → ℕ
answer_at (Load place) word = word
answer_at (Store place new) word = 0
answer_at (Swap place new) word = word
answer_at (Add place number) word = word
answer_at (Or place bits) word = word
answer_at (Max place number) word = word
answer_at (Exchange place expected new) word = word

-- what it answers on these words
abbrev pub answer_of : WordOp → List ℕ → ℕ
answer_of op words = answer_at op (slice_index words (place_of op))

-- the words that it leaves
abbrev pub words_after : WordOp → List ℕ → List ℕ
words_after op words = slice_set words (place_of op) (word_after op (slice_index words (place_of op)))

-- each word is below 2^64
abbrev pub AreWords : List ℕ → Type 0
AreWords words = (place : ℕ) → slice_index words place < 2 ^ 64

-- the numbers of the operation are below 2^64
abbrev pub FitsWord : WordOp → Type 0
FitsWord (Load place) = place < 2 ^ 64
FitsWord (Store place new) = (place < 2 ^ 64) × (new < 2 ^ 64)
FitsWord (Swap place new) = (place < 2 ^ 64) × (new < 2 ^ 64)
FitsWord (Add place number) = (place < 2 ^ 64) × (number < 2 ^ 64)
FitsWord (Or place bits) = (place < 2 ^ 64) × (bits < 2 ^ 64)
FitsWord (Max place number) = (place < 2 ^ 64) × (number < 2 ^ 64)
FitsWord (Exchange place expected new) = (place < 2 ^ 64) × (expected < 2 ^ 64) × (new < 2 ^ 64)
