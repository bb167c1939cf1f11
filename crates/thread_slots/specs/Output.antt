-- The output words, and which bytes are written.
--
-- A byte of the output is one word, and a word that has none is 0. Bytes are put out in order, so
-- the words that are taken come before the others. The hint is a number below which all are taken.
-- It may lie far below the first free word, but never above it.
use Rattle.std.specs.Prelude.{◌≡◌, ◌≢◌, ℕ, ◌+◌, ◌<◌, ◌≤◌, List, length, slice_index}
use Rattle.object_header.specs.WordMap.{Layout, Part, Fixed, Output, IsPart}
use Rattle.object_header.specs.Contents.{word_at}
use Rattle.object_header.specs.declared.words.FixedWord.TheVariants.{OutputHint}

-- these bytes are put out: the first output words have them, the others are free, and each word
-- below the hint is taken
pub record IsWritten (l : Layout) (words bytes : List ℕ) : Type 0 where
  pub fits : length bytes ≤ l.out_words
  pub taken : (index : ℕ) → index < length bytes → word_at l words (Output index) ≡ slice_index bytes index + 1
  pub free : (index : ℕ) → length bytes ≤ index → index < l.out_words → word_at l words (Output index) ≡ 0
  pub below_hint : (index : ℕ) → index < word_at l words (Fixed OutputHint) → index < l.out_words → index < length bytes

-- this output word has the byte now, the hint is behind it, and each other part has its old word
pub record Writes (l : Layout) (old new : List ℕ) (index byte : ℕ) : Type 0 where
  pub as_many : length new ≡ length old
  pub byte_is : word_at l new (Output index) ≡ byte + 1
  pub hint_is : word_at l new (Fixed OutputHint) ≡ index + 1
  pub others : (other : Part) → IsPart l other → other ≢ Output index → other ≢ Fixed OutputHint → word_at l new other ≡ word_at l old other
