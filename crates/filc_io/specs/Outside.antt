-- The outside at one moment, and what a call makes of it.
--
-- A device's state is what it holds, as far as it is told, and its count of faults. `None` says that
-- nothing is told, and then nothing is claimed of the bytes.
use Rattle.std.specs.Prelude.{◌≡◌, ℕ, List, ◌++◌, drop, Option}
use Rattle.std.specs.List.{find}
use Rattle.std.specs.Option.{option_map}
use Rattle.std.specs.Str.{bytes_eq}

-- files, as pairs of a name and its bytes; the first of a name counts
pub record FilesState : Type 0 where
  pub contents : Option (List (List ℕ × List ℕ))
  pub faults : ℕ

-- a source, and the bytes that it has left
pub record SourceState : Type 0 where
  pub left : Option (List ℕ)
  pub faults : ℕ

-- a sink, and the bytes that it took
pub record SinkState : Type 0 where
  pub taken : Option (List ℕ)
  pub faults : ℕ

-- the bytes of the first file of that name, where files are pairs of a name and its bytes
abbrev pub file_named : List ℕ → List (List ℕ × List ℕ) → Option (List ℕ)
file_named name files = option_map (λ file. file.1) (find (λ file. bytes_eq file.0 name) files)

-- what a sink holds once it took these bytes too
abbrev pub append : Option (List ℕ) → List ℕ → Option (List ℕ)
append taken bytes = option_map (λ before. before ++ bytes) taken

-- a sink took these bytes
abbrev pub Takes : SinkState → SinkState → List ℕ → Type 0
Takes old new bytes = new.taken ≡ append old.taken bytes

-- what a source has left once it gave its first n bytes
abbrev pub without_front : ℕ → Option (List ℕ) → Option (List ℕ)
without_front n left = option_map (λ bytes. drop n bytes) left
