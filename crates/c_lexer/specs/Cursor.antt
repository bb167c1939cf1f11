-- A place in the file that belongs to a byte of the file without its splices.
use Rattle.std.specs.Prelude.{◌≡◌, ℕ, ◌+◌, ◌<◌, ◌≤◌, ◌^◌, false, List, length, drop}
use Rattle.c_lexer.specs.declared.token.Origin.{Origin}
use Rattle.c_lexer.specs.declared.source.Cursor.{Cursor}
use Rattle.c_lexer.specs.Source.{without_splices, lines_of, splice_at}

-- from the cursor's place on the file has the bytes, and their lines, from the byte of its number on
pub record Reaches (origin : Origin) (file : List ℕ) (cursor : Cursor) : Type 0 where
  pub within : cursor.place ≤ length file
  pub before : cursor.byte ≤ cursor.place
  pub small : origin.library ≡ false → cursor.line + length file < 2 ^ 32 + cursor.place
  pub bytes : without_splices (drop cursor.place file) ≡ drop cursor.byte (without_splices file)
  pub lines : lines_of origin.library cursor.line (drop cursor.place file) ≡ drop cursor.byte (lines_of origin.library origin.line file)

-- and no splice stands there
pub record IsAt (origin : Origin) (file : List ℕ) (cursor : Cursor) : Type 0 where
  pub reaches : Reaches origin file cursor
  pub at_byte : splice_at file cursor.place ≡ false
