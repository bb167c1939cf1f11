-- What a loop has read so far, and what it is to read yet.
use Rattle.std.proofs.Common.{◌≡◌, ◌-◌, length}
use Rattle.c_parts.specs.Reading.{repeat}
use Rattle.c_parts.specs.Kinds.{has}
use Rattle.c_cursor.specs.Input.{answer}
use Rattle.c_cursor.proofs.Loops.{so_far}
use Rattle.c_syntax.specs.Grammar.{inner}
use Rattle.c_syntax.specs.Files as spec
use Rattle.c_syntax.specs.Files.{bodies}
use Rattle.c_file_parser.proofs.files.externals.Given as goal

abbrev pub invariant-items : goal.invariant-items
invariant-items l = so_far (has (spec.external (inner l.room) (bodies l.room)).shape.starts) (spec.external (inner l.room) (bodies l.room)).read (length l.initial.cursor.rest - l._turn) l.cursor l.items ≡ answer (repeat (has (spec.external (inner l.room) (bodies l.room)).shape.starts) (spec.external (inner l.room) (bodies l.room)).read) l.initial.cursor
