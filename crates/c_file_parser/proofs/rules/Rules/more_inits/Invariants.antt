-- What a loop has read so far, and what it is to read yet.
use Rattle.std.proofs.Common.{◌≡◌, ◌-◌, ◌∷◌, [], length}
use Rattle.c_parts.specs.declared.terminal.Terminal.TheVariants as t
use Rattle.c_parts.specs.Reading.{repeat}
use Rattle.c_parts.specs.Kinds.{has}
use Rattle.c_cursor.specs.Input.{answer}
use Rattle.c_cursor.proofs.Loops.{so_far}
use Rattle.c_syntax.specs.Grammar as grammar
use Rattle.c_syntax.specs.Grammar.{inner}
use Rattle.c_syntax.specs.Files as spec
use Rattle.c_syntax.specs.Files.{bodies}
use Rattle.c_file_parser.proofs.rules.Rules.more_inits.Given as goal

abbrev pub invariant-more : goal.invariant-more
invariant-more g l = so_far (has (t.Comma ∷ [])) (grammar.comma_and (spec.init (inner l.self.room) (bodies l.self.room))).read (length l.initial.cursor.rest - l._turn) l.cursor l.more ≡ answer (repeat (has (t.Comma ∷ [])) (grammar.comma_and (spec.init (inner l.self.room) (bodies l.self.room))).read) l.initial.cursor
