use Rattle.std.proofs.Common.{◌≡◌, ◌+◌, ◌<◌, ◌^◌, length}
use Rattle.form_reader.specs.Lexemes.{lexemes}
use Rattle.form_reader.proofs.lexemes.after_blanks.Given as goal

abbrev pub invariant-loop-first : goal.invariant-loop-first
invariant-loop-first l =
    (lexemes l.fn.line l.bytes ≡ lexemes l.line l.rest) × (l.line + length l.rest < 2 ^ 32)

abbrev pub decreases-loop-first : goal.decreases-loop-first
decreases-loop-first l = length l.rest
