use Rattle.std.proofs.Common.{sym, ◌∙◌}
use Rattle.form_reader.proofs.Lexing.{lexemes-mark, lexemes-twin}
use Rattle.form_reader.proofs.lexemes.mark_at.Goals as goal

pub returns-then-is_twin : goal.returns-then-is_twin
returns-then-is_twin c =
    lexemes-twin c.args.line c.args.first c.args.after.now c.requires.visible c.requires.mark (sym c.is_twin.ensures ∙ c.if-is_twin.true)

pub returns-else-is_twin : goal.returns-else-is_twin
returns-else-is_twin c =
    lexemes-mark c.args.line c.args.first c.args.after.now c.requires.visible c.requires.mark (sym c.is_twin.ensures ∙ c.if-is_twin.false)
