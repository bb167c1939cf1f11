use Rattle.std.proofs.Common.{◌≡◌, [], ap, ◌∙◌, rules}
use Rattle.form_reader.specs.Lexemes.{lexemes}
use Rattle.form_reader.proofs.Lexing.{lexemes-none}
use Rattle.form_reader.proofs.lexemes.lexeme_at.Goals as goal

pub returns-in-empty-clause-none : goal.returns-in-empty-clause-none
returns-in-empty-clause-none c =
    let empty : c.after_blanks-line.result.0.now ≡ [] = search rules in
    c.after_blanks-line.ensures.same ∙ (ap (lexemes c.after_blanks-line.result.1) empty ∙ lexemes-none c.after_blanks-line.result.1)
