use Rattle.std.proofs.Common.{◌≡◌, List, ◌++◌, map, take}
use Rattle.form_reader.specs.Lexemes.{Lexeme}
use Rattle.form_reader.specs.Form.{text_of}
use Rattle.form_reader.proofs.form.takes_all.Given as goal

abbrev pub invariant-loop-text : goal.invariant-loop-text
invariant-loop-text l =
    (taken : List Lexeme) × (l.fn.tokens ≡ taken ++ l.tokens) × (map text_of taken ≡ map (λ text. text.now) (take l.text-index l.texts))
