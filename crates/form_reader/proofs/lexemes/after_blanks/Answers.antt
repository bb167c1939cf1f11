use Rattle.std.proofs.Common.{◌≡◌, ℕ, ◌∷◌, true, length, ap, sym, ◌∙◌, arith, rules}
use Rattle.form_reader.specs.Lexemes.{lexemes, is_blank}
use Rattle.form_reader.proofs.Lexing.{lexemes-blank}
use Rattle.form_reader.proofs.lexemes.after_blanks.Goals as goal

pub loop-first-preserved : goal.loop-first-preserved
loop-first-preserved c =
    let front : c.loop-first.rest.now ≡ c.in-Some.first.now ∷ c.in-Some.after.now = search rules in
    let blank : is_blank c.in-Some.first.now ≡ true = search rules in
    let passed = lexemes-blank c.loop-first.line c.in-Some.first.now c.in-Some.after.now blank in (
      c.loop-first.invariant.0 ∙ (ap (lexemes c.loop-first.line) front ∙ (passed ∙ ap (λ (line : ℕ). lexemes line c.in-Some.after.now) (sym c.line_after-line.ensures))),
      (let counted = ap length front in grind arith),
    )
