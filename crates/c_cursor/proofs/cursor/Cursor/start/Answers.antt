use Rattle.std.proofs.Common.{◌≡◌, length, refl, sym, ap, ◌∙◌}
use Rattle.std.proofs.lemmas.Option.{slice_get_read}
use Rattle.c_cursor.specs.Input.{start_at}
use Rattle.c_cursor.proofs.Ahead.{line_some, lines-past}
use Rattle.c_cursor.proofs.cursor.Cursor.start.Goals as goal

pub returns-in-None : goal.returns-in-None
returns-in-None c =
    ap (λ l. record { line = l; first = c.self.inside.place }) (sym (lines-past c.self.inside.tokens.now c.self.inside.place c.in-None.ensures.lookup.3)) ∙ ap (λ i. start_at i.state) c.self.view_is

pub returns-in-Some : goal.returns-in-Some
returns-in-Some c =
    let tokens = c.self.inside.tokens.now in
    let line : Rattle.c_parts.specs.Production.line_at (Rattle.c_cursor.specs.Input.lines_of tokens) c.self.inside.place ≡ c.in-Some.token.now.line =
    line_some tokens c.self.inside.place c.in-Some.token.now (slice_get_read tokens (length tokens) c.self.inside.place c.in-Some.token.now refl c.in-Some.ensures.lookup.3.0 c.in-Some.ensures.lookup.1) in
    ap (λ l. record { line = l; first = c.self.inside.place }) (sym line) ∙ ap (λ i. start_at i.state) c.self.view_is
