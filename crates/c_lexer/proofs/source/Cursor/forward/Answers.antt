use Rattle.std.proofs.Common.{◌≡◌, ◌<◌, arith, sym, ap, ◌∙◌, subst, get_or, length}
use Rattle.c_lexer.specs.Source.{without_splices, lines_of}
use Rattle.c_lexer.proofs.Cursors.{place_inside, line_there}
use Rattle.c_lexer.proofs.source.Cursor.forward.Goals as goal

pub returns-clause-line : goal.returns-clause-line
returns-clause-line c =
    let a = c.args in
    let l = c.loop-cursor in
    let there : l.cursor.byte ≡ a.to = omega arith in
    λ h.
    let inside = place_inside a.origin a.file.now l.cursor l.invariant.is_at.reaches (subst (λ k. k < length (without_splices a.file.now)) (sym there) h) in
    line_there a.origin a.file.now l.cursor l.invariant.is_at inside ∙ ap (λ k. get_or (lines_of a.origin.library a.origin.line a.file.now) k 0) there
