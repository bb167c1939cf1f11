use Rattle.std.proofs.Common.{arith}
use Rattle.c_lexer.proofs.Cursors.{place_inside, over_byte}
use Rattle.c_lexer.proofs.source.Cursor.behind_byte.Goals as goal

pub overflow_add-result : goal.overflow_add-result
overflow_add-result c =
    let r = c.requires.from.reaches in
    let inside = place_inside c.args.origin c.args.file.now c.args.self r c.requires.within in
    omega (arith, r.before, inside)

pub bounds-file-self : goal.bounds-file-self
bounds-file-self c = place_inside c.args.origin c.args.file.now c.args.self c.requires.from.reaches c.requires.within

pub returns-clause-on : goal.returns-clause-on
returns-clause-on c =
    let a = c.args in
    let inside = place_inside a.origin a.file.now a.self c.requires.from.reaches c.requires.within in
    over_byte a.origin a.file.now a.self c.lines_ended.result c.requires.from inside c.lines_ended.ensures.value c.lines_ended.ensures.small
