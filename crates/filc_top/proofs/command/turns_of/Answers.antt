-- A word spells one number, so it spells none in the range where that number is outside of it.
use Rattle.std.proofs.Common.{arith, sym, ◌∙◌}
use Rattle.filc_top.proofs.Words.{one_number}
use Rattle.filc_top.proofs.command.turns_of.Goals as goal

pub returns-then-turns-eq0 : goal.returns-then-turns-eq0
returns-then-turns-eq0 c turns is spells =
    let found = c.in_ok-turns.ensures.found in
    omega (arith, is.least, c.if-turns-eq0.true, one_number c.in_ok-turns.turns turns c.args.word.now found.0 is (sym c.as_bytes.ensures.value ∙ found.1) spells)

pub returns-then-turns-gt-MOST_TURNS : goal.returns-then-turns-gt-MOST_TURNS
returns-then-turns-gt-MOST_TURNS c turns is spells =
    let found = c.in_ok-turns.ensures.found in
    omega (arith, is.most, c.if-turns-gt-MOST_TURNS.true, one_number c.in_ok-turns.turns turns c.args.word.now found.0 is (sym c.as_bytes.ensures.value ∙ found.1) spells)
