-- The steps that are left end as the whole run does.
use Rattle.std.proofs.Common.{◌-◌}
use Rattle.heap_words.proofs.Trying.{EndsAs}
use Rattle.heap_words.proofs.piece.try_alone.Given as goal

abbrev pub invariant-loop : goal.invariant-loop
invariant-loop g l =
    let P = g.P.Piece in
    EndsAs P.work P.is_going (l.steps - l.counter) l.piece l.words l.fn.steps l.fn.piece l.fn.words
