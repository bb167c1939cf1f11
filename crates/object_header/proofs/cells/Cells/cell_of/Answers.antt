-- The class whose cells have the place is found, and then the cell by a quotient.
use Rattle.std.proofs.Common.{◌+◌, ◌-◌, ◌*◌, ◌<◌, refl, arith}
use Rattle.std.proofs.Math.Nat.{div-lt_iff_lt-mul}
use Rattle.object_header.specs.WordMap.{class_at}
use Rattle.object_header.specs.HeapCells.{classes_in}
use Rattle.object_header.proofs.CellLemmas.{words_together-mono, cell_end, cell_within}
use Rattle.object_header.proofs.cells.Cells.cell_of.Goals as goal

pub overflow_cast-result : goal.overflow_cast-result
overflow_cast-result c =
    let cells = (class_at (classes_in c.args.self.now) c.loop-class.class).1 in
    let below : (c.in_ok-at.at - c.loop-class.start) < cells * c.size-size.result =
    rw c.size-size.ensures (omega (arith, c.if-at-end.true, c.together.ensures.size, c.loop-class.invariant.before)) in
    let quotient = (div-lt_iff_lt-mul {k = c.size-size.result} {x = c.in_ok-at.at - c.loop-class.start} {y = cells} (omega (arith, c.size-size.ensures))).1 below in
    omega (arith, quotient, c.together.ensures.few)

pub returns-then-into-size-eq0-clause-inverse : goal.returns-then-into-size-eq0-clause-inverse
returns-then-into-size-eq0-clause-inverse c = λ d m is e.
    let w = cell_within (classes_in c.args.self.now) c.loop-class.class d m c.in_ok-at.at c.loop-class.start c.size-size.result c.together.result
    (omega arith) c.loop-class.invariant.start c.size-size.ensures c.together.ensures.size c.loop-class.invariant.before c.if-at-end.true is (omega (arith, c.in_ok-checked_sub.ensures, c.in_ok-at.ensures)) in
    rw (w.0, w.1) refl

pub returns-else-into-size-eq0-clause-inverse : goal.returns-else-into-size-eq0-clause-inverse
returns-else-into-size-eq0-clause-inverse c = λ d m is e.
    let w = cell_within (classes_in c.args.self.now) c.loop-class.class d m c.in_ok-at.at c.loop-class.start c.size-size.result c.together.result
    (omega arith) c.loop-class.invariant.start c.size-size.ensures c.together.ensures.size c.loop-class.invariant.before c.if-at-end.true is (omega arith) in
    absurd (c.if-into-size-eq0.false w.2)

pub returns-clause-inverse : goal.returns-clause-inverse
returns-clause-inverse c = λ d m is e.
    absurd (omega (
      arith,
      c.loop-class.invariant.start,
      c.loop-class.invariant.before,
      is.class_in_range,
      cell_end (classes_in c.args.self.now) d m is,
      words_together-mono (classes_in c.args.self.now) (d + 1) c.loop-class.class (omega (arith, is.class_in_range)),
    ))
