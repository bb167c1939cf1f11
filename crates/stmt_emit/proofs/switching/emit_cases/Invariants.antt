-- The code of the cases from the index on has been put before the tail.
use Rattle.std.proofs.Common.{◌≡◌, drop, slice_index_or}
use Rattle.stmt_gen.specs.Code.{cases_code}
use Rattle.expr_emit.specs.Tail.{before}
use Rattle.stmt_emit.proofs.switching.emit_cases.Given as goal

abbrev pub invariant-loop-index : goal.invariant-loop-index
invariant-loop-index l =
    l.tail ≡ before (cases_code l.place.library l.place.line l.place.t (λ n. slice_index_or l.starts n l.end) (drop l.index l.cases)) l.fn.tail
