-- What has been counted, and the sizes of what is left, are the whole size.
use Rattle.std.proofs.Common.{◌≡◌, ◌+◌, drop}
use Rattle.stmt_gen.specs.Code.{cases_size}
use Rattle.stmt_emit.proofs.size.size_of_cases.Given as goal

abbrev pub invariant-loop-case : goal.invariant-loop-case
invariant-loop-case l = l.size + cases_size (drop l._case-index l.cases) ≡ cases_size l.cases
