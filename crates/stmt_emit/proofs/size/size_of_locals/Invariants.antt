-- What has been counted, and the sizes of what is left, are the whole size.
use Rattle.std.proofs.Common.{◌≡◌, ◌+◌, drop}
use Rattle.stmt_gen.specs.Code.{locals_size}
use Rattle.stmt_emit.proofs.size.size_of_locals.Given as goal

abbrev pub invariant-loop-local : goal.invariant-loop-local
invariant-loop-local l = l.size + locals_size (drop l.local-index l.locals) ≡ locals_size l.locals
