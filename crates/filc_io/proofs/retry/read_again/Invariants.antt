-- The calls so far gave nothing.
use Rattle.std.specs.Io.KnownBytes.{Keeps}
use Rattle.filc_io.proofs.retry.read_again.Given as goal

abbrev pub invariant-loop-try : goal.invariant-loop-try
invariant-loop-try g l = Keeps (g.R.Read.remaining l.initial.from) (g.R.Read.remaining l.from)
