use Rattle.std.proofs.Common.{◌≡◌, drop}
use Rattle.c_preproc.specs.Expansion.{hash_line}
use Rattle.c_preproc.proofs.names.hash_line.Given as goal

abbrev pub invariant-loop-token : goal.invariant-loop-token
invariant-loop-token l = hash_line l.bytes (drop l.token-index l.tokens) ≡ hash_line l.bytes l.tokens
