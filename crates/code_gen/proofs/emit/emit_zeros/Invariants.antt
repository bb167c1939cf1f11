use Rattle.std.proofs.Common.{◌≡◌, ◌++◌, drop}
use Rattle.code_gen.specs.Code.{zeros_code}
use Rattle.code_gen.proofs.emit.emit_zeros.Given as goal

-- what is emitted, with the code of the locals that are left, is the whole block's
abbrev pub invariant-loop-local : goal.invariant-loop-local
invariant-loop-local l = l.code.items ++ zeros_code (drop l.local-index l.locals) ≡ l.fn.code.items ++ zeros_code l.locals
