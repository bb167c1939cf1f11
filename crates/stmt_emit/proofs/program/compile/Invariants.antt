-- The code of the functions before the index is made, and their static objects are copied.
use Rattle.std.proofs.Common.{◌≡◌, map, take}
use Rattle.filc_num.specs.StaticDefs.{plain_static}
use Rattle.whole_code.specs.Plain.{plain_function}
use Rattle.stmt_gen.specs.Programs.{function_code}
use Rattle.stmt_emit.proofs.program.compile.Given as goal

abbrev pub invariant-loop-function : goal.invariant-loop-function
invariant-loop-function l = map plain_function l.functions.items ≡ map function_code (take l.function-index l.function-items)

abbrev pub invariant-loop-object : goal.invariant-loop-object
invariant-loop-object l = map plain_static l.statics.items ≡ map plain_static (take l.object-index l.object-items)
