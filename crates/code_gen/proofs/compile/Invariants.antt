use Rattle.std.proofs.Common.{◌≡◌, take}
use Rattle.std.specs.Prelude.{map}
use Rattle.filc_code.specs.Plain.{plain_function}
use Rattle.code_gen.specs.Code.{function_code}
use Rattle.code_gen.proofs.compile.Given as goal

abbrev pub invariant-loop-function : goal.invariant-loop-function
invariant-loop-function l = map plain_function l.functions.items ≡ map function_code (take l.function-index l.function-items)
