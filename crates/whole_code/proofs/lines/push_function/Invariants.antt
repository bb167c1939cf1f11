-- What was appended, with the lines of the instructions that are left, is the whole text.
use Rattle.std.proofs.Common.{◌≡◌, ◌++◌, drop}
use Rattle.whole_code.specs.Plain.{plain_function}
use Rattle.whole_code.specs.Listing.{instruction_lines, function_lines}
use Rattle.whole_code.proofs.lines.push_function.Given as goal

abbrev pub invariant-loop-index : goal.invariant-loop-index
invariant-loop-index l =
    l.text.items ++ instruction_lines l.index (drop l.index l.instruction-items) ≡ l.fn.text.items ++ function_lines l.number (plain_function l.f)
