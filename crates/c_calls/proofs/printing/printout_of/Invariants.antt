-- What is printed so far, with what the rest of the format prints, is what all of it prints.
use Rattle.std.proofs.Common.{◌≡◌, drop}
use Rattle.c_expr_rules.specs.Calls.{printout}
use Rattle.c_expr_rules.specs.declared.printer.Mode.TheVariants.{Text}
use Rattle.c_calls.specs.Printouts.{rest_of}
use Rattle.c_expr_rules.specs.Views.{seen_state}
use Rattle.c_calls.proofs.printing.printout_of.Given as goal

abbrev pub invariant-loop-byte : goal.invariant-loop-byte
invariant-loop-byte l =
    let s = seen_state l.state in
    rest_of s l.printer l.reading (drop l.byte-index l.format) ≡ printout s l.printer Text l.format 1 l.fn.values
