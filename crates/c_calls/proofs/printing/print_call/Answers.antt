-- What is found by the one rule is what the definition finds.
use Rattle.std.proofs.Common.{◌∙◌}
use Rattle.c_expr_rules.specs.Calls.{printout}
use Rattle.c_expr_rules.specs.declared.printer.Mode.TheVariants.{Text}
use Rattle.c_expr_rules.specs.Views.{seen_state}
use Rattle.c_calls.proofs.Printed.{call_is}
use Rattle.c_calls.proofs.printing.print_call.Goals as goal

pub returns : goal.returns
returns c =
    let s = seen_state c.args.state.now in
    c.by_rules.ensures s
    ∙ call_is s c.args.line c.args.printer c.in_ok-printed.printed (printout s c.args.printer Text c.args.format.now 1 c.args.arguments.values) c.is_not_printed.result c.in_ok-made.made
    c.kind_value-found.result c.in_ok-printed.ensures c.is_not_printed.ensures c.in_ok-made.ensures c.kind_value-found.ensures
