-- Behind `%l` a directive takes a value.
use Rattle.c_expr_rules.specs.Views.{seen_state}
use Rattle.c_expr_rules.proofs.OperandLists.{ok_then}
use Rattle.c_calls.proofs.Printed.{long_takes}
use Rattle.c_calls.proofs.printing.Reading.read_byte.Goals as goal

pub returns-in-Long : goal.returns-in-Long
returns-in-Long c =
    let s = seen_state c.args.state.now in
    ok_then c.take.result _ _
    (λ t h. long_takes s c.args.printer c.args.byte c.args.self.now c.take.new.self c.long_directive.result t c.in-Long.is (c.long_directive.ensures s) h)
    c.take.ensures
