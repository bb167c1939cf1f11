-- A format is read to its end, byte by byte.
use Rattle.std.proofs.Common.{◌∙◌, arith}
use Rattle.c_expr_rules.specs.Views.{seen_state}
use Rattle.c_calls.proofs.Printed.{begins, goes_on, ends_here, is_bad, ends_after}
use Rattle.c_calls.proofs.printing.printout_of.Goals as goal

pub loop-byte-init : goal.loop-byte-init
loop-byte-init c =
    begins (seen_state c.args.state.now) c.args.printer c.args.format.now c.args.values c.new.result c.new-2.result c.from_vec-pending.result
    c.new.ensures c.new-2.ensures (c.from_vec-pending.ensures ∙ c.in_ok-last_first.ensures)

pub loop-byte-preserved : goal.loop-byte-preserved
loop-byte-preserved c =
    goes_on (seen_state c.args.state.now) c.args.printer c.args.format.now c.loop-byte.byte-index c.loop-byte.reading c.read_byte.new.self c.in_ok-read_byte.field-0 _
    (omega arith) c.loop-byte.invariant c.in-On.is c.in_ok-read_byte.ensures

pub returns-in-Ends : goal.returns-in-Ends
returns-in-Ends c =
    let s = seen_state c.args.state.now in
    c.end.ensures s c.args.printer
    ∙ ends_here s c.args.printer c.args.format.now c.loop-byte.byte-index c.loop-byte.reading c.read_byte.new.self c.in_ok-read_byte.field-0 _
    (omega arith) c.loop-byte.invariant c.in-Ends.is c.in_ok-read_byte.ensures

pub returns-in-Bad : goal.returns-in-Bad
returns-in-Bad c =
    is_bad (seen_state c.args.state.now) c.args.printer c.args.format.now c.loop-byte.byte-index c.loop-byte.reading c.read_byte.new.self c.in_ok-read_byte.field-0 _
    (omega arith) c.loop-byte.invariant c.in-Bad.is c.in_ok-read_byte.ensures

pub returns : goal.returns
returns c =
    let s = seen_state c.args.state.now in
    c.end-2.ensures s c.args.printer
    ∙ ends_after s c.args.printer c.args.format.now c.loop-byte.byte-index c.loop-byte.reading _ (omega arith) c.loop-byte.invariant
