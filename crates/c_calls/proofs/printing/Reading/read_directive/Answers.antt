-- A second `%` is put, and a directive takes a value.
use Rattle.std.proofs.Common.{◌≡◌, ◌≢◌, arith}
use Rattle.std.proofs.lemmas.Bool.{ne_eqb}
use Rattle.c_expr_rules.specs.Views.{seen_state}
use Rattle.c_expr_rules.proofs.OperandLists.{ok_then}
use Rattle.c_calls.proofs.Printed.{percent_goes, percent_takes}
use Rattle.c_calls.proofs.printing.Reading.read_directive.Goals as goal

pub returns-then-byte-eq37 : goal.returns-then-byte-eq37
returns-then-byte-eq37 c =
    let is : c.args.byte ≡ 37 = omega arith in
    percent_goes (seen_state c.args.state.now) c.args.printer c.args.byte c.args.self.now c.put.new.self c.requires is c.in_ok-put.ensures

pub returns : goal.returns
returns c =
    let s = seen_state c.args.state.now in
    let no_percent : c.args.byte ≢ 37 = omega arith in
    let no_long : c.args.byte ≢ 108 = omega arith in
    ok_then c.take.result _ _
    (λ t h. percent_takes s c.args.printer c.args.byte c.args.self.now c.take.new.self c.directive_of.result t c.requires (ne_eqb c.args.byte 37 no_percent) (ne_eqb c.args.byte 108 no_long) (c.directive_of.ensures s) h)
    c.take.ensures
