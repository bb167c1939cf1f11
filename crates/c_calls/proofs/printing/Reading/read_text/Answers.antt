-- A byte of the text is put.
use Rattle.std.proofs.Common.{◌≢◌, arith}
use Rattle.c_calls.proofs.Printed.{text_goes}
use Rattle.c_calls.proofs.printing.Reading.read_text.Goals as goal

pub returns : goal.returns
returns c = λ s f.
    let not_nul : c.args.byte ≢ 0 = omega arith in
    let no_percent : c.args.byte ≢ 37 = omega arith in
    text_goes s f c.args.byte c.args.self.now c.put.new.self c.requires not_nul no_percent c.in_ok-put.ensures
