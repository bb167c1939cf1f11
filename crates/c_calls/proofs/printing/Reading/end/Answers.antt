-- Where values are left, the format is bad.
use Rattle.std.proofs.Common.{sym, arith, rules}
use Rattle.std.specs.Prelude.{IsTrue}
use Rattle.c_calls.proofs.Printed.{not_ended}
use Rattle.c_calls.proofs.printing.Reading.end.Goals as goal

pub returns-then-not-is_empty : goal.returns-then-not-is_empty
returns-then-not-is_empty c = λ s f.
    let r = c.args.self in
    sym (not_ended s f r.printed r.mode r.operand_number r.pending (λ e. let t : IsTrue c.is_empty.result = c.is_empty.ensures.1 e in first_of (cc, grind arith, search rules)))
