use Rattle.std.proofs.Common.{◌∙◌, ◌==◌, nat_lt, sym, ap, arith, get_or, false}
use Rattle.c_preproc.specs.Code.Expander.{entries_of}
use Rattle.c_preproc.proofs.Seats.{entry_at, length-entries_of, seat_in, seat_past}
use Rattle.c_preproc.proofs.expander.is_expanded.Goals as goal

pub returns-then-seat-stack : goal.returns-then-seat-stack
returns-then-seat-stack c =
    let stack = c.args.stack.now in
    let len = length-entries_of stack in
    let seat = get_or c.args.seats.now c.args.entry 0 in
    let h = c.if-seat-stack.true in
    ap (λ p. p == c.args.entry) (sym (entry_at stack seat (record { entry = 0; next = 0; start = 0; clean = false }) (omega arith)))
    ∙ seat_in c.args.seats.now (entries_of stack) c.args.entry c.requires.seated (omega arith)

pub returns-else-seat-stack : goal.returns-else-seat-stack
returns-else-seat-stack c =
    let stack = c.args.stack.now in
    let len = length-entries_of stack in
    let h = c.if-seat-stack.false in
    ap (λ n. nat_lt (get_or c.args.seats.now c.args.entry 0) n) (sym len)
    ∙ seat_past c.args.seats.now (entries_of stack) c.args.entry c.requires.seated (omega arith)
