use Rattle.std.proofs.Common.{◌+◌, sym, ap, ◌∙◌, Bool}
use Rattle.std.specs.Prelude.{if◌then◌else◌}
use Rattle.std.proofs.lemmas.List.{get_or_read}
use Rattle.ideal_machine.specs.Values.{zero_value, value_at}
use Rattle.thread_steps.proofs.Blocks.{value_at_get}
use Rattle.thread_steps.proofs.Passing.{lt_true}
use Rattle.thread_steps.proofs.thread.calls.argument_or_zero.Goals as goal

pub returns-then-k-given : goal.returns-then-k-given
returns-then-k-given c =
    let rs = c.args.registers.now.items in
    let n = c.args.from + c.args.k in
    get_or_read rs n c.index.result.now (c.requires c.if-k-given.true) c.index.ensures zero_value
    ∙ sym (value_at_get rs n)
    ∙ ap (λ (b : Bool). if b then value_at rs n else zero_value) (sym (lt_true c.args.k c.args.given c.if-k-given.true))
