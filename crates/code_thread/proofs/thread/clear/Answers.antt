-- After the last register all are zero.
use Rattle.std.proofs.Common.{◌≡◌, ◌≤◌, length, sym, ap, ◌∙◌, arith}
use Rattle.std.specs.Prelude.{replicate}
use Rattle.std.proofs.lemmas.List.{take_all}
use Rattle.ideal_machine.specs.Values.{zero_value}
use Rattle.code_thread.specs.Exec.{first_registers}
use Rattle.code_thread.proofs.thread.clear.Goals as goal

pub returns : goal.returns
unfolding first_registers
returns c =
    let items = c.loop-index.registers.items in
    let all : length items ≤ c.loop-index.index = omega (arith, c.loop-index.invariant.long, c.loop-index-test.false) in
    let here : c.loop-index.index ≡ 256 = omega (arith, c.loop-index.auto.index-end, c.loop-index-test.false) in
    sym (take_all c.loop-index.index items all) ∙ c.loop-index.invariant.zeros ∙ ap (λ n. replicate n zero_value) here
