-- A register of the innermost frame is one of the block, and a write of it leaves the frames below.
use Rattle.std.proofs.Common.{◌<◌, ◌≤◌, ◌*◌, ◌+◌, List, length, set, sym, ap, ◌∙◌, subst, arith}
use Rattle.ideal_machine.specs.declared.value.Value.{Value}
use Rattle.whole_thread.specs.Standing.{Caller, with_register}
use Rattle.whole_thread.specs.Thread.{Thread}
use Rattle.thread_steps.specs.Blocks.{frame_registers, callers_of}
use Rattle.thread_steps.proofs.Blocks.{index_within, frame_write, callers_same}
use Rattle.thread_steps.proofs.thread.CodeThread.put.Goals as goal

pub index_mut-requires : goal.index_mut-requires
index_mut-requires c =
    let s = c.self.inside in
    let within : s.base + c.args.d < length s.registers.items =
    index_within s.registers.items s.depth s.values s.base c.args.d c.self.invariant.0 c.self.invariant.2 c.self.invariant.3
    (subst (λ (t : Thread). c.args.d < length t.at.frame.registers) (sym c.self.view_is) c.requires) in
    omega (arith, within, s.registers.ok.0)

pub returns : goal.returns
returns c =
    let s = c.self.inside in
    let rs = s.registers.items in
    let lt : c.args.d < length (frame_registers rs s.depth s.values) = subst (λ (t : Thread). c.args.d < length t.at.frame.registers) (sym c.self.view_is) c.requires in
    let low : 256 * s.depth ≤ s.base + c.args.d = omega (arith, c.self.invariant.3) in
    let view : List Caller → List Value → Thread = λ cs l. record {
      id = s.id;
      main = s.main;
      at = record { callers = cs; frame = record { function = s.function; index = s.index; called_at = s.called_at; registers = l }; granted = s.granted };
      stage = s.stage;
    } in
    ap (λ cs. view cs (frame_registers (set rs (s.base + c.args.d) c.args.value) s.depth s.values)) (callers_same s.callers.items rs s.depth (s.base + c.args.d) c.args.value low)
    ∙ ap (λ l. view (callers_of s.callers.items rs s.depth) l) (frame_write rs s.depth s.values s.base c.args.d c.args.value c.self.invariant.3 lt)
    ∙ ap (λ (t : Thread). record t { at = with_register t.at c.args.d c.args.value }) c.self.view_is
