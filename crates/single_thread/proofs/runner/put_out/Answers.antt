-- A byte was put out, or the output had no room for it.
use Rattle.std.proofs.Common.{◌<◌, ◌≤◌, length, ap, ◌∙◌, arith}
use Rattle.single_thread.proofs.Turns.{out_tells, full_tells, turn_is}
use Rattle.single_thread.proofs.runner.put_out.Goals as goal
use Rattle.single_thread.proofs.runner.put_out.Goals.{then-len-lt-MOST_OUTPUT_BYTES, else-len-lt-MOST_OUTPUT_BYTES}

pub returns-clause-turn : goal.returns-clause-turn
returns-clause-turn c =
    let code = c.args.code.now in
    let old = c.args.thread.now in
    let out = c.args.out.now.items in
    let new = c.if-len-lt-MOST_OUTPUT_BYTES.thread in
    let after = c.if-len-lt-MOST_OUTPUT_BYTES.out.items in
    elim c.if-len-lt-MOST_OUTPUT_BYTES.branch [
      | then-len-lt-MOST_OUTPUT_BYTES w ↦
          let room : length out < 1048576 = omega arith in
          turn_is code old out _ new _ after c.trap_of.result
          (w.thread-is ∙ w.answer.ensures.exact) (ap (λ v. v.items) w.out-is ∙ w.push_reserved.ensures.items) c.trap_of.ensures
          (out_tells code old c.requires.ready out c.args.byte c.requires.wanted room)
      | else-len-lt-MOST_OUTPUT_BYTES w ↦
          let full : 1048576 ≤ length out = omega arith in
          turn_is code old out _ new _ after c.trap_of.result
          (w.thread-is ∙ w.answer-else-len-lt-MOST_OUTPUT_BYTES.ensures.exact) (ap (λ v. v.items) w.out-is) c.trap_of.ensures
          (full_tells code old c.requires.ready out c.args.byte c.requires.wanted full)
    ]
