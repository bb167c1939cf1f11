use Rattle.std.proofs.Common.{refl}
use Rattle.single_thread.proofs.Turns.{act_tells, turn_is}
use Rattle.single_thread.proofs.runner.act.Goals as goal

pub returns : goal.returns
returns c =
    turn_is c.args.code.now c.args.thread.now c.args.out.now.items _ c.step.new.self _ c.args.out.now.items c.trap_of.result
    c.step.ensures.exact refl c.trap_of.ensures
    (act_tells c.args.code.now c.args.thread.now c.requires.ready c.args.out.now.items c.requires.wanted)
