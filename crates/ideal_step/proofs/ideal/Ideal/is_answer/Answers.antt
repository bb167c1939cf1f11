-- Each event's answers are decided by a function of its own.
use Rattle.ideal_machine.specs.Memory.{default_world}
use Rattle.ideal_step.proofs.ideal.Ideal.is_answer.Goals as goal

pub returns-in-Check : goal.returns-in-Check
returns-in-Check c = rw c.in-Check.is (c.is_check_answer.ensures (default_world c.args.input.now))

pub returns-in-Open : goal.returns-in-Open
returns-in-Open c = rw c.in-Open.is (c.is_pair_answer.ensures (default_world c.args.input.now))

pub returns-in-New : goal.returns-in-New
returns-in-New c = rw c.in-New.is (c.is_new_answer.ensures (default_world c.args.input.now) c.in-New.bytes c.in-New.kind)

pub returns-in-Lock : goal.returns-in-Lock
returns-in-Lock c = rw c.in-Lock.is (c.is_lock_answer.ensures (default_world c.args.input.now))

pub returns-in-Out : goal.returns-in-Out
returns-in-Out c = rw c.in-Out.is (c.is_output_answer.ensures c.args.input.now c.in-Out.byte)

pub returns-in-Spawn : goal.returns-in-Spawn
returns-in-Spawn c = rw c.in-Spawn.is (c.is_spawn_answer.ensures (default_world c.args.input.now) c.in-Spawn.function c.in-Spawn.address c.in-Spawn.half)

pub returns-in-Join : goal.returns-in-Join
returns-in-Join c = rw c.in-Join.is (c.is_join_answer.ensures (default_world c.args.input.now))

pub returns-in-GetHalf : goal.returns-in-GetHalf
returns-in-GetHalf c = rw c.in-GetHalf.is (c.is_half_answer.ensures.get (default_world c.args.input.now))

pub returns-in-CasHalf : goal.returns-in-CasHalf
returns-in-CasHalf c = rw c.in-CasHalf.is (c.is_half_answer-in-CasHalf.ensures.exchange (default_world c.args.input.now) c.in-CasHalf.seen c.in-CasHalf.new)
