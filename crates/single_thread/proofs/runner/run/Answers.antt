-- At the end of the program, or of the turns, the outside has seen all of the run.
use Rattle.std.proofs.Common.{◌≡◌, ◌<◌, ◌-◌, ap, ◌∙◌, arith}
use Rattle.single_thread.specs.Alone.{observable_of_run}
use Rattle.single_thread.proofs.Turns.{begin_is, end_is, spent_is}
use Rattle.single_thread.proofs.runner.run.Goals as goal

pub loop-turn-init : goal.loop-turn-init
loop-turn-init c =
    let b = begin_is c.args.code.now c.begin.new.self c.args.out.now.items c.main.result c.main.ensures.value c.begin.ensures.exact c.requires.empty c.begin.ensures.of_code in
    let all : c.args.turns - 0 ≡ c.args.turns = omega arith in
    record {
      ready = b.0;
      room = c.requires.room;
      seen = b.1 (c.args.turns - 0) ∙ ap (λ n. observable_of_run n c.args.code.now) all;
    }

pub returns-in-Some-clause-bytes : goal.returns-in-Some-clause-bytes
returns-in-Some-clause-bytes c =
    let left : 0 < c.args.turns - c.loop-turn._turn = omega arith in
    ap (λ o. o.bytes)
    (end_is c.args.code.now c.loop-turn.thread c.turn.new.thread c.loop-turn.out.items c.turn.new.out.items c.in-Some.finish
    (c.args.turns - c.loop-turn._turn) (observable_of_run c.args.turns c.args.code.now) left c.in-Some.ensures.turn c.loop-turn.invariant.seen)

pub returns-in-Some-clause-finish : goal.returns-in-Some-clause-finish
returns-in-Some-clause-finish c =
    let left : 0 < c.args.turns - c.loop-turn._turn = omega arith in
    ap (λ o. o.finish)
    (end_is c.args.code.now c.loop-turn.thread c.turn.new.thread c.loop-turn.out.items c.turn.new.out.items c.in-Some.finish
    (c.args.turns - c.loop-turn._turn) (observable_of_run c.args.turns c.args.code.now) left c.in-Some.ensures.turn c.loop-turn.invariant.seen)

pub returns-clause-bytes : goal.returns-clause-bytes
returns-clause-bytes c =
    let none : c.args.turns - c.loop-turn._turn ≡ 0 = omega arith in
    ap (λ o. o.bytes)
    (spent_is c.args.code.now c.loop-turn.thread c.loop-turn.out.items (c.args.turns - c.loop-turn._turn) (observable_of_run c.args.turns c.args.code.now) none
    c.loop-turn.invariant.ready c.loop-turn.invariant.seen)

pub returns-clause-finish : goal.returns-clause-finish
returns-clause-finish c =
    let none : c.args.turns - c.loop-turn._turn ≡ 0 = omega arith in
    ap (λ o. o.finish)
    (spent_is c.args.code.now c.loop-turn.thread c.loop-turn.out.items (c.args.turns - c.loop-turn._turn) (observable_of_run c.args.turns c.args.code.now) none
    c.loop-turn.invariant.ready c.loop-turn.invariant.seen)
