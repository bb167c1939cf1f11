use Rattle.std.proofs.Common.{◌≡◌}
use Rattle.ideal_machine.specs.declared.event.Event.TheVariants.{Exit}
use Rattle.code_thread.specs.declared.stage.Want.TheVariants.{Event as WantEvent}
use Rattle.code_thread.specs.Thread.{want_of}
use Rattle.single_thread.proofs.Turns.{exit_tells}
use Rattle.single_thread.proofs.runner.turn.Goals as goal

pub returns-in-Event-Exit-clause-turn : goal.returns-in-Event-Exit-clause-turn
returns-in-Event-Exit-clause-turn c =
    let old = c.args.thread.now in
    let wants : want_of old ≡ WantEvent (Exit c.in-Event-Exit.status) = cc in
    exit_tells c.args.code.now old c.requires.ready c.args.out.now.items old c.in-Event-Exit.status wants
