-- What is allowed is what the actor may make, names what is there, and is answered so.
use Rattle.ideal_machine.specs.Memory.{default_world}
use Rattle.ideal_step.proofs.Allowed.{allowed_by}
use Rattle.ideal_step.proofs.ideal.Ideal.allows.Goals as goal

pub returns : goal.returns
returns c =
    allowed_by (default_world c.args.input.now) c.args.self.now c.args.actor c.args.event.now c.args.answer.now c.may_make.result c.names_objects.result c.is_answer.result (c.may_make.ensures c.args.input.now) c.names_objects.ensures c.is_answer.ensures
