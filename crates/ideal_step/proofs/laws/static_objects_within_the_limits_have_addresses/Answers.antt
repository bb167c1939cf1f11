-- The last address is below 2 ^ 64.
use Rattle.ideal_step.proofs.Limits.{limits_give_addresses}
use Rattle.ideal_step.proofs.laws.static_objects_within_the_limits_have_addresses.Goals as goal

pub returns : goal.returns
returns c = limits_give_addresses c.args.statics.now c.requires.words c.requires.count
