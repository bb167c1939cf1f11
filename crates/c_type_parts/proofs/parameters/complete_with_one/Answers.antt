-- A count of one is there.
use Rattle.std.proofs.Common.{refl}
use Rattle.c_type_parts.proofs.Sized.{is_sized}
use Rattle.c_type_parts.proofs.parameters.complete_with_one.Goals as goal

pub returns : goal.returns
returns c = is_sized _ c.args.derivations.now c.complete_outermost.new.derivations refl c.complete_outermost.ensures
