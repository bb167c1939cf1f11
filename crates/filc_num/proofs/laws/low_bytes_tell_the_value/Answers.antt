-- A value is read back from its low bytes.
use Rattle.filc_num.proofs.Conversions.{convert_of-stored}
use Rattle.filc_num.proofs.laws.low_bytes_tell_the_value.Goals as goal

pub returns : goal.returns
returns c = convert_of-stored c.args.ty c.args.v
