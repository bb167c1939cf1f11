-- The law is proved in `OneRefusal.antt`, from the law of `c_syntax` on prefixes of files.
use Rattle.c_parser.proofs.OneRefusal.{one}
use Rattle.c_parser.proofs.laws.refusals_are_one.Goals as goal

pub returns : goal.returns
returns c = one c.file_prefixes_begin.ensures
