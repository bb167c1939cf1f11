-- The law is proved in `Sizes.antt`.
use Rattle.stmt_gen.proofs.Sizes.{code_has_its_size}
use Rattle.stmt_gen.proofs.laws.code_has_its_size.Goals as goal

pub returns : goal.returns
returns c = code_has_its_size
