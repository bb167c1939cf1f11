-- A table keeps what it has.
use Rattle.c_file_rules.proofs.Deriving.{types_made}
use Rattle.c_file_rules.proofs.laws.tables_keep_types.Goals as goal

pub returns : goal.returns
returns = λ c. types_made
