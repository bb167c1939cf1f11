-- A file has one answer.
use Rattle.c_file_rules.proofs.OneAnswer.{one_answer}
use Rattle.c_file_rules.proofs.laws.files_have_one_answer.Goals as goal

pub returns : goal.returns
returns = λ c. one_answer
