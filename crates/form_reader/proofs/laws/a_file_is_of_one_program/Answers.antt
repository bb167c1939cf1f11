-- The grammar is unambiguous, from its leaves up.
use Rattle.form_reader.proofs.OneForm.{form_one}
use Rattle.form_reader.proofs.laws.a_file_is_of_one_program.Goals as goal

pub returns : goal.returns
returns c = form_one
