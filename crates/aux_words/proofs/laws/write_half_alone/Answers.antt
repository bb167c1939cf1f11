-- A load and a store, or a load.
use Rattle.aux_words.proofs.Writing.{ends, got}
use Rattle.aux_words.proofs.laws.write_half_alone.Goals as goal

pub returns-clause-sets : goal.returns-clause-sets
returns-clause-sets c l words site word cap half laid_out in_map fits some has = ends l words site word cap half laid_out has in_map fits some

pub returns-clause-got : goal.returns-clause-got
returns-clause-got c = got
