-- Two loads, or one.
use Rattle.aux_words.proofs.Reading.{ends}
use Rattle.aux_words.proofs.laws.read_half_alone.Goals as goal

pub returns : goal.returns
returns c l words site word half laid_out in_map has = ends l words site word half laid_out has in_map
