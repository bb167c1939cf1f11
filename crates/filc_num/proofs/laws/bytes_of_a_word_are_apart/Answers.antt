-- What is put in a word is got, and the rest stays.
use Rattle.filc_num.proofs.WordBytes.{got_bytes, apart_bytes, same_bytes, fits_bytes}
use Rattle.filc_num.proofs.laws.bytes_of_a_word_are_apart.Goals as goal

pub returns-clause-got : goal.returns-clause-got
returns-clause-got c = got_bytes c.args.word c.args.offset c.args.width c.args.value

pub returns-clause-apart : goal.returns-clause-apart
returns-clause-apart c = apart_bytes c.args.word c.args.offset c.args.width c.args.value c.args.other c.args.size

pub returns-clause-same : goal.returns-clause-same
returns-clause-same c = same_bytes c.args.word c.args.offset c.args.width

pub returns-clause-fits : goal.returns-clause-fits
returns-clause-fits c = fits_bytes c.args.word c.args.offset c.args.width c.args.value c.requires c.ranges.word.fits
