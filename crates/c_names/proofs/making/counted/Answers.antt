-- A count is known by its value.
use Rattle.std.proofs.Common.{sym}
use Rattle.c_names.proofs.Counting.{count_known, count_none}
use Rattle.c_names.proofs.making.counted.Goals as goal

pub returns-then-count-eq0 : goal.returns-then-count-eq0
returns-then-count-eq0 c = sym (count_none c.args.count c.if-count-eq0.true)

pub returns : goal.returns
returns c = sym (count_known _)
