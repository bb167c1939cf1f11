-- The room gets smaller.
use Rattle.c_check.proofs.round.+named_type.Given as goal

abbrev pub decreases-named_type : goal.decreases-named_type
decreases-named_type l = l.room
