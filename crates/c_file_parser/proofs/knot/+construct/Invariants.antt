-- The room gets smaller.
use Rattle.c_file_parser.proofs.knot.+construct.Given as goal

abbrev pub decreases-construct : goal.decreases-construct
decreases-construct l = l.room
