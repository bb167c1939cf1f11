use Rattle.c_expr_parser.proofs.knot.+construct.Given as goal

abbrev pub decreases-construct : goal.decreases-construct
decreases-construct l = l.room
