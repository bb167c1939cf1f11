-- What stands before the index fits.
use Rattle.std.proofs.Common.{◌+◌, ◌*◌, All, take}
use Rattle.std.specs.Prelude.{max}
use denote.Param.Weighed.{most}
use Rattle.c_tree.specs.declared.expr.Expr.{size-Expr}
use Rattle.c_tree.specs.declared.expr.Link.{size-Link}
use Rattle.c_tree.specs.Fits.{ExprFits}
use Rattle.program_fits.specs.Lists.{LinkFits}
use Rattle.program_fits.proofs.expression.+expression.Given as goal

abbrev pub invariant-operands_fit-loop-operand : goal.invariant-operands_fit-loop-operand
invariant-operands_fit-loop-operand l = All (ExprFits l.names l.here) (take l.operand-index l.operands)

abbrev pub invariant-links_fit-loop-link : goal.invariant-links_fit-loop-link
invariant-links_fit-loop-link l = All (LinkFits l.names l.here) (take l.link-index l.links)

-- ---- each part is less deep, and what is handed on unchanged ranks lower

abbrev pub decreases-expr_fits : goal.decreases-expr_fits
decreases-expr_fits l = 4 * goal.size-expr_fits l

abbrev pub decreases-link_fits : goal.decreases-link_fits
decreases-link_fits l = 4 * goal.size-link_fits l

abbrev pub decreases-operands_fit : goal.decreases-operands_fit
decreases-operands_fit l = 4 * goal.size-operands_fit l + 1

abbrev pub decreases-links_fit : goal.decreases-links_fit
decreases-links_fit l = 4 * goal.size-links_fit l + 1

abbrev pub decreases-apply_fits : goal.decreases-apply_fits
decreases-apply_fits l = 4 * goal.size-apply_fits l + 2

abbrev pub decreases-some_fit : goal.decreases-some_fit
decreases-some_fit l = 4 * goal.size-some_fit l + 2

abbrev pub decreases-print_fits : goal.decreases-print_fits
decreases-print_fits l = 4 * goal.size-print_fits l + 2

abbrev pub decreases-chain_fits : goal.decreases-chain_fits
decreases-chain_fits l = 4 * max (size-Expr l.first.now) (most size-Link l.links.now) + 2

abbrev pub decreases-choice_fits : goal.decreases-choice_fits
decreases-choice_fits l = 4 * max (size-Expr l.test.now) (max (size-Expr l.one.now) (size-Expr l.other.now)) + 2
