-- What stands before the index needs no more than there is.
use Rattle.std.proofs.Common.{◌+◌, ◌*◌, All, take, drop}
use Rattle.std.specs.Prelude.{max}
use denote.Param.Weighed.{most}
use Rattle.c_tree.specs.declared.expr.Expr.{size-Expr}
use Rattle.c_tree.specs.declared.expr.Link.{size-Link}
use Rattle.program_fits.specs.Lists.{ExprIsWithin, LinkIsWithin}
use Rattle.program_fits.proofs.Room.{IsLeft}
use Rattle.program_fits.proofs.registers.+temps.Given as goal

abbrev pub invariant-operands_are_below-loop-operand : goal.invariant-operands_are_below-loop-operand
invariant-operands_are_below-loop-operand l = IsLeft l.room (drop l.operand-index l.operands) l.fn.room l.operands

abbrev pub invariant-each_is_within-loop-operand : goal.invariant-each_is_within-loop-operand
invariant-each_is_within-loop-operand l = All (ExprIsWithin l.limit) (take l.operand-index l.operands)

abbrev pub invariant-links_are_within-loop-link : goal.invariant-links_are_within-loop-link
invariant-links_are_within-loop-link l = All (LinkIsWithin l.limit) (take l.link-index l.links)

-- ---- each part is less deep, and what is handed on unchanged ranks lower

abbrev pub decreases-expr_is_within : goal.decreases-expr_is_within
decreases-expr_is_within l = 4 * goal.size-expr_is_within l

abbrev pub decreases-operand_is_below : goal.decreases-operand_is_below
decreases-operand_is_below l = 4 * goal.size-operand_is_below l + 1

abbrev pub decreases-operands_are_below : goal.decreases-operands_are_below
decreases-operands_are_below l = 4 * goal.size-operands_are_below l + 2

abbrev pub decreases-each_is_within : goal.decreases-each_is_within
decreases-each_is_within l = 4 * goal.size-each_is_within l + 1

abbrev pub decreases-links_are_within : goal.decreases-links_are_within
decreases-links_are_within l = 4 * goal.size-links_are_within l + 1

abbrev pub decreases-value_is_within : goal.decreases-value_is_within
decreases-value_is_within l = 4 * goal.size-value_is_within l + 3

abbrev pub decreases-tests_are_within : goal.decreases-tests_are_within
decreases-tests_are_within l = 4 * goal.size-tests_are_within l + 3

abbrev pub decreases-chain_is_within : goal.decreases-chain_is_within
decreases-chain_is_within l = 4 * max (size-Expr l.first.now) (most size-Link l.links.now) + 3

abbrev pub decreases-choice_is_within : goal.decreases-choice_is_within
decreases-choice_is_within l = 4 * max (size-Expr l.test.now) (max (size-Expr l.one.now) (size-Expr l.other.now)) + 3
