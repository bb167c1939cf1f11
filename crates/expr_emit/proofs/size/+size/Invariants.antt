-- What has been counted, and the sizes of what is left, are the whole size.
use Rattle.std.proofs.Common.{◌≡◌, ◌+◌, drop}
use Rattle.expr_emit.specs.Lists.{exprs_size, link_list_size, test_list_size}
use Rattle.expr_emit.proofs.size.+size.Given as goal

abbrev pub invariant-size_of_operands-loop-operand : goal.invariant-size_of_operands-loop-operand
invariant-size_of_operands-loop-operand l = l.size + exprs_size (drop l.operand-index l.operands) ≡ exprs_size l.operands

abbrev pub invariant-size_of_links-loop-link : goal.invariant-size_of_links-loop-link
invariant-size_of_links-loop-link l = l.size + link_list_size (drop l.link-index l.links) ≡ link_list_size l.links

abbrev pub invariant-size_of_tests-loop-operand : goal.invariant-size_of_tests-loop-operand
invariant-size_of_tests-loop-operand l =
    l.size + test_list_size l.more (drop l.operand-index l.operands) ≡ test_list_size l.more l.operands
