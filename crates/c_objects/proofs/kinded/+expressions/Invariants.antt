-- The types so far, with those of the rest of a list, are those of all of it. The recursion ends by the trees' depth.
use Rattle.std.proofs.Common.{◌≡◌, drop}
use Rattle.std.specs.Prelude.{fold}
use Rattle.c_objects.specs.Calls.{operand_kinds, link_kinds}
use Rattle.c_file_rules.specs.Kinds.{with_kind}
use Rattle.c_objects.proofs.kinded.+expressions.Given as goal

abbrev pub invariant-add_operands-operands : goal.invariant-add_operands-operands
invariant-add_operands-operands l =
    fold with_kind l.kinds (operand_kinds (drop l.operand-index l.operands)) ≡ fold with_kind l.fn.kinds (operand_kinds l.operands)

abbrev pub invariant-add_links-links : goal.invariant-add_links-links
invariant-add_links-links l =
    fold with_kind l.kinds (link_kinds (drop l.link-index l.links)) ≡ fold with_kind l.fn.kinds (link_kinds l.links)
