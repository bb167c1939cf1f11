-- The code of what stands from the index on has been put before the tail.
use Rattle.std.proofs.Common.{◌≡◌, ◌+◌, ◌-◌, ◌*◌, ◌≤◌, drop}
use Rattle.std.specs.Prelude.{max}
use Rattle.c_tree.specs.declared.expr.Expr.{size-Expr}
use Rattle.expr_emit.specs.Tail.{before}
use Rattle.expr_emit.specs.Lists.{exprs_size, exprs_code, link_list_size, link_list_code, test_list_size, and_list_code, or_list_code}
use Rattle.expr_emit.proofs.expression.+expression.Given as goal

abbrev pub invariant-emit_operands-loop-index : goal.invariant-emit_operands-loop-index
invariant-emit_operands-loop-index l =
    exprs_size l.operands ≤ l.fn.tail.start →
    l.tail
    ≡ before (exprs_code l.library (drop l.index l.operands) (l.t + l.index) (l.fn.tail.start - exprs_size (drop l.index l.operands))) l.fn.tail

abbrev pub invariant-emit_links-loop-index : goal.invariant-emit_links-loop-index
invariant-emit_links-loop-index l =
    link_list_size l.links ≤ l.fn.tail.start →
    l.tail
    ≡ before (link_list_code l.place.library l.place.line (drop l.index l.links) l.place.t (l.fn.tail.start - link_list_size (drop l.index l.links))) l.fn.tail

abbrev pub invariant-emit_all-loop-index : goal.invariant-emit_all-loop-index
invariant-emit_all-loop-index l =
    test_list_size 1 l.operands ≤ l.fn.tail.start →
    l.tail
    ≡ before (and_list_code l.place.library l.place.line (drop l.index l.operands) l.place.t (l.fn.tail.start - test_list_size 1 (drop l.index l.operands)) l.zero) l.fn.tail

abbrev pub invariant-emit_any-loop-index : goal.invariant-emit_any-loop-index
invariant-emit_any-loop-index l =
    test_list_size 3 l.operands ≤ l.fn.tail.start →
    l.tail
    ≡ before (or_list_code l.place.library l.place.line (drop l.index l.operands) l.place.t (l.fn.tail.start - test_list_size 3 (drop l.index l.operands)) l.end) l.fn.tail

-- ---- each part is less deep, and what is handed on unchanged ranks lower

abbrev pub decreases-emit_expression : goal.decreases-emit_expression
decreases-emit_expression l = 3 * goal.size-emit_expression l

abbrev pub decreases-emit_links : goal.decreases-emit_links
decreases-emit_links l = 3 * goal.size-emit_links l

abbrev pub decreases-emit_operands : goal.decreases-emit_operands
decreases-emit_operands l = 3 * goal.size-emit_operands l + 1

abbrev pub decreases-emit_all : goal.decreases-emit_all
decreases-emit_all l = 3 * goal.size-emit_all l + 1

abbrev pub decreases-emit_any : goal.decreases-emit_any
decreases-emit_any l = 3 * goal.size-emit_any l + 1

abbrev pub decreases-emit_choice : goal.decreases-emit_choice
decreases-emit_choice l = 3 * max (size-Expr l.test.now) (max (size-Expr l.one.now) (size-Expr l.last.now)) + 1

abbrev pub decreases-emit_apply : goal.decreases-emit_apply
decreases-emit_apply l = 3 * goal.size-emit_apply l + 2

abbrev pub decreases-emit_logic : goal.decreases-emit_logic
decreases-emit_logic l = 3 * goal.size-emit_logic l + 2

abbrev pub decreases-emit_printf : goal.decreases-emit_printf
decreases-emit_printf l = 3 * goal.size-emit_printf l + 2
