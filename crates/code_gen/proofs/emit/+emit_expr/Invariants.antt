-- A chain is emitted link by link.
use Rattle.std.proofs.Common.{◌≡◌, ◌<◌, ◌+◌, ◌++◌, drop}
use Rattle.filc_num.specs.declared.registers.TheConstants.{REGISTERS}
use Rattle.form_tree.specs.Lists.{list_temps}
use Rattle.code_gen.specs.Code.{expr_code}
use Rattle.code_gen.specs.Lists.{list_code}
use Rattle.code_gen.proofs.emit.+emit_expr.Given as goal

abbrev pub decreases-emit_expr : goal.decreases-emit_expr
decreases-emit_expr l = goal.size-emit_expr l

-- what is emitted, with the code of the links that are left, is the whole chain's
abbrev pub invariant-loop-link : goal.invariant-loop-link
invariant-loop-link l = record {
  code : l.code.items ++ list_code l.line (drop l.link-index l.link-items) l.t ≡ l.fn.code.items ++ expr_code l.expr l.t;
  room : l.t + list_temps (drop l.link-index l.link-items) < REGISTERS;
}
