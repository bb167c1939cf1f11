-- A block is emitted statement by statement.
use Rattle.std.proofs.Common.{◌≡◌, ◌<◌, ◌+◌, ◌++◌, drop, length}
use Rattle.filc_num.specs.declared.registers.TheConstants.{REGISTERS}
use Rattle.form_tree.specs.Lists.{stmt_list_temps}
use Rattle.code_gen.specs.Code.{stmt_code}
use Rattle.code_gen.specs.Lists.{stmt_list_code}
use Rattle.code_gen.proofs.emit.+emit_stmt.Given as goal

abbrev pub decreases-emit_stmt : goal.decreases-emit_stmt
decreases-emit_stmt l = goal.size-emit_stmt l

-- what is emitted, with the code of the statements that are left, is the whole block's
abbrev pub invariant-loop-stmt : goal.invariant-loop-stmt
invariant-loop-stmt l = record {
  code : l.code.items ++ stmt_list_code (drop l.stmt-index l.stmt-items) l.t (length l.code.items) ≡ l.fn.code.items ++ stmt_code l.fn.stmt l.t (length l.fn.code.items);
  room : l.t + stmt_list_temps (drop l.stmt-index l.stmt-items) < REGISTERS;
}
