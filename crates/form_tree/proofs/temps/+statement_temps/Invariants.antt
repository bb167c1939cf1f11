use Rattle.std.proofs.Common.{◌≡◌, ◌≤◌, min, max, drop}
use Rattle.form_tree.specs.Temps.{stmt_temps}
use Rattle.form_tree.specs.Lists.{stmt_list_temps}
use Rattle.form_tree.proofs.temps.+statement_temps.Given as goal

-- what is counted, with what is left to count, is the whole block's
abbrev pub invariant-loop-stmt : goal.invariant-loop-stmt
invariant-loop-stmt l = (l.most ≤ 256) × (min (max l.most (stmt_list_temps (drop l.stmt-index l.stmt-items))) 256 ≡ min (stmt_temps l.stmt) 256)
