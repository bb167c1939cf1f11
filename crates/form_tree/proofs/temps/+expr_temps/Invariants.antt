use Rattle.std.proofs.Common.{◌≡◌, ◌≤◌, min, max, drop}
use Rattle.form_tree.specs.Temps.{temps_of}
use Rattle.form_tree.specs.Lists.{list_temps}
use Rattle.form_tree.proofs.temps.+expr_temps.Given as goal

-- what is counted, with what is left to count, is the whole chain's
abbrev pub invariant-loop-link : goal.invariant-loop-link
invariant-loop-link l = (l.most ≤ 256) × (min (max l.most (list_temps (drop l.link-index l.link-items))) 256 ≡ min (temps_of l.expr) 256)
