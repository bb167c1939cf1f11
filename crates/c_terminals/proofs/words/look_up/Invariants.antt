use Rattle.std.proofs.Common.{◌≡◌, map, length}
use Rattle.c_terminals.specs.Words.{look_up}
use Rattle.c_terminals.proofs.words.look_up.Given as goal

-- what is left of the table has the same answer
abbrev pub invariant-loop-table : goal.invariant-loop-table
invariant-loop-table l =
    look_up (map (λ entry. (entry.0.now, entry.1)) l.table) l.otherwise l.text
    ≡ look_up (map (λ entry. (entry.0.now, entry.1)) l.fn.table) l.otherwise l.text

abbrev pub decreases-loop-table : goal.decreases-loop-table
decreases-loop-table l = length l.table
