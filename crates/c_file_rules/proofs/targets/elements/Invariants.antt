-- The elements so far and those behind them are all.
use Rattle.std.proofs.Common.{◌≡◌, ◌++◌, ◌-◌}
use Rattle.c_file_rules.specs.Initialising.{elements_from}
use Rattle.c_file_rules.proofs.targets.elements.Given as goal

abbrev pub invariant-elements : goal.invariant-elements
invariant-elements l =
    l.parts.items ++ elements_from (l.count - l._index) l.offset l.bytes l.element ≡ elements_from l.count 0 l.bytes l.element
