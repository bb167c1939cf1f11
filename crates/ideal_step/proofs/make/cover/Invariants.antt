-- The objects before the index are covered where the new one lies on them, and the others are as they were.
use Rattle.std.proofs.Common.{◌≡◌, ◌++◌, map, take, drop}
use Rattle.ideal_machine.specs.Names.{object_under}
use Rattle.ideal_step.proofs.make.cover.Given as goal

abbrev pub invariant-loop-object : goal.invariant-loop-object
invariant-loop-object l =
    l.objects ≡ map (object_under l.fn.new) (take l.object-index l.fn.objects) ++ drop l.object-index l.fn.objects
