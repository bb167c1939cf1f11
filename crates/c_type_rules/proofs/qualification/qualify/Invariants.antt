-- The arrays that were taken off make the type of the element; the element's number falls.
use Rattle.c_type_rules.proofs.Peeling.{IsPeeling}
use Rattle.c_type_rules.proofs.Unrolling.{IsUnrolled}
use Rattle.c_type_rules.proofs.qualification.qualify.Given as goal

abbrev pub invariant-loop-array : goal.invariant-loop-array
invariant-loop-array l =
    record {
      peeled : IsPeeling l.types l.fn.part l.element l.arrays.items;
      unrolled : IsUnrolled l.types l.fn.part l.element l.arrays.items l.set.0;
    }

abbrev pub decreases-loop-array : goal.decreases-loop-array
decreases-loop-array l = l.element.number
