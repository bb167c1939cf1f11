-- The objects so far.
use Rattle.std.proofs.Common.{◌≡◌, ℕ, take}
use Rattle.std.specs.Prelude.{map}
use Rattle.std.specs.List.{enumerate_from}
use Rattle.filc_num.specs.StaticDefs.{PlainStatic}
use Rattle.ideal_machine.specs.Beginning.{static_object}
use Rattle.ideal_step.specs.Statics.{first_world, plain_statics}
use Rattle.ideal_step.proofs.beginning.static_objects.Given as goal

abbrev pub invariant-loop-number : goal.invariant-loop-number
invariant-loop-number l =
    l.objects.items ≡ map (λ (s : ℕ × PlainStatic). static_object first_world (plain_statics l.fn.statics) s.0 s.1) (take l.number (enumerate_from 0 (plain_statics l.fn.statics)))
