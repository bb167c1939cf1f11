-- The words so far.
use Rattle.std.proofs.Common.{◌≡◌, ℕ, take}
use Rattle.std.specs.Prelude.{map, zip}
use Rattle.filc_num.specs.declared.statics.StaticHalf.{StaticHalf}
use Rattle.ideal_machine.specs.Beginning.{first_word}
use Rattle.ideal_step.specs.Statics.{first_world, plain_statics}
use Rattle.ideal_step.proofs.beginning.first_words.Given as goal

abbrev pub invariant-loop-index : goal.invariant-loop-index
invariant-loop-index l =
    l.words.items ≡ map (λ (w : ℕ × StaticHalf). first_word first_world (plain_statics l.fn.statics) w.0 w.1) (take l.index (zip l.fn.object.words.items l.fn.object.halves.items))
