-- The words before the index, and the room that is left.
use Rattle.std.proofs.Common.{◌≡◌, ◌+◌, sum_by, length, drop}
use Rattle.filc_num.specs.declared.statics.StaticDef.{StaticDef}
use Rattle.program_fits.proofs.program.static_words_fit.Given as goal

abbrev pub invariant-loop-object : goal.invariant-loop-object
invariant-loop-object l =
    sum_by (λ (s : StaticDef). length s.words.items) l.statics + l.room ≡ 262144 + sum_by (λ (s : StaticDef). length s.words.items) (drop l.object-index l.statics)
