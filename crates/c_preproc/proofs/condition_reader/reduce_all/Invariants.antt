use Rattle.std.proofs.Common.{◌≡◌, reverse, vec_len}
use Rattle.c_preproc.specs.Code.Reading.{reduce_all}
use Rattle.c_preproc.proofs.condition_reader.reduce_all.Given as goal

-- what the frames that are left make of the value is what all make of the first
abbrev pub invariant-loop-frame : goal.invariant-loop-frame
invariant-loop-frame l = reduce_all (reverse l.frames.items) l.value ≡ reduce_all (reverse l.initial.frames.items) l.initial.value

abbrev pub decreases-loop-frame : goal.decreases-loop-frame
decreases-loop-frame l = vec_len l.frames
