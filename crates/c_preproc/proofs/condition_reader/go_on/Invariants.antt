use Rattle.std.proofs.Common.{◌≡◌, reverse, vec_len}
use Rattle.c_preproc.specs.Code.Reading.{go_on}
use Rattle.c_preproc.proofs.condition_reader.go_on.Given as goal

-- what the punctuator makes of the frames that are left is what it makes of all
abbrev pub invariant-loop-frame : goal.invariant-loop-frame
invariant-loop-frame l = go_on (reverse l.frames.items) l.whole l.punctuator ≡ go_on (reverse l.initial.frames.items) l.initial.whole l.punctuator

abbrev pub decreases-loop-frame : goal.decreases-loop-frame
decreases-loop-frame l = vec_len l.frames
