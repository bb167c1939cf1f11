use Rattle.std.proofs.Common.{◌≡◌, drop}
use Rattle.c_preproc.specs.Texts.{same_tokens}
use Rattle.c_preproc.proofs.texts.are_same_tokens.Given as goal

abbrev pub invariant-loop-i : goal.invariant-loop-i
invariant-loop-i l = same_tokens l.bytes l.a l.b ≡ same_tokens l.bytes (drop l.i l.a) (drop l.i l.b)
