-- The derivations so far are those of the pointers so far.
use Rattle.std.proofs.Common.{◌≡◌, map, take}
use Rattle.c_declarators.specs.Declarators.{pointer_derivation}
use Rattle.c_file_rules.proofs.parts.pointer_derivations.Given as goal

abbrev pub invariant-loop-pointer : goal.invariant-loop-pointer
invariant-loop-pointer l = l.derivations ≡ map pointer_derivation (take l.pointer-index l.pointers)
