-- The pointers before the index are appended.
use Rattle.std.proofs.Common.{◌≡◌, ◌++◌, map, take}
use Rattle.c_declarators.specs.Declarators.{pointer_derivation}
use Rattle.c_declarators.proofs.derivations.append_pointers.Given as goal

abbrev pub invariant-loop-pointer : goal.invariant-loop-pointer
invariant-loop-pointer l = l.derivations.items ≡ l.fn.derivations.items ++ map pointer_derivation (take l.pointer-index l.pointers)
