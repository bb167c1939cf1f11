use Rattle.std.proofs.Common.{◌≡◌, map, take}
use Rattle.c_scope.specs.Stacks.{naming_of}
use Rattle.c_scope.proofs.scopes.copy_of.Given as goal

abbrev pub invariant-loop-declaration : goal.invariant-loop-declaration
invariant-loop-declaration l = map naming_of l.list.items ≡ map naming_of (take l.declaration-index l.declarations)
