-- The copies are of all of them.
use Rattle.std.proofs.Common.{arith}
use Rattle.c_scope.proofs.Stacking.{copied_all}
use Rattle.c_scope.proofs.scopes.copy_of.Goals as goal

pub returns : goal.returns
returns c = copied_all c.loop-declaration.list.items c.args.declarations.now c.loop-declaration.declaration-index (omega (arith, c.loop-declaration-test.false)) c.loop-declaration.invariant
