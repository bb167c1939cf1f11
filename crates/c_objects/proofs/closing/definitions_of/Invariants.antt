-- The map has how far each object is defined by the declarations so far, of which the newest counts.
use Rattle.std.proofs.Common.{take, map}
use Rattle.std.specs.Prelude.{reverse}
use Rattle.c_scope.specs.Scopes.{naming_of}
use Rattle.c_objects.specs.Closing.{AreDefinitions}
use Rattle.c_objects.proofs.closing.definitions_of.Given as goal

abbrev pub invariant-linked : goal.invariant-linked
invariant-linked l = AreDefinitions (map naming_of (reverse (take l.declaration-index l.declaration-items))) l.definitions
