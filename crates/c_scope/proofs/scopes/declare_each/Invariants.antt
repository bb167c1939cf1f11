use Rattle.std.proofs.Common.{◌≡◌, length, map, reverse, take}
use Rattle.c_scope.specs.Blocks.{with_declarations}
use Rattle.c_scope.specs.Stacks.{naming_of}
use Rattle.c_scope.proofs.scopes.declare_each.Given as goal

abbrev pub invariant-loop-declaration : goal.invariant-loop-declaration
invariant-loop-declaration l =
    record {
      more : l.blocks ≡ with_declarations (map naming_of (reverse (take l.declaration-index l.declarations))) l.initial.blocks;
      count : length l.blocks ≡ length l.initial.blocks;
    }
