-- The two name spaces have the same blocks, of which the file's is always there.
use Rattle.std.specs.Prelude.{◌≡◌, ◌<◌, List, length}
use Rattle.c_scope.specs.Blocks.{Naming}

pub record IsPaired (ordinary tags : List (List Naming)) : Type 0 where
  pub some : 0 < length ordinary
  pub paired : length ordinary ≡ length tags
