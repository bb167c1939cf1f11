-- The declarations of one name space, by blocks (C11 6.2.1).
--
-- The innermost block stands first and the file's last. In a block the newest declaration stands first, so
-- a declaration that follows another one of its name is the one that is found.
use Rattle.std.specs.Prelude.{ℕ, List, [], ◌∷◌, ◌++◌, Option, Some, None, if◌then◌else◌}
use Rattle.std.specs.Option.{option_or}
use Rattle.std.specs.Str.{bytes_eq}
use Rattle.c_tree.specs.declared.declared.Declared.{Declared}

-- a declaration: a name, and what it stands for
pub record Naming : Type 0 where
  pub name : List ℕ
  pub what : Declared

-- what these declarations have the name stand for: the newest one of that name decides
abbrev pub declared_in : List ℕ → List Naming → Option Declared
declared_in name [] = None
declared_in name (d ∷ older) = if bytes_eq name d.name then Some d.what else declared_in name older

-- what the name stands for in the innermost block: the first block that declares it decides
abbrev pub visible : List ℕ → List (List Naming) → Option Declared
visible name [] = None
visible name (block ∷ outer) = option_or (declared_in name block) (visible name outer)

-- the innermost block
abbrev pub innermost : List (List Naming) → List Naming
innermost [] = []
innermost (block ∷ outer) = block

-- the blocks round it
abbrev pub outer_blocks : List (List Naming) → List (List Naming)
outer_blocks [] = []
outer_blocks (block ∷ outer) = outer

-- with a further declaration in the innermost block
abbrev pub with_declaration : Naming → List (List Naming) → List (List Naming)
with_declaration d [] = (d ∷ []) ∷ []
with_declaration d (block ∷ outer) = (d ∷ block) ∷ outer

-- with further declarations in the innermost block, the newest of them first
abbrev pub with_declarations : List Naming → List (List Naming) → List (List Naming)
with_declarations ds [] = ds ∷ []
with_declarations ds (block ∷ outer) = (ds ++ block) ∷ outer

-- without the newest declaration of the innermost block
abbrev pub without_newest : List (List Naming) → List (List Naming)
without_newest ((d ∷ block) ∷ outer) = block ∷ outer
without_newest blocks = blocks
