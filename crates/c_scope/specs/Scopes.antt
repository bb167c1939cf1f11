-- Names by name spaces and blocks, and what a declaration changes.
use Rattle.std.specs.Prelude.{List, [], ◌∷◌, if◌then◌else◌, ℕ}
use Rattle.c_scope.specs.declared.space.Space.{Space}
use Rattle.c_scope.specs.declared.space.Space.TheVariants.{Ordinary, Tag}
use Rattle.c_scope.specs.Blocks.{Naming, with_declaration, outer_blocks, visible, declared_in, innermost}
use Rattle.c_scope.specs.Again.{has_linkage, declared_as}
use Rattle.std.specs.Prelude.{Option}
use Rattle.c_tree.specs.declared.declared.Declared.{Declared}
use Rattle.c_tree.specs.declared.declared.Declared.TheVariants.{Object, Function, Typedef, Constant, Tag as TagOf}
pub use Rattle.c_scope.specs.Stacks.{naming_of}

-- the blocks of each name space, the innermost first, and in `linked` each declaration with linkage, also
-- of blocks that were left
pub record Names : Type 0 where
  pub ordinary : List (List Naming)
  pub tags : List (List Naming)
  pub linked : List (List Naming)

-- what one scope declares, the newest first
pub record InnerNames : Type 0 where
  pub ordinary : List Naming
  pub tags : List Naming

abbrev pub innermost_scope : Names → InnerNames
innermost_scope names = record { ordinary = innermost names.ordinary; tags = innermost names.tags }

-- with a block that declares this
abbrev pub with_scope : InnerNames → Names → Names
with_scope inner names = record names { ordinary = inner.ordinary ∷ names.ordinary; tags = inner.tags ∷ names.tags }

abbrev pub blocks_in : Space → Names → List (List Naming)
blocks_in Ordinary names = names.ordinary
blocks_in Tag names = names.tags

-- the file's block alone
abbrev pub no_names : Names
no_names = record { ordinary = [] ∷ []; tags = [] ∷ []; linked = [] ∷ [] }

abbrev pub with_block : Names → Names
with_block names = record names { ordinary = [] ∷ names.ordinary; tags = [] ∷ names.tags }

abbrev pub without_block : Names → Names
without_block names = record names { ordinary = outer_blocks names.ordinary; tags = outer_blocks names.tags }

abbrev pub with_linked : Naming → List (List Naming) → List (List Naming)
with_linked d linked = if has_linkage d.what then with_declaration d linked else linked

-- the name space of what a name stands for: tags have one of their own
abbrev pub space_of : Declared → Space
space_of (Object o) = Ordinary
space_of (Function f) = Ordinary
space_of (Typedef ty) = Ordinary
space_of (Constant value) = Ordinary
space_of (TagOf tag) = Tag

abbrev pub with_name : Space → Naming → Names → Names
with_name Ordinary d names = record names { ordinary = with_declaration d names.ordinary; linked = with_linked d names.linked }
with_name Tag d names = record names { tags = with_declaration d names.tags; linked = with_linked d names.linked }

-- what a declaration makes the name stand for, or nothing where it is declared again
abbrev pub declaration_in : Names → Space → List ℕ → Declared → Option Declared
declaration_in names space name what = declared_as (declared_in name (innermost (blocks_in space names))) (visible name names.linked) what
