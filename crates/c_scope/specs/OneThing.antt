-- One name with linkage is one thing, of one type and one linkage, in all scopes of a file.
use Rattle.std.specs.Prelude.{◌≡◌, ℕ, true, List, [], ◌∷◌, Some}
use Rattle.std.specs.Str.{bytes_eq}
use Rattle.c_tree.specs.declared.declared.Declared.{Declared}
use Rattle.c_tree.specs.declared.declared.Declared.TheVariants.{Object, Function}
use Rattle.c_scope.specs.declared.space.Space.{Space}
use Rattle.c_scope.specs.Blocks.{Naming, innermost}
use Rattle.c_scope.specs.Scopes.{Names, no_names, with_block, without_block, with_name, space_of, declaration_in}

-- the names that calls on scopes lead to, from a file's begin on
pub data IsReached : Names → Type 0 where
  begins : IsReached no_names
  enters : {names : Names} → IsReached names → IsReached (with_block names)
  leaves : {names : Names} → IsReached names → IsReached (without_block names)
  declares : {names : Names} (space : Space) (name : List ℕ) (what d : Declared) → IsReached names → space ≡ space_of what → declaration_in names space name what ≡ Some d → IsReached (with_name space (record { name = name; what = d }) names)

-- two objects or two functions of one type and one linkage
abbrev pub IsSameThing : Declared → Declared → Type 0
IsSameThing (Object a) (Object b) = (a.ty ≡ b.ty) × (a.linkage ≡ b.linkage)
IsSameThing (Function a) (Function b) = (a.ty ≡ b.ty) × (a.linkage ≡ b.linkage)
IsSameThing _ _ = ⊥

-- a declaration is of one thing with the older ones of its name
abbrev pub IsOneWith : Naming → List Naming → Type 0
IsOneWith d [] = Unit {0}
IsOneWith d (e ∷ older) = (bytes_eq d.name e.name ≡ true → IsSameThing d.what e.what) × IsOneWith d older

-- the declarations of each name are of one thing
abbrev pub AreOneThing : List Naming → Type 0
AreOneThing [] = Unit {0}
AreOneThing (d ∷ older) = IsOneWith d older × AreOneThing older

-- wherever a file is, the declarations of a name with linkage so far are of one thing
abbrev pub NamesWithLinkageAreOneThing : Type 0
NamesWithLinkageAreOneThing = (names : Names) → IsReached names → AreOneThing (innermost names.linked)
