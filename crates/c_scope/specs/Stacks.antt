-- How the declarations of all open blocks are kept: in one stack, in which the newest of each name is known.
--
-- A declaration remembers the one that it hides, so that this one is the newest again when it is taken away.
use Rattle.std.specs.Prelude.{◌≡◌, ◌≢◌, ℕ, ◌-◌, ◌≤◌, List, [], ◌∷◌, length, map, take, drop, Option, Some, None, if◌then◌else◌, Vec}
use Rattle.std.specs.declared.alloc.Global.{Global}
use Rattle.std.specs.Option.{option_flatten}
use Rattle.std.specs.Str.{bytes_eq}
use Rattle.std.specs.BTreeMap.{BTreeMap, get_by}
use Rattle.std.specs.Cmp.Lexicographic.{slice_cmp}
use Rattle.std.specs.Ordering.{nat_cmp}
use Rattle.c_scope.specs.declared.blocks.Declaration.{Declaration}
use Rattle.c_scope.specs.Blocks.{Naming}

abbrev pub Index : Type 0
Index = BTreeMap (Vec ℕ Global) (Option ℕ)

-- the index of the newest declaration of a name, as it is known
abbrev pub newest_known : Index → List ℕ → Option ℕ
newest_known index name = option_flatten (get_by (λ key. slice_cmp nat_cmp name key.items) index)

abbrev pub naming_of : Declaration → Naming
naming_of d = record { name = d.name.items; what = d.what }

-- the index of the newest declaration of a name in a stack, whose newest stands first; the oldest has index 0
unfoldable pub newest_of : List ℕ → List Declaration → Option ℕ
newest_of name [] = None
newest_of name (d ∷ older) = if bytes_eq name d.name.items then Some (length older) else newest_of name older

-- each declaration remembers the one that it hides
unfoldable pub Remembers : List Declaration → Type 0
Remembers [] = Unit {0}
Remembers (d ∷ older) = (d.hidden ≡ newest_of d.name.items older) × Remembers older

-- so many declarations, of which each block's begin behind those of the block round it; innermost first
unfoldable pub StartWithin : ℕ → List ℕ → Type 0
StartWithin count [] = Unit {0}
StartWithin count (start ∷ starts) = (start ≤ count) × StartWithin start starts

-- the blocks of a stack, by where they start
unfoldable pub blocks_of : List ℕ → List Declaration → List (List Naming)
blocks_of [] stack = map naming_of stack ∷ []
blocks_of (start ∷ starts) stack = map naming_of (take (length stack - start) stack) ∷ blocks_of starts (drop (length stack - start) stack)

-- what holds of a stack and what is known of it
pub record IsIndexed (known : List ℕ → Option ℕ) (stack : List Declaration) : Type 0 where
  pub newest : (name : List ℕ) → known name ≡ newest_of name stack
  pub remembers : Remembers stack

-- and of its blocks
pub record IsStack (known : List ℕ → Option ℕ) (stack : List Declaration) (starts : List ℕ) : Type 0 where
  pub indexed : IsIndexed known stack
  pub within : StartWithin (length stack) starts

-- only one name's newest declaration is another
pub record Changes (old new : List ℕ → Option ℕ) (name : List ℕ) (newest : Option ℕ) : Type 0 where
  pub here : new name ≡ newest
  pub others : (other : List ℕ) → name ≢ other → new other ≡ old other
