-- Nothing is declared, and no name leads anywhere.
use Rattle.std.proofs.Common.{◌≡◌, List, [], ◌∷◌, ℕ, None, reverse, refl, Option}
use Rattle.c_scope.specs.declared.blocks.Declaration.{Declaration}
use Rattle.c_scope.specs.Stacks.{blocks_of, newest_of, newest_known, Remembers, StartWithin, IsStack}
use Rattle.c_scope.proofs.Names.{nowhere}
use Rattle.c_scope.proofs.blocks.Blocks.new.Goals as goal

nothing : (known : List ℕ → Option ℕ) (declarations : List Declaration) (starts : List ℕ) → declarations ≡ [] → starts ≡ [] → ((name : List ℕ) → known name ≡ None) → IsStack known (reverse declarations) (reverse starts)
unfolding newest_of Remembers StartWithin
nothing known declarations starts d s n = rw (d, s) (record { indexed = record { newest = n; remembers = tt }; within = tt })

nothing_shown : (declarations : List Declaration) (starts : List ℕ) → declarations ≡ [] → starts ≡ [] → blocks_of (reverse starts) (reverse declarations) ≡ [] ∷ []
unfolding blocks_of
nothing_shown declarations starts d s = rw (d, s) refl

pub invariant_of-result : goal.invariant_of-result
invariant_of-result c = nothing (newest_known c.new-2.result) c.new.result.items c.new-3.result.items c.new.ensures.items c.new-3.ensures.items (nowhere c.new-2.result c.new-2.ensures.empty)

pub returns : goal.returns
returns c = nothing_shown c.new.result.items c.new-3.result.items c.new.ensures.items c.new-3.ensures.items
