-- The declaration that is popped is the newest of its name, so its name is known.
use Rattle.std.proofs.Common.{List, ℕ, sym, subst, nat_cmp, length, reverse}
use Rattle.std.specs.Option.{IsSome}
use Rattle.std.specs.BTreeMap.{get_by}
use Rattle.std.specs.Cmp.Lexicographic.{slice_cmp}
use Rattle.c_scope.specs.Stacks.{newest_known, Changes}
use Rattle.c_scope.proofs.Names.{known}
use Rattle.c_scope.proofs.Stacking.{IsIndexed-popped, newest-popped}
use Rattle.c_scope.proofs.blocks.forget.Goals as goal

pub set_newest-requires : goal.set_newest-requires
set_newest-requires c =
    let d = c.in-Some.declaration in
    let index = c.args.newest.now in
    subst (λ (name : List ℕ). IsSome (get_by (λ key. slice_cmp nat_cmp name key.items) index)) (sym c.as_slice.ensures.value)
    (known index d.name.items (length (reverse c.pop.new.self.items)) (newest-popped c.args.declarations.now.items c.pop.new.self.items d c.in-Some.ensures.items (newest_known index) c.requires.indexed))

pub returns-in-Some-clause-indexed : goal.returns-in-Some-clause-indexed
returns-in-Some-clause-indexed c =
    IsIndexed-popped c.args.declarations.now.items c.pop.new.self.items c.in-Some.declaration c.in-Some.ensures.items (newest_known c.args.newest.now) (newest_known c.set_newest.new.newest) c.requires.indexed
    (subst (λ (name : List ℕ). Changes (newest_known c.args.newest.now) (newest_known c.set_newest.new.newest) name c.in-Some.declaration.hidden) c.as_slice.ensures.value c.set_newest.ensures)
