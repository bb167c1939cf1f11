-- The new declaration is the newest of its name, and hides the one that its name led to.
use Rattle.std.proofs.Common.{◌≡◌, List, ℕ, Some, reverse, sym, ap, ◌∙◌, subst, nat_cmp}
use Rattle.std.specs.BTreeMap.{Updates}
use Rattle.std.specs.Cmp.Lexicographic.{slice_cmp}
use Rattle.c_scope.specs.declared.blocks.Declaration.{Declaration}
use Rattle.c_scope.specs.Blocks.{Naming, with_declaration}
use Rattle.c_scope.specs.Stacks.{Changes, newest_known, blocks_of}
use Rattle.c_scope.proofs.Names.{changed_by, on_ok}
use Rattle.c_scope.proofs.Stacking.{declare_stack, declare_blocks}
use Rattle.c_scope.proofs.blocks.Blocks.declare.Goals as goal

pub invariant_of-self-else-is_err : goal.invariant_of-self-else-is_err
invariant_of-self-else-is_err c =
    let b = c.self.inside in
    let key = c.in_ok-key.key in
    let d : Declaration = record { name = c.in_ok-from_slice.field-0; what = c.args.what; hidden = c.index_of.result } in
    let told = on_ok c.insert.result (Updates (λ x y. slice_cmp nat_cmp x.items y.items) b.newest c.insert.new.self key (Some (Some c.len-index.result))) (sym c.is_err.ensures.value ∙ c.if-is_err.false) c.insert.ensures.updates in
    let changes = changed_by b.newest c.insert.new.self key.items (Some c.len-index.result) told in
    let same : key.items ≡ d.name.items = c.in_ok-key.ensures.items ∙ sym c.in_ok-from_slice.ensures.items in
    declare_stack b.starts.items b.declarations.items c.push.new.self.items d c.in_ok-push.ensures.items (newest_known b.newest) (newest_known c.insert.new.self) c.len-index.result (c.len-index.ensures ∙ b.declarations.ok.0) c.self.invariant
    (subst (λ (name : List ℕ). Changes (newest_known b.newest) (newest_known c.insert.new.self) name (Some c.len-index.result)) same changes)
    (c.index_of.ensures ∙ ap (newest_known b.newest) (sym c.in_ok-from_slice.ensures.items))

pub returns-clause-ok : goal.returns-clause-ok
returns-clause-ok c =
    let b = c.self.inside in
    let d : Declaration = record { name = c.in_ok-from_slice.field-0; what = c.args.what; hidden = c.index_of.result } in
    declare_blocks b.starts.items b.declarations.items c.push.new.self.items d c.in_ok-push.ensures.items (newest_known b.newest) c.self.invariant
    ∙ ap (λ (name : List ℕ). let n : Naming = record { name = name; what = c.args.what } in with_declaration n (blocks_of (reverse b.starts.items) (reverse b.declarations.items))) c.in_ok-from_slice.ensures.items
    ∙ ap (with_declaration (record { name = c.args.name.now; what = c.args.what })) c.self.view_is
