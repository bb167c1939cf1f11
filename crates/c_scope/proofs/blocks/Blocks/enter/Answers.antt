-- A block begins behind the declarations that are there.
use Rattle.std.proofs.Common.{[], ◌∷◌, ap, ◌∙◌}
use Rattle.c_scope.specs.Stacks.{newest_known}
use Rattle.c_scope.proofs.Stacking.{enter_blocks, enter_within}
use Rattle.c_scope.proofs.blocks.Blocks.enter.Goals as goal

pub invariant_of-self-2 : goal.invariant_of-self-2
invariant_of-self-2 c =
    let b = c.self.inside in
    enter_within b.starts.items c.push.new.self.items c.len.result b.declarations.items c.in_ok-push.ensures.items (c.len.ensures ∙ b.declarations.ok.0) (newest_known b.newest) c.self.invariant

pub returns-clause-ok : goal.returns-clause-ok
returns-clause-ok c =
    let b = c.self.inside in
    enter_blocks b.starts.items c.push.new.self.items c.len.result b.declarations.items c.in_ok-push.ensures.items (c.len.ensures ∙ b.declarations.ok.0) ∙ ap (λ bs. [] ∷ bs) c.self.view_is
