-- The declarations from the block's beginning on are taken away, and what is left are the outer blocks.
use Rattle.std.proofs.Common.{◌≡◌, ◌<◌, ◌-◌, subst, length, drop, reverse, refl, sym, ap, ◌∙◌, arith}
use Rattle.std.proofs.lemmas.List.{length-reverse}
use Rattle.c_scope.specs.Blocks.{outer_blocks}
use Rattle.c_scope.proofs.Stacking.{blocks-leave, within-leave, one_block, no_elements}
use Rattle.c_scope.proofs.blocks.Blocks.leave.Goals as goal
use Rattle.c_scope.proofs.blocks.Blocks.leave.Goals.{After-forget_from}

pub forget_from-requires-clause-within : goal.forget_from-requires-clause-within
forget_from-requires-clause-within c =
    let b = c.self.inside in
    let stack = reverse b.declarations.items in
    let both = within-leave b.starts.items c.pop.new.self.items c.in-Some.start stack (drop (length stack - c.in-Some.start) stack) c.in-Some.ensures.items refl c.self.invariant.within in
    omega (arith, both.0, length-reverse b.declarations.items, b.declarations.ok.0)

-- what is left of the stack
left : (c : After-forget_from) → reverse c.forget_from.new.declarations.items ≡ drop (length (reverse c.self.inside.declarations.items) - c.in-Some.start) (reverse c.self.inside.declarations.items)
left c =
    let b = c.self.inside in
    c.forget_from.ensures.rest ∙ ap (λ n. drop (n - c.in-Some.start) (reverse b.declarations.items)) (b.declarations.ok.0 ∙ sym (length-reverse b.declarations.items))

pub invariant_of-self : goal.invariant_of-self
invariant_of-self c =
    let b = c.self.inside in
    record {
      indexed = c.forget_from.ensures.indexed;
      within = (within-leave b.starts.items c.pop.new.self.items c.in-Some.start (reverse b.declarations.items) (reverse c.forget_from.new.declarations.items) c.in-Some.ensures.items (left (goal.at.invariant_of-self c).After-forget_from) c.self.invariant.within).1;
    }

pub returns-in-Some : goal.returns-in-Some
returns-in-Some c =
    let b = c.self.inside in
    blocks-leave b.starts.items c.pop.new.self.items c.in-Some.start (reverse b.declarations.items) (reverse c.forget_from.new.declarations.items) c.in-Some.ensures.items (left (goal.at.returns-in-Some c).After-forget_from)
    ∙ ap outer_blocks c.self.view_is

pub returns-in_default : goal.returns-in_default
returns-in_default c =
    let b = c.self.inside in
    absurd (one_block (reverse b.starts.items) (reverse b.declarations.items) (ap reverse (no_elements b.starts.items (sym b.starts.ok.0 ∙ c.in_default.ensures.cases.0)))
    (subst (λ bs. 1 < length bs) (sym c.self.view_is) c.requires))
