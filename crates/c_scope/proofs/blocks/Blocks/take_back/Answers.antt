-- A declaration of the innermost block is one of the stack.
use Rattle.std.proofs.Common.{◌<◌, length, subst, sym, ap, ◌∙◌, arith}
use Rattle.c_scope.specs.Blocks.{innermost, without_newest}
use Rattle.c_scope.specs.Stacks.{newest_known}
use Rattle.c_scope.proofs.Stacking.{take_back_some, take_back_stack, take_back_blocks}
use Rattle.c_scope.proofs.blocks.Blocks.take_back.Goals as goal

pub forget-requires-clause-some : goal.forget-requires-clause-some
forget-requires-clause-some c =
    let b = c.self.inside in
    omega (arith, take_back_some b.starts.items b.declarations.items (newest_known b.newest) c.self.invariant (subst (λ bs. 0 < length (innermost bs)) (sym c.self.view_is) c.requires), b.declarations.ok.0)

pub invariant_of-self : goal.invariant_of-self
invariant_of-self c =
    let b = c.self.inside in
    take_back_stack b.starts.items b.declarations.items (newest_known b.newest) c.self.invariant (subst (λ bs. 0 < length (innermost bs)) (sym c.self.view_is) c.requires)
    (newest_known c.forget.new.newest) c.forget.new.declarations.items c.forget.ensures.indexed c.forget.ensures.newest

pub returns : goal.returns
returns c =
    let b = c.self.inside in
    take_back_blocks b.starts.items b.declarations.items (newest_known b.newest) c.self.invariant (subst (λ bs. 0 < length (innermost bs)) (sym c.self.view_is) c.requires)
    c.forget.new.declarations.items c.forget.ensures.newest
    ∙ ap without_newest c.self.view_is
