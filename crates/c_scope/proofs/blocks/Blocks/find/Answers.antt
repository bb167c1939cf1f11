-- The newest declaration of a name is the one of the innermost block that has one.
use Rattle.std.proofs.Common.{length, refl, reverse, sym, ap, ◌∙◌, arith}
use Rattle.std.proofs.lemmas.Option.{slice_get_read}
use Rattle.std.specs.Option.{option_copied}
use Rattle.c_scope.specs.Blocks.{visible}
use Rattle.c_scope.specs.Stacks.{newest_known}
use Rattle.c_scope.proofs.Stacking.{visible_at, visible_none, index_within}
use Rattle.c_scope.proofs.blocks.Blocks.find.Goals as goal

pub returns-in_err-index : goal.returns-in_err-index
returns-in_err-index c =
    let b = c.self.inside in
    ap option_copied c.from_residual.ensures ∙ sym (ap (visible c.args.name.now) (sym c.self.view_is)
    ∙ visible_none (newest_known b.newest) b.declarations.items (reverse b.starts.items) c.self.invariant c.args.name.now (sym c.index_of.ensures ∙ c.in_err-index.was))

pub index-requires : goal.index-requires
index-requires c =
    let b = c.self.inside in
    omega (arith, index_within (newest_known b.newest) b.declarations.items (reverse b.starts.items) c.self.invariant c.args.name.now c.in_ok-index.index (sym c.index_of.ensures ∙ c.in_ok-index.was), b.declarations.ok.0)

pub returns : goal.returns
returns c =
    let b = c.self.inside in
    sym (ap (visible c.args.name.now) (sym c.self.view_is)
    ∙ visible_at (newest_known b.newest) b.declarations.items (reverse b.starts.items) c.self.invariant c.args.name.now c.in_ok-index.index c.index.result.now (sym c.index_of.ensures ∙ c.in_ok-index.was)
    (slice_get_read b.declarations.items (length b.declarations.items) c.in_ok-index.index c.index.result.now refl
    (index_within (newest_known b.newest) b.declarations.items (reverse b.starts.items) c.self.invariant c.args.name.now c.in_ok-index.index (sym c.index_of.ensures ∙ c.in_ok-index.was)) c.index.ensures))
