-- The newest declaration of a name is one of the innermost block where it isn't below where that block begins.
use Rattle.std.proofs.Common.{◌≡◌, ◌-◌, ℕ, List, length, refl, reverse, sym, ap, ◌∙◌, arith}
use Rattle.std.proofs.lemmas.Option.{slice_get_read}
use Rattle.std.specs.Prelude.{slice_get}
use Rattle.std.specs.Option.{option_copied}
use Rattle.c_scope.specs.Blocks.{declared_in, innermost}
use Rattle.c_scope.specs.Stacks.{newest_known}
use Rattle.c_scope.proofs.Stacking.{here_at, here_outside, here_none, index_within, first_start, last_start}
use Rattle.c_scope.proofs.blocks.Blocks.find_here.Goals as goal

pub returns-in_err-index : goal.returns-in_err-index
returns-in_err-index c =
    let b = c.self.inside in
    ap option_copied c.from_residual.ensures ∙ sym (ap (λ bs. declared_in c.args.name.now (innermost bs)) (sym c.self.view_is)
    ∙ here_none (newest_known b.newest) b.declarations.items (reverse b.starts.items) c.self.invariant c.args.name.now (sym c.index_of.ensures ∙ c.in_err-index.was))

pub returns-then-index-start : goal.returns-then-index-start
returns-then-index-start c =
    let b = c.self.inside in
    let start : c.unwrap_or-start.result ≡ first_start (reverse b.starts.items) = c.unwrap_or-start.ensures ∙ last_start b.starts.items c.copied.result (c.copied.ensures ∙ c.last.ensures.value ∙ ap (λ (xs : List ℕ). slice_get xs (length xs - 1)) c.deref.ensures.value) in
    sym (ap (λ bs. declared_in c.args.name.now (innermost bs)) (sym c.self.view_is)
    ∙ here_outside (newest_known b.newest) b.declarations.items (reverse b.starts.items) c.self.invariant c.args.name.now c.in_ok-index.index (sym c.index_of.ensures ∙ c.in_ok-index.was) (omega arith))

pub index-requires : goal.index-requires
index-requires c =
    let b = c.self.inside in
    omega (arith, index_within (newest_known b.newest) b.declarations.items (reverse b.starts.items) c.self.invariant c.args.name.now c.in_ok-index.index (sym c.index_of.ensures ∙ c.in_ok-index.was), b.declarations.ok.0)

pub returns : goal.returns
returns c =
    let b = c.self.inside in
    let start : c.unwrap_or-start.result ≡ first_start (reverse b.starts.items) = c.unwrap_or-start.ensures ∙ last_start b.starts.items c.copied.result (c.copied.ensures ∙ c.last.ensures.value ∙ ap (λ (xs : List ℕ). slice_get xs (length xs - 1)) c.deref.ensures.value) in
    sym (ap (λ bs. declared_in c.args.name.now (innermost bs)) (sym c.self.view_is)
    ∙ here_at (newest_known b.newest) b.declarations.items (reverse b.starts.items) c.self.invariant c.args.name.now c.in_ok-index.index c.index.result.now (sym c.index_of.ensures ∙ c.in_ok-index.was)
    (slice_get_read b.declarations.items (length b.declarations.items) c.in_ok-index.index c.index.result.now refl
    (index_within (newest_known b.newest) b.declarations.items (reverse b.starts.items) c.self.invariant c.args.name.now c.in_ok-index.index (sym c.index_of.ensures ∙ c.in_ok-index.was)) c.index.ensures)
    (omega arith))
