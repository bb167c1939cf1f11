-- The innermost block's declarations stand behind where it begins.
use Rattle.std.proofs.Common.{◌≡◌, ◌-◌, ℕ, List, length, map, drop, reverse, ap, ◌∙◌, arith}
use Rattle.std.specs.Prelude.{slice_get}
use Rattle.c_scope.specs.Blocks.{innermost}
use Rattle.c_scope.specs.Stacks.{naming_of, newest_known}
use Rattle.c_scope.specs.declared.blocks.Declaration.{Declaration}
use Rattle.c_scope.proofs.Stacking.{first_start, last_start, innermost_within, innermost_is}
use Rattle.c_scope.proofs.blocks.Blocks.innermost.Goals as goal

pub behind-requires : goal.behind-requires
behind-requires c =
    let b = c.self.inside in
    let start : c.unwrap_or-start.result ≡ first_start (reverse b.starts.items) = c.unwrap_or-start.ensures ∙ last_start b.starts.items c.copied.result (c.copied.ensures ∙ c.last.ensures.value ∙ ap (λ (xs : List ℕ). slice_get xs (length xs - 1)) c.deref.ensures.value) in
    omega (arith, innermost_within (newest_known b.newest) b.declarations.items (reverse b.starts.items) c.self.invariant c.unwrap_or-start.result start, ap length c.deref-2.ensures.value)

pub returns : goal.returns
returns c =
    let b = c.self.inside in
    let start : c.unwrap_or-start.result ≡ first_start (reverse b.starts.items) = c.unwrap_or-start.ensures ∙ last_start b.starts.items c.copied.result (c.copied.ensures ∙ c.last.ensures.value ∙ ap (λ (xs : List ℕ). slice_get xs (length xs - 1)) c.deref.ensures.value) in
    ap (λ (xs : List Declaration). map naming_of (reverse xs)) (c.behind.ensures ∙ ap (drop c.unwrap_or-start.result) c.deref-2.ensures.value)
    ∙ innermost_is (newest_known b.newest) b.declarations.items (reverse b.starts.items) c.self.invariant c.unwrap_or-start.result start
    ∙ ap innermost c.self.view_is
