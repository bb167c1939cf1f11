-- What grows while a scope is opened, gone through and closed.
use Rattle.std.proofs.Common.{◌≡◌, ℕ, suc, List, [], ◌∷◌, length, sym, ◌∙◌, subst, arith}
use Rattle.c_scope.specs.Blocks.{Naming, outer_blocks}
use Rattle.c_scope.specs.Scopes.{without_block}
use Rattle.c_expr_rules.specs.Views.{Grows}
use Rattle.c_expr_rules.specs.declared.state.State.{State}
use Rattle.c_check_expr.proofs.Growing.{grows_on}
use Rattle.c_names.specs.Blocks.{AddsTo}
use Rattle.c_names.proofs.Growth.{adds_by_names, adds_then_grows, adds_on, grows_of}

outer_length : (blocks : List (List Naming)) (n : ℕ) → length blocks ≡ suc n → length (outer_blocks blocks) ≡ n
outer_length [] n h = absurd (omega (arith, h))
outer_length (block ∷ outer) n h = omega (arith, h)

pub block_grows :
    (s t u v w : State) → AddsTo s t → length t.scopes.ordinary ≡ suc (length s.scopes.ordinary) → Grows t u →
    v ≡ record u { scopes = without_block u.scopes } → Grows v w → Grows s w
block_grows s t u v w opened depth inside closed behind =
    let left : State = record u { scopes = without_block u.scopes } in
    let adds = adds_on s u left (adds_then_grows s t u opened inside) (adds_by_names u (without_block u.scopes)) in
    let level = outer_length u.scopes.ordinary (length s.scopes.ordinary) (inside.depth ∙ depth) in
    grows_on s v w (subst (Grows s) (sym closed) (grows_of s left adds level)) behind
