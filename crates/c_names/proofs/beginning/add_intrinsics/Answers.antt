-- The next row's name isn't among those before, and its function is the next one.
use Rattle.std.proofs.Common.{rules, ◌≡◌, ◌+◌, ◌<◌, suc, length, take, sym, ap, ◌∙◌, arith, slice_get, [], subst}
use Rattle.std.specs.Prelude.{List, Option, slice_index_or}
use Rattle.c_scope.specs.Blocks.{visible, declared_in, innermost}
use Rattle.c_scope.specs.Scopes.{Names, no_names}
use Rattle.c_types.specs.Extensions.{Table}
use Rattle.c_file_rules.specs.Operations.{Intrinsic, intrinsics, with_intrinsic, with_intrinsics}
use Rattle.c_names.specs.Begun.{seen_intrinsic}
use Rattle.c_names.proofs.Fresh.{name_in, fresh}
use Rattle.c_names.proofs.Rowed.{no_row, rows_length, row_name, row_at, one_more}
use Rattle.c_names.proofs.beginning.add_intrinsics.Goals as goal

pub add_intrinsic-requires-clause-linked : goal.add_intrinsic-requires-clause-linked
add_intrinsic-requires-clause-linked c =
    let rows = c.intrinsics-rows.result in
    let count = sym (rows_length rows) ∙ ap (λ (xs : List Intrinsic). length xs) c.intrinsics-rows.ensures in
    let within : c.rows.row-index < 11 = omega (arith, c.rows-test.true, count) in
    let name = row_name rows c.rows.row-index no_row (omega (arith, c.rows-test.true, count)) ∙ ap (λ (xs : List Intrinsic). name_in (slice_get xs c.rows.row-index)) c.intrinsics-rows.ensures in
    ap (λ letters. visible letters c.rows.scopes.linked) name
    ∙ ap (λ (names : Names). visible (name_in (slice_get intrinsics c.rows.row-index)) names.linked) c.rows.invariant.1
    ∙ (fresh c.args.bodies c.rows.row-index within).0

pub add_intrinsic-requires-clause-here : goal.add_intrinsic-requires-clause-here
add_intrinsic-requires-clause-here c =
    let rows = c.intrinsics-rows.result in
    let count = sym (rows_length rows) ∙ ap (λ (xs : List Intrinsic). length xs) c.intrinsics-rows.ensures in
    let within : c.rows.row-index < 11 = omega (arith, c.rows-test.true, count) in
    let name = row_name rows c.rows.row-index no_row (omega (arith, c.rows-test.true, count)) ∙ ap (λ (xs : List Intrinsic). name_in (slice_get xs c.rows.row-index)) c.intrinsics-rows.ensures in
    ap (λ letters. declared_in letters (innermost c.rows.scopes.ordinary)) name
    ∙ ap (λ (names : Names). declared_in (name_in (slice_get intrinsics c.rows.row-index)) (innermost names.ordinary)) c.rows.invariant.1
    ∙ (fresh c.args.bodies c.rows.row-index within).1

pub rows-preserved : goal.rows-preserved
rows-preserved c =
    let rows = c.intrinsics-rows.result in
    let k = c.rows.row-index in
    let count = sym (rows_length rows) ∙ ap (λ (xs : List Intrinsic). length xs) c.intrinsics-rows.ensures in
    let at = sym (ap (λ (xs : List Intrinsic). slice_get xs k) c.intrinsics-rows.ensures) ∙ row_at rows k no_row (omega (arith, c.rows-test.true, count)) in
    let number = c.rows.invariant.2 in
    let further = one_more intrinsics c.args.bodies k ([], no_names) (seen_intrinsic (slice_index_or rows k no_row)) at in
    let next : suc k ≡ k + 1 = omega arith in
    let whole =
    (λ i. with_intrinsic (number i) (seen_intrinsic (slice_index_or rows k no_row)) (c.rows.invariant.0 i, c.rows.invariant.1 i))
    ∙ sym further ∙ ap (λ m. with_intrinsics c.args.bodies (take m intrinsics) ([], no_names)) next in (
      c.in_ok-add_intrinsic.ensures.grown ∙ ap (λ (made : Table × Names). made.0) whole,
      c.in_ok-add_intrinsic.ensures.names ∙ ap (λ (made : Table × Names). made.1) whole,
      search rules,
    )
