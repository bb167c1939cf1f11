use Rattle.std.proofs.Common.{◌≡◌, ℕ, map, sym, ap, ◌∙◌, refl}
use Rattle.std.specs.Prelude.{Some, None, position}
use Rattle.std.specs.Str.{bytes_eq}
use Rattle.filc_num.specs.declared.integer.IntType.TheVariants.{I32}
use Rattle.form_tree.specs.declared.expr.Expr.TheVariants as expr
use Rattle.form_reader.specs.Grammar.{local}
use Rattle.form_reader.proofs.Leaves.{name_only}
use Rattle.form_reader.proofs.expressions.name_leaf.Goals as goal

pub returns-in_err-local-clause-none : goal.returns-in_err-local-clause-none
returns-in_err-local-clause-none c =
    rw c.from_residual.ensures (λ e is.
    let known = name_only (map (λ n. n.now) c.args.names.now) e c.args.bytes.now c.args.line c.requires.letter is in
    let none : position (λ name. bytes_eq name c.args.bytes.now) (map (λ n. n.now) c.args.names.now) ≡ None = sym c.place_of.ensures.place ∙ c.in_err-local.was in
    let some = known.1 in
    cc)

pub returns-clause-found : goal.returns-clause-found
returns-clause-found c =
    local c.args.bytes.now c.args.line c.in_ok-local.field-0 c.requires.letter (sym c.place_of.ensures.place ∙ c.in_ok-local.was) refl refl

pub returns-clause-only : goal.returns-clause-only
returns-clause-only c e is =
    let known = name_only (map (λ n. n.now) c.args.names.now) e c.args.bytes.now c.args.line c.requires.letter is in
    let same : Some c.in_ok-local.field-0 ≡ Some known.0 = sym (c.in_ok-local.was) ∙ (c.place_of.ensures.place ∙ known.1) in
    let place : c.in_ok-local.field-0 ≡ known.0 = cc in
    ap (λ (n : ℕ). expr.Local c.args.line I32 n) place ∙ sym known.2
