use Rattle.std.proofs.Common.{◌≡◌, ℕ, ◌<◌, ◌^◌, List, ◌∷◌, [], map, sym, ap, ◌∙◌, false, arith}
use Rattle.std.proofs.lemmas.Fmt.{decimal_injective}
use Rattle.filc_num.specs.declared.integer.IntType.TheVariants.{I32}
use Rattle.form_tree.specs.declared.expr.Expr.TheVariants as expr
use Rattle.form_reader.specs.Lexemes.{Run, begins, is_letter}
use Rattle.form_reader.specs.Grammar.{number}
use Rattle.form_reader.proofs.Leaves.{number_only}
use Rattle.form_reader.proofs.expressions.leaf.Goals as goal

pub returns-clause-found : goal.returns-clause-found
returns-clause-found c =
    let spelled = (c.in_ok-number.ensures).found in
    number c.in_ok-number.number c.args.line spelled.0 (ap (λ (bytes : List ℕ). Run bytes c.args.line ∷ []) spelled.1) (ap (λ (n : ℕ). expr.Number c.args.line I32 n) c.from.ensures)

pub returns-clause-only : goal.returns-clause-only
returns-clause-only c e is =
    let spelled = (c.in_ok-number.ensures).found in
    let other : begins is_letter c.args.bytes.now ≡ false = sym c.begins_with_letter.ensures ∙ c.if-begins_with_letter.false in
    let known = number_only (map (λ n. n.now) c.args.names.now) e c.args.bytes.now c.args.line other is in
    let small : known.0 < 2 ^ 64 = omega (arith, known.1) in
    let small' : c.in_ok-number.number < 2 ^ 64 = omega (arith, spelled.0) in
    let same = decimal_injective c.in_ok-number.number known.0 small' small (sym spelled.1 ∙ known.2) in
    ap (λ (n : ℕ). expr.Number c.args.line I32 n) (c.from.ensures ∙ same) ∙ sym known.3
