use Rattle.std.proofs.Common.{◌≡◌, ◌≤◌, subst, sym, ap, ◌∙◌, arith, rules}
use Rattle.std.specs.Fmt.{decimal}
use Rattle.std.specs.Str.Parse.{digits_value}
use Rattle.form_reader.specs.Numerals.{IsNumeral}
use Rattle.form_reader.proofs.Digits.{decimal-numeral, value-decimal, decimal-value}
use Rattle.form_reader.proofs.form.number_of.Goals as goal

pub returns-then-not-is_numeral-clause-none : goal.returns-then-not-is_numeral-clause-none
returns-then-not-is_numeral-clause-none c n small spelled =
    let numeral = subst IsNumeral (sym spelled) (decimal-numeral n small) in
    search (rules, numeral)

pub returns-then-value-from-clause-none : goal.returns-then-value-from-clause-none
returns-then-value-from-clause-none c n small spelled =
    let value : digits_value 10 c.args.digits.now ≡ n = ap (digits_value 10) spelled ∙ value-decimal n small in
    omega (arith, c.value_of-value.ensures, c.from.ensures, c.if-value-from.true)

pub returns-clause-found : goal.returns-clause-found
returns-clause-found c =
    let numeral : IsNumeral c.args.digits.now = search rules in
    let small : digits_value 10 c.args.digits.now ≤ 2147483647 = omega (arith, c.value_of-value.ensures, c.from.ensures, c.if-value-from.false) in
    (omega arith, sym (decimal-value c.args.digits.now numeral small) ∙ ap decimal (sym c.value_of-value.ensures))
