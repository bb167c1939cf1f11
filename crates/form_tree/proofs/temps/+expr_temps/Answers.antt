-- A chain's temporaries are its first operand's and those of its links, and nothing is left after the last.
use Rattle.std.proofs.Common.{◌≤◌, min, max, length, sym, ap, ◌∙◌, arith}
use Rattle.std.proofs.Math.ListN.{drop_of_length-le}
use Rattle.form_tree.specs.Temps.{temps_of}
use Rattle.form_tree.specs.Lists.{list_temps}
use Rattle.form_tree.proofs.Counting.{count_starts, count_ends}
use Rattle.form_tree.proofs.Views.{negate_temps, chain_temps}
use Rattle.form_tree.proofs.temps.+expr_temps.Goals as goal

pub loop-link-init : goal.loop-link-init
loop-link-init t c =
    let whole = ap temps_of c.in-Chain.is ∙ chain_temps c.in-Chain.line c.in-Chain.first c.in-Chain.links in
    let first = c.expr_temps-most.ensures ∙ ap (λ e. min (temps_of e) 256) c.get-in-Chain.ensures in
    let rest = ap (λ l. max (temps_of c.in-Chain.first) (list_temps l)) (sym c.as_slice-link-items.ensures) in
    count_starts _ (temps_of c.in-Chain.first) _ _ first (whole ∙ rest)

pub returns-in-Negate : goal.returns-in-Negate
returns-in-Negate t c =
    c.expr_temps.ensures
    ∙ ap (λ n. min n 256) (ap temps_of c.get.ensures ∙ sym (negate_temps c.in-Negate.line c.in-Negate.ty c.in-Negate.operand) ∙ sym (ap temps_of c.in-Negate.is))

pub returns-after-loop-link : goal.returns-after-loop-link
returns-after-loop-link t c =
    let items = c.as_slice-link-items.result.now in
    let past : length items ≤ c.loop-link.link-index = omega (arith, c.loop-link-test.false) in
    count_ends _ _ _ (ap list_temps (drop_of_length-le items past)) c.loop-link.invariant
