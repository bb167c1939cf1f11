-- The sizes of an expression's parts are added up.
use Rattle.std.proofs.Common.{◌≡◌, sym, ap, ◌∙◌, subst, IfOk, arith}
use Rattle.expr_gen.specs.Code.{print_size, expr_size}
use Rattle.expr_emit.specs.Lists.{exprs_size, link_list_size, logic_list_size}
use Rattle.expr_emit.proofs.Views.{apply_size, chain_size, logic_view_size, choose_size, print_view_size}
use Rattle.expr_emit.proofs.size.+size.Goals as goal

pub size_of_expr-returns-in_ok-size-in-Apply : goal.size_of_expr-returns-in_ok-size-in-Apply
size_of_expr-returns-in_ok-size-in-Apply t c =
    let whole = ap expr_size c.in-Apply.is ∙ apply_size c.in-Apply.line c.in-Apply.op c.in-Apply.operands in
    omega (arith, whole, ap exprs_size c.as_slice.ensures, c.in_ok-operands-in-Apply.ensures, c.size_of_operation.ensures, c.in_ok-size-in-Apply.ensures)

pub size_of_expr-returns-in_ok-size-in-Chain : goal.size_of_expr-returns-in_ok-size-in-Chain
size_of_expr-returns-in_ok-size-in-Chain t c =
    let whole = ap expr_size c.in-Chain.is ∙ chain_size c.in-Chain.line c.in-Chain.first c.in-Chain.links in
    omega (
      arith,
      whole,
      ap expr_size c.get.ensures,
      ap link_list_size c.as_slice-in-Chain.ensures,
      c.in_ok-first-in-Chain.ensures,
      c.in_ok-size_of_links-in-Chain.ensures,
      c.in_ok-size-in-Chain.ensures,
    )

pub size_of_expr-returns-in-Logic : goal.size_of_expr-returns-in-Logic
size_of_expr-returns-in-Logic t c =
    let same = ap (logic_list_size c.in-Logic.all) c.as_slice-in-Logic.ensures ∙ sym (logic_view_size c.in-Logic.line c.in-Logic.all c.in-Logic.operands) ∙ ap expr_size (sym c.in-Logic.is) in
    subst (λ k. IfOk c.size_of_logic.result (λ n. n ≡ k)) same c.size_of_logic.ensures

pub size_of_expr-returns-in_ok-size-in-Choose : goal.size_of_expr-returns-in_ok-size-in-Choose
size_of_expr-returns-in_ok-size-in-Choose t c =
    let whole = ap expr_size c.in-Choose.is ∙ choose_size c.in-Choose.line c.in-Choose.test c.in-Choose.then c.in-Choose.otherwise in
    omega (
      arith,
      whole,
      ap expr_size c.get-in-Choose.ensures,
      ap expr_size c.get-in-Choose-2.ensures,
      ap expr_size c.get-in-Choose-3.ensures,
      c.in_ok-test-in-Choose.ensures,
      c.in_ok-one-in-Choose.ensures,
      c.in_ok-other-in-Choose.ensures,
      c.in_ok-sum-in-Choose.ensures,
      c.in_ok-sum-in-Choose-2.ensures,
      c.in_ok-size-in-Choose.ensures,
    )

pub size_of_expr-returns-in_ok-size-in-Print : goal.size_of_expr-returns-in_ok-size-in-Print
size_of_expr-returns-in_ok-size-in-Print t c =
    let whole = ap expr_size c.in-Print.is ∙ print_view_size c.in-Print.line c.in-Print.operands c.in-Print.pieces in
    omega (
      arith,
      whole,
      ap exprs_size c.as_slice-in-Print.ensures,
      ap print_size c.as_slice-in-Print-2.ensures,
      c.in_ok-operands-in-Print.ensures,
      c.in_ok-size_of_print-in-Print.ensures,
      c.in_ok-size-in-Print.ensures,
    )
