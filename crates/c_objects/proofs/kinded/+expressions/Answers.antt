-- The types of an expression's parts come in their order.
use Rattle.std.proofs.Common.{◌≡◌, ◌++◌, sym, ap, ◌∙◌, subst}
use Rattle.std.specs.Prelude.{fold, OnOk}
use Rattle.c_objects.specs.Calls.{operand_kinds, link_kinds}
use Rattle.c_file_rules.specs.Kinds.{operation_kinds, expr_kinds, with_kind}
use Rattle.c_objects.proofs.KindViews.{apply_kinds, chain_kinds, logic_kinds, choose_kinds, print_kinds, two_on, three_on}
use Rattle.c_objects.proofs.kinded.+expressions.Goals as goal

pub add_expr-returns-in_ok-add_operation-in-Apply : goal.add_expr-returns-in_ok-add_operation-in-Apply
add_expr-returns-in_ok-add_operation-in-Apply t c =
    let all = ap expr_kinds c.in-Apply.is ∙ apply_kinds c.in-Apply.line c.in-Apply.op c.in-Apply.operands
    ∙ ap (λ l. operand_kinds l ++ operation_kinds c.in-Apply.op) (sym c.as_slice.ensures) in
    two_on with_kind c.args.kinds.now c.add_operands.new.kinds c.add_operation.new.kinds
    (operand_kinds c.as_slice.result.now) (operation_kinds c.in-Apply.op) (expr_kinds c.args.expr.now)
    all c.in_ok-add_operands-in-Apply.ensures c.in_ok-add_operation-in-Apply.ensures

pub add_expr-returns-in_ok-add_links-in-Chain : goal.add_expr-returns-in_ok-add_links-in-Chain
add_expr-returns-in_ok-add_links-in-Chain t c =
    let all = ap expr_kinds c.in-Chain.is ∙ chain_kinds c.in-Chain.line c.in-Chain.first c.in-Chain.links
    ∙ ap (λ e. expr_kinds e ++ link_kinds c.in-Chain.links) (sym c.get.ensures)
    ∙ ap (λ l. expr_kinds c.get.result.now ++ link_kinds l) (sym c.as_slice-in-Chain.ensures) in
    two_on with_kind c.args.kinds.now c.add_expr.new.kinds c.add_links.new.kinds
    (expr_kinds c.get.result.now) (link_kinds c.as_slice-in-Chain.result.now) (expr_kinds c.args.expr.now)
    all c.in_ok-add_expr-in-Chain.ensures c.in_ok-add_links-in-Chain.ensures

pub add_expr-returns-in-Logic : goal.add_expr-returns-in-Logic
add_expr-returns-in-Logic t c =
    let all = ap operand_kinds c.as_slice-in-Logic.ensures ∙ sym (logic_kinds c.in-Logic.line c.in-Logic.all c.in-Logic.operands) ∙ ap expr_kinds (sym c.in-Logic.is) in
    subst (λ ks. OnOk c.add_operands-in-Logic.result (c.add_operands-in-Logic.new.kinds ≡ fold with_kind c.args.kinds.now ks)) all c.add_operands-in-Logic.ensures

pub add_expr-returns-in-Print : goal.add_expr-returns-in-Print
add_expr-returns-in-Print t c =
    let all = ap operand_kinds c.as_slice-in-Print.ensures ∙ sym (print_kinds c.in-Print.line c.in-Print.operands c.in-Print.pieces) ∙ ap expr_kinds (sym c.in-Print.is) in
    subst (λ ks. OnOk c.add_operands-in-Print.result (c.add_operands-in-Print.new.kinds ≡ fold with_kind c.args.kinds.now ks)) all c.add_operands-in-Print.ensures

pub add_expr-returns-in_ok-add_expr-in-Choose-3 : goal.add_expr-returns-in_ok-add_expr-in-Choose-3
add_expr-returns-in_ok-add_expr-in-Choose-3 t c =
    let test = c.get-in-Choose.result.now in
    let one = c.get-in-Choose-2.result.now in
    let all = ap expr_kinds c.in-Choose.is ∙ choose_kinds c.in-Choose.line c.in-Choose.test c.in-Choose.then c.in-Choose.otherwise
    ∙ ap (λ e. expr_kinds e ++ expr_kinds c.in-Choose.then ++ expr_kinds c.in-Choose.otherwise) (sym c.get-in-Choose.ensures)
    ∙ ap (λ e. expr_kinds test ++ expr_kinds e ++ expr_kinds c.in-Choose.otherwise) (sym c.get-in-Choose-2.ensures)
    ∙ ap (λ e. expr_kinds test ++ expr_kinds one ++ expr_kinds e) (sym c.get-in-Choose-3.ensures) in
    three_on with_kind c.args.kinds.now c.add_expr-in-Choose.new.kinds c.add_expr-in-Choose-2.new.kinds c.add_expr-in-Choose-3.new.kinds
    (expr_kinds test) (expr_kinds one) (expr_kinds c.get-in-Choose-3.result.now) (expr_kinds c.args.expr.now)
    all c.in_ok-add_expr-in-Choose.ensures c.in_ok-add_expr-in-Choose-2.ensures c.in_ok-add_expr-in-Choose-3.ensures
