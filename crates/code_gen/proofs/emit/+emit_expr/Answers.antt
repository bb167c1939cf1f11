-- The parts of a tree are what its code is made of.
use Rattle.std.proofs.Common.{rules, ℕ, ◌+◌, [], ◌∷◌, ◌++◌, sym, ap, ◌∙◌, arith, append_assoc}
use Rattle.form_tree.specs.declared.expr.Expr.TheViews.{the_lemmas}
use Rattle.form_tree.specs.Temps.{temps_of}
use Rattle.form_tree.specs.Lists.{list_temps}
use Rattle.form_tree.proofs.Views.{negate_temps, chain_temps}
use Rattle.filc_num.specs.declared.integer.BinOp.TheVariants.{Sub}
use Rattle.filc_code.specs.declared.op.Op.TheVariants.{Const, Binary}
use Rattle.filc_code.specs.Numbers.{operator_number}
use Rattle.code_gen.specs.Code.{at_line, expr_code}
use Rattle.code_gen.proofs.Patch.{two_more}
use Rattle.code_gen.specs.Lists.{list_code}
use Rattle.code_gen.proofs.Views.{negate_code, chain_code}
use Rattle.code_gen.proofs.emit.+emit_expr.Goals as goal

pub emit_expr-requires : goal.emit_expr-requires
emit_expr-requires t c =
    let whole = ap temps_of c.in-Negate.is ∙ negate_temps c.in-Negate.line c.in-Negate.ty c.in-Negate.operand in
    let part = ap temps_of c.get.ensures in
    (search (rules, the_lemmas), omega (arith, whole, part, c.requires))

pub emit_expr-requires-in-Chain : goal.emit_expr-requires-in-Chain
emit_expr-requires-in-Chain t c =
    let whole = ap temps_of c.in-Chain.is ∙ chain_temps c.in-Chain.line c.in-Chain.first c.in-Chain.links in
    let part = ap temps_of c.get-in-Chain.ensures in
    (search (rules, the_lemmas), omega (arith, whole, part, c.requires))

pub loop-link-init : goal.loop-link-init
loop-link-init t c =
    let base = c.args.code.now.items in
    let temps = ap temps_of c.in-Chain.is ∙ chain_temps c.in-Chain.line c.in-Chain.first c.in-Chain.links in
    let links = ap list_temps c.as_slice-link-items.ensures in
    let cf = expr_code c.in-Chain.first c.args.t in
    record {
      code =
          ap (λ b. b ++ list_code c.in-Chain.line c.as_slice-link-items.result.now c.args.t)
          (c.in_ok-emit_expr-in-Chain.ensures ∙ ap (λ e. base ++ expr_code e c.args.t) c.get-in-Chain.ensures)
          ∙ append_assoc base cf (list_code c.in-Chain.line c.as_slice-link-items.result.now c.args.t)
          ∙ ap (λ l. base ++ (cf ++ list_code c.in-Chain.line l c.args.t)) c.as_slice-link-items.ensures
          ∙ ap (λ b. base ++ b) (sym (chain_code c.in-Chain.line c.in-Chain.first c.in-Chain.links c.args.t))
          ∙ ap (λ e. base ++ expr_code e c.args.t) (sym c.in-Chain.is);
      room = omega (arith, temps, links, c.requires);
    }

pub returns-in_ok-put-in-Negate-2 : goal.returns-in_ok-put-in-Negate-2
returns-in_ok-put-in-Negate-2 t c =
    let base = c.args.code.now.items in
    let k = c.args.t in
    let ce = expr_code c.in-Negate.operand k in
    let zero_at = at_line c.in-Negate.line (Const (k + 1) 0) in
    let last = λ (op : ℕ) (ty : ℕ). at_line c.in-Negate.line (Binary k (k + 1) k op ty) in
    two_more base ce _ _ _ zero_at (last c.operator_number-minus.result c.type_number.result)
    (c.in_ok-emit_expr-in-Negate.ensures ∙ ap (λ e. base ++ expr_code e k) c.get.ensures) c.in_ok-put-in-Negate.ensures c.in_ok-put-in-Negate-2.ensures
    ∙ ap (λ n. base ++ (ce ++ (zero_at ∷ (last n c.type_number.result ∷ [])))) c.operator_number-minus.ensures.value
    ∙ ap (λ n. base ++ (ce ++ (zero_at ∷ (last (operator_number Sub) n ∷ [])))) c.type_number.ensures.value
    ∙ ap (λ b. base ++ b) (sym (negate_code c.in-Negate.line c.in-Negate.ty c.in-Negate.operand k))
    ∙ ap (λ e. base ++ expr_code e k) (sym c.in-Negate.is)
