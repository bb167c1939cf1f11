-- A directive takes the next value.
use Rattle.std.proofs.Common.{◌≡◌, ◌∷◌, [], ◌++◌, true, refl, ap, ◌∙◌, rules, arith}
use Rattle.std.specs.Prelude.{Some}
use Rattle.c_tree.specs.declared.expr.Expr.{Expr}
use Rattle.c_tree.specs.declared.operation.Piece.{Piece}
use Rattle.c_expr_rules.specs.TypedExpressions.{tree_of}
use Rattle.c_expr_rules.specs.declared.typed.Typed.{Typed}
use Rattle.c_expr_rules.specs.declared.printer.Mode.TheVariants.{Text}
use Rattle.c_calls.specs.Printouts.{takes_value, given_value, piece_of}
use Rattle.c_expr_rules.specs.Views.{seen_state}
use Rattle.c_calls.specs.declared.printing.Directive.{Directive}
use Rattle.c_calls.specs.declared.printing.Reading.{Reading}
use Rattle.c_calls.proofs.Printed.{value_taken}
use Rattle.c_calls.proofs.printing.Reading.take.Goals as goal

pub returns : goal.returns
returns c =
    let s = seen_state c.args.state.now in
    let old = c.args.self.now in
    let what : Directive = c.in-Some.field-0 in
    let new : Reading = record {
      printed = record { operands = c.push.new.self; pieces = c.push-2.new.self };
      mode = Text;
      operand_number = c.in-Some-checked_add.following;
      pending = c.pop.new.self;
    } in
    let is : c.args.directive ≡ Some what = first_of (cc, search rules, grind arith) in
    let takes : takes_value s what.taken c.in-Some-pop.typed ≡ true = first_of (cc, search rules, grind arith) in
    let value : c.in_ok-value.value ≡ given_value what.taken c.in-Some-pop.typed = first_of (cc, search rules) in
    let piece : c.piece_of.result ≡ piece_of what.output old.operand_number = first_of (cc, search rules) in
    value_taken s c.args.directive what old new c.in-Some-pop.typed is c.in-Some-pop.ensures takes refl (omega arith)
    (c.in_ok-push.ensures.ok ∙ ap (λ (t : Expr). old.printed.operands ++ t ∷ []) (c.in_ok-operand.ensures ∙ ap (λ (v : Typed). tree_of v.made) value))
    (c.in_ok-push-2.ensures.ok ∙ ap (λ (p : Piece). old.printed.pieces ++ p ∷ []) piece)
