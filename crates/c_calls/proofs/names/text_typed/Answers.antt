-- A text is a static object of its own.
use Rattle.std.proofs.Common.{◌≡◌, ◌+◌, length, arith}
use Rattle.c_expr_rules.specs.Views.{seen_state}
use Rattle.c_expr_rules.proofs.TablesGrown.{text_is}
use Rattle.c_calls.proofs.names.text_typed.Goals as goal

pub returns-clause-found : goal.returns-clause-found
returns-clause-found g c =
    let count-is : c.in-Some.count ≡ length c.args.bytes + 1 = omega arith in
    text_is (g.S.Surroundings.told c.args.around.now) c.args.line c.args.bytes (seen_state c.args.state.now) (seen_state c.add_literal.new.self)
    c.char_array.new.types c.in_ok-number.number c.in-Some.count c.empty.result c.is_too_long.result c.in_memory-typed.result _
    count-is c.in_ok-number.ensures c.in_ok-add_literal.ensures.ok (c.empty.ensures tt) c.is_too_long.ensures c.in_memory-typed.ensures
    (c.by_rules.ensures (seen_state c.add_literal.new.self))
