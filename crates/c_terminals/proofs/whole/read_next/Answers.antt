-- A word whose text was met changes nothing in the map.
use Rattle.std.proofs.Common.{length, subst}
use Rattle.c_terminals.specs.Places.{IsSameAt}
use Rattle.c_terminals.proofs.Numbering.{numbered-met, same_name-text}
use Rattle.c_terminals.proofs.whole.read_next.Goals as goal

pub returns-in-Some-clause-numbered : goal.returns-in-Some-clause-numbered
returns-in-Some-clause-numbered c =
    let tokens = c.args.tokens.now in
    let place = length c.args.lexemes.now in
    let met : IsSameAt tokens.list.items c.args.token (length c.args.lexemes.now) c.in-Some.earlier =
    subst (λ ts. IsSameAt ts c.args.token (length c.args.lexemes.now) c.in-Some.earlier) c.deref.ensures.value c.in-Some.ensures in
    numbered-met tokens.bytes.items tokens.list.items place c.args.token c.requires.there c.args.places.now c.in-Some.earlier met.other met.before met.there
    (same_name-text tokens.bytes.items met.other c.args.token met.same) c.requires.numbered
