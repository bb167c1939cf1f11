use Rattle.std.proofs.Common.{◌≡◌, ◌∙◌, Some, ap, rules, sym, unwrap_or}
use Rattle.c_terminals.specs.Places.{place_of}
use Rattle.c_terminals.proofs.Numbering.{others_stay}
use Rattle.c_terminals.proofs.numbers.number_of.Goals as goal

pub returns-clause-places : goal.returns-clause-places
returns-clause-places c =
    let items = c.in_ok-key.ensures.items in
    let updates = c.in_ok-insert.ensures.updates in
    let absent : unwrap_or (place_of c.args.places.now c.args.text.now) c.args.next ≡ c.args.next = search rules in
    record {
      here = ap (place_of c.insert.new.self) (sym items) ∙ updates.1 ∙ ap Some (sym absent);
      others = λ other apart. others_stay c.args.places.now c.insert.new.self c.in_ok-key.key.items (Some c.args.next) updates other (λ e. apart (sym items ∙ e));
    }
