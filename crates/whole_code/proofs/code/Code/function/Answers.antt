-- A fact of each function holds of the one at an index.
use Rattle.std.proofs.Common.{◌<◌, length, map, sym, ◌∙◌, ap, subst}
use Rattle.std.proofs.Math.ListN.{get_or-map}
use Rattle.std.proofs.lemmas.List.Elements.{All-get_or}
use Rattle.whole_code.specs.Plain.{PlainCode, plain_function, plain_code}
use Rattle.whole_code.specs.WellFormed.{IsFunctionWellFormed, named_in}
use Rattle.whole_code.proofs.code.Code.function.Goals as goal

pub returns-clause-well_formed : goal.returns-clause-well_formed
returns-clause-well_formed c =
    let fs = c.self.inside.functions.items in
    let f = c.index.result.now in
    let code : PlainCode = plain_code fs c.self.inside.statics.items c.self.inside.main in
    let within : c.args.number < length (map plain_function fs) = rw (← c.self.view_is) at c.requires in
    let here = All-get_or (IsFunctionWellFormed (named_in code)) (map plain_function fs) c.args.number (plain_function f) within c.self.invariant.functions in
    let there : IsFunctionWellFormed (named_in code) (plain_function f) = subst (IsFunctionWellFormed (named_in code)) (get_or-map plain_function fs c.args.number f ∙ ap plain_function (sym c.index.ensures)) here in
    subst (λ (k : PlainCode). IsFunctionWellFormed (named_in k) (plain_function f)) c.self.view_is there
