-- The next parameter is the first of those that are left, and in the end none is left.
use Rattle.std.proofs.Common.{◌≡◌, List, [], ◌++◌, refl, sym, ap, ◌∙◌, subst}
use Rattle.std.proofs.lemmas.List.{append-nil, at_drop_all}
use Rattle.c_declarators.specs.declared.parameters.ParameterType.{ParameterType}
use Rattle.c_file_rules.specs.Declarators.{adjusted_types}
use Rattle.c_type_parts.proofs.Adjusted.{AreTypes, next_type_at}
use Rattle.c_type_parts.proofs.parameters.adjusted_types.Goals as goal

pub parameters-preserved : goal.parameters-preserved
parameters-preserved c =
    let all = adjusted_types c.args.types.now c.args.parameters.now in
    next_type_at all c.parameters.types c.add_adjusted.new.types c.parameters.numbers.items c.add_adjusted.new.numbers.items c.args.parameters.now c.parameters.parameter-index _ _ c.parameters-test.true refl
    c.in_ok-add_adjusted.ensures.grown c.in_ok-add_adjusted.ensures.gives c.parameters.invariant

pub returns-clause-grown : goal.returns-clause-grown
returns-clause-grown c =
    let all = adjusted_types c.args.types.now c.args.parameters.now in
    let none = at_drop_all (λ (ps : List ParameterType). ps) c.args.parameters.now c.parameters.parameter-index c.parameters-test.false in
    (subst (AreTypes all c.parameters.types c.parameters.numbers.items) none c.parameters.invariant).0

pub returns-clause-gives : goal.returns-clause-gives
returns-clause-gives c =
    let all = adjusted_types c.args.types.now c.args.parameters.now in
    let none = at_drop_all (λ (ps : List ParameterType). ps) c.args.parameters.now c.parameters.parameter-index c.parameters-test.false in
    sym (append-nil c.parameters.numbers.items) ∙ (subst (AreTypes all c.parameters.types c.parameters.numbers.items) none c.parameters.invariant).1
