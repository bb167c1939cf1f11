-- The parameters that there are, adjusted, make the list.
use Rattle.std.proofs.Common.{ℕ, List, All, sym, subst}
use Rattle.c_types.specs.Declarators.{IsParameterList}
use Rattle.c_types.specs.Whole.{IsTypeAt}
use Rattle.c_types.proofs.Deriving.{Keeps-trans}
use Rattle.c_declarators.specs.declared.parameters.ParameterType.{ParameterType}
use Rattle.c_declarations.specs.ParameterTypes.{ParameterFits, AreAdjusted, parameters_in}
use Rattle.c_declarations.proofs.Adjusting.{fits_there, list_of}
use Rattle.c_declarations.proofs.parameters.parameter_types.Goals as goal

pub adjusted_numbers-requires-clause-fit : goal.adjusted_numbers-requires-clause-fit
adjusted_numbers-requires-clause-fit c =
    subst (All (ParameterFits c.args.types.now)) (sym c.parameters_in-there.ensures) (fits_there c.args.types.now c.args.parameters.now c.requires)

pub parameter_list-requires : goal.parameter_list-requires
parameter_list-requires c = subst (All (IsTypeAt c.adjusted_numbers.new.types)) (sym c.as_slice.ensures.value) c.in_ok-numbers.ensures.types

pub returns-clause-list : goal.returns-clause-list
returns-clause-list c =
    list_of c.args.types.now c.adjusted_numbers.new.types c.parameter_list.new.self (parameters_in c.args.types.now c.args.parameters.now) c.in_ok-numbers.numbers.items c.in_ok-list.list
    (subst (λ (ps : List ParameterType). AreAdjusted c.args.types.now c.adjusted_numbers.new.types ps c.in_ok-numbers.numbers.items) c.parameters_in-there.ensures c.in_ok-numbers.ensures.adjusted)
    c.parameter_list.ensures.kept
    (subst (λ (ns : List ℕ). IsParameterList c.parameter_list.new.self ns c.in_ok-list.list) c.as_slice.ensures.value c.in_ok-list.ensures.list)

pub returns-clause-kept : goal.returns-clause-kept
returns-clause-kept c =
    Keeps-trans c.args.types.now c.adjusted_numbers.new.types c.parameter_list.new.self c.adjusted_numbers.ensures.kept c.parameter_list.ensures.kept
