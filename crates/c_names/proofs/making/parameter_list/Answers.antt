-- What are no types of the table make the empty list.
use Rattle.std.proofs.Common.{◌≡◌, ℕ, true, false, sym, ◌∙◌, subst}
use Rattle.std.specs.Prelude.{IfOk, OnOk}
use Rattle.c_types.specs.Extensions.{Table}
use Rattle.c_types.proofs.Guards.{list_known}
use Rattle.c_names.proofs.Unmade.{unlisted}
use Rattle.c_names.proofs.making.parameter_list.Goals as goal

pub returns-then-are_types-clause-grown : goal.returns-then-are_types-clause-grown
returns-then-are_types-clause-grown c =
    subst (λ (made : Table × ℕ). OnOk c.parameter_list.result (c.parameter_list.new.self ≡ made.0)) (sym (list_known c.args.types.now c.args.parameters.now (c.are_types.ensures.there.0 c.if-are_types.true))) c.parameter_list.ensures.grown

pub returns-then-are_types-clause-gives : goal.returns-then-are_types-clause-gives
returns-then-are_types-clause-gives c =
    subst (λ (made : Table × ℕ). IfOk c.parameter_list.result (λ x. x ≡ made.1)) (sym (list_known c.args.types.now c.args.parameters.now (c.are_types.ensures.there.0 c.if-are_types.true))) c.parameter_list.ensures.gives

pub returns-else-are_types-clause-grown : goal.returns-else-are_types-clause-grown
returns-else-are_types-clause-grown c =
    subst (λ (made : Table × ℕ). OnOk c.parameter_list-else-are_types.result (c.parameter_list-else-are_types.new.self ≡ made.0)) (sym (unlisted c.args.types.now c.args.parameters.now (sym c.are_types.ensures.value ∙ c.if-are_types.false))) c.parameter_list-else-are_types.ensures.grown

pub returns-else-are_types-clause-gives : goal.returns-else-are_types-clause-gives
returns-else-are_types-clause-gives c =
    subst (λ (made : Table × ℕ). IfOk c.parameter_list-else-are_types.result (λ x. x ≡ made.1)) (sym (unlisted c.args.types.now c.args.parameters.now (sym c.are_types.ensures.value ∙ c.if-are_types.false))) c.parameter_list-else-are_types.ensures.gives
