-- The tree has one number more, or what was put behind the list is taken back.
use Rattle.std.proofs.Common.{◌≡◌, ◌++◌, ◌∷◌, [], ℕ, List, Some, sym, ◌∙◌, subst}
use Rattle.std.specs.BTreeMap.{Updates, IsUnchanged}
use Rattle.std.specs.Ordering.{nat_cmp}
use Rattle.c_tree.specs.declared.stmt.Case.{Case}
use Rattle.c_file_rules.specs.Indexes.{IsIndexOf, value_of_case}
use Rattle.c_file_rules.proofs.Indexed.{index_push, index_same}
use Rattle.c_file_rules.proofs.Popping.{popped, on_ok, on_err}
use Rattle.c_file_rules.proofs.cases.Cases.push.Goals as goal

pub invariant_of-self-else-is_err : goal.invariant_of-self-else-is_err
invariant_of-self-else-is_err c =
    let updates = on_ok c.insert.result (Updates nat_cmp c.self.inside.values c.insert.new.self (value_of_case c.args.case) (Some tt)) (sym c.is_err.ensures.value ∙ c.if-is_err.false) c.insert.ensures.updates in
    subst (λ (xs : List Case). IsIndexOf value_of_case xs c.insert.new.self) (sym c.in_ok-push.ensures.ok)
    (index_push value_of_case c.self.inside.cases c.args.case c.self.inside.values c.insert.new.self c.self.invariant updates)

pub invariant_of-self-then-is_err : goal.invariant_of-self-then-is_err
invariant_of-self-then-is_err c =
    index_same value_of_case c.self.inside.cases c.pop.new.self c.self.inside.values c.insert.new.self c.self.invariant
    (popped c.pop.result c.self.inside.cases c.push.new.self c.pop.new.self c.args.case c.in_ok-push.ensures.ok c.pop.ensures)
    (on_err c.insert.result (IsUnchanged c.self.inside.values c.insert.new.self) (sym c.is_err.ensures.value ∙ c.if-is_err.true) c.insert.ensures.err)

pub returns-then-is_err-clause-err : goal.returns-then-is_err-clause-err
returns-then-is_err-clause-err c =
    popped c.pop.result c.self.inside.cases c.push.new.self c.pop.new.self c.args.case c.in_ok-push.ensures.ok c.pop.ensures ∙ c.self.view_is
