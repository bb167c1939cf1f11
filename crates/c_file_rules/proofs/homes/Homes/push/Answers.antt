-- The tree has one number more, or what was put behind the list is taken back.
use Rattle.std.proofs.Common.{◌≡◌, ◌++◌, ◌∷◌, [], ℕ, List, Some, sym, ◌∙◌, subst}
use Rattle.std.specs.BTreeMap.{Updates, IsUnchanged}
use Rattle.std.specs.Ordering.{nat_cmp}
use Rattle.c_file_rules.specs.Indexes.{IsIndexOf, own}
use Rattle.c_file_rules.proofs.Indexed.{index_push, index_same}
use Rattle.c_file_rules.proofs.Popping.{popped, on_ok, on_err}
use Rattle.c_file_rules.proofs.homes.Homes.push.Goals as goal

pub invariant_of-self-else-is_err : goal.invariant_of-self-else-is_err
invariant_of-self-else-is_err c =
    let updates = on_ok c.insert.result (Updates nat_cmp c.self.inside.known c.insert.new.self (own c.args.local) (Some tt)) (sym c.is_err.ensures.value ∙ c.if-is_err.false) c.insert.ensures.updates in
    subst (λ (xs : List ℕ). IsIndexOf own xs c.insert.new.self) (sym c.in_ok-push.ensures.ok)
    (index_push own c.self.inside.locals c.args.local c.self.inside.known c.insert.new.self c.self.invariant updates)

pub invariant_of-self-then-is_err : goal.invariant_of-self-then-is_err
invariant_of-self-then-is_err c =
    index_same own c.self.inside.locals c.pop.new.self c.self.inside.known c.insert.new.self c.self.invariant
    (popped c.pop.result c.self.inside.locals c.push.new.self c.pop.new.self c.args.local c.in_ok-push.ensures.ok c.pop.ensures)
    (on_err c.insert.result (IsUnchanged c.self.inside.known c.insert.new.self) (sym c.is_err.ensures.value ∙ c.if-is_err.true) c.insert.ensures.err)

pub returns-then-is_err-clause-err : goal.returns-then-is_err-clause-err
returns-then-is_err-clause-err c =
    popped c.pop.result c.self.inside.locals c.push.new.self c.pop.new.self c.args.local c.in_ok-push.ensures.ok c.pop.ensures ∙ c.self.view_is
