-- A derived type has its number already, or goes to the end of the table.
use Rattle.std.proofs.Common.{◌≡◌, inr, ℕ, ◌++◌, ◌∷◌, [], List, length, None, Some, sym, ap, ◌∙◌, subst, rules, arith}
use Rattle.std.specs.Prelude.{slice_get}
use Rattle.std.proofs.lemmas.Grind.{common_steps}
use Rattle.std.specs.BTreeMap.{get, Updates, IsUnchanged}
use Rattle.c_types.specs.declared.entry.Entry.{Entry}
use Rattle.c_types.specs.contracts.entry.EntryOrd.TheImpl as EntryOrder
use Rattle.c_types.specs.Tables.{IsNumbered}
use Rattle.c_types.specs.Whole.{EntryFits, IsWhole}
use Rattle.c_types.proofs.Extending.{known_number, known_table, new_number, new_table}
use Rattle.c_types.proofs.Whole.{IsWhole-push, IsWhole-same}
use Rattle.c_types.proofs.Numberings.{slice_get-push_at, IsNumbered-push, IsNumbered-same, on_ok, on_err}
use Rattle.c_types.proofs.table.Types.number_of.Goals as goal

pub returns-in-Some-clause-number : goal.returns-in-Some-clause-number
returns-in-Some-clause-number c =
    let h : get (EntryOrder.ghosts).cmp c.self.inside.numbers c.args.entry ≡ Some c.in-Some.number = sym c.get.ensures.value ∙ sym c.copied.ensures ∙ c.in-Some.is in
    ap (λ (xs : List Entry). slice_get xs c.in-Some.number) (sym c.self.view_is) ∙ c.self.invariant.numbered.found c.args.entry c.in-Some.number h

pub invariant_of-self-then-is_err-2 : goal.invariant_of-self-then-is_err-2
invariant_of-self-then-is_err-2 c =
    let pushed : c.push.new.self.items ≡ c.self.inside.entries.items ++ c.args.entry ∷ [] = grind (arith, common_steps, c.push.ensures.items) in
    let popped : c.pop.new.self.items ≡ c.self.inside.entries.items = grind (arith, common_steps, c.pop.ensures.rest, c.push.ensures.len) in
    record {
      numbered = IsNumbered-same c.self.inside.entries.items c.pop.new.self.items c.self.inside.numbers c.insert.new.self c.self.invariant.numbered popped
          (on_err c.insert.result (IsUnchanged c.self.inside.numbers c.insert.new.self) (sym c.is_err-2.ensures.value ∙ c.if-is_err-2.true) c.insert.ensures.err);
      whole = IsWhole-same c.self.inside.entries.items c.pop.new.self.items popped c.self.invariant.whole;
    }

pub invariant_of-self-else-is_err-2 : goal.invariant_of-self-else-is_err-2
invariant_of-self-else-is_err-2 c =
    let pushed : c.push.new.self.items ≡ c.self.inside.entries.items ++ c.args.entry ∷ [] = grind (arith, common_steps, c.push.ensures.items) in
    let number : c.in-Ok.number ≡ length c.self.inside.entries.items = c.in-Ok.ensures.1 ∙ c.len.ensures ∙ search rules in
    let absent : get (EntryOrder.ghosts).cmp c.self.inside.numbers c.args.entry ≡ None = sym c.get.ensures.value ∙ sym c.copied.ensures ∙ c.in_default.is in
    let told = on_ok c.insert.result (Updates (EntryOrder.ghosts).cmp c.self.inside.numbers c.insert.new.self c.args.entry (Some c.in-Ok.number)) (sym c.is_err-2.ensures.value ∙ c.if-is_err-2.false) c.insert.ensures.updates in
    let updates = subst (λ (n : ℕ). Updates (EntryOrder.ghosts).cmp c.self.inside.numbers c.insert.new.self c.args.entry (Some n)) number told in
    let fits : EntryFits c.self.inside.entries.items c.args.entry = subst (λ (xs : List Entry). EntryFits xs c.args.entry) (sym c.self.view_is) c.requires.fits in
    record {
      numbered = subst (λ (xs : List Entry). IsNumbered xs c.insert.new.self) (sym pushed)
          (IsNumbered-push c.self.inside.entries.items c.self.inside.numbers c.insert.new.self c.args.entry c.self.invariant.numbered absent c.requires.derived updates);
      whole = subst IsWhole (sym pushed) (IsWhole-push c.self.inside.entries.items c.args.entry c.self.invariant.whole fits);
    }

pub returns-clause-number : goal.returns-clause-number
returns-clause-number c =
    let pushed : c.push.new.self.items ≡ c.self.inside.entries.items ++ c.args.entry ∷ [] = grind (arith, common_steps, c.push.ensures.items) in
    let number : c.in-Ok.number ≡ length c.self.inside.entries.items = c.in-Ok.ensures.1 ∙ c.len.ensures ∙ search rules in
    ap (λ (xs : List Entry). slice_get xs c.in-Ok.number) pushed ∙ ap (λ (n : ℕ). slice_get (c.self.inside.entries.items ++ c.args.entry ∷ []) n) number
    ∙ slice_get-push_at c.self.inside.entries.items c.args.entry

pub returns-clause-table : goal.returns-clause-table
returns-clause-table c =
    let pushed : c.push.new.self.items ≡ c.self.inside.entries.items ++ c.args.entry ∷ [] = grind (arith, common_steps, c.push.ensures.items) in
    inr (pushed ∙ ap (λ (xs : List Entry). xs ++ c.args.entry ∷ []) c.self.view_is)

-- ---- which table and number it is

pub returns-in-Some-clause-gives : goal.returns-in-Some-clause-gives
returns-in-Some-clause-gives c =
    let h : get (EntryOrder.ghosts).cmp c.self.inside.numbers c.args.entry ≡ Some c.in-Some.number = sym c.get.ensures.value ∙ sym c.copied.ensures ∙ c.in-Some.is in
    known_number c.self.inside.entries.items c.self.inside.numbers c.self.invariant.numbered c.args.entry c.args.self.now c.self.view_is c.in-Some.number h

pub returns-in-Some-clause-grown : goal.returns-in-Some-clause-grown
returns-in-Some-clause-grown c =
    let h : get (EntryOrder.ghosts).cmp c.self.inside.numbers c.args.entry ≡ Some c.in-Some.number = sym c.get.ensures.value ∙ sym c.copied.ensures ∙ c.in-Some.is in
    known_table c.self.inside.entries.items c.self.inside.numbers c.self.invariant.numbered c.args.entry c.args.self.now c.self.view_is c.in-Some.number h

pub returns-clause-gives : goal.returns-clause-gives
returns-clause-gives c =
    let number : c.in-Ok.number ≡ length c.self.inside.entries.items = c.in-Ok.ensures.1 ∙ c.len.ensures ∙ search rules in
    let absent : get (EntryOrder.ghosts).cmp c.self.inside.numbers c.args.entry ≡ None = sym c.get.ensures.value ∙ sym c.copied.ensures ∙ c.in_default.is in
    new_number c.self.inside.entries.items c.self.inside.numbers c.self.invariant.numbered c.args.entry c.args.self.now c.self.view_is c.in-Ok.number number c.requires.derived absent

pub returns-clause-grown : goal.returns-clause-grown
returns-clause-grown c =
    let pushed : c.push.new.self.items ≡ c.self.inside.entries.items ++ c.args.entry ∷ [] = grind (arith, common_steps, c.push.ensures.items) in
    let absent : get (EntryOrder.ghosts).cmp c.self.inside.numbers c.args.entry ≡ None = sym c.get.ensures.value ∙ sym c.copied.ensures ∙ c.in_default.is in
    new_table c.self.inside.entries.items c.self.inside.numbers c.self.invariant.numbered c.args.entry c.args.self.now c.self.view_is c.push.new.self.items pushed c.requires.derived absent
