-- Each entry has one number.
use Rattle.std.proofs.Common.{◌≡◌, ℕ, List, Some, subst}
use Rattle.std.specs.Prelude.{slice_get}
use Rattle.c_types.specs.declared.entry.Entry.{Entry}
use Rattle.c_types.specs.Whole.{IsWhole}
use Rattle.c_types.proofs.Numberings.{one_number}
use Rattle.c_types.proofs.table.Types.len.Goals as goal

pub returns-clause-once : goal.returns-clause-once
returns-clause-once c =
    subst (λ (xs : List Entry). (e : Entry) (i j : ℕ) → slice_get xs i ≡ Some e → slice_get xs j ≡ Some e → i ≡ j) c.self.view_is
    (one_number c.self.inside.entries.items c.self.inside.numbers c.self.invariant.numbered)

pub returns-clause-whole : goal.returns-clause-whole
returns-clause-whole c = subst IsWhole c.self.view_is c.self.invariant.whole
