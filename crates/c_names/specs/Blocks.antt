-- What a block leaves: the lists of the state are only added to, whatever becomes of its names and its locals.
use Rattle.std.specs.Prelude.{◌≡◌, length, take}
use Rattle.c_expr_rules.specs.declared.state.State.{State}

pub record AddsTo (before after : State) : Type 0 where
  pub used : take (length before.used.items) after.used.items ≡ before.used.items
  pub taken : take (length before.taken.items) after.taken.items ≡ before.taken.items
  pub literals : take (length before.literals.items) after.literals.items ≡ before.literals.items
