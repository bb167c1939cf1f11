-- Freed for an object that was freed, and for no other.
use Rattle.std.proofs.Common.{inl, inr, ⊎_elim, zero, suc, true, false, refl, ◌∙◌, ap, subst}
use Rattle.ideal_machine.specs.declared.value.Half.{Half}
use Rattle.ideal_machine.specs.declared.value.Half.TheVariants.{Nothing, Freed, Object as ObjectHalf, Function}
use Rattle.ideal_machine.specs.declared.event.Event.{Event}
use Rattle.ideal_machine.specs.declared.event.Event.TheVariants.{Name}
use Rattle.ideal_machine.specs.Names.{IsShown}
use Rattle.ideal_machine.specs.Worked.{memory_with_object}
use Rattle.ideal_machine.proofs.laws.names_are_apart.Goals as goal

abbrev shown : Half → Half
shown (ObjectHalf zero) = Freed
shown half = half

is_shown : (half : Half) → IsShown (memory_with_object true false) half (shown half)
is_shown (ObjectHalf zero) = inr (refl, refl)
is_shown (ObjectHalf (suc n)) = inl refl
is_shown Nothing = inl refl
is_shown Freed = inl refl
is_shown (Function f) = inl refl

abbrev IsFreedName : Event → Type 0
IsFreedName (Name Freed address) = Unit {0}
IsFreedName event = ⊥

pub returns-clause-freed : goal.returns-clause-freed
returns-clause-freed c = (
  (shown, is_shown, refl),
  λ h. ⊎_elim (λ same. absurd (subst IsFreedName (h.2 ∙ ap (λ half. Name half 65536) same) tt)) (λ freed. absurd (cc)) (h.1 (ObjectHalf 0)),
)
