-- An event may stand in a history as it is.
use Rattle.std.proofs.Common.{◌≡◌, inl, refl, ap}
use Rattle.ideal_machine.specs.declared.value.Half.{Half}
use Rattle.ideal_machine.specs.declared.value.Kept.{Kept}
use Rattle.ideal_machine.specs.declared.value.Kept.TheVariants.{Plain, Pair}
use Rattle.ideal_machine.specs.declared.event.Event.{Event}
use Rattle.ideal_machine.specs.declared.event.Event.TheVariants.{SetHalf, CasHalf}
use Rattle.ideal_machine.specs.Memory.{Memory}
use Rattle.ideal_machine.specs.Names.{kept_as, event_as, IsShownAs}

abbrev as_is : Half → Half
as_is half = half

same_kept : (kept : Kept) → kept ≡ kept_as as_is kept
same_kept (Plain half) = refl
same_kept (Pair address half) = refl

same_event : (event : Event) → event ≡ event_as as_is event
same_event (SetHalf object word half) = ap (λ k. SetHalf object word k) (same_kept half)
same_event (CasHalf object word seen new) = ap (λ k. CasHalf object word seen k) (same_kept new)
same_event event = refl

pub shown_self : (memory : Memory) (event : Event) → IsShownAs memory event event
shown_self memory event = (as_is, λ half. inl refl, same_event event)
