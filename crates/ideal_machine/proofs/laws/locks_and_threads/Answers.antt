-- With which half a started thread begins.
use Rattle.std.proofs.Common.{rules, ◌≡◌, Some, inl, inr, ⊎_elim, refl, sym, subst}
use Rattle.ideal_machine.specs.declared.value.Half.{Half}
use Rattle.ideal_machine.specs.declared.value.Half.TheVariants.{Nothing, Freed, Object as ObjectHalf}
use Rattle.ideal_machine.specs.Memory.{Started}
use Rattle.ideal_machine.specs.Names.{IsShown}
use Rattle.ideal_machine.specs.Allows.{IsStarted}
use Rattle.ideal_machine.specs.WorkedWords.{with_started}
use Rattle.ideal_machine.proofs.laws.locks_and_threads.Goals as goal

started_half : (half : Half) → Some (Started 2 65536 (ObjectHalf 0)) ≡ Some (Started 2 65536 half) → ObjectHalf 0 ≡ half
started_half half e = cc

-- it is shown as no other half while its object isn't freed
shown_half : (shown : Half) → IsStarted with_started 1 2 65536 shown → IsShown with_started (ObjectHalf 0) shown
shown_half shown h = subst (λ half. IsShown with_started half shown) (sym (started_half h.0 h.1)) h.2

not_freed : ¬ IsShown with_started (ObjectHalf 0) Freed
not_freed h = ⊎_elim (λ same. absurd (cc)) (λ freed. absurd (cc)) h

not_nothing : ¬ IsShown with_started (ObjectHalf 0) Nothing
not_nothing h = ⊎_elim (λ same. absurd (cc)) (λ freed. absurd (cc)) h

pub returns-clause-halves : goal.returns-clause-halves
returns-clause-halves c = (
  record { may_make = (ObjectHalf 0, refl, inl refl); objects = search rules; answers = refl },
  λ h. not_freed (shown_half Freed h.may_make),
  λ h. not_nothing (shown_half Nothing h.may_make),
)

pub returns-clause-freed : goal.returns-clause-freed
returns-clause-freed c = (
  record { may_make = (ObjectHalf 0, refl, inr (refl, refl)); objects = search rules; answers = refl },
  λ h. absurd (search rules),
)
