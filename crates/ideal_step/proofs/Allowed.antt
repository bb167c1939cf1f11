-- What is allowed, from its three parts.
use Rattle.std.proofs.Common.{◌≡◌, ◌↔◌, ℕ, Bool, true, false, ◌&&◌, IsTrue, refl}
use Rattle.ideal_machine.specs.declared.event.Event.{Event}
use Rattle.ideal_machine.specs.declared.event.Answer.{Answer}
use Rattle.ideal_machine.specs.Memory.{Memory, World}
use Rattle.ideal_machine.specs.Names.{NamesObjects}
use Rattle.ideal_machine.specs.Allows.{MayMake, IsAnswer, IsAllowed}

pub allowed_by : (world : World) (memory : Memory) (actor : ℕ) (event : Event) (answer : Answer) (a b c : Bool) → (IsTrue a ↔ MayMake world memory actor event) → (IsTrue b ↔ NamesObjects memory event) → (IsTrue c ↔ IsAnswer world memory event answer) → IsTrue (a && b && c) ↔ IsAllowed world memory actor event answer
allowed_by world memory actor event answer true true true p q r =
    (λ h. record { may_make = p.0 refl; objects = q.0 refl; answers = r.0 refl }, λ h. refl)
allowed_by world memory actor event answer true true false p q r = (λ (h : false ≡ true). cc, λ h. r.1 h.answers)
allowed_by world memory actor event answer true false c p q r = (λ (h : false ≡ true). cc, λ h. q.1 h.objects)
allowed_by world memory actor event answer false b c p q r = (λ (h : false ≡ true). cc, λ h. p.1 h.may_make)
