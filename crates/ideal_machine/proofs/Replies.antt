-- Which answer a reply came from.
use Rattle.std.proofs.Common.{◌≡◌, ◌⊎◌, inl, inr, Option, Some, None, refl}
use Rattle.filc_num.specs.declared.reason.Reason.{Reason}
use Rattle.filc_num.specs.declared.reason.Reason.TheVariants.{OutputLimit}
use Rattle.ideal_machine.specs.declared.event.Answer.{Answer}
use Rattle.ideal_machine.specs.declared.event.Answer.TheVariants.{Refused, Done}
use Rattle.ideal_machine.specs.Queries.{room_reply}

-- a byte was put out, or the output has no room
pub out_view :
    (answer : Answer) (reply : Option Reason) → room_reply answer ≡ Some reply →
    ((answer ≡ Done) × (reply ≡ None)) ⊎ ((answer ≡ Refused OutputLimit) × (reply ≡ Some OutputLimit))
out_view Done reply e = inl (refl, cc)
out_view (Refused OutputLimit) reply e = inr (refl, cc)
out_view answer reply e = absurd (cc)
