-- Every allowed answer is a reply, so no thread waits for want of a fitting one; but for want of a cell, which is a reply
-- to the check of a pointer's store alone.
use Rattle.std.specs.Prelude.{◌≡◌, ◌⊎◌, ℕ, true, IsSome}
use Rattle.filc_num.specs.declared.reason.Reason.TheVariants.{NoCell}
use Rattle.ideal_machine.specs.declared.value.Half.{Half}
use Rattle.ideal_machine.specs.declared.event.Event.{Event}
use Rattle.ideal_machine.specs.declared.event.Event.TheVariants.{Check}
use Rattle.ideal_machine.specs.declared.event.Answer.{Answer}
use Rattle.ideal_machine.specs.declared.event.Answer.TheVariants.{Refused}
use Rattle.ideal_machine.specs.Memory.{Memory, World}
use Rattle.ideal_machine.specs.Queries.{event_reply, check_reply}
use Rattle.ideal_machine.specs.Allows.{IsAllowed}

abbrev pub AllowedAnswersAreReplies : Type 0
AllowedAnswersAreReplies =
    (world : World) (memory : Memory) (actor : ℕ) (event : Event) (answer : Answer) →
    IsAllowed world memory actor event answer →
    IsSome (event_reply event answer) ⊎ (answer ≡ Refused NoCell)

abbrev pub AllowedChecksAreReplies : Type 0
AllowedChecksAreReplies =
    (world : World) (memory : Memory) (actor : ℕ) (half : Half) (address : ℕ) (answer : Answer) →
    IsAllowed world memory actor (Check half address 8 true) answer → IsSome (check_reply answer)
