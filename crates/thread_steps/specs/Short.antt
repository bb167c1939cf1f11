-- The number of a word in its object has 32 bits, where a thread has an access at hand.
use Rattle.std.specs.Prelude.{ℕ, ◌<◌, ◌+◌, ◌^◌, Option, Some, None}
use Rattle.filc_num.specs.declared.reason.Reason.{Reason}
use Rattle.ideal_machine.specs.declared.value.Half.{Half}
use Rattle.ideal_machine.specs.declared.value.Half.TheVariants.{Object as ObjectHalf}
use Rattle.ideal_machine.specs.declared.event.Answer.{Answer}
use Rattle.ideal_machine.specs.declared.event.Event.TheVariants as event
use Rattle.ideal_machine.specs.Queries.{check_reply}
use Rattle.ideal_machine.specs.declared.event.Access.{Access}
use Rattle.whole_thread.specs.declared.stage.Stage.{Stage}
use Rattle.whole_thread.specs.declared.stage.Stage.TheVariants as stage
use Rattle.whole_thread.specs.declared.stage.Want.{Want}
use Rattle.whole_thread.specs.declared.stage.Want.TheVariants as want
use Rattle.whole_thread.specs.Thread.{place_address}

-- it lies in the first 2 ^ 35 bytes of its object
abbrev pub IsShort : Access → Type 0
IsShort access = access.offset < 2 ^ 35

abbrev pub IsShortRound : Option Access → Type 0
IsShortRound None = Unit {0}
IsShortRound (Some access) = IsShort access

abbrev pub IsShortStage : Stage → Type 0
IsShortStage (stage.Granted access) = IsShort access
IsShortStage (stage.Stored access) = IsShort access
IsShortStage (stage.Found access found) = IsShort access
IsShortStage (stage.Read access found pointer) = IsShort access
IsShortStage (stage.Matches access found pointer) = IsShort access
IsShortStage s = Unit {0}

-- ---- answers that keep it so

-- the address lies so near to the place of the object that the half names
abbrev pub IsNearHalf : Half → (address : ℕ) → Type 0
IsNearHalf (ObjectHalf place) address = address < place_address place + 2 ^ 35
IsNearHalf half address = Unit {0}

abbrev pub IsNearReply : Option (Option Reason) → Half → (address : ℕ) → Type 0
IsNearReply (Some None) half address = IsNearHalf half address
IsNearReply reply half address = Unit {0}

-- a check is granted within the first 2 ^ 35 bytes of an object alone
abbrev pub IsNear : Want → Answer → Type 0
IsNear (want.Event (event.Check half address width write)) answer = IsNearReply (check_reply answer) half address
IsNear w answer = Unit {0}
