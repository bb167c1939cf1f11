-- What a thread asks, and which replies it may get.
--
-- Each query has a type of replies, and a thread goes on by a reply of that type: nothing is said of answers that can't come.
-- Two functions tie this to histories. `reply_to` says which reply an answer is, if it fits, and `event_of` which event
-- a query has made once it is replied to.
use Rattle.std.specs.Prelude.{ℕ, true, Option, Some, None, Result, Ok, Err}
use Rattle.filc_num.specs.declared.reason.Reason.{Reason}
use Rattle.filc_num.specs.declared.reason.Reason.TheVariants.{OutputLimit, NoCell}
use Rattle.ideal_machine.specs.declared.value.Half.{Half}
use Rattle.ideal_machine.specs.declared.value.Found.{Found}
use Rattle.ideal_machine.specs.declared.event.Event.{Event}
use Rattle.ideal_machine.specs.declared.event.Event.TheVariants.{Check, GetInt, SetInt, RmwInt, CasInt, GetHalf, Open, SetHalf, CasHalf, New, Void, Size, Name, Lock, Out, Input, Spawn, Begin, End, Join, Collected, Exit, Trap}
use Rattle.ideal_machine.specs.declared.event.Answer.{Answer}
use Rattle.ideal_machine.specs.declared.event.Answer.TheVariants.{Granted, Refused, Done, Number, Found as FoundAnswer, Opened, Made, Absent, End as InputEnd}

-- what a thread asks
pub data Query : Type 0 where
  -- this event
  Makes : (event : Event) → Query
  -- the check before a pointer is stored: its word may want a cell, and there may be none
  ChecksForCell : (half : Half) (address : ℕ) → Query
  -- a lock together with its check, which is made again as often as it is answered
  Locks : (half : Half) (address object offset : ℕ) → Query

-- what comes of a lock: it is taken, or its check was made once more, with the reason against it or none
pub data LockReply : Type 0 where
  Taken : LockReply
  CheckedAgain : (refusal : Option Reason) → LockReply

-- an object and its address
pub record NewObject : Type 0 where
  pub object : ℕ
  pub address : ℕ

-- an address and a half
pub record OpenPair : Type 0 where
  pub address : ℕ
  pub half : Half

-- the replies to an event. Of a check, a free and a byte put out: the reason against it, or none; of a byte taken in, an
-- object, a thread and a result: none where there is none
abbrev pub EventReply : Event → Type 0
EventReply (Check half address width write) = Option Reason
EventReply (GetInt access) = ℕ
EventReply (SetInt access value) = Unit {0}
EventReply (RmwInt access operation value) = ℕ
EventReply (CasInt access expected desired) = ℕ
EventReply (GetHalf object word) = Found
EventReply (Open pair) = OpenPair
EventReply (SetHalf object word half) = Unit {0}
EventReply (CasHalf object word seen new) = Found
EventReply (New bytes kind) = Option NewObject
EventReply (Void half address) = Option Reason
EventReply (Size half address) = Result ℕ Reason
EventReply (Name half address) = Unit {0}
EventReply (Lock object offset) = Unit {0}
EventReply (Out byte) = Option Reason
EventReply Input = Option ℕ
EventReply (Spawn function address half) = Option ℕ
EventReply (Begin function address half) = Unit {0}
EventReply (End result) = Unit {0}
EventReply (Join id) = Option ℕ
EventReply (Collected cycle) = Unit {0}
EventReply (Exit status) = Unit {0}
EventReply (Trap reason line) = Unit {0}

abbrev pub Reply : Query → Type 0
Reply (Makes event) = EventReply event
Reply (ChecksForCell half address) = Option Reason
Reply (Locks half address object offset) = LockReply

-- ---- which reply an answer is

-- granted, or refused for a reason
abbrev pub check_reply : Answer → Option (Option Reason)
check_reply Granted = Some None
check_reply (Refused reason) = Some (Some reason)
check_reply answer = None

-- the same, but not for want of a cell
abbrev pub plain_check_reply : Answer → Option (Option Reason)
plain_check_reply (Refused NoCell) = None
plain_check_reply answer = check_reply answer

abbrev pub room_reply : Answer → Option (Option Reason)
room_reply Done = Some None
room_reply (Refused OutputLimit) = Some (Some OutputLimit)
room_reply answer = None

abbrev pub done_reply : Answer → Option (Unit {0})
done_reply Done = Some tt
done_reply answer = None

abbrev pub number_reply : Answer → Option ℕ
number_reply (Number n) = Some n
number_reply answer = None

abbrev pub found_reply : Answer → Option Found
found_reply (FoundAnswer found) = Some found
found_reply answer = None

abbrev pub pair_reply : Answer → Option OpenPair
pair_reply (Opened address half) = Some (record { address = address; half = half })
pair_reply answer = None

abbrev pub object_reply : Answer → Option (Option NewObject)
object_reply (Made object address) = Some (Some (record { object = object; address = address }))
object_reply Absent = Some None
object_reply answer = None

abbrev pub size_reply : Answer → Option (Result ℕ Reason)
size_reply (Number bytes) = Some (Ok bytes)
size_reply (Refused NoCell) = None
size_reply (Refused reason) = Some (Err reason)
size_reply answer = None

abbrev pub byte_reply : Answer → Option (Option ℕ)
byte_reply (Number byte) = Some (Some byte)
byte_reply InputEnd = Some None
byte_reply answer = None

abbrev pub id_reply : Answer → Option (Option ℕ)
id_reply (Number id) = Some (Some id)
id_reply Absent = Some None
id_reply answer = None

abbrev pub event_reply : (event : Event) → Answer → Option (EventReply event)
event_reply (Check half address width write) answer = plain_check_reply answer
event_reply (GetInt access) answer = number_reply answer
event_reply (SetInt access value) answer = done_reply answer
event_reply (RmwInt access operation value) answer = number_reply answer
event_reply (CasInt access expected desired) answer = number_reply answer
event_reply (GetHalf object word) answer = found_reply answer
event_reply (Open pair) answer = pair_reply answer
event_reply (SetHalf object word half) answer = done_reply answer
event_reply (CasHalf object word seen new) answer = found_reply answer
event_reply (New bytes kind) answer = object_reply answer
event_reply (Void half address) answer = plain_check_reply answer
event_reply (Size half address) answer = size_reply answer
event_reply (Name half address) answer = done_reply answer
event_reply (Lock object offset) answer = done_reply answer
event_reply (Out byte) answer = room_reply answer
event_reply Input answer = byte_reply answer
event_reply (Spawn function address half) answer = id_reply answer
event_reply (Begin function address half) answer = done_reply answer
event_reply (End result) answer = done_reply answer
event_reply (Join id) answer = id_reply answer
event_reply (Collected cycle) answer = done_reply answer
event_reply (Exit status) answer = done_reply answer
event_reply (Trap reason line) answer = done_reply answer

-- taken, or one of a check's answers
abbrev pub check_again : Option (Option Reason) → Option LockReply
check_again None = None
check_again (Some refusal) = Some (CheckedAgain refusal)

abbrev pub lock_reply : Answer → Option LockReply
lock_reply Done = Some Taken
lock_reply answer = check_again (plain_check_reply answer)

-- the reply that an answer is, where it fits the query
abbrev pub reply_to : (query : Query) → Answer → Option (Reply query)
reply_to (Makes event) answer = event_reply event answer
reply_to (ChecksForCell half address) answer = check_reply answer
reply_to (Locks half address object offset) answer = lock_reply answer

-- ---- which event was made

abbrev pub lock_event : (half : Half) (address object offset : ℕ) → LockReply → Event
lock_event half address object offset Taken = Lock object offset
lock_event half address object offset (CheckedAgain refusal) = Check half address 4 true

-- the event that a query made, by its reply
abbrev pub event_of : (query : Query) → Reply query → Event
event_of (Makes event) reply = event
event_of (ChecksForCell half address) reply = Check half address 8 true
event_of (Locks half address object offset) reply = lock_event half address object offset reply

-- the event that a thread wants by a query
abbrev pub wish_of : Query → Event
wish_of (Makes event) = event
wish_of (ChecksForCell half address) = Check half address 8 true
wish_of (Locks half address object offset) = Lock object offset
