-- A thread follows the play of its code from event to event.
use Rattle.std.proofs.Common.{◌≡◌, ◌==◌, ◌-◌, ◌%◌, ℕ, zero, suc, List, [], ◌∷◌, slice_get, Bool, true, false, Option, Some, None, refl, sym, ap, ◌∙◌, subst}
use Rattle.std.specs.Prelude.{if◌then◌else◌, Result, Ok, Err}
use Rattle.filc_num.specs.declared.integer.ArithFault.{ArithFault}
use Rattle.whole_code.specs.declared.op.Op.{Op}
use Rattle.whole_code.specs.declared.op.Op.TheVariants as op
use Rattle.whole_code.specs.declared.op.Instruction.{Instruction}
use Rattle.whole_code.specs.Plain.{PlainCode}
use Rattle.ideal_machine.specs.declared.value.Found.{Found}
use Rattle.ideal_machine.specs.declared.value.Found.TheVariants.{Plain as FoundPlain, Pair as FoundPair}
use Rattle.ideal_machine.specs.declared.value.Kept.TheVariants.{Plain as KeptPlain}
use Rattle.ideal_machine.specs.declared.event.Access.{Access}
use Rattle.ideal_machine.specs.declared.event.Seen.TheVariants.{Any, Found as SeenFound}
use Rattle.ideal_machine.specs.declared.event.Event.{Event}
use Rattle.ideal_machine.specs.declared.event.Event.TheVariants.{GetInt, SetInt, RmwInt, CasInt, GetHalf, SetHalf, CasHalf, Open, Name, Trap, Check, New, Void, Size, Out, Input, Spawn, Join, End, Exit}
use Rattle.ideal_machine.specs.Values.{integer}
use Rattle.ideal_machine.specs.Queries.{Query, Reply, Makes, ChecksForCell, NewObject, plain_check_reply, id_reply, Locks, LockReply, Taken, CheckedAgain, reply_to, wish_of}
use Rattle.ideal_machine.specs.Play.{Gives, Stops, Asks, Waits, by_reply, bind}
use Rattle.ideal_machine.specs.Phrases.{Start, Phrase, arithmetic_result, unless_refused, trap, if_zero}
use Rattle.ideal_machine.specs.Retries.{ask}
use Rattle.ideal_machine.specs.IntAccess.{access_at, check_access}
use Rattle.ideal_machine.specs.Words.{same_found}
use Rattle.ideal_machine.specs.Memory.{home_kind, malloc_kind}
use Rattle.ideal_machine.specs.Lifetimes.{home_or_trap, object_or_null, size_or_trap}
use Rattle.ideal_machine.specs.declared.value.Half.{Half}
use Rattle.ideal_machine.specs.declared.value.Half.TheVariants.{Nothing, Freed, Object as ObjectHalf, Function as FunctionHalf}
use Rattle.filc_num.specs.Integers.{bytes_of, convert_of}
use Rattle.filc_num.specs.declared.reason.Reason.TheVariants.{FunctionType}
use Rattle.whole_code.specs.Numbers.{type_at}
use Rattle.ideal_machine.specs.PointerAccess.{word_of, pair_of, pointer_found, replace_seen, read_pointer, check_store}
use Rattle.ideal_machine.specs.Threads.{lock_result, number_or, minus_one, thread_kind, if_kind, function_of_half}
use Rattle.ideal_machine.specs.declared.value.Value.{Value}
use Rattle.ideal_machine.specs.declared.finish.Finish.TheVariants.{Trapped}
use Rattle.filc_num.specs.declared.reason.Reason.{Reason}
use Rattle.whole_thread.specs.declared.stage.Halt.TheVariants as halt
use Rattle.ideal_machine.specs.Addresses.{look_at}
use Rattle.whole_thread.specs.declared.stage.Want.{Want}
use Rattle.whole_thread.specs.declared.stage.Want.TheVariants as want
use Rattle.whole_thread.specs.declared.stage.Stage.{Stage}
use Rattle.whole_thread.specs.declared.stage.Stage.TheVariants as stage
use Rattle.whole_thread.specs.Standing.{Caller, register, trap_line, onward}
use Rattle.whole_thread.specs.Act.{operation_at, sets, gives, does, sets_both, found_or_again, access_or, exchanges, kinds_of, returns, locks as lock_play}
use Rattle.whole_thread.specs.CodePlay.{exec}
use Rattle.whole_thread.specs.Thread.{Thread, place_address, spawn_by, spawn_of, return_of, at_stage, goes_on, gets, gets_result, want_at}
use Rattle.whole_thread.specs.Answers.{unless_refused as trap_or, granted_stage, checked, gets_size, gets_home, when_done, leaves_stage, gets_int, locks, looks, again, opened_pointer, gets_pointer, gets_both, compares, replaces, answer_at}
use Rattle.whole_thread.specs.PlaysOn.{by_place, stage_play, found_play, plays_on, AsksThen, Follows, LockRoundFollows, ExchangeRoundFollows}

-- ---- wants

abbrev event_or : Event → Want → Event
event_or other (want.Event event) = event
event_or other want.Instruction = other
event_or other want.Poll = other
event_or other want.Stopped = other

same_event : (a b : Event) → want.Event a ≡ want.Event b → a ≡ b
same_event a b same = ap (event_or a) same

abbrev NoEvent : Want → Type 0
NoEvent (want.Event event) = ⊥
NoEvent want.Instruction = Unit {0}
NoEvent want.Poll = Unit {0}
NoEvent want.Stopped = Unit {0}

no_event : {P : Type 0} (event : Event) → want.Instruction ≡ want.Event event → P
no_event event same = absurd (subst NoEvent same tt)

-- ---- one event

-- a query goes on as the thread does by each reply
asked :
    (query : Query) (next : Reply query → Phrase ℕ) (event : Event) (thread : Thread) (go : Reply query → Thread)
    (plays : Thread → Phrase ℕ) → want.Event (wish_of query) ≡ want.Event event →
    ((reply : Reply query) → next reply ≡ plays (go reply)) →
    AsksThen (Asks query next) event (λ answer. plays (by_reply (reply_to query answer) thread go))
asked query next event thread go plays wish goes = record {
  query = query;
  next = next;
  asks = refl;
  wish = same_event (wish_of query) event wish;
  goes = λ answer reply fits. goes reply ∙ sym (ap (λ (o : Option (Reply query)). plays (by_reply o thread go)) fits);
}

abbrev pub made : (line : ℕ) → (library : Bool) → Op → Instruction
made line library o = record { line = line; library = library; op = o }

-- at a stage within an instruction, which is no step
abbrev pub FollowsOp : Stage → Op → Type 0
FollowsOp s o =
    (code : PlainCode) (places : ℕ → ℕ) (start : Start) (m l : ℕ) (library : Bool) (thread step : Thread) →
    Follows code (by_place places start) m (made l library o) thread s (λ answer. answer_at thread (trap_line thread.at.frame (made l library o)) o s answer)
    step (want_at code thread o s)

-- ---- behind a granted check

exchange_goes :
    (d w p e n : ℕ) (access : Access) (code : PlainCode) (places : ℕ → ℕ) (start : Start) (m l : ℕ) (library : Bool) (thread : Thread) (found : Found) →
    bind (bind (pointer_found access found) (λ _ pointer.
    bind (look_at (register thread.at e)) (λ _ _.
    if pointer.number == (register thread.at e).number then replace_seen access found pointer (register thread.at n)
    else Gives tt (Some (record { found = pointer; is_made = false })))))
    (λ _ exchange. found_or_again (exec code (by_place places start) m) thread.at access exchange (sets_both (exec code (by_place places start) m) thread.at d w))
    ≡ found_play (exec code (by_place places start) m) thread.at (op.BoxCas d w p e n) access found
exchange_goes d w p e n access code places start m l library thread (FoundPlain half) = refl
exchange_goes d w p e n access code places start m l library thread (FoundPair pair) = refl

lock_goes :
    (p : ℕ) (access : Access) (code : PlainCode) (places : ℕ → ℕ) (start : Start) (m l : ℕ) (library : Bool) (thread : Thread) (reply : LockReply) →
    bind (lock_result (trap_line thread.at.frame (made l library (op.Lock p))) reply)
    (λ _ taken. found_or_again (exec code (by_place places start) m) thread.at access taken (λ _. exec code (by_place places start) m (onward thread.at)))
    ≡ plays_on code (by_place places start) m (made l library (op.Lock p)) (locks thread (trap_line thread.at.frame (made l library (op.Lock p))) access reply)
lock_goes p access code places start m l library thread Taken = refl
lock_goes p access code places start m l library thread (CheckedAgain None) = refl
lock_goes p access code places start m l library thread (CheckedAgain (Some reason)) = refl

pub granted_op : (access : Access) (o : Op) → FollowsOp (stage.Granted access) o
granted_op access (op.LoadInt d p t) code places start m l library thread step =
    asked (Makes (GetInt access)) _ _ thread (gets_int thread d t) (plays_on code (by_place places start) m (made l library (op.LoadInt d p t))) refl (λ n. refl)
granted_op access (op.StoreInt p a t) code places start m l library thread step =
    asked (Makes (SetInt access (register thread.at a).number)) _ _ thread (λ _. goes_on thread) (plays_on code (by_place places start) m (made l library (op.StoreInt p a t))) refl (λ n. refl)
granted_op access (op.RmwInt d p a o t u) code places start m l library thread step =
    asked (Makes (RmwInt access (operation_at o t u) (register thread.at a).number)) _ _ thread (gets_int thread d t) (plays_on code (by_place places start) m (made l library (op.RmwInt d p a o t u))) refl (λ n. refl)
granted_op access (op.CasInt d p e n t) code places start m l library thread step =
    asked (Makes (CasInt access (register thread.at e).number (register thread.at n).number)) _ _ thread (λ found. gets thread d (integer found)) (plays_on code (by_place places start) m (made l library (op.CasInt d p e n t))) refl (λ n. refl)
granted_op access (op.Lock p) code places start m l library thread step =
    asked (Locks (register thread.at p).half (register thread.at p).number access.object access.offset) _ _ thread (locks thread (trap_line thread.at.frame (made l library (op.Lock p))) access) (plays_on code (by_place places start) m (made l library (op.Lock p))) refl
    (lock_goes p access code places start m l library thread)
granted_op access (op.LoadPointer d p) code places start m l library thread step =
    asked (Makes (GetHalf access.object (word_of access))) _ _ thread (λ found. at_stage thread (stage.Found access found)) (plays_on code (by_place places start) m (made l library (op.LoadPointer d p))) refl (λ n. refl)
granted_op access (op.StorePointer p a) code places start m l library thread step =
    asked (Makes (SetInt access (register thread.at a).number)) _ _ thread (λ _. at_stage thread (stage.Stored access)) (plays_on code (by_place places start) m (made l library (op.StorePointer p a))) refl (λ n. refl)
granted_op access (op.BoxStore p a) code places start m l library thread step =
    asked (Makes (SetHalf access.object (word_of access) (pair_of (register thread.at a)))) _ _ thread (λ _. goes_on thread) (plays_on code (by_place places start) m (made l library (op.BoxStore p a))) refl (λ n. refl)
granted_op access (op.BoxSwap d p a) code places start m l library thread step =
    asked (Makes (CasHalf access.object (word_of access) Any (pair_of (register thread.at a)))) _ _ thread (λ found. at_stage thread (stage.Found access found)) (plays_on code (by_place places start) m (made l library (op.BoxSwap d p a))) refl (λ n. refl)
granted_op access (op.BoxCas d w p e n) code places start m l library thread step =
    asked (Makes (GetHalf access.object (word_of access))) _ _ thread (λ found. at_stage thread (stage.Found access found)) (plays_on code (by_place places start) m (made l library (op.BoxCas d w p e n))) refl
    (exchange_goes d w p e n access code places start m l library thread)
granted_op access o code places start m l library thread step = refl

-- ---- behind a store of an integer

pub stored_op : (access : Access) (o : Op) → FollowsOp (stage.Stored access) o
stored_op access (op.StorePointer p a) code places start m l library thread step =
    asked (Makes (SetHalf access.object (word_of access) (KeptPlain (register thread.at a).half))) _ _ thread (λ _. goes_on thread) (plays_on code (by_place places start) m (made l library (op.StorePointer p a))) refl (λ n. refl)
stored_op access o code places start m l library thread step = refl

-- ---- the second of two pointers

looked_at :
    (d a b o : ℕ) (code : PlainCode) (places : ℕ → ℕ) (start : Start) (m l : ℕ) (library : Bool) (thread : Thread) (result : Result ℕ ArithFault) →
    bind (arithmetic_result result (trap_line thread.at.frame (made l library (op.PointerCompare d a b o)))) (λ _ v. sets (exec code (by_place places start) m) thread.at d v)
    ≡ plays_on code (by_place places start) m (made l library (op.PointerCompare d a b o)) (gets_result thread (trap_line thread.at.frame (made l library (op.PointerCompare d a b o))) d result)
looked_at d a b o code places start m l library thread (Ok n) = refl
looked_at d a b o code places start m l library thread (Err fault) = refl

pub second_op : (o : Op) → FollowsOp stage.NamedFirst o
second_op (op.PointerSub d a b bytes) code places start m l library thread step =
    asked (Makes (Name (register thread.at b).half (register thread.at b).number)) _ _ thread (λ _. looks thread (trap_line thread.at.frame (made l library (op.PointerSub d a b bytes))) (op.PointerSub d a b bytes)) (plays_on code (by_place places start) m (made l library (op.PointerSub d a b bytes))) refl (λ n. refl)
second_op (op.PointerCompare d a b o) code places start m l library thread step =
    asked (Makes (Name (register thread.at b).half (register thread.at b).number)) _ _ thread (λ _. looks thread (trap_line thread.at.frame (made l library (op.PointerCompare d a b o))) (op.PointerCompare d a b o)) (plays_on code (by_place places start) m (made l library (op.PointerCompare d a b o))) refl
    (λ n. looked_at d a b o code places start m l library thread _)
second_op o code places start m l library thread step = refl

-- ---- behind a half that was found

pub found_op : (access : Access) (found : Found) (o : Op) → FollowsOp (stage.Found access found) o
found_op access (FoundPlain half) (op.LoadPointer d p) code places start m l library thread step =
    asked (Makes (GetInt access)) _ _ thread (λ n. gets_pointer thread (op.LoadPointer d p) access (FoundPlain half) (record { number = n; half = half })) (plays_on code (by_place places start) m (made l library (op.LoadPointer d p))) refl (λ n. refl)
found_op access (FoundPair pair) (op.LoadPointer d p) code places start m l library thread step =
    asked (Makes (Open pair)) _ _ thread (λ opened. gets_pointer thread (op.LoadPointer d p) access (FoundPair pair) (opened_pointer opened)) (plays_on code (by_place places start) m (made l library (op.LoadPointer d p))) refl (λ n. refl)
found_op access (FoundPlain half) (op.BoxSwap d p a) code places start m l library thread step =
    asked (Makes (GetInt access)) _ _ thread (λ n. gets_pointer thread (op.BoxSwap d p a) access (FoundPlain half) (record { number = n; half = half })) (plays_on code (by_place places start) m (made l library (op.BoxSwap d p a))) refl (λ n. refl)
found_op access (FoundPair pair) (op.BoxSwap d p a) code places start m l library thread step =
    asked (Makes (Open pair)) _ _ thread (λ opened. gets_pointer thread (op.BoxSwap d p a) access (FoundPair pair) (opened_pointer opened)) (plays_on code (by_place places start) m (made l library (op.BoxSwap d p a))) refl (λ n. refl)
found_op access (FoundPlain half) (op.BoxCas d w p e n) code places start m l library thread step =
    asked (Makes (GetInt access)) _ _ thread (λ n. gets_pointer thread (op.BoxCas d w p e n) access (FoundPlain half) (record { number = n; half = half })) (plays_on code (by_place places start) m (made l library (op.BoxCas d w p e n))) refl (λ n. refl)
found_op access (FoundPair pair) (op.BoxCas d w p e n) code places start m l library thread step =
    asked (Makes (Open pair)) _ _ thread (λ opened. gets_pointer thread (op.BoxCas d w p e n) access (FoundPair pair) (opened_pointer opened)) (plays_on code (by_place places start) m (made l library (op.BoxCas d w p e n))) refl (λ n. refl)
found_op access found o code places start m l library thread step = refl

-- ---- behind the pointer that was found

read_goes :
    (d w p e n : ℕ) (access : Access) (found : Found) (pointer : Value) (code : PlainCode) (places : ℕ → ℕ) (start : Start) (m l : ℕ) (library : Bool) (thread : Thread) (same : Bool) →
    bind (if same then replace_seen access found pointer (register thread.at n) else Gives tt (Some (record { found = pointer; is_made = false })))
    (λ _ exchange. found_or_again (exec code (by_place places start) m) thread.at access exchange (sets_both (exec code (by_place places start) m) thread.at d w))
    ≡ plays_on code (by_place places start) m (made l library (op.BoxCas d w p e n))
    (if same then at_stage thread (stage.Matches access found pointer) else gets_both thread d w pointer false)
read_goes d w p e n access found pointer code places start m l library thread true = refl
read_goes d w p e n access found pointer code places start m l library thread false = refl

pub read_op : (access : Access) (found : Found) (pointer : Value) (o : Op) → FollowsOp (stage.Read access found pointer) o
read_op access found pointer (op.BoxCas d w p e n) code places start m l library thread step =
    asked (Makes (Name (register thread.at e).half (register thread.at e).number)) _ _ thread (λ _. compares thread (op.BoxCas d w p e n) access found pointer) (plays_on code (by_place places start) m (made l library (op.BoxCas d w p e n))) refl
    (λ _. read_goes d w p e n access found pointer code places start m l library thread (pointer.number == (register thread.at e).number))
read_op access found pointer o code places start m l library thread step = refl

-- ---- behind an address that is the expected one

replace_goes :
    (d w p e n : ℕ) (access : Access) (found : Found) (pointer : Value) (code : PlainCode) (places : ℕ → ℕ) (start : Start) (m l : ℕ) (library : Bool) (thread : Thread) (same : Bool) →
    found_or_again (exec code (by_place places start) m) thread.at access (if same then Some (record { found = pointer; is_made = true }) else None) (sets_both (exec code (by_place places start) m) thread.at d w)
    ≡ plays_on code (by_place places start) m (made l library (op.BoxCas d w p e n)) (if same then gets_both thread d w pointer true else again thread access)
replace_goes d w p e n access found pointer code places start m l library thread true = refl
replace_goes d w p e n access found pointer code places start m l library thread false = refl

pub match_op : (access : Access) (found : Found) (pointer : Value) (o : Op) → FollowsOp (stage.Matches access found pointer) o
match_op access found pointer (op.BoxCas d w p e n) code places start m l library thread step =
    asked (Makes (CasHalf access.object (word_of access) (SeenFound found) (pair_of (register thread.at n)))) _ _ thread (replaces thread (op.BoxCas d w p e n) access found pointer) (plays_on code (by_place places start) m (made l library (op.BoxCas d w p e n))) refl
    (λ there. replace_goes d w p e n access found pointer code places start m l library thread (same_found there found))
match_op access found pointer o code places start m l library thread step = refl

-- ---- at a trap

pub trap_op : (reason : Reason) (line : ℕ) (o : Op) → FollowsOp (stage.Traps reason line) o
trap_op reason line o code places start m l library thread step =
    asked (Makes (Trap reason line)) _ _ thread (λ _. at_stage thread (stage.Over (halt.Finished (Trapped reason line)))) (plays_on code (by_place places start) m (made l library o)) refl (λ _. refl)

-- ---- before an instruction: its check

granted_goes :
    (half : Half) (address width : ℕ) (around : Phrase Access → Phrase ℕ) (plays : Thread → Phrase ℕ) (thread : Thread) →
    ((access : Access) → around (Gives tt access) ≡ plays (at_stage thread (stage.Granted access))) →
    around (Stops Waits) ≡ plays (at_stage thread stage.Waits) →
    around (access_at place_address half address width) ≡ plays (at_stage thread (granted_stage half address width))
granted_goes (ObjectHalf n) address width around plays thread on waits =
    on (record { object = n; offset = address - place_address n; width = width })
granted_goes Nothing address width around plays thread on waits = waits
granted_goes Freed address width around plays thread on waits = waits
granted_goes (FunctionHalf f) address width around plays thread on waits = waits

checked_goes :
    (p : Value) (line width : ℕ) (around : Phrase Access → Phrase ℕ) (plays : Thread → Phrase ℕ) (thread : Thread) →
    ((access : Access) → around (Gives tt access) ≡ plays (at_stage thread (stage.Granted access))) →
    around (Stops Waits) ≡ plays (at_stage thread stage.Waits) →
    ((reason : Reason) → around (trap reason line) ≡ plays (at_stage thread (stage.Traps reason line))) → (refusal : Option Reason) →
    around (unless_refused line (access_at place_address p.half p.number width) refusal) ≡ plays (checked thread line p width refusal)
checked_goes p line width around plays thread on waits traps None = granted_goes p.half p.number width around plays thread on waits
checked_goes p line width around plays thread on waits traps (Some reason) = traps reason

-- ---- before an instruction: an event that may be refused

abbrev nothing : Phrase (Unit {0})
nothing = Gives tt tt

done_goes :
    (o : Op) (code : PlainCode) (places : ℕ → ℕ) (start : Start) (m l : ℕ) (library : Bool) (thread : Thread) (line : ℕ) (refusal : Option Reason) →
    bind (unless_refused line nothing refusal) (λ _ _. (exec code (by_place places start) m) (onward thread.at))
    ≡ plays_on code (by_place places start) m (made l library o) (trap_or thread line (goes_on thread) refusal)
done_goes o code places start m l library thread line None = refl
done_goes o code places start m l library thread line (Some reason) = refl

home_goes :
    (o : Op) (d : ℕ) (code : PlainCode) (places : ℕ → ℕ) (start : Start) (m l : ℕ) (library : Bool) (thread : Thread) (line : ℕ) (new : Option NewObject) →
    bind (home_or_trap line new) (λ _ v. sets (exec code (by_place places start) m) thread.at d v) ≡ plays_on code (by_place places start) m (made l library o) (gets_home thread line d new)
home_goes o d code places start m l library thread line None = refl
home_goes o d code places start m l library thread line (Some object) = refl

size_goes :
    (o : Op) (d : ℕ) (code : PlainCode) (places : ℕ → ℕ) (start : Start) (m l : ℕ) (library : Bool) (thread : Thread) (line : ℕ) (size : Result ℕ Reason) →
    bind (size_or_trap line size) (λ _ v. sets (exec code (by_place places start) m) thread.at d v) ≡ plays_on code (by_place places start) m (made l library o) (gets_size thread line d size)
size_goes o d code places start m l library thread line (Ok bytes) = refl
size_goes o d code places start m l library thread line (Err reason) = refl

free_asks :
    (o : Op) (code : PlainCode) (places : ℕ → ℕ) (start : Start) (m l : ℕ) (library : Bool) (thread : Thread) (line : ℕ) (event : Event) (half : Half) (n : ℕ) →
    if_zero n want.Instruction (want.Event (Void half n)) ≡ want.Event event →
    AsksThen (does (exec code (by_place places start) m) thread.at (if_zero n nothing (Asks (Makes (Void half n)) (unless_refused line nothing)))) event
    (λ answer. plays_on code (by_place places start) m (made l library o) (by_reply (plain_check_reply answer) thread (trap_or thread line (goes_on thread))))
free_asks o code places start m l library thread line event half zero wish = no_event event wish
free_asks o code places start m l library thread line event half (suc n) wish =
    asked (Makes (Void half (suc n))) _ event thread (trap_or thread line (goes_on thread)) (plays_on code (by_place places start) m (made l library o)) wish (done_goes o code places start m l library thread line)

-- ---- before a spawn: its function is one of its kind

abbrev function_if : Bool → (function line : ℕ) → Phrase ℕ
function_if is_kind f line = if is_kind then Gives tt f else trap FunctionType line

spawn_kind :
    (o : Op) (d f : ℕ) (argument : Value) (code : PlainCode) (places : ℕ → ℕ) (start : Start) (m l : ℕ) (library : Bool) (thread : Thread) (line : ℕ) (event : Event) (is_kind : Bool) →
    (if is_kind then want.Event (Spawn f argument.number argument.half) else want.Instruction) ≡ want.Event event →
    AsksThen (gives (exec code (by_place places start) m) thread.at d (bind (function_if is_kind f line) (λ _ f.
    bind (ask (Spawn f argument.number argument.half)) (λ _ id. Gives tt (number_or minus_one id))))) event
    (λ answer. plays_on code (by_place places start) m (made l library o) (by_reply (id_reply answer) thread (λ id. gets thread d (number_or minus_one id))))
spawn_kind o d f argument code places start m l library thread line event true wish =
    asked (Makes (Spawn f argument.number argument.half)) _ event thread (λ id. gets thread d (number_or minus_one id)) (plays_on code (by_place places start) m (made l library o)) wish (λ _. refl)
spawn_kind o d f argument code places start m l library thread line event false wish = no_event event wish

spawn_option :
    (o : Op) (d f : ℕ) (argument : Value) (code : PlainCode) (places : ℕ → ℕ) (start : Start) (m l : ℕ) (library : Bool) (thread : Thread) (line : ℕ) (event : Event) (kind : Option ℕ) →
    spawn_by kind f argument ≡ want.Event event →
    AsksThen (gives (exec code (by_place places start) m) thread.at d (bind (if_kind thread_kind f line kind) (λ _ f.
    bind (ask (Spawn f argument.number argument.half)) (λ _ id. Gives tt (number_or minus_one id))))) event
    (λ answer. plays_on code (by_place places start) m (made l library o) (by_reply (id_reply answer) thread (λ id. gets thread d (number_or minus_one id))))
spawn_option o d f argument code places start m l library thread line event None wish = no_event event wish
spawn_option o d f argument code places start m l library thread line event (Some kind) wish =
    spawn_kind o d f argument code places start m l library thread line event (kind == thread_kind) wish

spawn_asks :
    (o : Op) (d : ℕ) (argument : Value) (code : PlainCode) (places : ℕ → ℕ) (start : Start) (m l : ℕ) (library : Bool) (thread : Thread) (line : ℕ) (event : Event) (half : Half) →
    spawn_of (kinds_of code) half argument ≡ want.Event event →
    AsksThen (gives (exec code (by_place places start) m) thread.at d (bind (function_of_half (kinds_of code) thread_kind line half) (λ _ f.
    bind (ask (Spawn f argument.number argument.half)) (λ _ id. Gives tt (number_or minus_one id))))) event
    (λ answer. plays_on code (by_place places start) m (made l library o) (by_reply (id_reply answer) thread (λ id. gets thread d (number_or minus_one id))))
spawn_asks o d argument code places start m l library thread line event (FunctionHalf f) wish =
    spawn_option o d f argument code places start m l library thread line event (slice_get (kinds_of code) f) wish
spawn_asks o d argument code places start m l library thread line event Nothing wish = no_event event wish
spawn_asks o d argument code places start m l library thread line event Freed wish = no_event event wish
spawn_asks o d argument code places start m l library thread line event (ObjectHalf n) wish = no_event event wish

-- ---- before a return

return_asks :
    (o : Op) (v : Value) (code : PlainCode) (places : ℕ → ℕ) (start : Start) (m l : ℕ) (library : Bool) (thread : Thread) (event : Event) (main : Bool) (callers : List Caller) →
    return_of main callers v ≡ want.Event event →
    AsksThen (returns main (exec code (by_place places start) m) callers v) event
    (λ answer. plays_on code (by_place places start) m (made l library o) (when_done thread (at_stage thread (leaves_stage main v)) answer))
return_asks o v code places start m l library thread event true [] wish =
    asked (Makes (Exit (v.number % 256))) _ event thread (λ _. at_stage thread (leaves_stage true v)) (plays_on code (by_place places start) m (made l library o)) wish (λ _. refl)
return_asks o v code places start m l library thread event false [] wish =
    asked (Makes (End v.number)) _ event thread (λ _. at_stage thread (leaves_stage false v)) (plays_on code (by_place places start) m (made l library o)) wish (λ _. refl)
return_asks o v code places start m l library thread event main (caller ∷ callers) wish = no_event event wish

-- ---- before an instruction

abbrev pub FollowsBefore : Op → Type 0
FollowsBefore o =
    (code : PlainCode) (places : ℕ → ℕ) (start : Start) (m l : ℕ) (library : Bool) (thread : Thread) (event : Event) →
    thread.at.granted ≡ None → thread.main ≡ (start.function == code.main) → want_at code thread o stage.Before ≡ want.Event event →
    AsksThen (stage_play code (by_place places start) (exec code (by_place places start) m) thread.at (trap_line thread.at.frame (made l library o)) o stage.Before) event
    (λ answer. plays_on code (by_place places start) m (made l library o) (answer_at thread (trap_line thread.at.frame (made l library o)) o stage.Before answer))

pub before_op : (o : Op) → FollowsBefore o
before_op (op.PointerSub d a b bytes) code places start m l library thread event none main wish =
    asked (Makes (Name (register thread.at a).half (register thread.at a).number)) _ event thread (λ _. at_stage thread stage.NamedFirst) (plays_on code (by_place places start) m (made l library (op.PointerSub d a b bytes))) wish (λ _. refl)
before_op (op.PointerCompare d a b o) code places start m l library thread event none main wish =
    asked (Makes (Name (register thread.at a).half (register thread.at a).number)) _ event thread (λ _. at_stage thread stage.NamedFirst) (plays_on code (by_place places start) m (made l library (op.PointerCompare d a b o))) wish (λ _. refl)
before_op (op.ToInteger d a t) code places start m l library thread event none main wish =
    asked (Makes (Name (register thread.at a).half (register thread.at a).number)) _ event thread (λ _. gets_int thread d t (register thread.at a).number) (plays_on code (by_place places start) m (made l library (op.ToInteger d a t))) wish (λ _. refl)
before_op (op.Home d bytes) code places start m l library thread event none main wish =
    asked (Makes (New bytes home_kind)) _ event thread (gets_home thread (trap_line thread.at.frame (made l library (op.Home d bytes))) d) (plays_on code (by_place places start) m (made l library (op.Home d bytes))) wish (home_goes (op.Home d bytes) d code places start m l library thread (trap_line thread.at.frame (made l library (op.Home d bytes))))
before_op (op.New d a) code places start m l library thread event none main wish =
    asked (Makes (New (register thread.at a).number malloc_kind)) _ event thread (λ new. gets thread d (object_or_null new)) (plays_on code (by_place places start) m (made l library (op.New d a))) wish (λ _. refl)
before_op (op.Free a) code places start m l library thread event none main wish = free_asks (op.Free a) code places start m l library thread (trap_line thread.at.frame (made l library (op.Free a))) event (register thread.at a).half (register thread.at a).number wish
before_op (op.Size d a) code places start m l library thread event none main wish =
    asked (Makes (Size (register thread.at a).half (register thread.at a).number)) _ event thread (gets_size thread (trap_line thread.at.frame (made l library (op.Size d a))) d) (plays_on code (by_place places start) m (made l library (op.Size d a))) wish (size_goes (op.Size d a) d code places start m l library thread (trap_line thread.at.frame (made l library (op.Size d a))))
before_op (op.LoadInt d p t) code places start m l library thread event none main wish =
    asked (Makes (Check (register thread.at p).half (register thread.at p).number (bytes_of (type_at t)) false)) _ event thread (checked thread (trap_line thread.at.frame (made l library (op.LoadInt d p t))) (register thread.at p) (bytes_of (type_at t))) (plays_on code (by_place places start) m (made l library (op.LoadInt d p t))) wish
    (checked_goes (register thread.at p) (trap_line thread.at.frame (made l library (op.LoadInt d p t))) (bytes_of (type_at t)) (λ (phrase : Phrase Access). gives (exec code (by_place places start) m) thread.at d (bind phrase (λ _ access. bind (ask (GetInt access)) (λ _ n. Gives tt (integer (convert_of n (type_at t))))))) (plays_on code (by_place places start) m (made l library (op.LoadInt d p t))) thread (λ access. refl) refl (λ reason. refl))
before_op (op.StoreInt p a t) code places start m l library thread event none main wish =
    asked (Makes (Check (register thread.at p).half (register thread.at p).number (bytes_of (type_at t)) true)) _ event thread (checked thread (trap_line thread.at.frame (made l library (op.StoreInt p a t))) (register thread.at p) (bytes_of (type_at t))) (plays_on code (by_place places start) m (made l library (op.StoreInt p a t))) wish
    (checked_goes (register thread.at p) (trap_line thread.at.frame (made l library (op.StoreInt p a t))) (bytes_of (type_at t)) (λ (phrase : Phrase Access). does (exec code (by_place places start) m) thread.at (bind phrase (λ _ access. ask (SetInt access (register thread.at a).number)))) (plays_on code (by_place places start) m (made l library (op.StoreInt p a t))) thread (λ access. refl) refl (λ reason. refl))
before_op (op.RmwInt d p a o t u) code places start m l library thread event none main wish =
    asked (Makes (Check (register thread.at p).half (register thread.at p).number (bytes_of (type_at t)) true)) _ event thread (checked thread (trap_line thread.at.frame (made l library (op.RmwInt d p a o t u))) (register thread.at p) (bytes_of (type_at t))) (plays_on code (by_place places start) m (made l library (op.RmwInt d p a o t u))) wish
    (checked_goes (register thread.at p) (trap_line thread.at.frame (made l library (op.RmwInt d p a o t u))) (bytes_of (type_at t)) (λ (phrase : Phrase Access). gives (exec code (by_place places start) m) thread.at d (bind phrase (λ _ access. bind (ask (RmwInt access (operation_at o t u) (register thread.at a).number)) (λ _ n. Gives tt (integer (convert_of n (type_at t))))))) (plays_on code (by_place places start) m (made l library (op.RmwInt d p a o t u))) thread (λ access. refl) refl (λ reason. refl))
before_op (op.CasInt d p e n t) code places start m l library thread event none main wish =
    asked (Makes (Check (register thread.at p).half (register thread.at p).number (bytes_of (type_at t)) true)) _ event thread (checked thread (trap_line thread.at.frame (made l library (op.CasInt d p e n t))) (register thread.at p) (bytes_of (type_at t))) (plays_on code (by_place places start) m (made l library (op.CasInt d p e n t))) wish
    (checked_goes (register thread.at p) (trap_line thread.at.frame (made l library (op.CasInt d p e n t))) (bytes_of (type_at t)) (λ (phrase : Phrase Access). bind (bind phrase (λ _ access. ask (CasInt access (register thread.at e).number (register thread.at n).number))) (λ _ found. sets (exec code (by_place places start) m) thread.at d (integer found))) (plays_on code (by_place places start) m (made l library (op.CasInt d p e n t))) thread (λ access. refl) refl (λ reason. refl))
before_op (op.Lock p) code places start m l library thread event none main wish =
    subst (λ (g : Option Access). AsksThen (bind (access_or g (check_access place_address (register thread.at p) 4 true (trap_line thread.at.frame (made l library (op.Lock p))))) (λ _ access. lock_play (exec code (by_place places start) m) thread.at (register thread.at p) (trap_line thread.at.frame (made l library (op.Lock p))) access)) event (λ answer. (plays_on code (by_place places start) m (made l library (op.Lock p))) (answer_at thread (trap_line thread.at.frame (made l library (op.Lock p))) (op.Lock p) stage.Before answer))) (sym none)
    (asked (Makes (Check (register thread.at p).half (register thread.at p).number 4 true)) _ event thread (checked thread (trap_line thread.at.frame (made l library (op.Lock p))) (register thread.at p) 4) (plays_on code (by_place places start) m (made l library (op.Lock p))) wish
    (checked_goes (register thread.at p) (trap_line thread.at.frame (made l library (op.Lock p))) 4 (λ (phrase : Phrase Access). bind phrase (λ _ access. lock_play (exec code (by_place places start) m) thread.at (register thread.at p) (trap_line thread.at.frame (made l library (op.Lock p))) access)) (plays_on code (by_place places start) m (made l library (op.Lock p))) thread (λ access. refl) refl (λ reason. refl)))
before_op (op.LoadPointer d p) code places start m l library thread event none main wish =
    asked (Makes (Check (register thread.at p).half (register thread.at p).number 8 false)) _ event thread (checked thread (trap_line thread.at.frame (made l library (op.LoadPointer d p))) (register thread.at p) 8) (plays_on code (by_place places start) m (made l library (op.LoadPointer d p))) wish
    (checked_goes (register thread.at p) (trap_line thread.at.frame (made l library (op.LoadPointer d p))) 8 (λ (phrase : Phrase Access). gives (exec code (by_place places start) m) thread.at d (bind phrase (λ _ access. read_pointer access))) (plays_on code (by_place places start) m (made l library (op.LoadPointer d p))) thread (λ access. refl) refl (λ reason. refl))
before_op (op.StorePointer p a) code places start m l library thread event none main wish =
    asked (ChecksForCell (register thread.at p).half (register thread.at p).number) _ event thread (checked thread (trap_line thread.at.frame (made l library (op.StorePointer p a))) (register thread.at p) 8) (plays_on code (by_place places start) m (made l library (op.StorePointer p a))) wish
    (checked_goes (register thread.at p) (trap_line thread.at.frame (made l library (op.StorePointer p a))) 8 (λ (phrase : Phrase Access). does (exec code (by_place places start) m) thread.at (bind phrase (λ _ access. bind (ask (SetInt access (register thread.at a).number)) (λ _ _. ask (SetHalf access.object (word_of access) (KeptPlain (register thread.at a).half)))))) (plays_on code (by_place places start) m (made l library (op.StorePointer p a))) thread (λ access. refl) refl (λ reason. refl))
before_op (op.BoxStore p a) code places start m l library thread event none main wish =
    asked (ChecksForCell (register thread.at p).half (register thread.at p).number) _ event thread (checked thread (trap_line thread.at.frame (made l library (op.BoxStore p a))) (register thread.at p) 8) (plays_on code (by_place places start) m (made l library (op.BoxStore p a))) wish
    (checked_goes (register thread.at p) (trap_line thread.at.frame (made l library (op.BoxStore p a))) 8 (λ (phrase : Phrase Access). does (exec code (by_place places start) m) thread.at (bind phrase (λ _ access. ask (SetHalf access.object (word_of access) (pair_of (register thread.at a)))))) (plays_on code (by_place places start) m (made l library (op.BoxStore p a))) thread (λ access. refl) refl (λ reason. refl))
before_op (op.BoxSwap d p a) code places start m l library thread event none main wish =
    asked (ChecksForCell (register thread.at p).half (register thread.at p).number) _ event thread (checked thread (trap_line thread.at.frame (made l library (op.BoxSwap d p a))) (register thread.at p) 8) (plays_on code (by_place places start) m (made l library (op.BoxSwap d p a))) wish
    (checked_goes (register thread.at p) (trap_line thread.at.frame (made l library (op.BoxSwap d p a))) 8 (λ (phrase : Phrase Access). gives (exec code (by_place places start) m) thread.at d (bind phrase (λ _ access. bind (ask (CasHalf access.object (word_of access) Any (pair_of (register thread.at a)))) (λ _ found. pointer_found access found)))) (plays_on code (by_place places start) m (made l library (op.BoxSwap d p a))) thread (λ access. refl) refl (λ reason. refl))
before_op (op.BoxCas d w p e n) code places start m l library thread event none main wish =
    subst (λ (g : Option Access). AsksThen (bind (access_or g (check_store place_address (register thread.at p) (trap_line thread.at.frame (made l library (op.BoxCas d w p e n))))) (λ _ access. exchanges (exec code (by_place places start) m) thread.at d w (register thread.at e) (register thread.at n) access)) event (λ answer. (plays_on code (by_place places start) m (made l library (op.BoxCas d w p e n))) (answer_at thread (trap_line thread.at.frame (made l library (op.BoxCas d w p e n))) (op.BoxCas d w p e n) stage.Before answer))) (sym none)
    (asked (ChecksForCell (register thread.at p).half (register thread.at p).number) _ event thread (checked thread (trap_line thread.at.frame (made l library (op.BoxCas d w p e n))) (register thread.at p) 8) (plays_on code (by_place places start) m (made l library (op.BoxCas d w p e n))) wish
    (checked_goes (register thread.at p) (trap_line thread.at.frame (made l library (op.BoxCas d w p e n))) 8 (λ (phrase : Phrase Access). bind phrase (λ _ access. exchanges (exec code (by_place places start) m) thread.at d w (register thread.at e) (register thread.at n) access)) (plays_on code (by_place places start) m (made l library (op.BoxCas d w p e n))) thread (λ access. refl) refl (λ reason. refl)))
before_op (op.Return a) code places start m l library thread event none main wish =
    subst (λ (b : Bool). AsksThen (returns b (exec code (by_place places start) m) thread.at.callers (register thread.at a)) event (λ answer. (plays_on code (by_place places start) m (made l library (op.Return a))) (answer_at thread (trap_line thread.at.frame (made l library (op.Return a))) (op.Return a) stage.Before answer))) main
    (return_asks (op.Return a) (register thread.at a) code places start m l library thread event thread.main thread.at.callers wish)
before_op (op.Out a) code places start m l library thread event none main wish =
    asked (Makes (Out ((register thread.at a).number % 256))) _ event thread (trap_or thread (trap_line thread.at.frame (made l library (op.Out a))) (goes_on thread)) (plays_on code (by_place places start) m (made l library (op.Out a))) wish (done_goes (op.Out a) code places start m l library thread (trap_line thread.at.frame (made l library (op.Out a))))
before_op (op.Input d) code places start m l library thread event none main wish =
    asked (Makes Input) _ event thread (λ byte. gets thread d (number_or minus_one byte)) (plays_on code (by_place places start) m (made l library (op.Input d))) wish (λ _. refl)
before_op (op.Spawn d a b) code places start m l library thread event none main wish = spawn_asks (op.Spawn d a b) d (register thread.at b) code places start m l library thread (trap_line thread.at.frame (made l library (op.Spawn d a b))) event (register thread.at a).half wish
before_op (op.Join d a) code places start m l library thread event none main wish =
    asked (Makes (Join (register thread.at a).number)) _ event thread (λ result. gets thread d (number_or 4294967296 result)) (plays_on code (by_place places start) m (made l library (op.Join d a))) wish (λ _. refl)
before_op (op.Exit a) code places start m l library thread event none main wish =
    asked (Makes (Exit ((register thread.at a).number % 256))) _ event thread (λ _. at_stage thread (leaves_stage true (register thread.at a))) (plays_on code (by_place places start) m (made l library (op.Exit a))) wish (λ _. refl)
before_op op.Poll code places start m l library thread event none main wish = absurd (subst NoEvent wish tt)
before_op o code places start m l library thread event none main wish = no_event event wish

-- ---- one more round

pub lock_round_follows : LockRoundFollows
lock_round_follows code places start next at line p access is =
    ap (λ (g : Option Access). bind (access_or g (check_access (by_place places start).base (register at p) 4 true line)) (λ _ access. lock_play next at (register at p) line access)) is

pub exchange_round_follows : ExchangeRoundFollows
exchange_round_follows code places start next at line d w p e n access is =
    ap (λ (g : Option Access). bind (access_or g (check_store (by_place places start).base (register at p) line)) (λ _ access. exchanges next at d w (register at e) (register at n) access)) is
