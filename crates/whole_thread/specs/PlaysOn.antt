-- What a thread's state means: the play of what is left of its instruction, and of the code behind it.
use Rattle.std.specs.Prelude.{◌≡◌, ℕ, suc, ◌==◌, nat_lt, List, slice_get, false, Option, Some, None, IsSomeAnd, if◌then◌else◌}
use Rattle.filc_num.specs.Integers.{convert_of}
use Rattle.filc_num.specs.declared.integer.IntType.TheVariants.{U64}
use Rattle.whole_code.specs.declared.op.Op.{Op}
use Rattle.whole_code.specs.declared.op.Op.TheVariants as op
use Rattle.whole_code.specs.declared.op.Instruction.{Instruction}
use Rattle.whole_code.specs.Plain.{PlainFunction, PlainCode}
use Rattle.whole_code.specs.Numbers.{operator_at, type_at}
use Rattle.ideal_machine.specs.declared.value.Kept.TheVariants.{Plain as KeptPlain}
use Rattle.ideal_machine.specs.declared.value.Found.{Found}
use Rattle.ideal_machine.specs.declared.value.Half.{Half}
use Rattle.ideal_machine.specs.declared.value.Half.TheVariants.{Function as FunctionHalf}
use Rattle.ideal_machine.specs.declared.value.Value.{Value}
use Rattle.ideal_machine.specs.declared.event.Access.{Access}
use Rattle.ideal_machine.specs.declared.event.Seen.TheVariants.{Any}
use Rattle.ideal_machine.specs.declared.event.Event.{Event}
use Rattle.ideal_machine.specs.declared.event.Event.TheVariants.{GetInt, SetInt, RmwInt, CasInt, GetHalf, SetHalf, CasHalf}
use Rattle.ideal_machine.specs.declared.event.Answer.{Answer}
use Rattle.ideal_machine.specs.Values.{integer}
use Rattle.ideal_machine.specs.Queries.{Query, Reply, reply_to, wish_of}
use Rattle.ideal_machine.specs.Play.{Gives, Stops, Asks, Jump, Call, Waits, Finished as FinishedStop, bind}
use Rattle.ideal_machine.specs.Phrases.{Start, Phrase, arithmetic, trap, if_zero}
use Rattle.ideal_machine.specs.Retries.{ask}
use Rattle.ideal_machine.specs.Addresses.{look_at, elements_between}
use Rattle.ideal_machine.specs.PointerAccess.{word_of, pair_of, pointer_found, replace_seen}
use Rattle.whole_thread.specs.declared.stage.Halt.{Halt}
use Rattle.whole_thread.specs.declared.stage.Halt.TheVariants as halt
use Rattle.whole_thread.specs.declared.stage.Stage.{Stage}
use Rattle.whole_thread.specs.declared.stage.Stage.TheVariants as stage
use Rattle.whole_thread.specs.declared.stage.Want.{Want}
use Rattle.whole_thread.specs.declared.stage.Want.TheVariants as want
use Rattle.whole_thread.specs.Standing.{Standing, trap_line, register}
use Rattle.whole_thread.specs.Act.{CodeStart, Next, sets, gives, does, found_or_again, locks, sets_both, exchanges, operation_at, kinds_of, act}
use Rattle.whole_thread.specs.CodePlay.{exec, beginning, code_play}
use Rattle.whole_thread.specs.Thread.{Thread, place_address, stage_of, here, want_of, thread_after_step, thread_after_poll, thread_after_begin}
use Rattle.whole_thread.specs.Answers.{thread_after_answer}

-- ---- what is left of an instruction

-- behind a granted check
abbrev pub granted_play : Next → Standing → (line : ℕ) → Op → Access → Phrase ℕ
granted_play next at line (op.LoadInt d p t) access =
    gives next at d (bind (ask (GetInt access)) (λ _ n. Gives tt (integer (convert_of n (type_at t)))))
granted_play next at line (op.StoreInt p a t) access = does next at (ask (SetInt access (register at a).number))
granted_play next at line (op.RmwInt d p a o t u) access =
    gives next at d (bind (ask (RmwInt access (operation_at o t u) (register at a).number)) (λ _ n. Gives tt (integer (convert_of n (type_at t)))))
granted_play next at line (op.CasInt d p e n t) access =
    bind (ask (CasInt access (register at e).number (register at n).number)) (λ _ found. sets next at d (integer found))
granted_play next at line (op.Lock p) access = locks next at (register at p) line access
granted_play next at line (op.LoadPointer d p) access =
    gives next at d (bind (ask (GetHalf access.object (word_of access))) (λ _ found. pointer_found access found))
granted_play next at line (op.StorePointer p a) access =
    does next at (bind (ask (SetInt access (register at a).number)) (λ _ _. ask (SetHalf access.object (word_of access) (KeptPlain (register at a).half))))
granted_play next at line (op.BoxStore p a) access = does next at (ask (SetHalf access.object (word_of access) (pair_of (register at a))))
granted_play next at line (op.BoxSwap d p a) access =
    gives next at d (bind (ask (CasHalf access.object (word_of access) Any (pair_of (register at a)))) (λ _ found. pointer_found access found))
granted_play next at line (op.BoxCas d w p e n) access = exchanges next at d w (register at e) (register at n) access
granted_play next at line op access = Stops Waits

-- the integer of a pointer is stored
abbrev pub stored_play : Next → Standing → Op → Access → Phrase ℕ
stored_play next at (op.StorePointer p a) access = does next at (ask (SetHalf access.object (word_of access) (KeptPlain (register at a).half)))
stored_play next at op access = Stops Waits

-- the found pointer has the expected address, and is replaced
abbrev pub matching_play : Next → Standing → Op → Access → Found → Value → Phrase ℕ
matching_play next at (op.BoxCas d w p e n) access found pointer =
    bind (replace_seen access found pointer (register at n)) (λ _ exchange. found_or_again next at access exchange (sets_both next at d w))
matching_play next at op access found pointer = Stops Waits

-- the pointer that was found is compared with the expected one, which is named
abbrev pub read_play : Next → Standing → Op → Access → Found → Value → Phrase ℕ
read_play next at (op.BoxCas d w p e n) access found pointer =
    bind (look_at (register at e)) (λ _ _.
    bind (if pointer.number == (register at e).number then replace_seen access found pointer (register at n)
    else Gives tt (Some (record { found = pointer; is_made = false })))
    (λ _ exchange. found_or_again next at access exchange (sets_both next at d w)))
read_play next at op access found pointer = Stops Waits

-- a half was found
abbrev pub found_play : Next → Standing → Op → Access → Found → Phrase ℕ
found_play next at (op.LoadPointer d p) access found = gives next at d (pointer_found access found)
found_play next at (op.BoxSwap d p a) access found = gives next at d (pointer_found access found)
found_play next at (op.BoxCas d w p e n) access found =
    bind (pointer_found access found) (λ _ pointer. read_play next at (op.BoxCas d w p e n) access found pointer)
found_play next at op access found = Stops Waits

-- the first of two pointers is named
abbrev pub second_play : Next → Standing → (line : ℕ) → Op → Phrase ℕ
second_play next at line (op.PointerSub d a b bytes) =
    gives next at d (bind (look_at (register at b)) (λ _ _. Gives tt (integer (elements_between bytes (register at a).number (register at b).number))))
second_play next at line (op.PointerCompare d a b o) =
    gives next at d (bind (look_at (register at b)) (λ _ _. arithmetic (operator_at o) U64 (register at a) (register at b) line))
second_play next at line op = Stops Waits

abbrev pub halt_play : Halt → Phrase ℕ
halt_play (halt.Returned result) = Gives tt result
halt_play (halt.Finished finish) = Stops (FinishedStop finish)

abbrev pub stage_play : PlainCode → CodeStart → Next → Standing → (line : ℕ) → Op → Stage → Phrase ℕ
stage_play code start next at line op stage.Before = act code start next at line op
stage_play code start next at line op (stage.Granted access) = granted_play next at line op access
stage_play code start next at line op (stage.Stored access) = stored_play next at op access
stage_play code start next at line op (stage.Found access found) = found_play next at op access found
stage_play code start next at line op (stage.Read access found pointer) = read_play next at op access found pointer
stage_play code start next at line op (stage.Matches access found pointer) = matching_play next at op access found pointer
stage_play code start next at line op stage.NamedFirst = second_play next at line op
stage_play code start next at line op stage.Waits = Stops Waits
stage_play code start next at line op (stage.Traps reason l) = trap reason l
stage_play code start next at line op (stage.Over halt) = halt_play halt

-- ---- what a thread plays on

-- one more round is a jump
abbrev pub in_round_play : Option Access → Phrase ℕ → Phrase ℕ
in_round_play None play = play
in_round_play (Some access) play = Jump play

-- before an instruction at most m are played; within one, what is left of it and then at most m
abbrev pub plays_from : PlainCode → CodeStart → ℕ → Instruction → Thread → Stage → Phrase ℕ
plays_from code start m i thread stage.Before = in_round_play thread.at.granted (exec code start m thread.at)
plays_from code start m i thread s = stage_play code start (exec code start m) thread.at (trap_line thread.at.frame i) i.op s

-- a thread that has come from the instruction i
abbrev pub plays_on : PlainCode → CodeStart → ℕ → Instruction → Thread → Phrase ℕ
plays_on code start m i thread = plays_from code start m i thread thread.stage

-- ---- events

-- the play asks for this event, and goes on as another by each answer that fits
pub record AsksThen (play : Phrase ℕ) (event : Event) (after : Answer → Phrase ℕ) : Type 0 where
  pub query : Query
  pub next : Reply query → Phrase ℕ
  pub asks : play ≡ Asks query next
  pub wish : wish_of query ≡ event
  pub goes : (answer : Answer) (reply : Reply query) → reply_to query answer ≡ Some reply → next reply ≡ after answer

-- among places each object is named by its own, and so is a static object
abbrev pub by_place : (places : ℕ → ℕ) → Start → CodeStart
by_place places start =
    record { id = start.id; function = start.function; argument = start.argument; base = place_address; names = places }

-- ---- steps

-- a jump is counted unless it leads forward
abbrev pub jump_play : Thread → (target : ℕ) → Phrase ℕ → Phrase ℕ
jump_play thread target play = if nat_lt thread.at.frame.index target then play else Jump play

-- a call through a pointer is one where it names a function of the kind
abbrev pub kind_play : (kind : ℕ) → Option ℕ → Phrase ℕ → Phrase ℕ
kind_play kind None play = play
kind_play kind (Some k) play = if k == kind then Call play else play

abbrev pub half_play : (kinds : List ℕ) → (kind : ℕ) → Half → Phrase ℕ → Phrase ℕ
half_play kinds kind (FunctionHalf f) play = kind_play kind (slice_get kinds f) play
half_play kinds kind half play = play

-- what a step plays before what the thread after it plays on: a jump, a call, or nothing
abbrev pub step_play : PlainCode → Thread → Op → Phrase ℕ → Phrase ℕ
step_play code thread (op.Jump target) play = jump_play thread target play
step_play code thread (op.JumpZero a target) play = if_zero (register thread.at a).number (jump_play thread target play) play
step_play code thread (op.Call d f first count) play = Call play
step_play code thread (op.CallPointer d a first count kind) play = half_play (kinds_of code) kind (register thread.at a).half play
step_play code thread op play = play

-- ---- what a thread follows

-- what is left of the instruction i at a stage of it, and then at most m
abbrev pub rest_play : PlainCode → CodeStart → ℕ → Instruction → Thread → Stage → Phrase ℕ
rest_play code start m i thread s = stage_play code start (exec code start m) thread.at (trap_line thread.at.frame i) i.op s

-- the play of a thread that wants nothing: it has ended, or it waits for ever
abbrev pub stop_play : Stage → Phrase ℕ
stop_play (stage.Over halt) = halt_play halt
stop_play s = Stops Waits

-- what a thread wants is what its play does: an event is asked, and with each answer that fits both go on alike; an
-- instruction on registers is a step of the play; a poll makes nothing; and a thread that wants nothing has stopped
abbrev pub Follows : PlainCode → CodeStart → ℕ → Instruction → Thread → Stage → (Answer → Thread) → (step : Thread) → Want → Type 0
Follows code start m i thread s after step (want.Event event) =
    AsksThen (rest_play code start m i thread s) event (λ answer. plays_on code start m i (after answer))
Follows code start m i thread s after step want.Instruction =
    (s ≡ stage.Before) × (rest_play code start m i thread s ≡ step_play code thread i.op (plays_on code start m i step))
Follows code start m i thread s after step want.Poll =
    (s ≡ stage.Before) × (rest_play code start m i thread s ≡ plays_on code start m i (thread_after_poll thread))
Follows code start m i thread s after step want.Stopped = rest_play code start m i thread s ≡ stop_play s

-- a thread of this code that began so
pub record IsThreadOf (code : PlainCode) (start : Start) (thread : Thread) : Type 0 where
  pub id : thread.id ≡ start.id
  pub main : thread.main ≡ (start.function == code.main)

-- a thread follows the play of its code, wherever it stands at an instruction
abbrev pub ThreadsFollow : Type 0
ThreadsFollow =
    (code : PlainCode) (places : ℕ → ℕ) (start : Start) (m : ℕ) (i : Instruction) (thread : Thread) →
    IsThreadOf code start thread → here code thread ≡ Some i →
    Follows code (by_place places start) m i thread (stage_of thread) (λ answer. thread_after_answer code thread answer)
    (thread_after_step code places thread) (want_of code thread)

-- where there is no instruction, which well-formed code leads to nowhere, it wants nothing, and its play waits
abbrev pub StopsOutside : Type 0
StopsOutside =
    (code : PlainCode) (start : CodeStart) (m : ℕ) (thread : Thread) → here code thread ≡ None →
    (want_of code thread ≡ want.Stopped) × (exec code start (suc m) thread.at ≡ Stops Waits)

-- ---- within an instruction

abbrev pub IsWithin : Stage → Type 0
IsWithin stage.Before = ⊥
IsWithin s = Unit {0}

-- a thread that is led to a stage within an instruction stands where it stood
abbrev pub StandsWithin : Type 0
StandsWithin =
    (code : PlainCode) (places : ℕ → ℕ) (thread : Thread) (answer : Answer) →
    (IsWithin (thread_after_answer code thread answer).stage → (thread_after_answer code thread answer).at ≡ thread.at)
    × (IsWithin (thread_after_step code places thread).stage → (thread_after_step code places thread).at ≡ thread.at)

-- ---- rounds

-- a lock, and a compare and exchange of a pointer, are made in rounds
abbrev pub IsMadeInRounds : Op → Type 0
IsMadeInRounds (op.Lock p) = Unit {0}
IsMadeInRounds (op.BoxCas d w p e n) = Unit {0}
IsMadeInRounds o = ⊥

-- a thread is in a further round of no other instruction
abbrev pub KeepsRounds : PlainCode → Thread → Type 0
KeepsRounds code thread =
    (access : Access) → thread.at.granted ≡ Some access → IsSomeAnd (here code thread) (λ (i : Instruction). IsMadeInRounds i.op)

-- before an instruction, and before a further round of it, the play of the code is what is left of the instruction
abbrev pub CodeGoesOnHere : Type 0
CodeGoesOnHere =
    (code : PlainCode) (places : ℕ → ℕ) (start : Start) (m : ℕ) (i : Instruction) (thread : Thread) →
    KeepsRounds code thread → here code thread ≡ Some i → thread.stage ≡ stage.Before →
    exec code (by_place places start) (suc m) thread.at ≡ rest_play code (by_place places start) m i thread (stage_of thread)

-- a further round goes on as behind its check
abbrev pub LockRoundFollows : Type 0
LockRoundFollows =
    (code : PlainCode) (places : ℕ → ℕ) (start : Start) (next : Next) (at : Standing) (line p : ℕ) (access : Access) → at.granted ≡ Some access →
    act code (by_place places start) next at line (op.Lock p) ≡ granted_play next at line (op.Lock p) access

abbrev pub ExchangeRoundFollows : Type 0
ExchangeRoundFollows =
    (code : PlainCode) (places : ℕ → ℕ) (start : Start) (next : Next) (at : Standing) (line d w p e n : ℕ) (access : Access) → at.granted ≡ Some access →
    act code (by_place places start) next at line (op.BoxCas d w p e n) ≡ granted_play next at line (op.BoxCas d w p e n) access

-- ---- beginnings

-- a thread that begins has its id, is `main` where its function is, and plays its function from the first instruction on
abbrev pub BeginFollows : Type 0
BeginFollows =
    (code : PlainCode) (places : ℕ → ℕ) (start : Start) (m : ℕ) (f : PlainFunction) (old : Thread) → slice_get code.functions start.function ≡ Some f →
    let new = thread_after_begin code start.id start.function start.argument old in
    IsThreadOf code start new × KeepsRounds code new × (new.stage ≡ stage.Before) × (new.at ≡ beginning (by_place places start) f)
    × (code_play m code (by_place places start) ≡ exec code (by_place places start) m new.at)

-- by each answer, step and poll a thread stays one that began so
abbrev pub ThreadsStay : Type 0
ThreadsStay =
    (code : PlainCode) (places : ℕ → ℕ) (start : Start) (thread : Thread) (answer : Answer) → IsThreadOf code start thread →
    IsThreadOf code start (thread_after_answer code thread answer) × IsThreadOf code start (thread_after_step code places thread)
    × IsThreadOf code start (thread_after_poll thread)

-- and in a further round of no instruction that isn't made in rounds
abbrev pub RoundsStay : Type 0
RoundsStay =
    (code : PlainCode) (places : ℕ → ℕ) (thread : Thread) (answer : Answer) → KeepsRounds code thread →
    KeepsRounds code (thread_after_answer code thread answer) × KeepsRounds code (thread_after_step code places thread)
    × KeepsRounds code (thread_after_poll thread)
