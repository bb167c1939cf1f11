-- What holds of a thread wherever its instruction leads it, by cases of the instruction, the stage and the answer.
use Rattle.std.proofs.Common.{◌≡◌, ◌==◌, ◌<◌, ℕ, zero, suc, List, [], ◌∷◌, length, slice_get, Bool, true, false, Option, Some, None, refl, arith}
use Rattle.std.specs.Prelude.{All, if◌then◌else◌, Result, Ok, Err}
use Rattle.filc_num.specs.declared.integer.ArithFault.{ArithFault}
use Rattle.filc_num.specs.declared.integer.IntType.TheVariants.{U64}
use Rattle.filc_num.specs.declared.reason.Reason.{Reason}
use Rattle.filc_num.specs.declared.reason.Reason.TheVariants.{CallDepth, FunctionType}
use Rattle.whole_code.specs.declared.op.Op.{Op}
use Rattle.whole_code.specs.declared.op.Op.TheVariants as op
use Rattle.whole_code.specs.declared.op.Instruction.{Instruction}
use Rattle.whole_code.specs.Plain.{PlainFunction, PlainCode}
use Rattle.whole_code.specs.Operands.{writes}
use Rattle.whole_code.specs.WellFormed.{LeavesPlace, KeepsTarget}
use Rattle.whole_code.specs.Numbers.{operator_at, type_at}
use Rattle.ideal_machine.specs.declared.value.Half.{Half}
use Rattle.ideal_machine.specs.declared.value.Half.TheVariants.{Nothing, Freed, Object as ObjectHalf, Function as FunctionHalf}
use Rattle.ideal_machine.specs.declared.value.Found.{Found}
use Rattle.ideal_machine.specs.declared.value.Found.TheVariants.{Plain as FoundPlain, Pair as FoundPair}
use Rattle.ideal_machine.specs.declared.value.Value.{Value}
use Rattle.ideal_machine.specs.declared.event.Access.{Access}
use Rattle.ideal_machine.specs.declared.event.Answer.{Answer}
use Rattle.ideal_machine.specs.Queries.{NewObject, LockReply, Taken, CheckedAgain, check_reply, plain_check_reply, room_reply, done_reply, number_reply, found_reply, pair_reply, object_reply, size_reply, byte_reply, id_reply, lock_reply}
use Rattle.ideal_machine.specs.Play.{by_reply}
use Rattle.ideal_machine.specs.Phrases.{operator_result, if_zero}
use Rattle.ideal_machine.specs.Words.{same_found}
use Rattle.whole_thread.specs.declared.stage.Halt.{Halt}
use Rattle.whole_thread.specs.declared.stage.Stage.{Stage}
use Rattle.whole_thread.specs.declared.stage.Stage.TheVariants as stage
use Rattle.whole_thread.specs.Standing.{Caller, room, first_registers, trap_line, register, registers_from, with_register, at_index}
use Rattle.whole_thread.specs.Act.{kinds_of, caller_at, entering, behind_call}
use Rattle.whole_thread.specs.Thread.{Thread, stage_in_round, at_stage, before, goes_on, gets, gets_result, enters, calls, calls_kind, calls_half, returns_to, step_by, step_at, stage_of}
use Rattle.whole_thread.specs.Answers.{unless_refused, gets_size, gets_home, locks, gets_pointer, reads, gets_both, compares, replaces, again, looks, leaves_stage, answer_before, answer_granted, answer_at, answer_by}

-- the thread has this register
abbrev pub Within : Thread → ℕ → Type 0
Within thread r = r < length thread.at.frame.registers

-- what holds of a thread wherever the instruction o leads it
pub record Stays (code : PlainCode) (o : Op) (thread : Thread) (P : Thread → Type 0) : Type 0 where
  pub writes : All (Within thread) (writes o)
  pub long : ℕ
  pub target : KeepsTarget long o
  pub stored : (access : Access) → thread.stage ≡ stage.Stored access → ¬ LeavesPlace o
  pub same : P thread
  pub traps : (reason : Reason) (line : ℕ) → P (at_stage thread (stage.Traps reason line))
  pub over : (halt : Halt) → P (at_stage thread (stage.Over halt))
  pub waits : P (at_stage thread stage.Waits)
  pub within : ¬ LeavesPlace o → (s : Stage) → P (at_stage thread s)
  pub goes : ¬ LeavesPlace o → P (goes_on thread)
  pub sets : ¬ LeavesPlace o → (d : ℕ) → Within thread d → (v : Value) → P (gets thread d v)
  pub both : ¬ LeavesPlace o → (d w : ℕ) → Within thread d → Within thread w → (u v : Value) →
      P (gets (record thread { at = with_register thread.at d u }) w v)
  pub jumps : (target : ℕ) → target < long → P (before thread (at_index thread.at target))
  pub rounds : (access : Access) → P (again thread access)
  pub enters : ¬ LeavesPlace o → 0 < room thread.at → (line d function : ℕ) → Within thread d →
      (arguments : List Value) (f : PlainFunction) → slice_get code.functions function ≡ Some f →
      P (before thread (entering (caller_at thread.at d ∷ thread.at.callers) function (Some line) (first_registers f arguments)))
  pub returns : (caller : Caller) (callers : List Caller) → thread.at.callers ≡ caller ∷ callers → (v : Value) →
      P (before thread (behind_call caller callers v))

-- a thread that is at a stored pointer's integer stands there within its instruction
stored_before : (granted : Option Access) (s : Stage) (access : Access) → stage_in_round granted s ≡ stage.Stored access → s ≡ stage.Stored access
stored_before None s access e = e
stored_before (Some a) stage.Before access e = absurd (cc)
stored_before (Some a) (stage.Granted b) access e = e
stored_before (Some a) (stage.Stored b) access e = e
stored_before (Some a) (stage.Found b found) access e = e
stored_before (Some a) (stage.Read b found pointer) access e = e
stored_before (Some a) (stage.Matches b found pointer) access e = e
stored_before (Some a) stage.NamedFirst access e = e
stored_before (Some a) stage.Waits access e = e
stored_before (Some a) (stage.Traps reason line) access e = e
stored_before (Some a) (stage.Over halt) access e = e

room_keeps : (P : Thread → Type 0) (a b : Thread) (n : ℕ) → P a → (0 < n → P b) → P (if_zero n a b)
room_keeps P a b zero first second = first
room_keeps P a b (suc n) first second = second (omega arith)

leaves_keep : (code : PlainCode) (o : Op) (thread : Thread) (P : Thread → Type 0) → Stays code o thread P → (main : Bool) (v : Value) → P (at_stage thread (leaves_stage main v))
leaves_keep code o thread P k true v = k.over _
leaves_keep code o thread P k false v = k.over _

-- ---- by cases

reply_keeps : {R : Type 0} (P : Thread → Type 0) (o : Option R) (thread : Thread) (go : R → Thread) → P thread → ((reply : R) → P (go reply)) → P (by_reply o thread go)
reply_keeps P None thread go same keeps = same
reply_keeps P (Some reply) thread go same keeps = keeps reply

either_keeps : (P : Thread → Type 0) (a b : Thread) (c : Bool) → P a → P b → P (if c then a else b)
either_keeps P a b true first second = first
either_keeps P a b false first second = second

zero_keeps : (P : Thread → Type 0) (a b : Thread) (n : ℕ) → P a → P b → P (if_zero n a b)
zero_keeps P a b zero first second = first
zero_keeps P a b (suc n) first second = second

refusal_keeps : (code : PlainCode) (o : Op) (thread : Thread) (P : Thread → Type 0) → Stays code o thread P → (line : ℕ) (on : Thread) (refusal : Option Reason) → P on → P (unless_refused thread line on refusal)
refusal_keeps code o thread P k line on None keeps = keeps
refusal_keeps code o thread P k line on (Some reason) keeps = k.traps reason line

result_keeps : (code : PlainCode) (o : Op) (thread : Thread) (P : Thread → Type 0) → Stays code o thread P → ¬ LeavesPlace o → (line d : ℕ) → Within thread d → (result : Result ℕ ArithFault) → P (gets_result thread line d result)
result_keeps code o thread P k goes line d lt (Ok n) = k.sets goes d lt _
result_keeps code o thread P k goes line d lt (Err fault) = k.traps _ line

size_keeps : (code : PlainCode) (o : Op) (thread : Thread) (P : Thread → Type 0) → Stays code o thread P → ¬ LeavesPlace o → (line d : ℕ) → Within thread d → (size : Result ℕ Reason) → P (gets_size thread line d size)
size_keeps code o thread P k goes line d lt (Ok n) = k.sets goes d lt _
size_keeps code o thread P k goes line d lt (Err reason) = k.traps _ line

home_keeps : (code : PlainCode) (o : Op) (thread : Thread) (P : Thread → Type 0) → Stays code o thread P → ¬ LeavesPlace o → (line d : ℕ) → Within thread d → (new : Option NewObject) → P (gets_home thread line d new)
home_keeps code o thread P k goes line d lt None = k.traps _ line
home_keeps code o thread P k goes line d lt (Some object) = k.sets goes d lt _

lock_keeps : (code : PlainCode) (p : ℕ) (thread : Thread) (P : Thread → Type 0) → Stays code (op.Lock p) thread P → (line : ℕ) (access : Access) (reply : LockReply) → P (locks thread line access reply)
lock_keeps code p thread P k line access Taken = k.goes (λ h. h)
lock_keeps code p thread P k line access (CheckedAgain refusal) = refusal_keeps code (op.Lock p) thread P k line (again thread access) refusal (k.rounds access)

-- ---- by answers

before_keeps : (code : PlainCode) (o : Op) (thread : Thread) (P : Thread → Type 0) → Stays code o thread P → (line : ℕ) (answer : Answer) → P (answer_before thread line o answer)
before_keeps code (op.PointerSub d a b bytes) thread P k line answer = reply_keeps P (done_reply answer) thread _ k.same (λ r. k.within (λ h. h) _)
before_keeps code (op.PointerCompare d a b c) thread P k line answer = reply_keeps P (done_reply answer) thread _ k.same (λ r. k.within (λ h. h) _)
before_keeps code (op.ToInteger d a t) thread P k line answer = reply_keeps P (done_reply answer) thread _ k.same (λ r. k.sets (λ h. h) d (k.writes 0 d (omega arith)) _)
before_keeps code (op.Home d bytes) thread P k line answer = reply_keeps P (object_reply answer) thread _ k.same (λ r. home_keeps code (op.Home d bytes) thread P k (λ h. h) line d (k.writes 0 d (omega arith)) r)
before_keeps code (op.New d a) thread P k line answer = reply_keeps P (object_reply answer) thread _ k.same (λ r. k.sets (λ h. h) d (k.writes 0 d (omega arith)) _)
before_keeps code (op.Free a) thread P k line answer = reply_keeps P (plain_check_reply answer) thread _ k.same (λ r. refusal_keeps code (op.Free a) thread P k line _ r (k.goes (λ h. h)))
before_keeps code (op.Size d a) thread P k line answer = reply_keeps P (size_reply answer) thread _ k.same (λ r. size_keeps code (op.Size d a) thread P k (λ h. h) line d (k.writes 0 d (omega arith)) r)
before_keeps code (op.LoadInt d p t) thread P k line answer = reply_keeps P (plain_check_reply answer) thread _ k.same (λ r. refusal_keeps code (op.LoadInt d p t) thread P k line _ r (k.within (λ h. h) _))
before_keeps code (op.StoreInt p a t) thread P k line answer = reply_keeps P (plain_check_reply answer) thread _ k.same (λ r. refusal_keeps code (op.StoreInt p a t) thread P k line _ r (k.within (λ h. h) _))
before_keeps code (op.RmwInt d p a c t u) thread P k line answer = reply_keeps P (plain_check_reply answer) thread _ k.same (λ r. refusal_keeps code (op.RmwInt d p a c t u) thread P k line _ r (k.within (λ h. h) _))
before_keeps code (op.CasInt d p e n t) thread P k line answer = reply_keeps P (plain_check_reply answer) thread _ k.same (λ r. refusal_keeps code (op.CasInt d p e n t) thread P k line _ r (k.within (λ h. h) _))
before_keeps code (op.Lock p) thread P k line answer = reply_keeps P (plain_check_reply answer) thread _ k.same (λ r. refusal_keeps code (op.Lock p) thread P k line _ r (k.within (λ h. h) _))
before_keeps code (op.LoadPointer d p) thread P k line answer = reply_keeps P (plain_check_reply answer) thread _ k.same (λ r. refusal_keeps code (op.LoadPointer d p) thread P k line _ r (k.within (λ h. h) _))
before_keeps code (op.StorePointer p a) thread P k line answer = reply_keeps P (check_reply answer) thread _ k.same (λ r. refusal_keeps code (op.StorePointer p a) thread P k line _ r (k.within (λ h. h) _))
before_keeps code (op.BoxStore p a) thread P k line answer = reply_keeps P (check_reply answer) thread _ k.same (λ r. refusal_keeps code (op.BoxStore p a) thread P k line _ r (k.within (λ h. h) _))
before_keeps code (op.BoxSwap d p a) thread P k line answer = reply_keeps P (check_reply answer) thread _ k.same (λ r. refusal_keeps code (op.BoxSwap d p a) thread P k line _ r (k.within (λ h. h) _))
before_keeps code (op.BoxCas d w p e n) thread P k line answer = reply_keeps P (check_reply answer) thread _ k.same (λ r. refusal_keeps code (op.BoxCas d w p e n) thread P k line _ r (k.within (λ h. h) _))
before_keeps code (op.Return a) thread P k line answer = reply_keeps P (done_reply answer) thread _ k.same (λ r. leaves_keep code (op.Return a) thread P k thread.main (register thread.at a))
before_keeps code (op.Out a) thread P k line answer = reply_keeps P (room_reply answer) thread _ k.same (λ r. refusal_keeps code (op.Out a) thread P k line _ r (k.goes (λ h. h)))
before_keeps code (op.Input d) thread P k line answer = reply_keeps P (byte_reply answer) thread _ k.same (λ r. k.sets (λ h. h) d (k.writes 0 d (omega arith)) _)
before_keeps code (op.Spawn d a b) thread P k line answer = reply_keeps P (id_reply answer) thread _ k.same (λ r. k.sets (λ h. h) d (k.writes 0 d (omega arith)) _)
before_keeps code (op.Join d a) thread P k line answer = reply_keeps P (id_reply answer) thread _ k.same (λ r. k.sets (λ h. h) d (k.writes 0 d (omega arith)) _)
before_keeps code (op.Exit a) thread P k line answer = reply_keeps P (done_reply answer) thread _ k.same (λ r. k.over _)
before_keeps code o thread P k line answer = k.same

granted_keeps : (code : PlainCode) (o : Op) (thread : Thread) (P : Thread → Type 0) → Stays code o thread P → (line : ℕ) (access : Access) (answer : Answer) → P (answer_granted thread line o access answer)
granted_keeps code (op.LoadInt d p t) thread P k line access answer = reply_keeps P (number_reply answer) thread _ k.same (λ r. k.sets (λ h. h) d (k.writes 0 d (omega arith)) _)
granted_keeps code (op.StoreInt p a t) thread P k line access answer = reply_keeps P (done_reply answer) thread _ k.same (λ r. k.goes (λ h. h))
granted_keeps code (op.RmwInt d p a c t u) thread P k line access answer = reply_keeps P (number_reply answer) thread _ k.same (λ r. k.sets (λ h. h) d (k.writes 0 d (omega arith)) _)
granted_keeps code (op.CasInt d p e n t) thread P k line access answer = reply_keeps P (number_reply answer) thread _ k.same (λ r. k.sets (λ h. h) d (k.writes 0 d (omega arith)) _)
granted_keeps code (op.Lock p) thread P k line access answer = reply_keeps P (lock_reply answer) thread _ k.same (λ r. lock_keeps code p thread P k line access r)
granted_keeps code (op.LoadPointer d p) thread P k line access answer = reply_keeps P (found_reply answer) thread _ k.same (λ r. k.within (λ h. h) _)
granted_keeps code (op.StorePointer p a) thread P k line access answer = reply_keeps P (done_reply answer) thread _ k.same (λ r. k.within (λ h. h) _)
granted_keeps code (op.BoxStore p a) thread P k line access answer = reply_keeps P (done_reply answer) thread _ k.same (λ r. k.goes (λ h. h))
granted_keeps code (op.BoxSwap d p a) thread P k line access answer = reply_keeps P (found_reply answer) thread _ k.same (λ r. k.within (λ h. h) _)
granted_keeps code (op.BoxCas d w p e n) thread P k line access answer = reply_keeps P (found_reply answer) thread _ k.same (λ r. k.within (λ h. h) _)
granted_keeps code o thread P k line access answer = k.same

pointer_keeps : (code : PlainCode) (o : Op) (thread : Thread) (P : Thread → Type 0) → Stays code o thread P → (access : Access) (found : Found) (pointer : Value) → P (gets_pointer thread o access found pointer)
pointer_keeps code (op.LoadPointer d p) thread P k access found pointer = k.sets (λ h. h) d (k.writes 0 d (omega arith)) _
pointer_keeps code (op.BoxSwap d p a) thread P k access found pointer = k.sets (λ h. h) d (k.writes 0 d (omega arith)) _
pointer_keeps code (op.BoxCas d w p e n) thread P k access found pointer = k.within (λ h. h) _
pointer_keeps code o thread P k access found pointer = k.same

reads_keep : (code : PlainCode) (o : Op) (thread : Thread) (P : Thread → Type 0) → Stays code o thread P → (access : Access) (found : Found) (answer : Answer) → P (reads thread o access found answer)
reads_keep code o thread P k access (FoundPlain half) answer = reply_keeps P (number_reply answer) thread _ k.same (λ n. pointer_keeps code o thread P k access (FoundPlain half) _)
reads_keep code o thread P k access (FoundPair pair) answer = reply_keeps P (pair_reply answer) thread _ k.same (λ opened. pointer_keeps code o thread P k access (FoundPair pair) _)

compares_keep : (code : PlainCode) (o : Op) (thread : Thread) (P : Thread → Type 0) → Stays code o thread P → (access : Access) (found : Found) (pointer : Value) → P (compares thread o access found pointer)
compares_keep code (op.BoxCas d w p e n) thread P k access found pointer =
    either_keeps P (at_stage thread (stage.Matches access found pointer)) (gets_both thread d w pointer false) (pointer.number == (register thread.at e).number) (k.within (λ h. h) _) (k.both (λ h. h) d w (k.writes 0 d (omega arith)) (k.writes 1 w (omega arith)) _ _)
compares_keep code o thread P k access found pointer = k.same

replaces_keep : (code : PlainCode) (o : Op) (thread : Thread) (P : Thread → Type 0) → Stays code o thread P → (access : Access) (found : Found) (pointer : Value) (there : Found) → P (replaces thread o access found pointer there)
replaces_keep code (op.BoxCas d w p e n) thread P k access found pointer there =
    either_keeps P (gets_both thread d w pointer true) (again thread access) (same_found there found) (k.both (λ h. h) d w (k.writes 0 d (omega arith)) (k.writes 1 w (omega arith)) _ _) (k.rounds access)
replaces_keep code o thread P k access found pointer there = k.same

looks_keep : (code : PlainCode) (o : Op) (thread : Thread) (P : Thread → Type 0) → Stays code o thread P → (line : ℕ) → P (looks thread line o)
looks_keep code (op.PointerSub d a b bytes) thread P k line = k.sets (λ h. h) d (k.writes 0 d (omega arith)) _
looks_keep code (op.PointerCompare d a b c) thread P k line = result_keeps code (op.PointerCompare d a b c) thread P k (λ h. h) line d (k.writes 0 d (omega arith)) (operator_result (operator_at c) U64 (register thread.at a).number (register thread.at b).number)
looks_keep code o thread P k line = k.same

answer_keeps : (code : PlainCode) (o : Op) (thread : Thread) (P : Thread → Type 0) → Stays code o thread P → (line : ℕ) (s : Stage) → ((access : Access) → s ≡ stage.Stored access → ¬ LeavesPlace o) → (answer : Answer) → P (answer_at thread line o s answer)
answer_keeps code o thread P k line stage.Before stored answer = before_keeps code o thread P k line answer
answer_keeps code o thread P k line (stage.Granted access) stored answer = granted_keeps code o thread P k line access answer
answer_keeps code o thread P k line (stage.Stored access) stored answer = reply_keeps P (done_reply answer) thread _ k.same (λ r. k.goes (stored access refl))
answer_keeps code o thread P k line (stage.Found access found) stored answer = reads_keep code o thread P k access found answer
answer_keeps code o thread P k line (stage.Read access found pointer) stored answer = reply_keeps P (done_reply answer) thread _ k.same (λ r. compares_keep code o thread P k access found pointer)
answer_keeps code o thread P k line (stage.Matches access found pointer) stored answer = reply_keeps P (found_reply answer) thread _ k.same (λ there. replaces_keep code o thread P k access found pointer there)
answer_keeps code o thread P k line stage.NamedFirst stored answer = reply_keeps P (done_reply answer) thread _ k.same (λ r. looks_keep code o thread P k line)
answer_keeps code o thread P k line stage.Waits stored answer = k.same
answer_keeps code o thread P k line (stage.Traps reason l) stored answer = reply_keeps P (done_reply answer) thread _ k.same (λ r. k.over _)
answer_keeps code o thread P k line (stage.Over halt) stored answer = k.same

-- ---- by steps

enters_keep : (code : PlainCode) (o : Op) (thread : Thread) (P : Thread → Type 0) → Stays code o thread P → ¬ LeavesPlace o → (room_left : 0 < room thread.at) (line d f : ℕ) → Within thread d → (arguments : List Value) (callee : Option PlainFunction) → slice_get code.functions f ≡ callee → P (enters thread line d f arguments callee)
enters_keep code o thread P k goes left line d f lt arguments None e = k.waits
enters_keep code o thread P k goes left line d f lt arguments (Some callee) e = k.enters goes left line d f lt arguments callee e

calls_keep : (code : PlainCode) (o : Op) (thread : Thread) (P : Thread → Type 0) → Stays code o thread P → ¬ LeavesPlace o → (d : ℕ) → Within thread d → (line f : ℕ) (arguments : List Value) → P (calls code thread line d f arguments)
calls_keep code o thread P k goes d lt line f arguments =
    room_keeps P (at_stage thread (stage.Traps CallDepth line)) (enters thread line d f arguments (slice_get code.functions f)) (room thread.at)
    (k.traps _ line) (λ left. enters_keep code o thread P k goes left line d f lt arguments (slice_get code.functions f) refl)

kind_keeps : (code : PlainCode) (o : Op) (thread : Thread) (P : Thread → Type 0) → Stays code o thread P → ¬ LeavesPlace o → (d : ℕ) → Within thread d → (line kind f : ℕ) (arguments : List Value) (found : Option ℕ) → P (calls_kind code thread line d kind f arguments found)
kind_keeps code o thread P k goes d lt line kind f arguments None = k.traps _ line
kind_keeps code o thread P k goes d lt line kind f arguments (Some n) =
    either_keeps P (calls code thread line d f arguments) (at_stage thread (stage.Traps FunctionType line)) (n == kind) (calls_keep code o thread P k goes d lt line f arguments) (k.traps _ line)

half_keeps : (code : PlainCode) (o : Op) (thread : Thread) (P : Thread → Type 0) → Stays code o thread P → ¬ LeavesPlace o → (d : ℕ) → Within thread d → (line kind : ℕ) (arguments : List Value) (half : Half) → P (calls_half code thread line d kind arguments half)
half_keeps code o thread P k goes d lt line kind arguments (FunctionHalf f) = kind_keeps code o thread P k goes d lt line kind f arguments (slice_get (kinds_of code) f)
half_keeps code o thread P k goes d lt line kind arguments Nothing = k.traps _ line
half_keeps code o thread P k goes d lt line kind arguments Freed = k.traps _ line
half_keeps code o thread P k goes d lt line kind arguments (ObjectHalf n) = k.traps _ line

return_keeps : (code : PlainCode) (o : Op) (thread : Thread) (P : Thread → Type 0) → Stays code o thread P → (callers : List Caller) → thread.at.callers ≡ callers → (v : Value) → P (returns_to thread callers v)
return_keeps code o thread P k [] e v = k.same
return_keeps code o thread P k (caller ∷ callers) e v = k.returns caller callers e v

step_keeps : (code : PlainCode) (places : ℕ → ℕ) (o : Op) (thread : Thread) (P : Thread → Type 0) → Stays code o thread P → (line : ℕ) → P (step_by code places thread line o)
step_keeps code places (op.Const d constant) thread P k line = k.sets (λ h. h) d (k.writes 0 d (omega arith)) _
step_keeps code places (op.Move d a) thread P k line = k.sets (λ h. h) d (k.writes 0 d (omega arith)) _
step_keeps code places (op.StaticAt d n) thread P k line = k.sets (λ h. h) d (k.writes 0 d (omega arith)) _
step_keeps code places (op.FunctionAt d f) thread P k line = k.sets (λ h. h) d (k.writes 0 d (omega arith)) _
step_keeps code places (op.Convert d a t) thread P k line = k.sets (λ h. h) d (k.writes 0 d (omega arith)) _
step_keeps code places (op.Binary d a b c t) thread P k line = result_keeps code (op.Binary d a b c t) thread P k (λ h. h) line d (k.writes 0 d (omega arith)) (operator_result (operator_at c) (type_at t) (register thread.at a).number (register thread.at b).number)
step_keeps code places (op.PointerAdd d a b bytes) thread P k line = k.sets (λ h. h) d (k.writes 0 d (omega arith)) _
step_keeps code places (op.ToPointer d a) thread P k line = k.sets (λ h. h) d (k.writes 0 d (omega arith)) _
step_keeps code places (op.Jump target) thread P k line = k.jumps target k.target
step_keeps code places (op.JumpZero a target) thread P k line = zero_keeps P (before thread (at_index thread.at target)) (goes_on thread) (register thread.at a).number (k.jumps target k.target) (k.goes (λ h. h))
step_keeps code places (op.Free a) thread P k line = k.goes (λ h. h)
step_keeps code places (op.Call d f first count) thread P k line = calls_keep code (op.Call d f first count) thread P k (λ h. h) d (k.writes 0 d (omega arith)) line f (registers_from thread.at first count)
step_keeps code places (op.CallPointer d a first count kind) thread P k line = half_keeps code (op.CallPointer d a first count kind) thread P k (λ h. h) d (k.writes 0 d (omega arith)) line kind (registers_from thread.at first count) (register thread.at a).half
step_keeps code places (op.Return a) thread P k line = return_keeps code (op.Return a) thread P k thread.at.callers refl (register thread.at a)
step_keeps code places (op.Spawn d a b) thread P k line = k.traps _ line
step_keeps code places (op.SelfId d) thread P k line = k.sets (λ h. h) d (k.writes 0 d (omega arith)) _
step_keeps code places (op.Abort) thread P k line = k.traps _ line
step_keeps code places o thread P k line = k.same

-- ---- by the instruction where it stands

abbrev pub StaysBy : PlainCode → Thread → (Thread → Type 0) → Option Instruction → Type 0
StaysBy code thread P None = P thread
StaysBy code thread P (Some i) = Stays code i.op thread P

pub answer_by_keeps : (code : PlainCode) (thread : Thread) (P : Thread → Type 0) (i : Option Instruction) → StaysBy code thread P i → (answer : Answer) → P (answer_by thread i answer)
answer_by_keeps code thread P None same answer = same
answer_by_keeps code thread P (Some i) k answer =
    answer_keeps code i.op thread P k (trap_line thread.at.frame i) (stage_of thread) (λ access e. k.stored access (stored_before thread.at.granted thread.stage access e)) answer

pub step_at_keeps : (code : PlainCode) (places : ℕ → ℕ) (thread : Thread) (P : Thread → Type 0) (i : Option Instruction) → StaysBy code thread P i → P (step_at code places thread i)
step_at_keeps code places thread P None same = same
step_at_keeps code places thread P (Some i) k = step_keeps code places i.op thread P k (trap_line thread.at.frame i)
