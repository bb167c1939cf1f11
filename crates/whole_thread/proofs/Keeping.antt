-- What holds of a thread wherever it goes: its id, whether its first function is `main`, and which instructions make rounds.
use Rattle.std.proofs.Common.{◌≡◌, ◌==◌, ℕ, zero, suc, List, [], ◌∷◌, slice_get, Bool, true, false, Option, Some, None, refl, sym, subst, ◌∙◌}
use Rattle.std.specs.Prelude.{IsSomeAnd, if◌then◌else◌, Result, Ok, Err}
use Rattle.filc_num.specs.declared.integer.ArithFault.{ArithFault}
use Rattle.filc_num.specs.declared.integer.IntType.TheVariants.{U64}
use Rattle.filc_num.specs.declared.reason.Reason.{Reason}
use Rattle.filc_num.specs.declared.reason.Reason.TheVariants.{CallDepth, FunctionType}
use Rattle.whole_code.specs.declared.op.Op.{Op}
use Rattle.whole_code.specs.declared.op.Op.TheVariants as op
use Rattle.whole_code.specs.declared.op.Instruction.{Instruction}
use Rattle.whole_code.specs.Plain.{PlainFunction, PlainCode}
use Rattle.whole_code.specs.Numbers.{operator_at, type_at}
use Rattle.ideal_machine.specs.declared.value.Half.{Half}
use Rattle.ideal_machine.specs.declared.value.Half.TheVariants.{Nothing, Freed, Object as ObjectHalf, Function as FunctionHalf}
use Rattle.ideal_machine.specs.declared.value.Found.{Found}
use Rattle.ideal_machine.specs.declared.value.Found.TheVariants.{Plain as FoundPlain, Pair as FoundPair}
use Rattle.ideal_machine.specs.declared.value.Value.{Value}
use Rattle.ideal_machine.specs.declared.event.Access.{Access}
use Rattle.ideal_machine.specs.declared.event.Answer.{Answer}
use Rattle.ideal_machine.specs.Queries.{NewObject, LockReply, Taken, CheckedAgain, check_reply, plain_check_reply, room_reply, done_reply, number_reply, found_reply, pair_reply, object_reply, size_reply, byte_reply, id_reply, lock_reply}
use Rattle.ideal_machine.specs.Play.{by_reply}
use Rattle.ideal_machine.specs.Phrases.{Start, operator_result, if_zero}
use Rattle.ideal_machine.specs.Words.{same_found}
use Rattle.whole_thread.specs.declared.stage.Stage.{Stage}
use Rattle.whole_thread.specs.declared.stage.Stage.TheVariants as stage
use Rattle.whole_thread.specs.Standing.{Standing, Caller, room, trap_line, register, registers_from, at_index}
use Rattle.whole_thread.specs.Act.{kinds_of}
use Rattle.whole_thread.specs.Thread.{Thread, at_stage, before, goes_on, gets_result, enters, calls, calls_kind, calls_half, returns_to, step_by, step_at, here, stage_of}
use Rattle.whole_thread.specs.Answers.{unless_refused, gets_size, gets_home, locks, gets_pointer, reads, gets_both, compares, replaces, again, looks, answer_before, answer_granted, answer_at, answer_by}
use Rattle.whole_thread.specs.PlaysOn.{IsThreadOf, IsWithin, StandsWithin, IsMadeInRounds, KeepsRounds, ThreadsStay, RoundsStay}

-- what holds of a thread wherever its instruction leads it
record Stays (o : Op) (thread : Thread) (P : Thread → Type 0) : Type 0 where
  same : P thread
  within : (s : Stage) → P (at_stage thread s)
  moves : (at : Standing) → at.granted ≡ None → P (before thread at)
  rounds : IsMadeInRounds o → (access : Access) → P (again thread access)

-- ---- by cases

reply_keeps : {R : Type 0} (P : Thread → Type 0) (o : Option R) (thread : Thread) (go : R → Thread) → P thread → ((reply : R) → P (go reply)) → P (by_reply o thread go)
reply_keeps P None thread go same keeps = same
reply_keeps P (Some reply) thread go same keeps = keeps reply

either_keeps : (P : Thread → Type 0) (a b : Thread) (c : Bool) → P a → P b → P (if c then a else b)
either_keeps P a b true first second = first
either_keeps P a b false first second = second

zero_keeps : (P : Thread → Type 0) (a b : Thread) (n : ℕ) → P a → P b → P (if_zero n a b)
zero_keeps P a b zero first second = first
zero_keeps P a b (suc n) first second = second

refusal_keeps : (o : Op) (thread : Thread) (P : Thread → Type 0) → Stays o thread P → (line : ℕ) (on : Thread) (refusal : Option Reason) → P on → P (unless_refused thread line on refusal)
refusal_keeps o thread P k line on None keeps = keeps
refusal_keeps o thread P k line on (Some reason) keeps = k.within (stage.Traps reason line)

result_keeps : (o : Op) (thread : Thread) (P : Thread → Type 0) → Stays o thread P → (line d : ℕ) (result : Result ℕ ArithFault) → P (gets_result thread line d result)
result_keeps o thread P k line d (Ok n) = k.moves _ refl
result_keeps o thread P k line d (Err fault) = k.within _

size_keeps : (o : Op) (thread : Thread) (P : Thread → Type 0) → Stays o thread P → (line d : ℕ) (size : Result ℕ Reason) → P (gets_size thread line d size)
size_keeps o thread P k line d (Ok n) = k.moves _ refl
size_keeps o thread P k line d (Err reason) = k.within _

home_keeps : (o : Op) (thread : Thread) (P : Thread → Type 0) → Stays o thread P → (line d : ℕ) (new : Option NewObject) → P (gets_home thread line d new)
home_keeps o thread P k line d None = k.within _
home_keeps o thread P k line d (Some object) = k.moves _ refl

lock_keeps : (p : ℕ) (thread : Thread) (P : Thread → Type 0) → Stays (op.Lock p) thread P → (line : ℕ) (access : Access) (reply : LockReply) → P (locks thread line access reply)
lock_keeps p thread P k line access Taken = k.moves _ refl
lock_keeps p thread P k line access (CheckedAgain refusal) = refusal_keeps (op.Lock p) thread P k line (again thread access) refusal (k.rounds tt access)

-- ---- by answers

before_keeps : (o : Op) (thread : Thread) (P : Thread → Type 0) → Stays o thread P → (line : ℕ) (answer : Answer) → P (answer_before thread line o answer)
before_keeps (op.PointerSub d a b bytes) thread P k line answer = reply_keeps P (done_reply answer) thread _ k.same (λ r. k.within _)
before_keeps (op.PointerCompare d a b c) thread P k line answer = reply_keeps P (done_reply answer) thread _ k.same (λ r. k.within _)
before_keeps (op.ToInteger d a t) thread P k line answer = reply_keeps P (done_reply answer) thread _ k.same (λ r. k.moves _ refl)
before_keeps (op.Home d bytes) thread P k line answer = reply_keeps P (object_reply answer) thread _ k.same (λ r. home_keeps (op.Home d bytes) thread P k line d r)
before_keeps (op.New d a) thread P k line answer = reply_keeps P (object_reply answer) thread _ k.same (λ r. k.moves _ refl)
before_keeps (op.Free a) thread P k line answer = reply_keeps P (plain_check_reply answer) thread _ k.same (λ r. refusal_keeps (op.Free a) thread P k line _ r (k.moves _ refl))
before_keeps (op.Size d a) thread P k line answer = reply_keeps P (size_reply answer) thread _ k.same (λ r. size_keeps (op.Size d a) thread P k line d r)
before_keeps (op.LoadInt d p t) thread P k line answer = reply_keeps P (plain_check_reply answer) thread _ k.same (λ r. refusal_keeps (op.LoadInt d p t) thread P k line _ r (k.within _))
before_keeps (op.StoreInt p a t) thread P k line answer = reply_keeps P (plain_check_reply answer) thread _ k.same (λ r. refusal_keeps (op.StoreInt p a t) thread P k line _ r (k.within _))
before_keeps (op.RmwInt d p a c t u) thread P k line answer = reply_keeps P (plain_check_reply answer) thread _ k.same (λ r. refusal_keeps (op.RmwInt d p a c t u) thread P k line _ r (k.within _))
before_keeps (op.CasInt d p e n t) thread P k line answer = reply_keeps P (plain_check_reply answer) thread _ k.same (λ r. refusal_keeps (op.CasInt d p e n t) thread P k line _ r (k.within _))
before_keeps (op.Lock p) thread P k line answer = reply_keeps P (plain_check_reply answer) thread _ k.same (λ r. refusal_keeps (op.Lock p) thread P k line _ r (k.within _))
before_keeps (op.LoadPointer d p) thread P k line answer = reply_keeps P (plain_check_reply answer) thread _ k.same (λ r. refusal_keeps (op.LoadPointer d p) thread P k line _ r (k.within _))
before_keeps (op.StorePointer p a) thread P k line answer = reply_keeps P (check_reply answer) thread _ k.same (λ r. refusal_keeps (op.StorePointer p a) thread P k line _ r (k.within _))
before_keeps (op.BoxStore p a) thread P k line answer = reply_keeps P (check_reply answer) thread _ k.same (λ r. refusal_keeps (op.BoxStore p a) thread P k line _ r (k.within _))
before_keeps (op.BoxSwap d p a) thread P k line answer = reply_keeps P (check_reply answer) thread _ k.same (λ r. refusal_keeps (op.BoxSwap d p a) thread P k line _ r (k.within _))
before_keeps (op.BoxCas d w p e n) thread P k line answer = reply_keeps P (check_reply answer) thread _ k.same (λ r. refusal_keeps (op.BoxCas d w p e n) thread P k line _ r (k.within _))
before_keeps (op.Return a) thread P k line answer = reply_keeps P (done_reply answer) thread _ k.same (λ r. k.within _)
before_keeps (op.Out a) thread P k line answer = reply_keeps P (room_reply answer) thread _ k.same (λ r. refusal_keeps (op.Out a) thread P k line _ r (k.moves _ refl))
before_keeps (op.Input d) thread P k line answer = reply_keeps P (byte_reply answer) thread _ k.same (λ r. k.moves _ refl)
before_keeps (op.Spawn d a b) thread P k line answer = reply_keeps P (id_reply answer) thread _ k.same (λ r. k.moves _ refl)
before_keeps (op.Join d a) thread P k line answer = reply_keeps P (id_reply answer) thread _ k.same (λ r. k.moves _ refl)
before_keeps (op.Exit a) thread P k line answer = reply_keeps P (done_reply answer) thread _ k.same (λ r. k.within _)
before_keeps o thread P k line answer = k.same

granted_keeps : (o : Op) (thread : Thread) (P : Thread → Type 0) → Stays o thread P → (line : ℕ) (access : Access) (answer : Answer) → P (answer_granted thread line o access answer)
granted_keeps (op.LoadInt d p t) thread P k line access answer = reply_keeps P (number_reply answer) thread _ k.same (λ r. k.moves _ refl)
granted_keeps (op.StoreInt p a t) thread P k line access answer = reply_keeps P (done_reply answer) thread _ k.same (λ r. k.moves _ refl)
granted_keeps (op.RmwInt d p a c t u) thread P k line access answer = reply_keeps P (number_reply answer) thread _ k.same (λ r. k.moves _ refl)
granted_keeps (op.CasInt d p e n t) thread P k line access answer = reply_keeps P (number_reply answer) thread _ k.same (λ r. k.moves _ refl)
granted_keeps (op.Lock p) thread P k line access answer = reply_keeps P (lock_reply answer) thread _ k.same (λ r. lock_keeps p thread P k line access r)
granted_keeps (op.LoadPointer d p) thread P k line access answer = reply_keeps P (found_reply answer) thread _ k.same (λ r. k.within _)
granted_keeps (op.StorePointer p a) thread P k line access answer = reply_keeps P (done_reply answer) thread _ k.same (λ r. k.within _)
granted_keeps (op.BoxStore p a) thread P k line access answer = reply_keeps P (done_reply answer) thread _ k.same (λ r. k.moves _ refl)
granted_keeps (op.BoxSwap d p a) thread P k line access answer = reply_keeps P (found_reply answer) thread _ k.same (λ r. k.within _)
granted_keeps (op.BoxCas d w p e n) thread P k line access answer = reply_keeps P (found_reply answer) thread _ k.same (λ r. k.within _)
granted_keeps o thread P k line access answer = k.same

pointer_keeps : (o : Op) (thread : Thread) (P : Thread → Type 0) → Stays o thread P → (access : Access) (found : Found) (pointer : Value) → P (gets_pointer thread o access found pointer)
pointer_keeps (op.LoadPointer d p) thread P k access found pointer = k.moves _ refl
pointer_keeps (op.BoxSwap d p a) thread P k access found pointer = k.moves _ refl
pointer_keeps (op.BoxCas d w p e n) thread P k access found pointer = k.within _
pointer_keeps o thread P k access found pointer = k.same

reads_keep : (o : Op) (thread : Thread) (P : Thread → Type 0) → Stays o thread P → (access : Access) (found : Found) (answer : Answer) → P (reads thread o access found answer)
reads_keep o thread P k access (FoundPlain half) answer = reply_keeps P (number_reply answer) thread _ k.same (λ n. pointer_keeps o thread P k access (FoundPlain half) _)
reads_keep o thread P k access (FoundPair pair) answer = reply_keeps P (pair_reply answer) thread _ k.same (λ opened. pointer_keeps o thread P k access (FoundPair pair) _)

compares_keep : (o : Op) (thread : Thread) (P : Thread → Type 0) → Stays o thread P → (access : Access) (found : Found) (pointer : Value) → P (compares thread o access found pointer)
compares_keep (op.BoxCas d w p e n) thread P k access found pointer =
    either_keeps P (at_stage thread (stage.Matches access found pointer)) (gets_both thread d w pointer false) (pointer.number == (register thread.at e).number) (k.within _) (k.moves _ refl)
compares_keep o thread P k access found pointer = k.same

replaces_keep : (o : Op) (thread : Thread) (P : Thread → Type 0) → Stays o thread P → (access : Access) (found : Found) (pointer : Value) (there : Found) → P (replaces thread o access found pointer there)
replaces_keep (op.BoxCas d w p e n) thread P k access found pointer there =
    either_keeps P (gets_both thread d w pointer true) (again thread access) (same_found there found) (k.moves _ refl) (k.rounds tt access)
replaces_keep o thread P k access found pointer there = k.same

looks_keep : (o : Op) (thread : Thread) (P : Thread → Type 0) → Stays o thread P → (line : ℕ) → P (looks thread line o)
looks_keep (op.PointerSub d a b bytes) thread P k line = k.moves _ refl
looks_keep (op.PointerCompare d a b c) thread P k line = result_keeps (op.PointerCompare d a b c) thread P k line d (operator_result (operator_at c) U64 (register thread.at a).number (register thread.at b).number)
looks_keep o thread P k line = k.same

answer_keeps : (o : Op) (thread : Thread) (P : Thread → Type 0) → Stays o thread P → (line : ℕ) (s : Stage) (answer : Answer) → P (answer_at thread line o s answer)
answer_keeps o thread P k line stage.Before answer = before_keeps o thread P k line answer
answer_keeps o thread P k line (stage.Granted access) answer = granted_keeps o thread P k line access answer
answer_keeps o thread P k line (stage.Stored access) answer = reply_keeps P (done_reply answer) thread _ k.same (λ r. k.moves _ refl)
answer_keeps o thread P k line (stage.Found access found) answer = reads_keep o thread P k access found answer
answer_keeps o thread P k line (stage.Read access found pointer) answer = reply_keeps P (done_reply answer) thread _ k.same (λ r. compares_keep o thread P k access found pointer)
answer_keeps o thread P k line (stage.Matches access found pointer) answer = reply_keeps P (found_reply answer) thread _ k.same (λ there. replaces_keep o thread P k access found pointer there)
answer_keeps o thread P k line stage.NamedFirst answer = reply_keeps P (done_reply answer) thread _ k.same (λ r. looks_keep o thread P k line)
answer_keeps o thread P k line stage.Waits answer = k.same
answer_keeps o thread P k line (stage.Traps reason l) answer = reply_keeps P (done_reply answer) thread _ k.same (λ r. k.within _)
answer_keeps o thread P k line (stage.Over halt) answer = k.same

-- ---- by steps

enters_keep : (o : Op) (thread : Thread) (P : Thread → Type 0) → Stays o thread P → (line d f : ℕ) (arguments : List Value) (callee : Option PlainFunction) → P (enters thread line d f arguments callee)
enters_keep o thread P k line d f arguments None = k.within _
enters_keep o thread P k line d f arguments (Some callee) = k.moves _ refl

calls_keep : (code : PlainCode) (o : Op) (thread : Thread) (P : Thread → Type 0) → Stays o thread P → (line d f : ℕ) (arguments : List Value) → P (calls code thread line d f arguments)
calls_keep code o thread P k line d f arguments =
    zero_keeps P (at_stage thread (stage.Traps CallDepth line)) (enters thread line d f arguments (slice_get code.functions f)) (room thread.at)
    (k.within _) (enters_keep o thread P k line d f arguments (slice_get code.functions f))

kind_keeps : (code : PlainCode) (o : Op) (thread : Thread) (P : Thread → Type 0) → Stays o thread P → (line d kind f : ℕ) (arguments : List Value) (found : Option ℕ) → P (calls_kind code thread line d kind f arguments found)
kind_keeps code o thread P k line d kind f arguments None = k.within _
kind_keeps code o thread P k line d kind f arguments (Some n) =
    either_keeps P (calls code thread line d f arguments) (at_stage thread (stage.Traps FunctionType line)) (n == kind) (calls_keep code o thread P k line d f arguments) (k.within _)

half_keeps : (code : PlainCode) (o : Op) (thread : Thread) (P : Thread → Type 0) → Stays o thread P → (line d kind : ℕ) (arguments : List Value) (half : Half) → P (calls_half code thread line d kind arguments half)
half_keeps code o thread P k line d kind arguments (FunctionHalf f) = kind_keeps code o thread P k line d kind f arguments (slice_get (kinds_of code) f)
half_keeps code o thread P k line d kind arguments Nothing = k.within _
half_keeps code o thread P k line d kind arguments Freed = k.within _
half_keeps code o thread P k line d kind arguments (ObjectHalf n) = k.within _

return_keeps : (o : Op) (thread : Thread) (P : Thread → Type 0) → Stays o thread P → (callers : List Caller) (v : Value) → P (returns_to thread callers v)
return_keeps o thread P k [] v = k.same
return_keeps o thread P k (caller ∷ callers) v = k.moves _ refl

step_keeps : (code : PlainCode) (places : ℕ → ℕ) (o : Op) (thread : Thread) (P : Thread → Type 0) → Stays o thread P → (line : ℕ) → P (step_by code places thread line o)
step_keeps code places (op.Const d constant) thread P k line = k.moves _ refl
step_keeps code places (op.Move d a) thread P k line = k.moves _ refl
step_keeps code places (op.StaticAt d n) thread P k line = k.moves _ refl
step_keeps code places (op.FunctionAt d f) thread P k line = k.moves _ refl
step_keeps code places (op.Convert d a t) thread P k line = k.moves _ refl
step_keeps code places (op.Binary d a b c t) thread P k line = result_keeps (op.Binary d a b c t) thread P k line d (operator_result (operator_at c) (type_at t) (register thread.at a).number (register thread.at b).number)
step_keeps code places (op.PointerAdd d a b bytes) thread P k line = k.moves _ refl
step_keeps code places (op.ToPointer d a) thread P k line = k.moves _ refl
step_keeps code places (op.Jump target) thread P k line = k.moves _ refl
step_keeps code places (op.JumpZero a target) thread P k line = zero_keeps P (before thread (at_index thread.at target)) (goes_on thread) (register thread.at a).number (k.moves _ refl) (k.moves _ refl)
step_keeps code places (op.Free a) thread P k line = k.moves _ refl
step_keeps code places (op.Call d f first count) thread P k line = calls_keep code (op.Call d f first count) thread P k line d f (registers_from thread.at first count)
step_keeps code places (op.CallPointer d a first count kind) thread P k line = half_keeps code (op.CallPointer d a first count kind) thread P k line d kind (registers_from thread.at first count) (register thread.at a).half
step_keeps code places (op.Return a) thread P k line = return_keeps (op.Return a) thread P k thread.at.callers (register thread.at a)
step_keeps code places (op.Spawn d a b) thread P k line = k.within _
step_keeps code places (op.SelfId d) thread P k line = k.moves _ refl
step_keeps code places (op.Abort) thread P k line = k.within _
step_keeps code places o thread P k line = k.same

-- ---- by the instruction where it stands

abbrev StaysBy : Thread → (Thread → Type 0) → Option Instruction → Type 0
StaysBy thread P None = P thread
StaysBy thread P (Some i) = Stays i.op thread P

answer_by_keeps : (thread : Thread) (P : Thread → Type 0) (i : Option Instruction) → StaysBy thread P i → (answer : Answer) → P (answer_by thread i answer)
answer_by_keeps thread P None same answer = same
answer_by_keeps thread P (Some i) k answer = answer_keeps i.op thread P k (trap_line thread.at.frame i) (stage_of thread) answer

step_at_keeps : (code : PlainCode) (places : ℕ → ℕ) (thread : Thread) (P : Thread → Type 0) (i : Option Instruction) → StaysBy thread P i → P (step_at code places thread i)
step_at_keeps code places thread P None same = same
step_at_keeps code places thread P (Some i) k = step_keeps code places i.op thread P k (trap_line thread.at.frame i)

-- ---- a thread that began so

id_stays : (code : PlainCode) (start : Start) (thread : Thread) (i : Option Instruction) → IsThreadOf code start thread → StaysBy thread (IsThreadOf code start) i
id_stays code start thread None is = is
id_stays code start thread (Some i) is = record {
  same = is;
  within = λ s. record { id = is.id; main = is.main };
  moves = λ at none. record { id = is.id; main = is.main };
  rounds = λ made access. record { id = is.id; main = is.main };
}

pub threads_stay : ThreadsStay
threads_stay code places start thread answer is = (
  answer_by_keeps thread (IsThreadOf code start) (here code thread) (id_stays code start thread (here code thread) is) answer,
  step_at_keeps code places thread (IsThreadOf code start) (here code thread) (id_stays code start thread (here code thread) is),
  record { id = is.id; main = is.main },
)

-- ---- within an instruction

abbrev StandsAs : Thread → Thread → Type 0
StandsAs old new = IsWithin new.stage → new.at ≡ old.at

stands_by : (thread : Thread) (i : Option Instruction) → StaysBy thread (StandsAs thread) i
stands_by thread None = λ is. refl
stands_by thread (Some i) = record {
  same = λ is. refl;
  within = λ s is. refl;
  moves = λ at none is. absurd is;
  rounds = λ made access is. absurd is;
}

pub stands_within : StandsWithin
stands_within code places thread answer = (
  answer_by_keeps thread (StandsAs thread) (here code thread) (stands_by thread (here code thread)) answer,
  step_at_keeps code places thread (StandsAs thread) (here code thread) (stands_by thread (here code thread)),
)

-- ---- rounds

abbrev IsNone : Option Access → Type 0
IsNone None = Unit {0}
IsNone (Some access) = ⊥

no_round : {X : Type 0} (at : Standing) (access : Access) → at.granted ≡ None → at.granted ≡ Some access → X
no_round at access none some = absurd (subst IsNone (sym none ∙ some) tt)

rounds_stay_by : (code : PlainCode) (thread : Thread) (i : Option Instruction) → here code thread ≡ i → KeepsRounds code thread → StaysBy thread (KeepsRounds code) i
rounds_stay_by code thread None stands rounds = rounds
rounds_stay_by code thread (Some i) stands rounds = record {
  same = rounds;
  within = λ s. rounds;
  moves = λ at none access some. no_round at access none some;
  rounds = λ made granted access some. subst (λ (g : Option Instruction). IsSomeAnd g (λ (i : Instruction). IsMadeInRounds i.op)) (sym stands) made;
}

pub rounds_stay : RoundsStay
rounds_stay code places thread answer rounds = (
  answer_by_keeps thread (KeepsRounds code) (here code thread) (rounds_stay_by code thread (here code thread) refl rounds) answer,
  step_at_keeps code places thread (KeepsRounds code) (here code thread) (rounds_stay_by code thread (here code thread) refl rounds),
  λ access some. no_round (goes_on thread).at access refl some,
)
