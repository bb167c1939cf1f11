-- A thread of code as data, and what each call makes of it: one instruction on registers, or one answer, at a time.
--
-- An object's number is the place of its first word, so its address is `place_address`. Before an instruction, and at each
-- stage within one, the thread wants an event, a poll, or to carry the instruction out on its registers.
use Rattle.std.specs.Prelude.{ℕ, ◌+◌, ◌*◌, ◌%◌, ◌==◌, List, [], ◌∷◌, Bool, true, false, Option, Some, None, if◌then◌else◌, slice_get, Result, Ok, Err}
use Rattle.filc_num.specs.Integers.{bytes_of, convert_of}
use Rattle.filc_num.specs.declared.integer.ArithFault.{ArithFault}
use Rattle.filc_num.specs.declared.reason.Reason.{Reason}
use Rattle.filc_num.specs.declared.reason.Reason.TheVariants.{NotFunction, FunctionType, CallDepth, Abort}
use Rattle.whole_code.specs.declared.op.Op.{Op}
use Rattle.whole_code.specs.declared.op.Op.TheVariants as op
use Rattle.whole_code.specs.declared.op.Instruction.{Instruction}
use Rattle.whole_code.specs.Plain.{PlainFunction, PlainCode, instruction_at}
use Rattle.whole_code.specs.Numbers.{operator_at, type_at}
use Rattle.ideal_machine.specs.declared.value.Half.{Half}
use Rattle.ideal_machine.specs.declared.value.Half.TheVariants.{Function as FunctionHalf}
use Rattle.ideal_machine.specs.declared.value.Kept.TheVariants.{Plain as KeptPlain}
use Rattle.ideal_machine.specs.declared.value.Found.{Found}
use Rattle.ideal_machine.specs.declared.value.Found.TheVariants.{Plain as FoundPlain, Pair as FoundPair}
use Rattle.ideal_machine.specs.declared.value.Value.{Value}
use Rattle.ideal_machine.specs.declared.event.Access.{Access}
use Rattle.ideal_machine.specs.declared.event.Seen.TheVariants.{Any, Found as SeenFound}
use Rattle.ideal_machine.specs.declared.event.Event.TheVariants as event
use Rattle.ideal_machine.specs.Values.{integer}
use Rattle.ideal_machine.specs.Phrases.{operator_result, reason_of, if_zero}
use Rattle.ideal_machine.specs.Addresses.{object_pointer, function_pointer, pointer_of_int, advance}
use Rattle.ideal_machine.specs.PointerAccess.{word_of, pair_of}
use Rattle.ideal_machine.specs.Memory.{malloc_kind, home_kind}
use Rattle.ideal_machine.specs.Threads.{thread_kind}
use Rattle.whole_thread.specs.declared.stage.Want.{Want}
use Rattle.whole_thread.specs.declared.stage.Want.TheVariants as want
use Rattle.whole_thread.specs.declared.stage.Stage.{Stage}
use Rattle.whole_thread.specs.declared.stage.Stage.TheVariants as stage
use Rattle.whole_thread.specs.Standing.{Caller, Standing, room, first_registers, trap_line, register, registers_from, with_register, at_index, onward}
use Rattle.whole_thread.specs.Act.{operation_at, kinds_of, caller_at, entering, behind_call}

-- a thread: its id, whether its first function is `main`, where it stands, and the stage of the instruction there. Before
-- one more round of an instruction it stands at what its check has granted
pub record Thread : Type 0 where
  pub id : ℕ
  pub main : Bool
  pub at : Standing
  pub stage : Stage

-- where an object is, by the place of its first word
abbrev pub place_address : ℕ → ℕ
place_address place = 65536 + 8 * place

-- ---- what a thread wants

-- of a pointer, by its number
abbrev pub check_of : Value → (width : ℕ) → (write : Bool) → Want
check_of p width write = want.Event (event.Check p.half p.number width write)

abbrev pub name_of : Value → Want
name_of p = want.Event (event.Name p.half p.number)

-- nothing is asked for address 0
abbrev pub free_of : Value → Want
free_of p = if_zero p.number want.Instruction (want.Event (event.Void p.half p.number))

-- a thread is started where the function is one of its kind; else a step leads to the trap
abbrev pub spawn_by : Option ℕ → ℕ → Value → Want
spawn_by None f argument = want.Instruction
spawn_by (Some kind) f argument =
    if kind == thread_kind then want.Event (event.Spawn f argument.number argument.half) else want.Instruction

abbrev pub spawn_of : (kinds : List ℕ) → Half → Value → Want
spawn_of kinds (FunctionHalf f) argument = spawn_by (slice_get kinds f) f argument
spawn_of kinds half argument = want.Instruction

-- a return from a thread's first function is an event
abbrev pub leave_of : (main : Bool) → Value → Want
leave_of true v = want.Event (event.Exit (v.number % 256))
leave_of false v = want.Event (event.End v.number)

abbrev pub return_of : (main : Bool) → List Caller → Value → Want
return_of main [] v = leave_of main v
return_of main (caller ∷ callers) v = want.Instruction

-- before an instruction
abbrev pub want_before : PlainCode → Thread → Op → Want
want_before code thread op.Poll = want.Poll
want_before code thread (op.PointerSub d a b bytes) = name_of (register thread.at a)
want_before code thread (op.PointerCompare d a b o) = name_of (register thread.at a)
want_before code thread (op.ToInteger d a t) = name_of (register thread.at a)
want_before code thread (op.Home d bytes) = want.Event (event.New bytes home_kind)
want_before code thread (op.New d a) = want.Event (event.New (register thread.at a).number malloc_kind)
want_before code thread (op.Free a) = free_of (register thread.at a)
want_before code thread (op.Size d a) = want.Event (event.Size (register thread.at a).half (register thread.at a).number)
want_before code thread (op.LoadInt d p t) = check_of (register thread.at p) (bytes_of (type_at t)) false
want_before code thread (op.StoreInt p a t) = check_of (register thread.at p) (bytes_of (type_at t)) true
want_before code thread (op.RmwInt d p a o t u) = check_of (register thread.at p) (bytes_of (type_at t)) true
want_before code thread (op.CasInt d p e n t) = check_of (register thread.at p) (bytes_of (type_at t)) true
want_before code thread (op.Lock p) = check_of (register thread.at p) 4 true
want_before code thread (op.LoadPointer d p) = check_of (register thread.at p) 8 false
want_before code thread (op.StorePointer p a) = check_of (register thread.at p) 8 true
want_before code thread (op.BoxStore p a) = check_of (register thread.at p) 8 true
want_before code thread (op.BoxSwap d p a) = check_of (register thread.at p) 8 true
want_before code thread (op.BoxCas d w p e n) = check_of (register thread.at p) 8 true
want_before code thread (op.Return a) = return_of thread.main thread.at.callers (register thread.at a)
want_before code thread (op.Out a) = want.Event (event.Out ((register thread.at a).number % 256))
want_before code thread (op.Input d) = want.Event event.Input
want_before code thread (op.Spawn d a b) = spawn_of (kinds_of code) (register thread.at a).half (register thread.at b)
want_before code thread (op.Join d a) = want.Event (event.Join (register thread.at a).number)
want_before code thread (op.Exit a) = want.Event (event.Exit ((register thread.at a).number % 256))
want_before code thread op = want.Instruction

-- behind a granted check. A thread comes to a stage only by an instruction that has it; elsewhere it would wait
abbrev pub want_granted : Thread → Op → Access → Want
want_granted thread (op.LoadInt d p t) access = want.Event (event.GetInt access)
want_granted thread (op.StoreInt p a t) access = want.Event (event.SetInt access (register thread.at a).number)
want_granted thread (op.RmwInt d p a o t u) access =
    want.Event (event.RmwInt access (operation_at o t u) (register thread.at a).number)
want_granted thread (op.CasInt d p e n t) access =
    want.Event (event.CasInt access (register thread.at e).number (register thread.at n).number)
want_granted thread (op.Lock p) access = want.Event (event.Lock access.object access.offset)
want_granted thread (op.LoadPointer d p) access = want.Event (event.GetHalf access.object (word_of access))
want_granted thread (op.StorePointer p a) access = want.Event (event.SetInt access (register thread.at a).number)
want_granted thread (op.BoxStore p a) access =
    want.Event (event.SetHalf access.object (word_of access) (pair_of (register thread.at a)))
want_granted thread (op.BoxSwap d p a) access =
    want.Event (event.CasHalf access.object (word_of access) Any (pair_of (register thread.at a)))
want_granted thread (op.BoxCas d w p e n) access = want.Event (event.GetHalf access.object (word_of access))
want_granted thread op access = want.Stopped

-- the pointer of a half
abbrev pub want_pointer : Access → Found → Want
want_pointer access (FoundPlain half) = want.Event (event.GetInt access)
want_pointer access (FoundPair pair) = want.Event (event.Open pair)

abbrev pub want_found : Op → Access → Found → Want
want_found (op.LoadPointer d p) access found = want_pointer access found
want_found (op.BoxSwap d p a) access found = want_pointer access found
want_found (op.BoxCas d w p e n) access found = want_pointer access found
want_found op access found = want.Stopped

-- the half of a plain store
abbrev pub want_stored : Thread → Op → Access → Want
want_stored thread (op.StorePointer p a) access =
    want.Event (event.SetHalf access.object (word_of access) (KeptPlain (register thread.at a).half))
want_stored thread op access = want.Stopped

-- the expected pointer is named, and then replaced
abbrev pub want_read : Thread → Op → Want
want_read thread (op.BoxCas d w p e n) = name_of (register thread.at e)
want_read thread op = want.Stopped

abbrev pub want_matching : Thread → Op → Access → Found → Want
want_matching thread (op.BoxCas d w p e n) access found =
    want.Event (event.CasHalf access.object (word_of access) (SeenFound found) (pair_of (register thread.at n)))
want_matching thread op access found = want.Stopped

-- the second pointer is named
abbrev pub want_second : Thread → Op → Want
want_second thread (op.PointerSub d a b bytes) = name_of (register thread.at b)
want_second thread (op.PointerCompare d a b o) = name_of (register thread.at b)
want_second thread op = want.Stopped

abbrev pub want_at : PlainCode → Thread → Op → Stage → Want
want_at code thread op stage.Before = want_before code thread op
want_at code thread op (stage.Granted access) = want_granted thread op access
want_at code thread op (stage.Stored access) = want_stored thread op access
want_at code thread op (stage.Found access found) = want_found op access found
want_at code thread op (stage.Read access found pointer) = want_read thread op
want_at code thread op (stage.Matches access found pointer) = want_matching thread op access found
want_at code thread op stage.NamedFirst = want_second thread op
want_at code thread op stage.Waits = want.Stopped
want_at code thread op (stage.Traps reason line) = want.Event (event.Trap reason line)
want_at code thread op (stage.Over halt) = want.Stopped

-- one more round begins behind the check
abbrev pub stage_in_round : Option Access → Stage → Stage
stage_in_round (Some access) stage.Before = stage.Granted access
stage_in_round granted s = s

abbrev pub stage_of : Thread → Stage
stage_of thread = stage_in_round thread.at.granted thread.stage

-- well-formed code has an instruction wherever a thread comes
abbrev pub want_by : PlainCode → Thread → Option Instruction → Want
want_by code thread None = want.Stopped
want_by code thread (Some i) = want_at code thread i.op (stage_of thread)

abbrev pub here : PlainCode → Thread → Option Instruction
here code thread = instruction_at code thread.at.frame.function thread.at.frame.index

abbrev pub want_of : PlainCode → Thread → Want
want_of code thread = want_by code thread (here code thread)

-- ---- going on

-- at another stage of its instruction
abbrev pub at_stage : Thread → Stage → Thread
at_stage thread s = record thread { stage = s }

-- before another instruction
abbrev pub before : Thread → Standing → Thread
before thread standing = record thread { at = standing; stage = stage.Before }

abbrev pub goes_on : Thread → Thread
goes_on thread = before thread (onward thread.at)

abbrev pub gets : Thread → (d : ℕ) → Value → Thread
gets thread d v = before thread (onward (with_register thread.at d v))

-- what arithmetic gave, or its trap
abbrev pub gets_result : Thread → (line d : ℕ) → Result ℕ ArithFault → Thread
gets_result thread line d (Ok n) = gets thread d (integer n)
gets_result thread line d (Err fault) = at_stage thread (stage.Traps (reason_of fault) line)

-- ---- an instruction on registers; each static object has a place

abbrev pub enters : Thread → (line d function : ℕ) → List Value → Option PlainFunction → Thread
enters thread line d function arguments None = at_stage thread stage.Waits
enters thread line d function arguments (Some f) =
    before thread (entering (caller_at thread.at d ∷ thread.at.callers) function (Some line) (first_registers f arguments))

abbrev pub calls : PlainCode → Thread → (line d function : ℕ) → List Value → Thread
calls code thread line d function arguments =
    if_zero (room thread.at) (at_stage thread (stage.Traps CallDepth line)) (enters thread line d function arguments (slice_get code.functions function))

-- why a half names no function of a kind
abbrev pub function_fault : (kinds : List ℕ) → Half → Reason
function_fault kinds (FunctionHalf f) = FunctionType
function_fault kinds half = NotFunction

abbrev pub calls_kind : PlainCode → Thread → (line d kind function : ℕ) → List Value → Option ℕ → Thread
calls_kind code thread line d kind function arguments None = at_stage thread (stage.Traps FunctionType line)
calls_kind code thread line d kind function arguments (Some k) =
    if k == kind then calls code thread line d function arguments else at_stage thread (stage.Traps FunctionType line)

abbrev pub calls_half : PlainCode → Thread → (line d kind : ℕ) → List Value → Half → Thread
calls_half code thread line d kind arguments (FunctionHalf f) = calls_kind code thread line d kind f arguments (slice_get (kinds_of code) f)
calls_half code thread line d kind arguments half = at_stage thread (stage.Traps NotFunction line)

abbrev pub returns_to : Thread → List Caller → Value → Thread
returns_to thread [] v = thread
returns_to thread (caller ∷ callers) v = before thread (behind_call caller callers v)

abbrev pub step_by : PlainCode → (places : ℕ → ℕ) → Thread → (line : ℕ) → Op → Thread
step_by code places thread line (op.Const d constant) = gets thread d (integer constant)
step_by code places thread line (op.Move d a) = gets thread d (register thread.at a)
step_by code places thread line (op.StaticAt d n) = gets thread d (object_pointer place_address (places n))
step_by code places thread line (op.FunctionAt d f) = gets thread d (function_pointer f)
step_by code places thread line (op.Convert d a t) = gets thread d (integer (convert_of (register thread.at a).number (type_at t)))
step_by code places thread line (op.Binary d a b o t) =
    gets_result thread line d (operator_result (operator_at o) (type_at t) (register thread.at a).number (register thread.at b).number)
step_by code places thread line (op.PointerAdd d a b bytes) =
    gets thread d (advance (register thread.at a) ((register thread.at b).number * bytes))
step_by code places thread line (op.ToPointer d a) = gets thread d (pointer_of_int (register thread.at a))
step_by code places thread line (op.Jump target) = before thread (at_index thread.at target)
step_by code places thread line (op.JumpZero a target) =
    if_zero (register thread.at a).number (before thread (at_index thread.at target)) (goes_on thread)
step_by code places thread line (op.Free a) = goes_on thread
step_by code places thread line (op.Call d f first count) = calls code thread line d f (registers_from thread.at first count)
step_by code places thread line (op.CallPointer d a first count kind) =
    calls_half code thread line d kind (registers_from thread.at first count) (register thread.at a).half
step_by code places thread line (op.Return a) = returns_to thread thread.at.callers (register thread.at a)
step_by code places thread line (op.Spawn d a b) =
    at_stage thread (stage.Traps (function_fault (kinds_of code) (register thread.at a).half) line)
step_by code places thread line (op.SelfId d) = gets thread d (integer thread.id)
step_by code places thread line op.Abort = at_stage thread (stage.Traps Abort line)
step_by code places thread line op = thread

abbrev pub step_at : PlainCode → (places : ℕ → ℕ) → Thread → Option Instruction → Thread
step_at code places thread None = thread
step_at code places thread (Some i) = step_by code places thread (trap_line thread.at.frame i) i.op

-- a thread that wants to carry out an instruction, after it
abbrev pub thread_after_step : PlainCode → (places : ℕ → ℕ) → Thread → Thread
thread_after_step code places thread = step_at code places thread (here code thread)

-- a thread that wants to go on after a poll
abbrev pub thread_after_poll : Thread → Thread
thread_after_poll thread = goes_on thread

-- ---- the beginning

abbrev pub begins_at : PlainCode → (id function : ℕ) → Value → Option PlainFunction → Thread → Thread
begins_at code id function argument None thread = thread
begins_at code id function argument (Some f) thread = record {
  id = id;
  main = function == code.main;
  at = entering [] function None (first_registers f (argument ∷ []));
  stage = stage.Before;
}

abbrev pub thread_after_begin : PlainCode → (id function : ℕ) → Value → Thread → Thread
thread_after_begin code id function argument thread =
    begins_at code id function argument (slice_get code.functions function) thread
