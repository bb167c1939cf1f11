-- A thread follows the play of its code from instruction to instruction.
use Rattle.std.proofs.Common.{◌≡◌, ◌==◌, ℕ, zero, suc, List, [], ◌∷◌, slice_get, Bool, true, false, Option, Some, None, refl, sym, ap, subst}
use Rattle.std.specs.Prelude.{if◌then◌else◌, Result, Ok, Err}
use Rattle.filc_num.specs.declared.integer.ArithFault.{ArithFault}
use Rattle.filc_num.specs.declared.reason.Reason.TheVariants.{CallDepth, FunctionType}
use Rattle.whole_code.specs.declared.op.Op.{Op}
use Rattle.whole_code.specs.declared.op.Op.TheVariants as op
use Rattle.whole_code.specs.declared.op.Instruction.{Instruction}
use Rattle.whole_code.specs.Plain.{PlainFunction, PlainCode}
use Rattle.whole_code.specs.Numbers.{operator_at, type_at}
use Rattle.ideal_machine.specs.declared.value.Half.{Half}
use Rattle.ideal_machine.specs.declared.value.Half.TheVariants.{Nothing, Freed, Object as ObjectHalf, Function as FunctionHalf}
use Rattle.ideal_machine.specs.declared.value.Value.{Value}
use Rattle.ideal_machine.specs.declared.event.Event.{Event}
use Rattle.ideal_machine.specs.declared.event.Event.TheVariants.{Void, Spawn}
use Rattle.ideal_machine.specs.Values.{integer}
use Rattle.ideal_machine.specs.Queries.{Makes}
use Rattle.ideal_machine.specs.Play.{Gives, Asks, Call, bind}
use Rattle.ideal_machine.specs.Phrases.{Start, Phrase, arithmetic_result, operator_result, unless_refused, trap, if_zero}
use Rattle.ideal_machine.specs.Retries.{ask}
use Rattle.ideal_machine.specs.Threads.{function_of_half, if_kind, thread_kind, number_or, minus_one}
use Rattle.whole_thread.specs.declared.stage.Want.{Want}
use Rattle.whole_thread.specs.declared.stage.Want.TheVariants as want
use Rattle.whole_thread.specs.declared.stage.Stage.TheVariants as stage
use Rattle.whole_thread.specs.Standing.{Caller, room, register, registers_from, trap_line, onward, at_index}
use Rattle.whole_thread.specs.Act.{sets, gives, does, jumps, kinds_of, returns, calls as call_play, enters as enter_play}
use Rattle.whole_thread.specs.CodePlay.{exec}
use Rattle.whole_thread.specs.Thread.{Thread, spawn_by, spawn_of, return_of, at_stage, before, goes_on, gets_result, enters, calls, calls_kind, calls_half, returns_to, function_fault, want_at, step_by}
use Rattle.whole_thread.specs.PlaysOn.{by_place, stage_play, plays_on, jump_play, kind_play, half_play, step_play}

abbrev NoStep : Want → Type 0
NoStep want.Instruction = ⊥
NoStep (want.Event event) = Unit {0}
NoStep want.Poll = Unit {0}
NoStep want.Stopped = Unit {0}

no_step : {P : Type 0} (event : Event) → want.Event event ≡ want.Instruction → P
no_step event same = absurd (subst NoStep same tt)

abbrev made : (line : ℕ) → (library : Bool) → Op → Instruction
made line library o = record { line = line; library = library; op = o }

abbrev function_if : Bool → (function line : ℕ) → Phrase ℕ
function_if is_kind f line = if is_kind then Gives tt f else trap FunctionType line

abbrev nothing : Phrase (Unit {0})
nothing = Gives tt tt

result_goes :
    (o : Op) (d line : ℕ) (code : PlainCode) (places : ℕ → ℕ) (start : Start) (m l : ℕ) (library : Bool) (thread : Thread) (result : Result ℕ ArithFault) →
    bind (arithmetic_result result line) (λ _ v. sets (exec code (by_place places start) m) thread.at d v) ≡ plays_on code (by_place places start) m (made l library o) (gets_result thread line d result)
result_goes o d line code places start m l library thread (Ok n) = refl
result_goes o d line code places start m l library thread (Err fault) = refl

zero_goes :
    (o : Op) (target : ℕ) (code : PlainCode) (places : ℕ → ℕ) (start : Start) (m l : ℕ) (library : Bool) (thread : Thread) (n : ℕ) →
    if_zero n (jumps (exec code (by_place places start) m) thread.at target) ((exec code (by_place places start) m) (onward thread.at))
    ≡ if_zero n (jump_play thread target (plays_on code (by_place places start) m (made l library o) (if_zero n (before thread (at_index thread.at target)) (goes_on thread))))
    (plays_on code (by_place places start) m (made l library o) (if_zero n (before thread (at_index thread.at target)) (goes_on thread)))
zero_goes o target code places start m l library thread zero = refl
zero_goes o target code places start m l library thread (suc n) = refl

free_goes :
    (o : Op) (line : ℕ) (code : PlainCode) (places : ℕ → ℕ) (start : Start) (m l : ℕ) (library : Bool) (thread : Thread) (half : Half) (n : ℕ) → if_zero n want.Instruction (want.Event (Void half n)) ≡ want.Instruction →
    does (exec code (by_place places start) m) thread.at (if_zero n nothing (Asks (Makes (Void half n)) (unless_refused line nothing))) ≡ plays_on code (by_place places start) m (made l library o) (goes_on thread)
free_goes o line code places start m l library thread half zero wish = refl
free_goes o line code places start m l library thread half (suc n) wish = no_step _ wish

enter_goes :
    (o : Op) (line d f : ℕ) (arguments : List Value) (code : PlainCode) (places : ℕ → ℕ) (start : Start) (m l : ℕ) (library : Bool) (thread : Thread) (callee : Option PlainFunction) →
    enter_play (exec code (by_place places start) m) thread.at line d f arguments callee ≡ plays_on code (by_place places start) m (made l library o) (enters thread line d f arguments callee)
enter_goes o line d f arguments code places start m l library thread None = refl
enter_goes o line d f arguments code places start m l library thread (Some callee) = refl

room_goes :
    (o : Op) (line d f : ℕ) (arguments : List Value) (code : PlainCode) (places : ℕ → ℕ) (start : Start) (m l : ℕ) (library : Bool) (thread : Thread) (n : ℕ) →
    if_zero n (trap CallDepth line) (enter_play (exec code (by_place places start) m) thread.at line d f arguments (slice_get code.functions f))
    ≡ plays_on code (by_place places start) m (made l library o) (if_zero n (at_stage thread (stage.Traps CallDepth line)) (enters thread line d f arguments (slice_get code.functions f)))
room_goes o line d f arguments code places start m l library thread zero = refl
room_goes o line d f arguments code places start m l library thread (suc n) = enter_goes o line d f arguments code places start m l library thread (slice_get code.functions f)

call_goes :
    (o : Op) (line d f : ℕ) (arguments : List Value) (code : PlainCode) (places : ℕ → ℕ) (start : Start) (m l : ℕ) (library : Bool) (thread : Thread) →
    call_play code (exec code (by_place places start) m) thread.at line d f arguments ≡ Call (plays_on code (by_place places start) m (made l library o) (calls code thread line d f arguments))
call_goes o line d f arguments code places start m l library thread = ap (λ (play : Phrase ℕ). Call play) (room_goes o line d f arguments code places start m l library thread (room thread.at))

same_kind_goes :
    (o : Op) (line d f : ℕ) (arguments : List Value) (code : PlainCode) (places : ℕ → ℕ) (start : Start) (m l : ℕ) (library : Bool) (thread : Thread) (same : Bool) →
    bind (function_if same f line) (λ _ f. call_play code (exec code (by_place places start) m) thread.at line d f arguments)
    ≡ (if same then Call (plays_on code (by_place places start) m (made l library o) (if same then calls code thread line d f arguments else at_stage thread (stage.Traps FunctionType line)))
    else plays_on code (by_place places start) m (made l library o) (if same then calls code thread line d f arguments else at_stage thread (stage.Traps FunctionType line)))
same_kind_goes o line d f arguments code places start m l library thread true = call_goes o line d f arguments code places start m l library thread
same_kind_goes o line d f arguments code places start m l library thread false = refl

kind_goes :
    (o : Op) (line d kind f : ℕ) (arguments : List Value) (code : PlainCode) (places : ℕ → ℕ) (start : Start) (m l : ℕ) (library : Bool) (thread : Thread) (found : Option ℕ) →
    bind (if_kind kind f line found) (λ _ f. call_play code (exec code (by_place places start) m) thread.at line d f arguments)
    ≡ kind_play kind found (plays_on code (by_place places start) m (made l library o) (calls_kind code thread line d kind f arguments found))
kind_goes o line d kind f arguments code places start m l library thread None = refl
kind_goes o line d kind f arguments code places start m l library thread (Some k) = same_kind_goes o line d f arguments code places start m l library thread (k == kind)

half_goes :
    (o : Op) (line d kind : ℕ) (arguments : List Value) (code : PlainCode) (places : ℕ → ℕ) (start : Start) (m l : ℕ) (library : Bool) (thread : Thread) (half : Half) →
    bind (function_of_half (kinds_of code) kind line half) (λ _ f. call_play code (exec code (by_place places start) m) thread.at line d f arguments)
    ≡ half_play (kinds_of code) kind half (plays_on code (by_place places start) m (made l library o) (calls_half code thread line d kind arguments half))
half_goes o line d kind arguments code places start m l library thread (FunctionHalf f) = kind_goes o line d kind f arguments code places start m l library thread (slice_get (kinds_of code) f)
half_goes o line d kind arguments code places start m l library thread Nothing = refl
half_goes o line d kind arguments code places start m l library thread Freed = refl
half_goes o line d kind arguments code places start m l library thread (ObjectHalf n) = refl

return_goes :
    (o : Op) (v : Value) (code : PlainCode) (places : ℕ → ℕ) (start : Start) (m l : ℕ) (library : Bool) (thread : Thread) (main : Bool) (callers : List Caller) → return_of thread.main callers v ≡ want.Instruction →
    returns main (exec code (by_place places start) m) callers v ≡ plays_on code (by_place places start) m (made l library o) (returns_to thread callers v)
return_goes o v code places start m l library thread main [] wish = leaves thread.main wish
  where
    leaves : (b : Bool) → return_of b [] v ≡ want.Instruction → returns main (exec code (by_place places start) m) [] v ≡ plays_on code (by_place places start) m (made l library o) (returns_to thread [] v)
    leaves true wish = no_step _ wish
    leaves false wish = no_step _ wish
return_goes o v code places start m l library thread main (caller ∷ callers) wish = refl

spawn_kind_goes :
    (o : Op) (d f line : ℕ) (argument : Value) (code : PlainCode) (places : ℕ → ℕ) (start : Start) (m l : ℕ) (library : Bool) (thread : Thread) (same : Bool) →
    (if same then want.Event (Spawn f argument.number argument.half) else want.Instruction) ≡ want.Instruction →
    gives (exec code (by_place places start) m) thread.at d (bind (function_if same f line) (λ _ f. bind (ask (Spawn f argument.number argument.half)) (λ _ id. Gives tt (number_or minus_one id))))
    ≡ plays_on code (by_place places start) m (made l library o) (at_stage thread (stage.Traps FunctionType line))
spawn_kind_goes o d f line argument code places start m l library thread true wish = no_step _ wish
spawn_kind_goes o d f line argument code places start m l library thread false wish = refl

spawn_option_goes :
    (o : Op) (d f line : ℕ) (argument : Value) (code : PlainCode) (places : ℕ → ℕ) (start : Start) (m l : ℕ) (library : Bool) (thread : Thread) (found : Option ℕ) → spawn_by found f argument ≡ want.Instruction →
    gives (exec code (by_place places start) m) thread.at d (bind (if_kind thread_kind f line found) (λ _ f. bind (ask (Spawn f argument.number argument.half)) (λ _ id. Gives tt (number_or minus_one id))))
    ≡ plays_on code (by_place places start) m (made l library o) (at_stage thread (stage.Traps FunctionType line))
spawn_option_goes o d f line argument code places start m l library thread None wish = refl
spawn_option_goes o d f line argument code places start m l library thread (Some k) wish = spawn_kind_goes o d f line argument code places start m l library thread (k == thread_kind) wish

spawn_goes :
    (o : Op) (d line : ℕ) (argument : Value) (code : PlainCode) (places : ℕ → ℕ) (start : Start) (m l : ℕ) (library : Bool) (thread : Thread) (half : Half) → spawn_of (kinds_of code) half argument ≡ want.Instruction →
    gives (exec code (by_place places start) m) thread.at d (bind (function_of_half (kinds_of code) thread_kind line half) (λ _ f. bind (ask (Spawn f argument.number argument.half)) (λ _ id. Gives tt (number_or minus_one id))))
    ≡ plays_on code (by_place places start) m (made l library o) (at_stage thread (stage.Traps (function_fault (kinds_of code) half) line))
spawn_goes o d line argument code places start m l library thread (FunctionHalf f) wish = spawn_option_goes o d f line argument code places start m l library thread (slice_get (kinds_of code) f) wish
spawn_goes o d line argument code places start m l library thread Nothing wish = refl
spawn_goes o d line argument code places start m l library thread Freed wish = refl
spawn_goes o d line argument code places start m l library thread (ObjectHalf n) wish = refl

abbrev pub StepsOp : Op → Type 0
StepsOp o =
    (code : PlainCode) (places : ℕ → ℕ) (start : Start) (m l : ℕ) (library : Bool) (thread : Thread) → thread.id ≡ start.id → thread.main ≡ (start.function == code.main) → want_at code thread o stage.Before ≡ want.Instruction →
    stage_play code (by_place places start) (exec code (by_place places start) m) thread.at (trap_line thread.at.frame (made l library o)) o stage.Before
    ≡ step_play code thread o (plays_on code (by_place places start) m (made l library o) (step_by code places thread (trap_line thread.at.frame (made l library o)) o))

pub step_op : (o : Op) → StepsOp o
step_op (op.Const d constant) code places start m l library thread id main wish = refl
step_op (op.Move d a) code places start m l library thread id main wish = refl
step_op (op.StaticAt d n) code places start m l library thread id main wish = refl
step_op (op.FunctionAt d f) code places start m l library thread id main wish = refl
step_op (op.Convert d a t) code places start m l library thread id main wish = refl
step_op (op.PointerAdd d a b bytes) code places start m l library thread id main wish = refl
step_op (op.ToPointer d a) code places start m l library thread id main wish = refl
step_op (op.Jump target) code places start m l library thread id main wish = refl
step_op (op.Abort) code places start m l library thread id main wish = refl
step_op (op.Binary d a b o t) code places start m l library thread id main wish = result_goes (op.Binary d a b o t) d (trap_line thread.at.frame (made l library (op.Binary d a b o t))) code places start m l library thread (operator_result (operator_at o) (type_at t) (register thread.at a).number (register thread.at b).number)
step_op (op.JumpZero a target) code places start m l library thread id main wish = zero_goes (op.JumpZero a target) target code places start m l library thread (register thread.at a).number
step_op (op.Free a) code places start m l library thread id main wish = free_goes (op.Free a) (trap_line thread.at.frame (made l library (op.Free a))) code places start m l library thread (register thread.at a).half (register thread.at a).number wish
step_op (op.Call d f first count) code places start m l library thread id main wish = call_goes (op.Call d f first count) (trap_line thread.at.frame (made l library (op.Call d f first count))) d f (registers_from thread.at first count) code places start m l library thread
step_op (op.CallPointer d a first count kind) code places start m l library thread id main wish = half_goes (op.CallPointer d a first count kind) (trap_line thread.at.frame (made l library (op.CallPointer d a first count kind))) d kind (registers_from thread.at first count) code places start m l library thread (register thread.at a).half
step_op (op.Return a) code places start m l library thread id main wish = return_goes (op.Return a) (register thread.at a) code places start m l library thread (start.function == code.main) thread.at.callers wish
step_op (op.Spawn d a b) code places start m l library thread id main wish = spawn_goes (op.Spawn d a b) d (trap_line thread.at.frame (made l library (op.Spawn d a b))) (register thread.at b) code places start m l library thread (register thread.at a).half wish
step_op (op.SelfId d) code places start m l library thread id main wish = ap (λ (n : ℕ). sets (exec code (by_place places start) m) thread.at d (integer n)) (sym id)
step_op op.Poll code places start m l library thread id main wish = absurd (subst NoStep wish tt)
step_op (op.PointerSub d a b bytes) code places start m l library thread id main wish = no_step _ wish
step_op (op.PointerCompare d a b o) code places start m l library thread id main wish = no_step _ wish
step_op (op.ToInteger d a t) code places start m l library thread id main wish = no_step _ wish
step_op (op.Home d bytes) code places start m l library thread id main wish = no_step _ wish
step_op (op.New d a) code places start m l library thread id main wish = no_step _ wish
step_op (op.Size d a) code places start m l library thread id main wish = no_step _ wish
step_op (op.LoadInt d p t) code places start m l library thread id main wish = no_step _ wish
step_op (op.StoreInt p a t) code places start m l library thread id main wish = no_step _ wish
step_op (op.RmwInt d p a o t u) code places start m l library thread id main wish = no_step _ wish
step_op (op.CasInt d p e n t) code places start m l library thread id main wish = no_step _ wish
step_op (op.Lock p) code places start m l library thread id main wish = no_step _ wish
step_op (op.LoadPointer d p) code places start m l library thread id main wish = no_step _ wish
step_op (op.StorePointer p a) code places start m l library thread id main wish = no_step _ wish
step_op (op.BoxStore p a) code places start m l library thread id main wish = no_step _ wish
step_op (op.BoxSwap d p a) code places start m l library thread id main wish = no_step _ wish
step_op (op.BoxCas d w p e n) code places start m l library thread id main wish = no_step _ wish
step_op (op.Out a) code places start m l library thread id main wish = no_step _ wish
step_op (op.Input d) code places start m l library thread id main wish = no_step _ wish
step_op (op.Join d a) code places start m l library thread id main wish = no_step _ wish
step_op (op.Exit a) code places start m l library thread id main wish = no_step _ wish
