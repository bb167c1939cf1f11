-- What a thread asks by the event that it wants is what its play asks there.
use Rattle.std.proofs.Common.{◌≡◌, ◌==◌, ◌%◌, ℕ, zero, suc, List, [], ◌∷◌, slice_get, Bool, true, false, Option, Some, None, refl, sym, ap, ◌∙◌, subst}
use Rattle.std.specs.Prelude.{if◌then◌else◌}
use Rattle.filc_num.specs.declared.reason.Reason.TheVariants.{FunctionType}
use Rattle.whole_code.specs.declared.op.Op.{Op}
use Rattle.whole_code.specs.declared.op.Op.TheVariants as op
use Rattle.whole_code.specs.declared.op.Instruction.{Instruction}
use Rattle.whole_code.specs.Plain.{PlainCode}
use Rattle.ideal_machine.specs.declared.value.Found.{Found}
use Rattle.ideal_machine.specs.declared.value.Found.TheVariants.{Plain as FoundPlain, Pair as FoundPair}
use Rattle.ideal_machine.specs.declared.value.Half.{Half}
use Rattle.ideal_machine.specs.declared.value.Half.TheVariants.{Nothing, Freed, Object as ObjectHalf, Function as FunctionHalf}
use Rattle.ideal_machine.specs.declared.value.Value.{Value}
use Rattle.ideal_machine.specs.declared.event.Access.{Access}
use Rattle.ideal_machine.specs.declared.event.Event.{Event}
use Rattle.ideal_machine.specs.declared.event.Event.TheVariants.{Void, Spawn}
use Rattle.ideal_machine.specs.Queries.{Query, Makes}
use Rattle.ideal_machine.specs.Play.{Gives, Stops, Asks, Jump, Call, bind}
use Rattle.ideal_machine.specs.Phrases.{Start, Phrase, trap, unless_refused, if_zero}
use Rattle.ideal_machine.specs.Retries.{ask}
use Rattle.ideal_machine.specs.IntAccess.{check_access}
use Rattle.ideal_machine.specs.PointerAccess.{check_store}
use Rattle.ideal_machine.specs.Threads.{number_or, minus_one, thread_kind, if_kind, function_of_half}
use Rattle.whole_thread.specs.declared.stage.Want.{Want}
use Rattle.whole_thread.specs.declared.stage.Want.TheVariants as want
use Rattle.whole_thread.specs.declared.stage.Stage.{Stage}
use Rattle.whole_thread.specs.declared.stage.Stage.TheVariants as stage
use Rattle.whole_thread.specs.Standing.{Caller, Standing, register, trap_line}
use Rattle.whole_thread.specs.Act.{CodeStart, Next, gives, does, locks, exchanges, returns, kinds_of}
use Rattle.whole_thread.specs.CodePlay.{exec}
use Rattle.whole_thread.specs.Thread.{Thread, spawn_by, spawn_of, return_of, want_at, want_by, want_of, stage_in_round, stage_of, here}
use Rattle.whole_thread.specs.PlaysOn.{by_place, stage_play, rest_play, IsThreadOf, IsWithin}
use Rattle.thread_runs.specs.Run.{query_at, query_by, query_of}

-- ---- what a play asks first

-- and where it asks nothing, this event
abbrev pub asks_first : Event → Phrase ℕ → Query
asks_first event (Gives state value) = Makes event
asks_first event (Stops stop) = Makes event
asks_first event (Asks query next) = query
asks_first event (Jump next) = Makes event
asks_first event (Call next) = Makes event

abbrev event_or : Event → Want → Event
event_or other (want.Event event) = event
event_or other want.Instruction = other
event_or other want.Poll = other
event_or other want.Stopped = other

abbrev NoEvent : Want → Type 0
NoEvent (want.Event event) = ⊥
NoEvent want.Instruction = Unit {0}
NoEvent want.Poll = Unit {0}
NoEvent want.Stopped = Unit {0}

-- an event alone
makes : (made event : Event) → want.Event made ≡ want.Event event → Makes made ≡ Makes event
makes made event wish = ap (λ (w : Want). Makes (event_or made w)) wish

-- no event is wanted
steps : {P : Type 0} (event : Event) → want.Instruction ≡ want.Event event → P
steps event wish = absurd (subst NoEvent wish tt)

stopped : {P : Type 0} (event : Event) → want.Stopped ≡ want.Event event → P
stopped event wish = absurd (subst NoEvent wish tt)

-- ---- before an instruction: choices

abbrev nothing : Phrase (Unit {0})
nothing = Gives tt tt

free_asks :
    (next : Next) (at : Standing) (line : ℕ) (event : Event) (half : Half) (n : ℕ) → if_zero n want.Instruction (want.Event (Void half n)) ≡ want.Event event →
    asks_first event (does next at (if_zero n nothing (Asks (Makes (Void half n)) (unless_refused line nothing)))) ≡ Makes event
free_asks next at line event half zero wish = steps event wish
free_asks next at line event half (suc n) wish = makes (Void half (suc n)) event wish

abbrev function_if : Bool → (function line : ℕ) → Phrase ℕ
function_if is_kind f line = if is_kind then Gives tt f else trap FunctionType line

-- a thread is started, and d becomes its id
abbrev starts : Next → Standing → (d : ℕ) → Value → Phrase ℕ → Phrase ℕ
starts next at d argument function =
    gives next at d (bind function (λ _ f. bind (ask (Spawn f argument.number argument.half)) (λ _ id. Gives tt (number_or minus_one id))))

spawn_kind :
    (next : Next) (at : Standing) (line d f : ℕ) (argument : Value) (event : Event) (is_kind : Bool) →
    (if is_kind then want.Event (Spawn f argument.number argument.half) else want.Instruction) ≡ want.Event event →
    asks_first event (starts next at d argument (function_if is_kind f line)) ≡ Makes event
spawn_kind next at line d f argument event true wish = makes (Spawn f argument.number argument.half) event wish
spawn_kind next at line d f argument event false wish = steps event wish

spawn_option :
    (next : Next) (at : Standing) (line d f : ℕ) (argument : Value) (event : Event) (kind : Option ℕ) → spawn_by kind f argument ≡ want.Event event →
    asks_first event (starts next at d argument (if_kind thread_kind f line kind)) ≡ Makes event
spawn_option next at line d f argument event None wish = steps event wish
spawn_option next at line d f argument event (Some kind) wish = spawn_kind next at line d f argument event (kind == thread_kind) wish

spawn_asks :
    (kinds : List ℕ) (next : Next) (at : Standing) (line d : ℕ) (argument : Value) (event : Event) (half : Half) → spawn_of kinds half argument ≡ want.Event event →
    asks_first event (starts next at d argument (function_of_half kinds thread_kind line half)) ≡ Makes event
spawn_asks kinds next at line d argument event (FunctionHalf f) wish = spawn_option next at line d f argument event (slice_get kinds f) wish
spawn_asks kinds next at line d argument event Nothing wish = steps event wish
spawn_asks kinds next at line d argument event Freed wish = steps event wish
spawn_asks kinds next at line d argument event (ObjectHalf n) wish = steps event wish

return_asks :
    (next : Next) (v : Value) (event : Event) (main : Bool) (callers : List Caller) → return_of main callers v ≡ want.Event event →
    asks_first event (returns main next callers v) ≡ Makes event
return_asks next v event true [] wish = makes _ event wish
return_asks next v event false [] wish = makes _ event wish
return_asks next v event main (caller ∷ callers) wish = steps event wish

-- ---- before an instruction

abbrev AsksBefore : Op → Type 0
AsksBefore o =
    (code : PlainCode) (start : CodeStart) (next : Next) (thread : Thread) (line : ℕ) (event : Event) →
    thread.at.granted ≡ None → thread.main ≡ (start.function == code.main) → want_at code thread o stage.Before ≡ want.Event event →
    asks_first event (stage_play code start next thread.at line o stage.Before) ≡ query_at thread o stage.Before event

asks_before : (o : Op) → AsksBefore o
asks_before (op.PointerSub d a b bytes) code start next thread line event none main wish = makes _ event wish
asks_before (op.PointerCompare d a b o) code start next thread line event none main wish = makes _ event wish
asks_before (op.ToInteger d a t) code start next thread line event none main wish = makes _ event wish
asks_before (op.Home d bytes) code start next thread line event none main wish = makes _ event wish
asks_before (op.New d a) code start next thread line event none main wish = makes _ event wish
asks_before (op.Free a) code start next thread line event none main wish =
    free_asks next thread.at line event (register thread.at a).half (register thread.at a).number wish
asks_before (op.Size d a) code start next thread line event none main wish = makes _ event wish
asks_before (op.LoadInt d p t) code start next thread line event none main wish = makes _ event wish
asks_before (op.StoreInt p a t) code start next thread line event none main wish = makes _ event wish
asks_before (op.RmwInt d p a o t u) code start next thread line event none main wish = makes _ event wish
asks_before (op.CasInt d p e n t) code start next thread line event none main wish = makes _ event wish
asks_before (op.Lock p) code start next thread line event none main wish =
    subst (λ (g : Option Access). asks_first event (stage_play code start next (record thread.at { granted = g }) line (op.Lock p) stage.Before) ≡ Makes event) (sym none) (makes _ event wish)
asks_before (op.LoadPointer d p) code start next thread line event none main wish = makes _ event wish
asks_before (op.StorePointer p a) code start next thread line event none main wish = refl
asks_before (op.BoxStore p a) code start next thread line event none main wish = refl
asks_before (op.BoxSwap d p a) code start next thread line event none main wish = refl
asks_before (op.BoxCas d w p e n) code start next thread line event none main wish =
    subst (λ (g : Option Access). asks_first event (stage_play code start next (record thread.at { granted = g }) line (op.BoxCas d w p e n) stage.Before) ≡ query_at thread (op.BoxCas d w p e n) stage.Before event) (sym none) refl
asks_before (op.Return a) code start next thread line event none main wish =
    subst (λ (b : Bool). asks_first event (returns b next thread.at.callers (register thread.at a)) ≡ Makes event) main
    (return_asks next (register thread.at a) event thread.main thread.at.callers wish)
asks_before (op.Out a) code start next thread line event none main wish = makes _ event wish
asks_before (op.Input d) code start next thread line event none main wish = makes _ event wish
asks_before (op.Spawn d a b) code start next thread line event none main wish =
    spawn_asks (kinds_of code) next thread.at line d (register thread.at b) event (register thread.at a).half wish
asks_before (op.Join d a) code start next thread line event none main wish = makes _ event wish
asks_before (op.Exit a) code start next thread line event none main wish = makes _ event wish
asks_before op.Poll code start next thread line event none main wish = absurd (subst NoEvent wish tt)
asks_before o code start next thread line event none main wish = steps event wish

-- ---- within an instruction

abbrev AsksAt : Stage → Op → Type 0
AsksAt s o =
    (code : PlainCode) (start : CodeStart) (next : Next) (thread : Thread) (line : ℕ) (event : Event) →
    want_at code thread o s ≡ want.Event event → asks_first event (stage_play code start next thread.at line o s) ≡ query_at thread o s event

asks_granted : (access : Access) (o : Op) → AsksAt (stage.Granted access) o
asks_granted access (op.LoadInt d p t) code start next thread line event wish = makes _ event wish
asks_granted access (op.StoreInt p a t) code start next thread line event wish = makes _ event wish
asks_granted access (op.RmwInt d p a o t u) code start next thread line event wish = makes _ event wish
asks_granted access (op.CasInt d p e n t) code start next thread line event wish = makes _ event wish
asks_granted access (op.Lock p) code start next thread line event wish = refl
asks_granted access (op.LoadPointer d p) code start next thread line event wish = makes _ event wish
asks_granted access (op.StorePointer p a) code start next thread line event wish = makes _ event wish
asks_granted access (op.BoxStore p a) code start next thread line event wish = makes _ event wish
asks_granted access (op.BoxSwap d p a) code start next thread line event wish = makes _ event wish
asks_granted access (op.BoxCas d w p e n) code start next thread line event wish = makes _ event wish
asks_granted access o code start next thread line event wish = stopped event wish

asks_stored : (access : Access) (o : Op) → AsksAt (stage.Stored access) o
asks_stored access (op.StorePointer p a) code start next thread line event wish = makes _ event wish
asks_stored access o code start next thread line event wish = stopped event wish

asks_found : (access : Access) (found : Found) (o : Op) → AsksAt (stage.Found access found) o
asks_found access (FoundPlain half) (op.LoadPointer d p) code start next thread line event wish = makes _ event wish
asks_found access (FoundPair pair) (op.LoadPointer d p) code start next thread line event wish = makes _ event wish
asks_found access (FoundPlain half) (op.BoxSwap d p a) code start next thread line event wish = makes _ event wish
asks_found access (FoundPair pair) (op.BoxSwap d p a) code start next thread line event wish = makes _ event wish
asks_found access (FoundPlain half) (op.BoxCas d w p e n) code start next thread line event wish = makes _ event wish
asks_found access (FoundPair pair) (op.BoxCas d w p e n) code start next thread line event wish = makes _ event wish
asks_found access found o code start next thread line event wish = stopped event wish

asks_read : (access : Access) (found : Found) (pointer : Value) (o : Op) → AsksAt (stage.Read access found pointer) o
asks_read access found pointer (op.BoxCas d w p e n) code start next thread line event wish = makes _ event wish
asks_read access found pointer o code start next thread line event wish = stopped event wish

asks_matching : (access : Access) (found : Found) (pointer : Value) (o : Op) → AsksAt (stage.Matches access found pointer) o
asks_matching access found pointer (op.BoxCas d w p e n) code start next thread line event wish = makes _ event wish
asks_matching access found pointer o code start next thread line event wish = stopped event wish

asks_second : (o : Op) → AsksAt stage.NamedFirst o
asks_second (op.PointerSub d a b bytes) code start next thread line event wish = makes _ event wish
asks_second (op.PointerCompare d a b o) code start next thread line event wish = makes _ event wish
asks_second o code start next thread line event wish = stopped event wish

-- ---- at each stage

abbrev AsksHere : Stage → Type 0
AsksHere s =
    (code : PlainCode) (start : CodeStart) (next : Next) (i : Instruction) (thread : Thread) (event : Event) → want_at code thread i.op s ≡ want.Event event →
    asks_first event (stage_play code start next thread.at (trap_line thread.at.frame i) i.op s) ≡ query_at thread i.op s event

within : (s : Stage) → IsWithin s → AsksHere s
within stage.Before is code start next i thread event wish = absurd is
within (stage.Granted access) is code start next i thread event wish = asks_granted access i.op code start next thread (trap_line thread.at.frame i) event wish
within (stage.Stored access) is code start next i thread event wish = asks_stored access i.op code start next thread (trap_line thread.at.frame i) event wish
within (stage.Found access found) is code start next i thread event wish = asks_found access found i.op code start next thread (trap_line thread.at.frame i) event wish
within (stage.Read access found pointer) is code start next i thread event wish = asks_read access found pointer i.op code start next thread (trap_line thread.at.frame i) event wish
within (stage.Matches access found pointer) is code start next i thread event wish = asks_matching access found pointer i.op code start next thread (trap_line thread.at.frame i) event wish
within stage.NamedFirst is code start next i thread event wish = asks_second i.op code start next thread (trap_line thread.at.frame i) event wish
within stage.Waits is code start next i thread event wish = stopped event wish
within (stage.Traps reason l) is code start next i thread event wish = makes _ event wish
within (stage.Over halt) is code start next i thread event wish = stopped event wish

none_any :
    (s : Stage) (code : PlainCode) (start : CodeStart) (next : Next) (i : Instruction) (thread : Thread) (event : Event) →
    thread.at.granted ≡ None → thread.main ≡ (start.function == code.main) → want_at code thread i.op s ≡ want.Event event →
    asks_first event (stage_play code start next thread.at (trap_line thread.at.frame i) i.op s) ≡ query_at thread i.op s event
none_any stage.Before code start next i thread event none main wish = asks_before i.op code start next thread (trap_line thread.at.frame i) event none main wish
none_any s code start next i thread event none main wish = within s tt code start next i thread event wish

some_any :
    (access : Access) (s : Stage) (code : PlainCode) (start : CodeStart) (next : Next) (i : Instruction) (thread : Thread) (event : Event) →
    want_at code thread i.op (stage_in_round (Some access) s) ≡ want.Event event →
    asks_first event (stage_play code start next thread.at (trap_line thread.at.frame i) i.op (stage_in_round (Some access) s)) ≡ query_at thread i.op (stage_in_round (Some access) s) event
some_any access stage.Before code start next i thread event wish = within (stage.Granted access) tt code start next i thread event wish
some_any access s code start next i thread event wish = within s tt code start next i thread event wish

stage_any :
    (g : Option Access) (s : Stage) (code : PlainCode) (start : CodeStart) (next : Next) (i : Instruction) (thread : Thread) (event : Event) →
    thread.at.granted ≡ g → thread.main ≡ (start.function == code.main) → want_at code thread i.op (stage_in_round g s) ≡ want.Event event →
    asks_first event (stage_play code start next thread.at (trap_line thread.at.frame i) i.op (stage_in_round g s)) ≡ query_at thread i.op (stage_in_round g s) event
stage_any None s code start next i thread event none main wish = none_any s code start next i thread event none main wish
stage_any (Some access) s code start next i thread event some main wish = some_any access s code start next i thread event wish

-- what is left of an instruction asks first what the thread does
pub query_is :
    (code : PlainCode) (places : ℕ → ℕ) (start : Start) (m : ℕ) (i : Instruction) (thread : Thread) (event : Event) →
    IsThreadOf code start thread → here code thread ≡ Some i → want_of code thread ≡ want.Event event →
    asks_first event (rest_play code (by_place places start) m i thread (stage_of thread)) ≡ query_of code thread event
query_is code places start m i thread event is stands wish =
    subst (λ (g : Option Instruction). asks_first event (rest_play code (by_place places start) m i thread (stage_of thread)) ≡ query_by thread g event) (sym stands)
    (stage_any thread.at.granted thread.stage code (by_place places start) (exec code (by_place places start) m) i thread event refl is.main
    (subst (λ (g : Option Instruction). want_by code thread g ≡ want.Event event) stands wish))
