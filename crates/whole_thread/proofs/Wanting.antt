-- What a thread wants is what its play does, wherever it stands.
use Rattle.std.proofs.Common.{◌≡◌, ◌==◌, ℕ, zero, suc, List, [], ◌∷◌, slice_get, Bool, true, false, Option, Some, None, refl, sym, subst}
use Rattle.std.specs.Prelude.{IsSomeAnd, if◌then◌else◌}
use Rattle.whole_code.specs.declared.op.Op.{Op}
use Rattle.whole_code.specs.declared.op.Op.TheVariants as op
use Rattle.whole_code.specs.declared.op.Instruction.{Instruction}
use Rattle.whole_code.specs.Plain.{PlainFunction, PlainCode}
use Rattle.ideal_machine.specs.declared.value.Half.{Half}
use Rattle.ideal_machine.specs.declared.value.Half.TheVariants.{Nothing, Freed, Object as ObjectHalf, Function as FunctionHalf}
use Rattle.ideal_machine.specs.declared.value.Value.{Value}
use Rattle.ideal_machine.specs.declared.event.Access.{Access}
use Rattle.ideal_machine.specs.declared.event.Event.{Event}
use Rattle.ideal_machine.specs.declared.event.Event.TheVariants.{Void, Spawn}
use Rattle.ideal_machine.specs.declared.event.Answer.{Answer}
use Rattle.ideal_machine.specs.Play.{Stops, Waits}
use Rattle.ideal_machine.specs.Phrases.{Start, if_zero}
use Rattle.ideal_machine.specs.Threads.{thread_kind}
use Rattle.whole_thread.specs.declared.stage.Want.{Want}
use Rattle.whole_thread.specs.declared.stage.Want.TheVariants as want
use Rattle.whole_thread.specs.declared.stage.Stage.{Stage}
use Rattle.whole_thread.specs.declared.stage.Stage.TheVariants as stage
use Rattle.whole_thread.specs.Standing.{Caller, register, trap_line}
use Rattle.whole_thread.specs.Act.{CodeStart, kinds_of, act}
use Rattle.whole_thread.specs.CodePlay.{act_at, exec, exec_first, beginning}
use Rattle.whole_thread.specs.Thread.{Thread, spawn_by, spawn_of, return_of, want_before, want_at, want_by, stage_in_round, stage_of, step_by, step_at, begins_at}
use Rattle.whole_thread.specs.Answers.{answer_at, answer_by}
use Rattle.whole_thread.specs.PlaysOn.{by_place, rest_play, step_play, plays_on, AsksThen, Follows, IsThreadOf, IsWithin, IsMadeInRounds, KeepsRounds, CodeGoesOnHere, ThreadsFollow, StopsOutside, BeginFollows}
use Rattle.whole_thread.proofs.Following.{lock_round_follows, exchange_round_follows, made, granted_op, stored_op, second_op, found_op, read_op, match_op, trap_op, before_op}
use Rattle.whole_thread.proofs.Stepping.{step_op}

-- ---- before an instruction that is no poll an event is wanted, or a step

abbrev Moves : Want → Type 0
Moves (want.Event event) = Unit {0}
Moves want.Instruction = Unit {0}
Moves want.Poll = ⊥
Moves want.Stopped = ⊥

by_move :
    (code : PlainCode) (start : CodeStart) (m : ℕ) (i : Instruction) (thread : Thread) (after : Answer → Thread) (step : Thread) (w : Want) → Moves w →
    ((event : Event) → w ≡ want.Event event → AsksThen (rest_play code start m i thread stage.Before) event (λ answer. plays_on code start m i (after answer))) →
    (w ≡ want.Instruction → rest_play code start m i thread stage.Before ≡ step_play code thread i.op (plays_on code start m i step)) →
    Follows code start m i thread stage.Before after step w
by_move code start m i thread after step (want.Event event) moves asks steps = asks event refl
by_move code start m i thread after step want.Instruction moves asks steps = (refl, steps refl)
by_move code start m i thread after step want.Poll moves asks steps = absurd moves
by_move code start m i thread after step want.Stopped moves asks steps = absurd moves

free_moves : (half : Half) (n : ℕ) → Moves (if_zero n want.Instruction (want.Event (Void half n)))
free_moves half zero = tt
free_moves half (suc n) = tt

spawn_kind_moves : (f : ℕ) (v : Value) (same : Bool) → Moves (if same then want.Event (Spawn f v.number v.half) else want.Instruction)
spawn_kind_moves f v true = tt
spawn_kind_moves f v false = tt

spawn_option_moves : (f : ℕ) (v : Value) (found : Option ℕ) → Moves (spawn_by found f v)
spawn_option_moves f v None = tt
spawn_option_moves f v (Some k) = spawn_kind_moves f v (k == thread_kind)

spawn_moves : (kinds : List ℕ) (half : Half) (v : Value) → Moves (spawn_of kinds half v)
spawn_moves kinds (FunctionHalf f) v = spawn_option_moves f v (slice_get kinds f)
spawn_moves kinds Nothing v = tt
spawn_moves kinds Freed v = tt
spawn_moves kinds (ObjectHalf n) v = tt

return_moves : (main : Bool) (callers : List Caller) (v : Value) → Moves (return_of main callers v)
return_moves true [] v = tt
return_moves false [] v = tt
return_moves main (caller ∷ callers) v = tt

abbrev MovesBefore : Op → Want → Type 0
MovesBefore op.Poll w = Unit {0}
MovesBefore o w = Moves w

before_moves : (code : PlainCode) (thread : Thread) (o : Op) → MovesBefore o (want_before code thread o)
before_moves code thread op.Poll = tt
before_moves code thread (op.Free a) = free_moves (register thread.at a).half (register thread.at a).number
before_moves code thread (op.Return a) = return_moves thread.main thread.at.callers (register thread.at a)
before_moves code thread (op.Spawn d a b) = spawn_moves (kinds_of code) (register thread.at a).half (register thread.at b)
before_moves code thread o = tt

-- ---- at each stage

abbrev FollowsAt : PlainCode → (places : ℕ → ℕ) → Start → ℕ → Instruction → Thread → Stage → Type 0
FollowsAt code places start m i thread s =
    Follows code (by_place places start) m i thread s (λ answer. answer_at thread (trap_line thread.at.frame i) i.op s answer)
    (step_by code places thread (trap_line thread.at.frame i) i.op) (want_at code thread i.op s)

before_any :
    (o : Op) (code : PlainCode) (places : ℕ → ℕ) (start : Start) (m l : ℕ) (library : Bool) (thread : Thread) →
    thread.at.granted ≡ None → IsThreadOf code start thread → FollowsAt code places start m (made l library o) thread stage.Before
before_any op.Poll code places start m l library thread none is = (refl, refl)
before_any o code places start m l library thread none is =
    by_move code (by_place places start) m (made l library o) thread
    (λ answer. answer_at thread (trap_line thread.at.frame (made l library o)) o stage.Before answer)
    (step_by code places thread (trap_line thread.at.frame (made l library o)) o) (want_before code thread o) (before_moves code thread o)
    (λ event wish. before_op o code places start m l library thread event none is.main wish)
    (λ wish. step_op o code places start m l library thread is.id is.main wish)

within_any :
    (s : Stage) (code : PlainCode) (places : ℕ → ℕ) (start : Start) (m : ℕ) (i : Instruction) (thread : Thread) → IsWithin s →
    FollowsAt code places start m i thread s
within_any stage.Before code places start m i thread within = absurd within
within_any (stage.Granted access) code places start m i thread within = granted_op access i.op code places start m i.line i.library thread (step_by code places thread (trap_line thread.at.frame i) i.op)
within_any (stage.Stored access) code places start m i thread within = stored_op access i.op code places start m i.line i.library thread (step_by code places thread (trap_line thread.at.frame i) i.op)
within_any (stage.Found access found) code places start m i thread within = found_op access found i.op code places start m i.line i.library thread (step_by code places thread (trap_line thread.at.frame i) i.op)
within_any (stage.Read access found pointer) code places start m i thread within = read_op access found pointer i.op code places start m i.line i.library thread (step_by code places thread (trap_line thread.at.frame i) i.op)
within_any (stage.Matches access found pointer) code places start m i thread within = match_op access found pointer i.op code places start m i.line i.library thread (step_by code places thread (trap_line thread.at.frame i) i.op)
within_any stage.NamedFirst code places start m i thread within = second_op i.op code places start m i.line i.library thread (step_by code places thread (trap_line thread.at.frame i) i.op)
within_any stage.Waits code places start m i thread within = refl
within_any (stage.Traps reason l) code places start m i thread within = trap_op reason l i.op code places start m i.line i.library thread (step_by code places thread (trap_line thread.at.frame i) i.op)
within_any (stage.Over halt) code places start m i thread within = refl

none_any :
    (s : Stage) (code : PlainCode) (places : ℕ → ℕ) (start : Start) (m : ℕ) (i : Instruction) (thread : Thread) →
    thread.at.granted ≡ None → IsThreadOf code start thread → FollowsAt code places start m i thread s
none_any stage.Before code places start m i thread none is = before_any i.op code places start m i.line i.library thread none is
none_any s code places start m i thread none is = within_any s code places start m i thread tt

some_any :
    (access : Access) (s : Stage) (code : PlainCode) (places : ℕ → ℕ) (start : Start) (m : ℕ) (i : Instruction) (thread : Thread) →
    FollowsAt code places start m i thread (stage_in_round (Some access) s)
some_any access stage.Before code places start m i thread = within_any (stage.Granted access) code places start m i thread tt
some_any access s code places start m i thread = within_any s code places start m i thread tt

stage_any :
    (g : Option Access) (s : Stage) (code : PlainCode) (places : ℕ → ℕ) (start : Start) (m : ℕ) (i : Instruction) (thread : Thread) →
    thread.at.granted ≡ g → IsThreadOf code start thread → FollowsAt code places start m i thread (stage_in_round g s)
stage_any None s code places start m i thread none is = none_any s code places start m i thread none is
stage_any (Some access) s code places start m i thread some is = some_any access s code places start m i thread

pub threads_follow : ThreadsFollow
threads_follow code places start m i thread is stands =
    subst (λ (g : Option Instruction). Follows code (by_place places start) m i thread (stage_of thread) (λ answer. answer_by thread g answer)
    (step_at code places thread g) (want_by code thread g)) (sym stands)
    (stage_any thread.at.granted thread.stage code places start m i thread refl is)

-- ---- in rounds

in_round_op :
    (o : Op) (access : Access) (code : PlainCode) (places : ℕ → ℕ) (start : Start) (m l : ℕ) (library : Bool) (thread : Thread) →
    thread.at.granted ≡ Some access → IsMadeInRounds o →
    act code (by_place places start) (exec code (by_place places start) m) thread.at (trap_line thread.at.frame (made l library o)) o
    ≡ rest_play code (by_place places start) m (made l library o) thread (stage.Granted access)
in_round_op (op.Lock p) access code places start m l library thread some is =
    lock_round_follows code places start (exec code (by_place places start) m) thread.at (trap_line thread.at.frame (made l library (op.Lock p))) p access some
in_round_op (op.BoxCas d w p e n) access code places start m l library thread some is =
    exchange_round_follows code places start (exec code (by_place places start) m) thread.at (trap_line thread.at.frame (made l library (op.BoxCas d w p e n))) d w p e n access some
in_round_op o access code places start m l library thread some is = absurd is

goes_on_by :
    (g : Option Access) (code : PlainCode) (places : ℕ → ℕ) (start : Start) (m : ℕ) (i : Instruction) (thread : Thread) →
    thread.at.granted ≡ g → ((access : Access) → g ≡ Some access → IsMadeInRounds i.op) →
    act code (by_place places start) (exec code (by_place places start) m) thread.at (trap_line thread.at.frame i) i.op
    ≡ rest_play code (by_place places start) m i thread (stage_in_round g stage.Before)
goes_on_by None code places start m i thread is rounds = refl
goes_on_by (Some access) code places start m i thread is rounds =
    in_round_op i.op access code places start m i.line i.library thread is (rounds access refl)

pub code_goes_on_here : CodeGoesOnHere
code_goes_on_here code places start m i thread rounds stands before =
    subst (λ (g : Option Instruction). act_at code (by_place places start) (exec code (by_place places start) m) thread.at g ≡ rest_play code (by_place places start) m i thread (stage_of thread)) (sym stands)
    (subst (λ (s : Stage). act code (by_place places start) (exec code (by_place places start) m) thread.at (trap_line thread.at.frame i) i.op ≡ rest_play code (by_place places start) m i thread (stage_in_round thread.at.granted s)) (sym before)
    (goes_on_by thread.at.granted code places start m i thread refl
    (λ access some. subst (λ (g : Option Instruction). IsSomeAnd g (λ (i : Instruction). IsMadeInRounds i.op)) stands (rounds access some))))

abbrev IsNone : Option Access → Type 0
IsNone None = Unit {0}
IsNone (Some access) = ⊥

-- ---- outside, and at the beginning

pub stops_outside : StopsOutside
stops_outside code start m thread nothing =
    subst (λ (g : Option Instruction). (want_by code thread g ≡ want.Stopped) × (act_at code start (exec code start m) thread.at g ≡ Stops Waits)) (sym nothing) (refl, refl)

pub begin_follows : BeginFollows
begin_follows code places start m f old is =
    subst (λ (g : Option PlainFunction). IsThreadOf code start (begins_at code start.id start.function start.argument g old)
    × KeepsRounds code (begins_at code start.id start.function start.argument g old)
    × ((begins_at code start.id start.function start.argument g old).stage ≡ stage.Before)
    × ((begins_at code start.id start.function start.argument g old).at ≡ beginning (by_place places start) f)
    × (exec_first code (by_place places start) m g ≡ exec code (by_place places start) m (begins_at code start.id start.function start.argument g old).at)) (sym is)
    (record { id = refl; main = refl }, (λ access some. absurd (subst IsNone some tt)), refl, refl, refl)
