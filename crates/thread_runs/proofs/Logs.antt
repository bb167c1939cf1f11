-- What is counted, and how a run ends.
use Rattle.std.proofs.Common.{◌≡◌, ◌==◌, ℕ, zero, suc, List, [], ◌∷◌, length, slice_get, nat_lt, Bool, true, false, Option, Some, None, refl}
use Rattle.std.specs.Prelude.{if◌then◌else◌}
use Rattle.whole_code.specs.declared.op.Op.{Op}
use Rattle.whole_code.specs.declared.op.Op.TheVariants as op
use Rattle.whole_code.specs.Plain.{PlainCode}
use Rattle.ideal_machine.specs.declared.event.Access.{Access}
use Rattle.ideal_machine.specs.declared.event.Answer.{Answer}
use Rattle.ideal_machine.specs.declared.value.Half.{Half}
use Rattle.ideal_machine.specs.declared.value.Half.TheVariants.{Nothing, Freed, Object as ObjectHalf, Function as FunctionHalf}
use Rattle.ideal_machine.specs.Play.{Jump, Call, Waits, Log, Behaviour, Ends, with_jump, with_call, run}
use Rattle.ideal_machine.specs.Phrases.{Phrase, if_zero}
use Rattle.whole_thread.specs.declared.stage.Halt.TheVariants as halt
use Rattle.whole_thread.specs.declared.stage.Stage.{Stage}
use Rattle.whole_thread.specs.declared.stage.Stage.TheVariants as stage
use Rattle.whole_thread.specs.Standing.{register}
use Rattle.whole_thread.specs.Act.{kinds_of}
use Rattle.whole_thread.specs.Thread.{Thread, stage_in_round}
use Rattle.whole_thread.specs.PlaysOn.{jump_play, kind_play, half_play, step_play, stop_play, IsWithin}
use Rattle.thread_runs.specs.Run.{jump_log, kind_log, half_log, step_log, stops}

-- ---- a step is counted as its play counts it

-- the play goes on with the log, and no answer is taken
abbrev Counts : Phrase ℕ → Log → Phrase ℕ → Log → Type 0
Counts play log on after = (run play log ≡ run on after) × (after.answers ≡ log.answers)

choose_counts :
    (forward : Bool) (on : Phrase ℕ) (log : Log) → Counts (if forward then on else Jump on) log on (if forward then log else with_jump log)
choose_counts true on log = (refl, refl)
choose_counts false on log = (refl, refl)

jump_counts : (thread : Thread) (target : ℕ) (on : Phrase ℕ) (log : Log) → Counts (jump_play thread target on) log on (jump_log thread target log)
jump_counts thread target on log = choose_counts (nat_lt thread.at.frame.index target) on log

zero_counts :
    (n : ℕ) (thread : Thread) (target : ℕ) (on : Phrase ℕ) (log : Log) →
    Counts (if_zero n (jump_play thread target on) on) log on (if_zero n (jump_log thread target log) log)
zero_counts zero thread target on log = jump_counts thread target on log
zero_counts (suc n) thread target on log = (refl, refl)

call_counts : (same : Bool) (on : Phrase ℕ) (log : Log) → Counts (if same then Call on else on) log on (if same then with_call log else log)
call_counts true on log = (refl, refl)
call_counts false on log = (refl, refl)

kind_counts : (kind : ℕ) (found : Option ℕ) (on : Phrase ℕ) (log : Log) → Counts (kind_play kind found on) log on (kind_log kind found log)
kind_counts kind None on log = (refl, refl)
kind_counts kind (Some k) on log = call_counts (k == kind) on log

half_counts : (kinds : List ℕ) (kind : ℕ) (half : Half) (on : Phrase ℕ) (log : Log) → Counts (half_play kinds kind half on) log on (half_log kinds kind half log)
half_counts kinds kind (FunctionHalf f) on log = kind_counts kind (slice_get kinds f) on log
half_counts kinds kind Nothing on log = (refl, refl)
half_counts kinds kind Freed on log = (refl, refl)
half_counts kinds kind (ObjectHalf n) on log = (refl, refl)

pub step_counts :
    (code : PlainCode) (thread : Thread) (o : Op) (on : Phrase ℕ) (log : Log) → Counts (step_play code thread o on) log on (step_log code thread o log)
step_counts code thread (op.Jump target) on log = jump_counts thread target on log
step_counts code thread (op.JumpZero a target) on log = zero_counts (register thread.at a).number thread target on log
step_counts code thread (op.Call d f first count) on log = (refl, refl)
step_counts code thread (op.CallPointer d a first count kind) on log = half_counts (kinds_of code) kind (register thread.at a).half on log
step_counts code thread o on log = (refl, refl)

-- ---- ends

pub stop_is : (s : Stage) (log : Log) → run (stop_play s) log ≡ stops s log
stop_is (stage.Over (halt.Returned result)) log = refl
stop_is (stage.Over (halt.Finished finish)) log = refl
stop_is s log = refl

-- before an instruction nothing has ended, in a further round of it either
pub waits_before : (granted : Option Access) (log : Log) → stops (stage_in_round granted stage.Before) log ≡ Ends Waits log
waits_before None log = refl
waits_before (Some access) log = refl

-- ---- within an instruction

some_within : (access : Access) (s : Stage) → IsWithin s → stage_in_round (Some access) s ≡ s
some_within access stage.Before within = absurd within
some_within access s within = refl

-- there is no further round
pub stage_within : (granted : Option Access) (s : Stage) → IsWithin s → stage_in_round granted s ≡ s
stage_within None s within = refl
stage_within (Some access) s within = some_within access s within
