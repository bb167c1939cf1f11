-- A thread that is over wants nothing and takes no answer, whatever code it is shown.
use Rattle.std.proofs.Common.{◌≡◌, inl, inr, ℕ, true, false, Option, Some, None, refl}
use Rattle.whole_code.specs.declared.op.Op.{Op}
use Rattle.whole_code.specs.declared.op.Instruction.{Instruction}
use Rattle.whole_code.specs.Plain.{PlainCode}
use Rattle.ideal_machine.specs.declared.event.Access.{Access}
use Rattle.ideal_machine.specs.declared.event.Answer.{Answer}
use Rattle.whole_thread.specs.declared.stage.Stage.{Stage}
use Rattle.whole_thread.specs.declared.stage.Stage.TheVariants as stage
use Rattle.whole_thread.specs.declared.stage.Want.TheVariants as want
use Rattle.whole_thread.specs.Standing.{trap_line}
use Rattle.whole_thread.specs.Thread.{Thread, here, stage_of, stage_in_round, want_at, want_by, want_of}
use Rattle.whole_thread.specs.Answers.{answer_at, answer_by, thread_after_answer}
use Rattle.thread_steps.specs.Stands.{is_over, StandsIn, IsThreadOf}
use Rattle.thread_steps.specs.Turns.{is_instruction, is_before}
use Rattle.thread_steps.proofs.Within.{within_asks}

want_over_at : (code : PlainCode) (thread : Thread) (o : Op) (granted : Option Access) (s : Stage) → is_over s ≡ true → want_at code thread o (stage_in_round granted s) ≡ want.Stopped
want_over_at code thread o None (stage.Over halt) over = refl
want_over_at code thread o (Some access) (stage.Over halt) over = refl
want_over_at code thread o granted s over = absurd (cc)

want_over_by : (code : PlainCode) (thread : Thread) (i : Option Instruction) → is_over thread.stage ≡ true → want_by code thread i ≡ want.Stopped
want_over_by code thread None over = refl
want_over_by code thread (Some i) over = want_over_at code thread i.op thread.at.granted thread.stage over

pub want_over : (code : PlainCode) (thread : Thread) → is_over thread.stage ≡ true → want_of code thread ≡ want.Stopped
want_over code thread over = want_over_by code thread (here code thread) over

answer_over_at :
    (thread : Thread) (line : ℕ) (o : Op) (answer : Answer) (granted : Option Access) (s : Stage) → is_over s ≡ true →
    answer_at thread line o (stage_in_round granted s) answer ≡ thread
answer_over_at thread line o answer None (stage.Over halt) over = refl
answer_over_at thread line o answer (Some access) (stage.Over halt) over = refl
answer_over_at thread line o answer granted s over = absurd (cc)

answer_over_by : (thread : Thread) (answer : Answer) (i : Option Instruction) → is_over thread.stage ≡ true → answer_by thread i answer ≡ thread
answer_over_by thread answer None over = refl
answer_over_by thread answer (Some i) over = answer_over_at thread (trap_line thread.at.frame i) i.op answer thread.at.granted thread.stage over

pub answer_over : (code : PlainCode) (thread : Thread) (answer : Answer) → is_over thread.stage ≡ true → thread_after_answer code thread answer ≡ thread
answer_over code thread answer over = answer_over_by thread answer (here code thread) over

-- before an instruction a thread is not over
before_goes : (granted : Option Access) (s : Stage) → is_before (stage_in_round granted s) ≡ true → is_over s ≡ false
before_goes None stage.Before before = refl
before_goes granted (stage.Over halt) before = absurd (cc)
before_goes granted s before = refl

within_wants_by : (code : PlainCode) (thread : Thread) (i : Option Instruction) → is_before (stage_of thread) ≡ false → is_instruction (want_by code thread i) ≡ false
within_wants_by code thread None within = refl
within_wants_by code thread (Some i) within = within_asks code thread i.op (stage_of thread) within

-- within an instruction nothing is carried out on registers
pub within_wants : (code : PlainCode) (thread : Thread) → is_before (stage_of thread) ≡ false → is_instruction (want_of code thread) ≡ false
within_wants code thread within = within_wants_by code thread (here code thread) within

-- one that isn't over stands at an instruction
pub stands_still : (code : PlainCode) (thread : Thread) → IsThreadOf code thread → is_over thread.stage ≡ false → StandsIn code thread
stands_still code thread (inl stands) goes = stands
stands_still code thread (inr over) goes = absurd (cc)

-- one that wants to go on after a poll stands at one
pub polls_still : (code : PlainCode) (thread : Thread) → IsThreadOf code thread → want_of code thread ≡ want.Poll → StandsIn code thread
polls_still code thread (inl stands) wanted = stands
polls_still code thread (inr over) wanted = let stopped = want_over code thread over in absurd (cc)

-- so does one that stands before an instruction
pub stands_before : (code : PlainCode) (thread : Thread) → IsThreadOf code thread → is_before (stage_of thread) ≡ true → StandsIn code thread
stands_before code thread h before = stands_still code thread h (before_goes thread.at.granted thread.stage before)
