-- The run of a thread as data on a list of answers: turn by turn it carries out an instruction, goes on after a poll, or takes
-- the next answer to the event that it wants.
use Rattle.std.specs.Prelude.{ℕ, zero, suc, ◌==◌, nat_lt, List, [], ◌∷◌, slice_get, Option, Some, None, if◌then◌else◌}
use Rattle.whole_code.specs.declared.op.Op.{Op}
use Rattle.whole_code.specs.declared.op.Op.TheVariants as op
use Rattle.whole_code.specs.declared.op.Instruction.{Instruction}
use Rattle.whole_code.specs.Plain.{PlainCode}
use Rattle.ideal_machine.specs.declared.value.Half.{Half}
use Rattle.ideal_machine.specs.declared.value.Half.TheVariants.{Function as FunctionHalf}
use Rattle.ideal_machine.specs.declared.value.Value.{Value}
use Rattle.ideal_machine.specs.declared.event.Access.{Access}
use Rattle.ideal_machine.specs.declared.event.Answer.{Answer}
use Rattle.ideal_machine.specs.declared.event.Event.{Event}
use Rattle.ideal_machine.specs.Queries.{Query, Makes, ChecksForCell, Locks, reply_to, event_of}
use Rattle.ideal_machine.specs.Play.{Waits, Cut, Finished, Log, fresh_log, with_event, with_jump, with_call, Behaviour, Goes, Ends, by_reply}
use Rattle.ideal_machine.specs.Phrases.{Start, if_zero}
use Rattle.whole_thread.specs.declared.stage.Halt.{Halt}
use Rattle.whole_thread.specs.declared.stage.Halt.TheVariants as halt
use Rattle.whole_thread.specs.declared.stage.Stage.{Stage}
use Rattle.whole_thread.specs.declared.stage.Stage.TheVariants as stage
use Rattle.whole_thread.specs.declared.stage.Want.{Want}
use Rattle.whole_thread.specs.declared.stage.Want.TheVariants as want
use Rattle.whole_thread.specs.Standing.{register}
use Rattle.whole_thread.specs.Act.{kinds_of}
use Rattle.whole_thread.specs.Thread.{Thread, stage_of, here, want_of, thread_after_step, thread_after_poll, thread_after_begin}
use Rattle.whole_thread.specs.Answers.{thread_after_answer}

-- ---- what a thread asks by the event that it wants

-- the check before a pointer is stored may find no cell for it
abbrev pub cell_check : Value → Query
cell_check p = ChecksForCell p.half p.number

abbrev pub query_before : Thread → Op → Event → Query
query_before thread (op.StorePointer p a) event = cell_check (register thread.at p)
query_before thread (op.BoxStore p a) event = cell_check (register thread.at p)
query_before thread (op.BoxSwap d p a) event = cell_check (register thread.at p)
query_before thread (op.BoxCas d w p e n) event = cell_check (register thread.at p)
query_before thread o event = Makes event

-- a lock is asked together with its check
abbrev pub query_granted : Thread → Op → Access → Event → Query
query_granted thread (op.Lock p) access event =
    Locks (register thread.at p).half (register thread.at p).number access.object access.offset
query_granted thread o access event = Makes event

abbrev pub query_at : Thread → Op → Stage → Event → Query
query_at thread o stage.Before event = query_before thread o event
query_at thread o (stage.Granted access) event = query_granted thread o access event
query_at thread o s event = Makes event

abbrev pub query_by : Thread → Option Instruction → Event → Query
query_by thread None event = Makes event
query_by thread (Some i) event = query_at thread i.op (stage_of thread) event

abbrev pub query_of : PlainCode → Thread → Event → Query
query_of code thread event = query_by thread (here code thread) event

-- ---- what is counted

-- a jump, unless it leads forward
abbrev pub jump_log : Thread → (target : ℕ) → Log → Log
jump_log thread target log = if nat_lt thread.at.frame.index target then log else with_jump log

-- a call through a pointer, where it names a function of the kind
abbrev pub kind_log : (kind : ℕ) → Option ℕ → Log → Log
kind_log kind None log = log
kind_log kind (Some k) log = if k == kind then with_call log else log

abbrev pub half_log : (kinds : List ℕ) → (kind : ℕ) → Half → Log → Log
half_log kinds kind (FunctionHalf f) log = kind_log kind (slice_get kinds f) log
half_log kinds kind half log = log

-- jumps and calls
abbrev pub step_log : PlainCode → Thread → Op → Log → Log
step_log code thread (op.Jump target) log = jump_log thread target log
step_log code thread (op.JumpZero a target) log = if_zero (register thread.at a).number (jump_log thread target log) log
step_log code thread (op.Call d f first count) log = with_call log
step_log code thread (op.CallPointer d a first count kind) log = half_log (kinds_of code) kind (register thread.at a).half log
step_log code thread o log = log

abbrev pub step_log_by : PlainCode → Thread → Option Instruction → Log → Log
step_log_by code thread None log = log
step_log_by code thread (Some i) log = step_log code thread i.op log

-- one more round of an instruction is a jump
abbrev pub round_log : Option Access → Log → Log
round_log None log = log
round_log (Some access) log = with_jump log

abbrev pub stage_log : Stage → Option Access → Log → Log
stage_log stage.Before granted log = round_log granted log
stage_log s granted log = log

-- where a thread has come
abbrev pub arrival_log : Thread → Log → Log
arrival_log thread log = stage_log thread.stage thread.at.granted log

-- ---- turns

-- what follows a turn
abbrev pub After : Type 0
After = Thread → Log → Behaviour (Unit {0}) ℕ

abbrev pub arrives : After → Thread → Log → Behaviour (Unit {0}) ℕ
arrives after thread log = after thread (arrival_log thread log)

-- the next answer is taken, where it fits
abbrev pub takes_answer : After → PlainCode → Thread → Query → List Answer → Log → Behaviour (Unit {0}) ℕ
takes_answer after code thread query [] log = Ends Waits log
takes_answer after code thread query (answer ∷ rest) log =
    by_reply (reply_to query answer) (Ends Waits log)
    (λ reply. arrives after (thread_after_answer code thread answer) (with_event (event_of query reply) rest log))

abbrev pub halts : Halt → Log → Behaviour (Unit {0}) ℕ
halts (halt.Returned result) log = Goes tt result log
halts (halt.Finished finish) log = Ends (Finished finish) log

-- a thread that wants nothing has ended, or it waits for ever
abbrev pub stops : Stage → Log → Behaviour (Unit {0}) ℕ
stops (stage.Over halt) log = halts halt log
stops s log = Ends Waits log

abbrev pub turn : After → PlainCode → (places : ℕ → ℕ) → Thread → Log → Want → Behaviour (Unit {0}) ℕ
turn after code places thread log (want.Event event) = takes_answer after code thread (query_of code thread event) log.answers log
turn after code places thread log want.Instruction =
    arrives after (thread_after_step code places thread) (step_log_by code thread (here code thread) log)
turn after code places thread log want.Poll = arrives after (thread_after_poll thread) log
turn after code places thread log want.Stopped = stops (stage_of thread) log

-- at most so many turns
abbrev pub thread_run : PlainCode → (places : ℕ → ℕ) → (turns : ℕ) → Thread → Log → Behaviour (Unit {0}) ℕ
thread_run code places zero thread log = Ends Cut log
thread_run code places (suc turns) thread log = turn (thread_run code places turns) code places thread log (want_of code thread)

-- of a thread that begins so, with these answers
abbrev pub run_of : PlainCode → (places : ℕ → ℕ) → (turns : ℕ) → Start → (old : Thread) → List Answer → Behaviour (Unit {0}) ℕ
run_of code places turns start old answers =
    thread_run code places turns (thread_after_begin code start.id start.function start.argument old) (fresh_log answers)
