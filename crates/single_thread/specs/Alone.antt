-- What code does when it runs alone: the history of a program's one thread.
--
-- Where no other thread runs, the abstract machine has one answer to each event. So what happens is a function of
-- the code and of how many instructions are carried out: `main` begins, and then comes what its play asks, each
-- event with the machine's answer.
use Rattle.std.specs.Prelude.{ℕ, ◌+◌, [], ◌∷◌, length, Bool, true, false, Option, Some, None, nat_lt}
use Rattle.filc_num.specs.declared.reason.Reason.TheVariants.{OutputLimit}
use Rattle.filc_code.specs.Plain.{PlainCode}
use Rattle.ideal_machine.specs.declared.value.Half.TheVariants.{Nothing}
use Rattle.ideal_machine.specs.declared.event.Event.{Event}
use Rattle.ideal_machine.specs.declared.event.Event.TheVariants.{Out, Begin}
use Rattle.ideal_machine.specs.declared.event.Answer.{Answer}
use Rattle.ideal_machine.specs.declared.event.Answer.TheVariants.{Refused, Done}
use Rattle.ideal_machine.specs.Memory.{Memory, World, default_world}
use Rattle.ideal_machine.specs.Beginning.{first_memory}
use Rattle.ideal_machine.specs.Values.{zero_value}
use Rattle.ideal_machine.specs.Queries.{reply_to, event_of, wish_of}
use Rattle.ideal_machine.specs.Play.{Stop, Waits, Gives, Stops, Asks, Jump, Call, by_reply}
use Rattle.ideal_machine.specs.Phrases.{Start, Phrase}
use Rattle.form_play.specs.Legal.{Entry, History, memory_after}
use Rattle.form_play.specs.Observable.{Observable, observable_of}
use Rattle.code_thread.specs.Exec.{place_address, exec_thread}

-- ---- the machine's answers

-- the answer to a byte, where the output has room for it or doesn't
abbrev pub room_answer : Bool → Answer
room_answer true = Done
room_answer false = Refused OutputLimit

-- the answer to an event of a running thread
abbrev pub answer_of : World → Memory → Event → Answer
answer_of world memory (Out byte) = room_answer (nat_lt (length memory.output) world.output)
answer_of world memory event = Done

-- ---- a play that runs alone

-- an event of the thread of `main`
abbrev pub entry_of : Event → Answer → Entry
entry_of event answer = record { actor = 0; event = event; answer = answer }

-- the memory after such an event
abbrev pub memory_with : Memory → Event → Answer → Memory
memory_with memory event answer = memory_after memory (entry_of event answer)

-- what a play makes from a memory on
abbrev pub made_by : World → Phrase ℕ → Memory → History
made_by world (Gives state result) memory = []
made_by world (Stops stop) memory = []
made_by world (Asks query next) memory =
    let answer = answer_of world memory (wish_of query) in
    by_reply (reply_to query answer) []
    (λ reply.
    entry_of (event_of query reply) answer
    ∷ made_by world (next reply) (memory_with memory (event_of query reply) answer))
made_by world (Jump next) memory = made_by world next memory
made_by world (Call next) memory = made_by world next memory

-- how many backward jumps it passes there
abbrev pub jumps_by : World → Phrase ℕ → Memory → ℕ
jumps_by world (Gives state result) memory = 0
jumps_by world (Stops stop) memory = 0
jumps_by world (Asks query next) memory =
    let answer = answer_of world memory (wish_of query) in
    by_reply (reply_to query answer) 0
    (λ reply. jumps_by world (next reply) (memory_with memory (event_of query reply) answer))
jumps_by world (Jump next) memory = 1 + jumps_by world next memory
jumps_by world (Call next) memory = jumps_by world next memory

-- why it stops there; a thread that gives its result has none
abbrev pub stop_by : World → Phrase ℕ → Memory → Option Stop
stop_by world (Gives state result) memory = None
stop_by world (Stops stop) memory = Some stop
stop_by world (Asks query next) memory =
    let answer = answer_of world memory (wish_of query) in
    by_reply (reply_to query answer) (Some Waits)
    (λ reply. stop_by world (next reply) (memory_with memory (event_of query reply) answer))
stop_by world (Jump next) memory = stop_by world next memory
stop_by world (Call next) memory = stop_by world next memory

-- ---- a code that runs alone

-- what the thread of `main` is begun with
abbrev pub main_start : PlainCode → Start
main_start code = record { id = 0; function = code.main; argument = zero_value; base = place_address }

-- the beginning of `main`
abbrev pub main_begin : PlainCode → Entry
main_begin code = entry_of (Begin code.main 0 Nothing) Done

-- the memory after that
abbrev pub memory_after_begin : World → PlainCode → Memory
memory_after_begin world code = memory_after (first_memory world [] code.main) (main_begin code)

-- the history of a run: the beginning of `main`, then what at most m instructions make
abbrev pub history_of_run : World → ℕ → PlainCode → History
history_of_run world m code =
    main_begin code ∷ made_by world (exec_thread m code (main_start code)) (memory_after_begin world code)

-- the backward jumps of a run of at most m instructions
abbrev pub jumps_of_run : World → ℕ → PlainCode → ℕ
jumps_of_run world m code = jumps_by world (exec_thread m code (main_start code)) (memory_after_begin world code)

-- why a run of at most m instructions stops: with the program, or cut after these
abbrev pub stop_of_run : World → ℕ → PlainCode → Option Stop
stop_of_run world m code = stop_by world (exec_thread m code (main_start code)) (memory_after_begin world code)

-- ---- as the runner makes it

-- the world of a run that reads no input
abbrev pub run_world : World
run_world = default_world []

-- what the outside sees of a run of at most m instructions
abbrev pub observable_of_run : ℕ → PlainCode → Observable
observable_of_run m code = observable_of (history_of_run run_world m code)
