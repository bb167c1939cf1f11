-- A play is an interaction tree: what a thread asks, whatever it is replied.
--
-- C's text and register code both mean a play, and neither sees the answers of a history. `run` gives answers to a play, and
-- tells what comes of it and what was made: so two plays are compared by what they do on the same answers. A play
-- that asks for what isn't there, or gets an answer that doesn't fit, waits; that event isn't made.
--
-- A play gives a state and a value of any type, and `bind` is the only way to put one after another. Every definition of
-- a play has a bound, since a loop may go on for ever: where the bound is reached the play is cut. A play says
-- where code jumps back, and where a function is called, so `run` counts both.
use Rattle.std.specs.Prelude.{ℕ, ◌+◌, List, [], ◌∷◌, ◌++◌, Option, Some, None}
use Rattle.ideal_machine.specs.declared.finish.Finish.{Finish}
use Rattle.ideal_machine.specs.declared.event.Event.{Event}
use Rattle.ideal_machine.specs.declared.event.Answer.{Answer}
use Rattle.ideal_machine.specs.Queries.{Query, Reply, reply_to, event_of}

-- why a play stops: with the program, for want of a fitting answer, or cut by its bound
pub data Stop : Type 0 where
  Finished : (finish : Finish) → Stop
  Waits : Stop
  Cut : Stop

-- a play: it gives a state and a value to what goes on from there, stops, or asks and goes on by the reply; or it
-- makes a backward jump, or a call
pub data Play (S A : Type 0) : Type 0 where
  Gives : (state : S) (value : A) → Play S A
  Stops : (stop : Stop) → Play S A
  Asks : (query : Query) (next : Reply query → Play S A) → Play S A
  Jump : (next : Play S A) → Play S A
  Call : (next : Play S A) → Play S A

-- one play after another, from the state and value that the first gives
abbrev pub bind : {S A T B : Type 0} → Play S A → (S → A → Play T B) → Play T B
bind (Gives state value) go = go state value
bind (Stops stop) go = Stops stop
bind (Asks query next) go = Asks query (λ reply. bind (next reply) go)
bind (Jump next) go = Jump (bind next go)
bind (Call next) go = Call (bind next go)

-- ---- running a play on answers

-- the answers that are left, the events made, the backward jumps and the calls
pub record Log : Type 0 where
  pub answers : List Answer
  pub events : List Event
  pub jumps : ℕ
  pub calls : ℕ

-- before the first event
abbrev pub fresh_log : List Answer → Log
fresh_log answers = record { answers = answers; events = []; jumps = 0; calls = 0 }

-- one event more, and these answers left
abbrev pub with_event : Event → List Answer → Log → Log
with_event event rest log = record log { answers = rest; events = log.events ++ event ∷ [] }

-- one backward jump more
abbrev pub with_jump : Log → Log
with_jump log = record log { jumps = log.jumps + 1 }

-- one call more
abbrev pub with_call : Log → Log
with_call log = record log { calls = log.calls + 1 }

-- what comes of a play: it goes on from a state with a value, or it ends
pub data Behaviour (S A : Type 0) : Type 0 where
  Goes : (state : S) (value : A) (log : Log) → Behaviour S A
  Ends : (stop : Stop) (log : Log) → Behaviour S A

abbrev pub log_of : {S A : Type 0} → Behaviour S A → Log
log_of (Goes state value log) = log
log_of (Ends stop log) = log

-- goes on by a reply, where there is one
abbrev pub by_reply : {R X : Type 0} → Option R → X → (R → X) → X
by_reply None waits go = waits
by_reply (Some reply) waits go = go reply

-- takes the next answer to a query
abbrev pub run_query : {S A : Type 0} → (query : Query) → List Answer → Log → (Reply query → Log → Behaviour S A) → Behaviour S A
run_query query [] log go = Ends Waits log
run_query query (answer ∷ rest) log go =
    by_reply (reply_to query answer) (Ends Waits log) (λ reply. go reply (with_event (event_of query reply) rest log))

-- a play on the answers of a log
abbrev pub run : {S A : Type 0} → Play S A → Log → Behaviour S A
run (Gives state value) log = Goes state value log
run (Stops stop) log = Ends stop log
run (Asks query next) log = run_query query log.answers log (λ reply. run (next reply))
run (Jump next) log = run next (with_jump log)
run (Call next) log = run next (with_call log)
