-- The play of a program's functions and threads.
--
-- A thread has at most 1,024 activations of functions at once, library functions among them. A deeper call traps at
-- its line. The depth is no bound of the play: it is counted by the recursion.
use Rattle.std.specs.Prelude.{ℕ, zero, suc, List, [], ◌∷◌, map, take, Option, Some, None, slice_get, ◌==◌, if◌then◌else◌}
use Rattle.filc_num.specs.declared.reason.Reason.TheVariants.{CallDepth}
use Rattle.c_tree.specs.declared.program.FunctionDef.{FunctionDef}
use Rattle.c_tree.specs.Plain.{PlainProgram}
use Rattle.ideal_machine.specs.declared.value.Value.{Value}
use Rattle.ideal_machine.specs.declared.event.Answer.{Answer}
use Rattle.ideal_machine.specs.Values.{State, zero_value}
use Rattle.ideal_machine.specs.Play.{Gives, Stops, Waits, bind, Behaviour, run, fresh_log}
use Rattle.ideal_machine.specs.Phrases.{Start, Phrase, trap, leave}
use Rattle.tree_play.specs.Around.{Around, Flow, Normal, Broke, Continued, Returned}
use Rattle.tree_play.specs.Statements.{play_stmt}

-- ---- functions

-- what a function's body gives: where control reaches its end, the result is 0
abbrev pub result_of : Flow → Value
result_of Normal = zero_value
result_of Broke = zero_value
result_of Continued = zero_value
result_of (Returned v) = v

-- a function's first locals are its parameters; all others are 0
abbrev pub first_state : FunctionDef → List Value → State
first_state f arguments = take f.parameters arguments

abbrev pub play_function : Around → FunctionDef → List Value → Phrase Value
play_function around f arguments =
    bind (play_stmt around f.body (first_state f arguments)) (λ _ flow. Gives tt (result_of flow))

-- the function of a number; one that isn't there stands in no program
abbrev pub with_function : Option FunctionDef → (FunctionDef → Phrase Value) → Phrase Value
with_function None go = Stops Waits
with_function (Some f) go = go f

-- ---- calls

-- a called function in a header's text traps at the line of the user's call
abbrev pub user_line_of : FunctionDef → ℕ → Option ℕ
user_line_of f line = if f.library then Some line else None

-- what the text of an activation knows, by the user's line and by how it calls
abbrev pub around_of :
    ℕ → PlainProgram → Start → Option ℕ → ((function line : ℕ) → List Value → Phrase Value) → Around
around_of n program start user_line call = record {
  rounds = n;
  id = start.id;
  base = start.base;
  kinds = map (λ (f : FunctionDef). f.kind) program.functions;
  user_line = user_line;
  call = call;
}

-- a call, where there is room for so many activations
abbrev pub call_within : ℕ → ℕ → PlainProgram → Start → (function line : ℕ) → List Value → Phrase Value
call_within zero n program start function line arguments = trap CallDepth line
call_within (suc room) n program start function line arguments =
    with_function (slice_get program.functions function) (λ f.
    play_function (around_of n program start (user_line_of f line) (call_within room n program start)) f arguments)

-- ---- threads

-- the activations beside a thread's first: 1,024 in all
abbrev pub further_activations : ℕ
further_activations = 1023

-- a thread's first function, which nobody calls: so in a header's text too a trap has the text's own line
abbrev pub play_first : ℕ → PlainProgram → Start → Phrase Value
play_first n program start =
    with_function (slice_get program.functions start.function) (λ f.
    play_function (around_of n program start None (call_within further_activations n program start)) f
    (start.argument ∷ []))

-- the play of a thread, where each loop makes at most n rounds; it gives the thread's result. The return of `main` ends the
-- program, that of another first function its thread
abbrev pub play_thread : ℕ → PlainProgram → Start → Phrase ℕ
play_thread n program start =
    bind (play_first n program start) (λ _ v. leave (start.function == program.main) v)

-- the events that a thread makes on these answers, and what comes of it
abbrev pub play : ℕ → PlainProgram → Start → List Answer → Behaviour (Unit {0}) ℕ
play n program start answers = run (play_thread n program start) (fresh_log answers)
