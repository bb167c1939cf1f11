-- Worked plays of calls: arguments, results, depth, ends, and the lines of traps.
use Rattle.std.specs.Prelude.{◌≡◌, ℕ, List, [], ◌∷◌, replicate, Bool, true, false, Some, None}
use Rattle.filc_num.specs.declared.reason.Reason.TheVariants.{NoCapability, NotFunction, FunctionType, CallDepth}
use Rattle.whole_code.specs.declared.op.Op.{Op}
use Rattle.whole_code.specs.declared.op.Op.TheVariants as op
use Rattle.whole_code.specs.declared.op.Instruction.{Instruction}
use Rattle.whole_code.specs.Plain.{PlainFunction, PlainCode}
use Rattle.ideal_machine.specs.declared.value.Half.TheVariants.{Nothing}
use Rattle.ideal_machine.specs.declared.value.Value.{Value}
use Rattle.ideal_machine.specs.declared.finish.Finish.{Finish}
use Rattle.ideal_machine.specs.declared.finish.Finish.TheVariants.{Exited, Trapped}
use Rattle.ideal_machine.specs.declared.event.Event.{Event}
use Rattle.ideal_machine.specs.declared.event.Event.TheVariants.{Check, Out, End, Exit, Trap}
use Rattle.ideal_machine.specs.declared.event.Answer.{Answer}
use Rattle.ideal_machine.specs.declared.event.Answer.TheVariants.{Refused, Done}
use Rattle.ideal_machine.specs.Values.{integer}
use Rattle.ideal_machine.specs.Play.{Behaviour, Call, Cut, Finished, Goes, Ends}
use Rattle.ideal_machine.specs.Phrases.{trap}
use Rattle.whole_thread.specs.Standing.{Caller, Standing}
use Rattle.whole_thread.specs.Act.{by_number, Next, entering, act}
use Rattle.whole_thread.specs.CodePlay.{code_events}
use Rattle.whole_thread.specs.Worked.Setting.{base, user_line, function_of, returns_zero, code, start, into, function, standing, Traps}

-- ---- codes

-- `main` is the first function
abbrev pub code_of : List PlainFunction → PlainCode
code_of functions = record { functions = functions; statics = []; main = 0 }

-- what a thread's code makes that begins with this function and argument, in at most 20 instructions
abbrev pub thread_of : List PlainFunction → ℕ → Value → List Answer → Behaviour (Unit {0}) ℕ
thread_of functions f argument answers =
    code_events 20 (code_of functions) (by_number (record { id = 0; function = f; argument = argument; base = base })) answers

-- the program ended so, after these events and so many calls
abbrev pub EndedAfter : Behaviour (Unit {0}) ℕ → List Event → (calls : ℕ) → Finish → Type 0
EndedAfter behaviour events calls finish =
    behaviour ≡ Ends (Finished finish) (record { answers = []; events = events; jumps = 0; calls = calls })

abbrev pub main_of : List Instruction → PlainFunction
main_of instructions = function_of 1 0 instructions

-- ---- ends

-- what `main` returns is the program's status, by its low byte
abbrev pub MainExits : Type 0
MainExits =
    EndedAfter (thread_of (main_of (user_line (op.Const 0 42) ∷ user_line (op.Return 0) ∷ []) ∷ []) 0 (integer 0) (Done ∷ [])) (Exit 42 ∷ []) 0 (Exited 42)
    × EndedAfter (thread_of (main_of (user_line (op.Const 0 298) ∷ user_line (op.Return 0) ∷ []) ∷ []) 0 (integer 0) (Done ∷ [])) (Exit 42 ∷ []) 0 (Exited 42)

-- what another thread's first function returns is the thread's result: here its argument
abbrev pub ThreadEnds : Type 0
ThreadEnds =
    (n : ℕ) →
    thread_of (main_of returns_zero ∷ function_of 0 1 (user_line (op.Return 0) ∷ []) ∷ []) 1 (integer n) (Done ∷ [])
    ≡ Goes tt n (record { answers = []; events = End n ∷ []; jumps = 0; calls = 0 })

-- a play of no instruction is cut
abbrev pub CodeIsCut : Type 0
CodeIsCut =
    code_events 0 code start [] ≡ Ends Cut (record { answers = []; events = []; jumps = 0; calls = 0 })

-- ---- calls

-- arguments are the callee's first registers, its others are 0, and the caller's registers stay but for the result's
abbrev pub calling : Op → List PlainFunction
calling call =
    main_of (user_line (op.Const 1 7) ∷ user_line (op.Const 2 8) ∷ user_line call ∷ user_line (op.Out 1) ∷ user_line (op.Return 3) ∷ [])
    ∷ function_of 2 2 (user_line (op.Out 1) ∷ user_line (op.Out 2) ∷ user_line (op.Return 0) ∷ []) ∷ []

abbrev pub ArgumentsArePassed : Type 0
ArgumentsArePassed =
    EndedAfter (thread_of (calling (op.Call 3 1 1 2)) 0 (integer 0) (Done ∷ Done ∷ Done ∷ Done ∷ []))
    (Out 8 ∷ Out 0 ∷ Out 7 ∷ Exit 7 ∷ []) 1 (Exited 7)

-- a call through a pointer, as of kind 2: it names a function of that kind, one of another kind, an object, nothing
abbrev pub through : Value → Type 0
through pointer =
    (next : Next) → act code start next (standing (pointer ∷ integer 7 ∷ integer 8 ∷ [])) 1 (op.CallPointer 0 0 1 2 2)
    ≡ Call (next (entering (record { frame = record { function = 0; index = 9; called_at = None; registers = pointer ∷ integer 7 ∷ integer 8 ∷ [] }; result = 0 } ∷ []) 1 (Some 1) (integer 7 ∷ integer 8 ∷ integer 0 ∷ integer 0 ∷ [])))

abbrev pub PointersAreCalled : Type 0
PointersAreCalled =
    through (function 1)
    × Traps (op.CallPointer 0 0 1 2 2) (function 2 ∷ []) [] [] FunctionType
    × Traps (op.CallPointer 0 0 1 2 2) (into 0 0 ∷ []) [] [] NotFunction
    × Traps (op.CallPointer 0 0 1 2 2) (integer 32 ∷ []) [] [] NotFunction

-- ---- depth

abbrev pub waiting : Caller
waiting = record { frame = record { function = 0; index = 9; called_at = None; registers = [] }; result = 0 }

-- with so many activations that wait
abbrev pub deep : ℕ → Standing
deep callers = record {
  callers = replicate callers waiting;
  frame = record { function = 0; index = 8; called_at = Some 1; registers = [] };
  granted = None;
}

-- beside 1,022 that wait there is room for one more, and beside 1,023 there is none: it would be activation 1,025
abbrev pub DepthIsReached : Type 0
DepthIsReached =
    (next : Next) → act code start next (deep 1022) 1 (op.Call 0 2 0 0)
    ≡ Call (next (entering (record { frame = record { function = 0; index = 9; called_at = Some 1; registers = [] }; result = 0 } ∷ replicate 1022 waiting) 2 (Some 1) (replicate 4 (integer 0))))

abbrev pub DepthIsPassed : Type 0
DepthIsPassed = (next : Next) → act code start next (deep 1023) 1 (op.Call 0 2 0 0) ≡ Call (trap CallDepth 1)

-- ---- lines

-- a function at line 1 reads the char at its argument; `main` calls it at line 3
abbrev pub reads : (library : Bool) → PlainFunction
reads library = function_of 2 1 (record { line = 1; library = library; op = op.LoadInt 0 0 1 } ∷ user_line (op.Return 0) ∷ [])

abbrev pub calls_at : (line : ℕ) → (library : Bool) → (function : ℕ) → List Instruction
calls_at line library f = record { line = line; library = library; op = op.Call 0 f 0 1 } ∷ user_line (op.Return 0) ∷ []

-- in the user's text it traps there; in a header's text at the line of the user's call, also where one function of a header
-- calls another
abbrev pub TrapsHaveLines : Type 0
TrapsHaveLines =
    EndedAfter (thread_of (main_of (calls_at 3 false 1) ∷ reads false ∷ []) 0 (integer 0) (Refused NoCapability ∷ Done ∷ []))
    (Check Nothing 0 1 false ∷ Trap NoCapability 1 ∷ []) 1 (Trapped NoCapability 1)
    × EndedAfter (thread_of (main_of (calls_at 3 false 1) ∷ reads true ∷ []) 0 (integer 0) (Refused NoCapability ∷ Done ∷ []))
    (Check Nothing 0 1 false ∷ Trap NoCapability 3 ∷ []) 1 (Trapped NoCapability 3)
    × EndedAfter (thread_of (main_of (calls_at 3 false 1) ∷ function_of 2 1 (calls_at 2 true 2) ∷ reads true ∷ []) 0 (integer 0) (Refused NoCapability ∷ Done ∷ []))
    (Check Nothing 0 1 false ∷ Trap NoCapability 3 ∷ []) 2 (Trapped NoCapability 3)

-- a thread's first function has no user's call: the text of a header has the line of its `#include`
abbrev pub FirstFunctionHasItsLine : Type 0
FirstFunctionHasItsLine =
    EndedAfter (thread_of (main_of returns_zero ∷ reads true ∷ []) 1 (integer 0) (Refused NoCapability ∷ Done ∷ []))
    (Check Nothing 0 1 false ∷ Trap NoCapability 1 ∷ []) 0 (Trapped NoCapability 1)
