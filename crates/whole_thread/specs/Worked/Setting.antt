-- How worked plays are written: a setting, and what an instruction is said to play.
use Rattle.std.specs.Prelude.{◌≡◌, ℕ, ◌+◌, ◌*◌, List, [], ◌∷◌, ◌++◌, false, None}
use Rattle.filc_num.specs.declared.reason.Reason.{Reason}
use Rattle.whole_code.specs.declared.op.Op.{Op}
use Rattle.whole_code.specs.declared.op.Op.TheVariants as op
use Rattle.whole_code.specs.declared.op.Instruction.{Instruction}
use Rattle.whole_code.specs.Plain.{PlainFunction, PlainCode}
use Rattle.ideal_machine.specs.declared.value.Half.TheVariants.{Object as ObjectHalf, Function as FunctionHalf}
use Rattle.ideal_machine.specs.declared.value.Value.{Value}
use Rattle.ideal_machine.specs.declared.finish.Finish.TheVariants.{Trapped}
use Rattle.ideal_machine.specs.declared.event.Access.{Access}
use Rattle.ideal_machine.specs.declared.event.Event.{Event}
use Rattle.ideal_machine.specs.declared.event.Event.TheVariants.{Trap}
use Rattle.ideal_machine.specs.declared.event.Answer.{Answer}
use Rattle.ideal_machine.specs.declared.event.Answer.TheVariants.{Done}
use Rattle.ideal_machine.specs.Values.{integer}
use Rattle.ideal_machine.specs.Play.{Finished, Log, fresh_log, Ends, run}
use Rattle.whole_thread.specs.Standing.{Standing, onward}
use Rattle.whole_thread.specs.Act.{CodeStart, by_number, Next, act}

-- ---- a setting: functions of kinds 1, 2 and 0, and objects of which each has its own thousand bytes

abbrev pub user_line : Op → Instruction
user_line o = record { line = 1; library = false; op = o }

-- a function of so many parameters and of 4 registers
abbrev pub function_of : (kind parameters : ℕ) → List Instruction → PlainFunction
function_of kind parameters instructions =
    record { values = 4; parameters = parameters; kind = kind; instructions = instructions }

abbrev pub returns_zero : List Instruction
returns_zero = user_line (op.Return 3) ∷ []

-- `main` is the first
abbrev pub code : PlainCode
code = record {
  functions = function_of 1 0 returns_zero ∷ function_of 2 2 returns_zero ∷ function_of 0 1 returns_zero ∷ [];
  statics = [];
  main = 0;
}

abbrev pub base : ℕ → ℕ
base n = 65536 + 1024 * n

abbrev pub start : CodeStart
start = by_number (record { id = 65; function = 0; argument = integer 0; base = base })

-- so many bytes of an object, from an offset
abbrev pub bytes_at : (object offset width : ℕ) → Access
bytes_at object offset width = record { object = object; offset = offset; width = width }

-- a pointer into an object, by the offset, and one to a function
abbrev pub into : (object offset : ℕ) → Value
into object offset = record { number = base object + offset; half = ObjectHalf object }

abbrev pub function : ℕ → Value
function f = record { number = 16 * (f + 1); half = FunctionHalf f }

-- -1, as it is kept
abbrev pub minus_one : ℕ
minus_one = 18446744073709551615

-- ---- what is played

-- a thread that stands at index 8 of `main`, with these registers
abbrev pub standing : List Value → Standing
standing registers = record {
  callers = [];
  frame = record { function = 0; index = 8; called_at = None; registers = registers };
  granted = None;
}

-- when these events are made, with so many backward jumps
abbrev pub log_of : List Event → (jumps : ℕ) → Log
log_of events jumps = record { answers = []; events = events; jumps = jumps; calls = 0 }

-- an instruction at line 1, from where a thread stands: when these answers are taken, these events and so many jumps are made,
-- and it goes on from there
abbrev pub Goes : Op → Standing → List Answer → List Event → (jumps : ℕ) → Standing → Type 0
Goes o from answers events jumps to =
    (next : Next) → run (act code start next from 1 o) (fresh_log answers) ≡ run (next to) (log_of events jumps)

-- from these registers to the next instruction, with those
abbrev pub Makes : Op → List Value → List Answer → List Event → List Value → Type 0
Makes o registers answers events after = Goes o (standing registers) answers events 0 (onward (standing after))

-- an instruction that traps at line 1 after these events
abbrev pub Traps : Op → List Value → List Answer → List Event → Reason → Type 0
Traps o registers answers events reason =
    (next : Next) →
    run (act code start next (standing registers) 1 o) (fresh_log (answers ++ Done ∷ []))
    ≡ Ends (Finished (Trapped reason 1)) (log_of (events ++ Trap reason 1 ∷ []) 0)
