-- Stretches of code, and what it means that one runs what C's text plays.
--
-- Where the play goes on, the code stands at an index with registers of which something is known; where the play ends, the
-- code ends like it, with the same answers left, events, backward jumps and calls. Code goes on with a bound: what is said
-- holds of some bound, and of each that is said of what follows.
use Rattle.std.specs.Prelude.{◌≡◌, ℕ, ◌+◌, ◌<◌, ◌≤◌, ◌^◌, List, [], ◌∷◌, All, slice_get, map, Bool, Option, Some, None, if◌then◌else◌}
use Rattle.filc_num.specs.declared.reason.Reason.TheVariants.{CallDepth}
use Rattle.whole_code.specs.declared.op.Instruction.{Instruction}
use Rattle.whole_code.specs.Plain.{PlainCode, instruction_at}
use Rattle.whole_code.specs.Operands.{numbers_from}
use Rattle.ideal_machine.specs.declared.value.Value.{Value}
use Rattle.ideal_machine.specs.declared.event.Answer.{Answer}
use Rattle.ideal_machine.specs.declared.event.Answer.TheVariants.{Number}
use Rattle.ideal_machine.specs.Values.{State, value_at, put_at}
use Rattle.ideal_machine.specs.Play.{Log, Behaviour, Goes, Ends, run}
use Rattle.ideal_machine.specs.Phrases.{Start, Phrase, trap, if_zero}
use Rattle.tree_play.specs.Around.{Around}
use Rattle.whole_thread.specs.Standing.{Caller, Standing, room}
use Rattle.whole_thread.specs.Act.{by_number, kinds_of, enters}
use Rattle.whole_thread.specs.CodePlay.{exec}

-- ---- where code runs

-- a function's activation: the whole code, how its thread begins, the activations that wait, the function, the line of its
-- call, and whether it is a header's text
pub record Site : Type 0 where
  pub code : PlainCode
  pub start : Start
  pub callers : List Caller
  pub function : ℕ
  pub called_at : Option ℕ
  pub library : Bool

-- before an instruction, with registers
abbrev pub standing : Site → (index : ℕ) → List Value → Standing
standing site index registers = record {
  callers = site.callers;
  frame = record { function = site.function; index = index; called_at = site.called_at; registers = registers };
  granted = None;
}

-- what the text that is played there knows
abbrev pub around_at : Site → (rounds : ℕ) → ((function line : ℕ) → List Value → Phrase Value) → Around
around_at site rounds call = record {
  rounds = rounds;
  id = site.start.id;
  base = site.start.base;
  kinds = kinds_of site.code;
  user_line = if site.library then site.called_at else None;
  call = call;
}

-- the instructions stand in the function's code at this index, and end at that one
abbrev pub Between : Site → (from : ℕ) → List Instruction → (to : ℕ) → Type 0
Between site from [] to = from ≡ to
Between site from (i ∷ is) to = (instruction_at site.code site.function from ≡ Some i) × Between site (from + 1) is to

-- ---- what code does

-- what code does, with each bound
abbrev pub Bounded : Type 0
Bounded = ℕ → Phrase ℕ

-- the play from an index, with registers
abbrev pub from : Site → (index : ℕ) → List Value → Bounded
from site index registers m = exec site.code (by_number site.start) m (standing site index registers)

-- whatever the second does with m instructions, the first does with some
abbrev pub Comes : Bounded → Log → Bounded → Log → Type 0
Comes K w K1 w1 = (m : ℕ) → (j : ℕ) × (run (K j) w ≡ run (K1 m) w1)

-- what is known where a play gives a state and a value, and code stands at an index with registers
abbrev pub Landing : Type 0 → Type 0 → Type 1
Landing S A = S → A → (index : ℕ) → List Value → Type 0

pub record Arrives {S A : Type 0} (site : Site) (P : Landing S A) (K : Bounded) (w : Log) (state : S) (v : A) (w1 : Log) : Type 0 where
  pub index : ℕ
  pub after : List Value
  pub comes : Comes K w (from site index after) w1
  pub holds : P state v index after

-- code runs a behaviour: it lands where the play goes on, and ends where it ends
abbrev pub Runs : {S A : Type 0} → Site → Landing S A → Bounded → Log → Behaviour S A → Type 0
Runs site P K w (Goes state v w1) = Arrives site P K w state v w1
Runs site P K w (Ends e w1) = (j : ℕ) × (run (K j) w ≡ Ends e w1)

-- ---- calls

-- code runs the behaviour of a call: it goes on where the caller does
abbrev pub ReturnsTo : Bounded → (Value → Bounded) → Log → Behaviour (Unit {0}) Value → Type 0
ReturnsTo K leave w (Goes s v w1) = Comes K w (leave v) w1
ReturnsTo K leave w (Ends e w1) = (j : ℕ) × (run (K j) w ≡ Ends e w1)

-- what a call does after its mark: it enters the function, or there is no room for one more activation
abbrev pub entry : Site → (index : ℕ) → List Value → (line d function : ℕ) → List Value → Bounded
entry site index registers line d function arguments m =
    if_zero (room (standing site index registers)) (trap CallDepth line)
    (enters (exec site.code (by_number site.start) m) (standing site index registers) line d function arguments
    (slice_get site.code.functions function))

-- ---- answers

-- a number in an answer is one of 64 bits
abbrev pub IsWordAnswer : Answer → Type 0
IsWordAnswer (Number n) = n < 2 ^ 64
IsWordAnswer answer = Unit {0}

abbrev pub HasWords : Log → Type 0
HasWords w = All IsWordAnswer w.answers

-- the called functions' code runs their plays, wherever they are called
abbrev pub CallRuns : Site → ((function line : ℕ) → List Value → Phrase Value) → Type 0
CallRuns site call =
    (function line : ℕ) (arguments : List Value) (index d : ℕ) (registers : List Value) (w : Log) → HasWords w →
    ReturnsTo (entry site index registers line d function arguments) (λ v. from site (index + 1) (put_at registers d v)) w
    (run (call function line arguments) w)

-- ---- registers beside locals

-- so many registers, from a first one on
abbrev pub values_from : List Value → (first count : ℕ) → List Value
values_from registers first count = map (value_at registers) (numbers_from first count)

-- the first k registers have the values of the locals
pub record Agree (k : ℕ) (registers env : List Value) : Type 0 where
  pub same : (x : ℕ) → x < k → value_at registers x ≡ value_at env x

-- the registers agree with the locals, and from k up to t they are those of the base
pub record Matches (k t : ℕ) (base registers env : List Value) : Type 0 where
  pub agree : Agree k registers env
  pub kept : (x : ℕ) → k ≤ x → x < t → value_at registers x ≡ value_at base x

-- where something has been computed: at the stretch's end, with registers that match, of which V holds
pub record Arrived {A : Type 0} (k t to : ℕ) (base : List Value) (V : List Value → A → Type 0) (env : State) (v : A) (index : ℕ) (after : List Value) : Type 0 where
  pub here : index ≡ to
  pub matches : Matches k t base after env
  pub value : V after v

-- a value is in a register, and values are in so many from one on
abbrev pub InRegister : ℕ → List Value → Value → Type 0
InRegister t registers v = value_at registers t ≡ v

abbrev pub InRegisters : (first count : ℕ) → List Value → List Value → Type 0
InRegisters first count registers values = values_from registers first count ≡ values
