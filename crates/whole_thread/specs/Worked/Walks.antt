-- Worked walks of a thread: what it wants, event by event, what it is answered, and where it stands then.
use Rattle.std.specs.Prelude.{◌≡◌, ℕ, ◌+◌, ◌*◌, List, [], ◌∷◌, true, false, None, Some}
use Rattle.filc_num.specs.declared.reason.Reason.TheVariants.{Bounds, Divide, NoCapability}
use Rattle.whole_code.specs.declared.op.Op.{Op}
use Rattle.whole_code.specs.declared.op.Op.TheVariants as op
use Rattle.whole_code.specs.Plain.{PlainCode}
use Rattle.ideal_machine.specs.declared.value.Half.{Half}
use Rattle.ideal_machine.specs.declared.value.Half.TheVariants.{Nothing, Object as ObjectHalf}
use Rattle.ideal_machine.specs.declared.value.Kept.TheVariants.{Plain as KeptPlain, Pair as KeptPair}
use Rattle.ideal_machine.specs.declared.value.Found.TheVariants.{Plain as FoundPlain, Pair as FoundPair}
use Rattle.ideal_machine.specs.declared.value.Value.{Value}
use Rattle.ideal_machine.specs.declared.finish.Finish.TheVariants.{Exited, Trapped}
use Rattle.ideal_machine.specs.declared.event.Access.{Access}
use Rattle.ideal_machine.specs.declared.event.Seen.TheVariants.{Found as SeenFound}
use Rattle.ideal_machine.specs.declared.event.Event.{Event}
use Rattle.ideal_machine.specs.declared.event.Event.TheVariants as event
use Rattle.ideal_machine.specs.declared.event.Answer.{Answer}
use Rattle.ideal_machine.specs.declared.event.Answer.TheVariants as answer
use Rattle.ideal_machine.specs.Values.{integer}
use Rattle.whole_thread.specs.declared.stage.Want.TheVariants as want
use Rattle.whole_thread.specs.declared.stage.Halt.TheVariants as halt
use Rattle.whole_thread.specs.declared.stage.Stage.TheVariants as stage
use Rattle.whole_thread.specs.Thread.{Thread, want_of, at_stage, goes_on, thread_after_step, thread_after_poll}
use Rattle.whole_thread.specs.Answers.{thread_after_answer}
use Rattle.whole_thread.specs.Worked.Setting.{user_line, function_of, returns_zero}

-- `main` has this instruction, and then returns its register 3
abbrev pub code_with : Op → PlainCode
code_with o = record {
  functions = function_of 1 0 (user_line o ∷ returns_zero) ∷ function_of 2 2 returns_zero ∷ [];
  statics = [];
  main = 0;
}

-- a thread that begins with `main`, with these registers
abbrev pub thread_with : List Value → Thread
thread_with registers = record {
  id = 65;
  main = true;
  at = record { callers = []; frame = record { function = 0; index = 0; called_at = None; registers = registers }; granted = None };
  stage = stage.Before;
}

-- a pointer into the object at a place
abbrev pub into : (place offset : ℕ) → Value
into place offset = record { number = 65536 + 8 * place + offset; half = ObjectHalf place }

abbrev pub bytes_at : (place offset width : ℕ) → Access
bytes_at place offset width = record { object = place; offset = offset; width = width }

-- an event that is wanted, and its answer
pub record Exchange : Type 0 where
  pub event : Event
  pub answer : Answer

-- a thread wants these events, one after another, and with these answers comes to another
abbrev pub WalksIn : PlainCode → Thread → List Exchange → Thread → Type 0
WalksIn code thread [] last = thread ≡ last
WalksIn code thread (x ∷ more) last =
    (want_of code thread ≡ want.Event x.event) × WalksIn code (thread_after_answer code thread x.answer) more last

abbrev pub Walks : Op → Thread → List Exchange → Thread → Type 0
Walks o = WalksIn (code_with o)

-- a pointer of two halves is read
abbrev pub LoadWalks : Type 0
LoadWalks =
    (half : Half) (n : ℕ) →
    Walks (op.LoadPointer 0 0) (thread_with (into 100 8 ∷ []))
    (record { event = event.Check (ObjectHalf 100) 66344 8 false; answer = answer.Granted }
    ∷ record { event = event.GetHalf 100 1; answer = answer.Found (FoundPlain half) }
    ∷ record { event = event.GetInt (bytes_at 100 8 8); answer = answer.Number n } ∷ [])
    (goes_on (thread_with (record { number = n; half = half } ∷ [])))

-- one is stored
abbrev pub StoreWalks : Type 0
StoreWalks =
    Walks (op.StorePointer 0 1) (thread_with (into 100 0 ∷ into 200 4 ∷ []))
    (record { event = event.Check (ObjectHalf 100) 66336 8 true; answer = answer.Granted }
    ∷ record { event = event.SetInt (bytes_at 100 0 8) 67140; answer = answer.Done }
    ∷ record { event = event.SetHalf 100 0 (KeptPlain (ObjectHalf 200)); answer = answer.Done } ∷ [])
    (goes_on (thread_with (into 100 0 ∷ into 200 4 ∷ [])))

-- a lock is checked once more, and then taken
abbrev pub LockWalks : Type 0
LockWalks =
    Walks (op.Lock 0) (thread_with (into 100 0 ∷ []))
    (record { event = event.Check (ObjectHalf 100) 66336 4 true; answer = answer.Granted }
    ∷ record { event = event.Lock 100 0; answer = answer.Granted }
    ∷ record { event = event.Lock 100 0; answer = answer.Granted }
    ∷ record { event = event.Lock 100 0; answer = answer.Done } ∷ [])
    (goes_on (thread_with (into 100 0 ∷ [])))

-- an exchange of a pointer is lost, and tried again from GetHalf; another address is there then
abbrev pub operands : (found made : Value) → List Value
operands found made = into 100 0 ∷ into 200 0 ∷ into 300 0 ∷ found ∷ made ∷ []

abbrev pub ExchangeWalks : Type 0
ExchangeWalks =
    Walks (op.BoxCas 3 4 0 1 2) (thread_with (operands (integer 0) (integer 9)))
    (record { event = event.Check (ObjectHalf 100) 66336 8 true; answer = answer.Granted }
    ∷ record { event = event.GetHalf 100 0; answer = answer.Found (FoundPair 4) }
    ∷ record { event = event.Open 4; answer = answer.Opened 67136 Nothing }
    ∷ record { event = event.Name (ObjectHalf 200) 67136; answer = answer.Done }
    ∷ record { event = event.CasHalf 100 0 (SeenFound (FoundPair 4)) (KeptPair 67936 (ObjectHalf 300)); answer = answer.Found (FoundPair 5) }
    ∷ record { event = event.GetHalf 100 0; answer = answer.Found (FoundPlain Nothing) }
    ∷ record { event = event.GetInt (bytes_at 100 0 8); answer = answer.Number 8 }
    ∷ record { event = event.Name (ObjectHalf 200) 67136; answer = answer.Done } ∷ [])
    (goes_on (thread_with (operands (integer 8) (integer 0))))

-- two pointers are named
abbrev pub NamesWalk : Type 0
NamesWalk =
    Walks (op.PointerCompare 0 0 1 14) (thread_with (into 100 0 ∷ integer 66336 ∷ []))
    (record { event = event.Name (ObjectHalf 100) 66336; answer = answer.Done }
    ∷ record { event = event.Name Nothing 66336; answer = answer.Done } ∷ [])
    (goes_on (thread_with (integer 1 ∷ integer 66336 ∷ [])))

-- a refusal is a trap, at its line, and ends the program
abbrev pub RefusalWalks : Type 0
RefusalWalks =
    Walks (op.StoreInt 0 1 5) (thread_with (into 100 0 ∷ integer 7 ∷ []))
    (record { event = event.Check (ObjectHalf 100) 66336 4 true; answer = answer.Refused Bounds }
    ∷ record { event = event.Trap Bounds 1; answer = answer.Done } ∷ [])
    (at_stage (thread_with (into 100 0 ∷ integer 7 ∷ [])) (stage.Over (halt.Finished (Trapped Bounds 1))))

-- a thread steps into a function and back, and `main` exits; a poll makes nothing
abbrev pub CallsWalk : Type 0
CallsWalk =
    let call = op.Call 3 1 0 1 in
    let called = thread_after_step (code_with call) (λ n. n) (thread_with (integer 42 ∷ [])) in
    let returned = thread_after_step (code_with call) (λ n. n) called in
    (want_of (code_with call) (thread_with (integer 42 ∷ [])) ≡ want.Instruction)
    × (called.at.frame ≡ record { function = 1; index = 0; called_at = Some 1; registers = integer 42 ∷ integer 0 ∷ integer 0 ∷ integer 0 ∷ [] })
    × (want_of (code_with call) called ≡ want.Instruction)
    × (returned ≡ goes_on (thread_with (integer 42 ∷ integer 0 ∷ integer 0 ∷ integer 0 ∷ [])))
    × Walks call returned (record { event = event.Exit 0; answer = answer.Done } ∷ []) (at_stage returned (stage.Over (halt.Finished (Exited 0))))

-- `int g; int main(void) { return g; }`, where g is at this place
abbrev pub static_code : PlainCode
static_code = record {
  functions = function_of 1 0 (user_line (op.StaticAt 0 0) ∷ user_line (op.LoadInt 0 0 5) ∷ user_line (op.Return 0) ∷ []) ∷ [];
  statics = [];
  main = 0;
}

abbrev pub static_place : ℕ → ℕ
static_place n = 1048637

-- a static object is named by its place, and not by its number
abbrev pub StaticWalks : Type 0
StaticWalks =
    (want_of static_code (thread_with (integer 7 ∷ [])) ≡ want.Instruction)
    × WalksIn static_code (thread_after_step static_code static_place (thread_with (integer 7 ∷ [])))
    (record { event = event.Check (ObjectHalf 1048637) 8454632 4 false; answer = answer.Granted }
    ∷ record { event = event.GetInt (bytes_at 1048637 0 4); answer = answer.Number 42 }
    ∷ record { event = event.Exit 42; answer = answer.Done } ∷ [])
    (at_stage (goes_on (goes_on (thread_with (integer 42 ∷ [])))) (stage.Over (halt.Finished (Exited 42))))

-- `main` calls a function of a header at line 3, which has this instruction at its line 1
abbrev pub library_code : Op → PlainCode
library_code o = record {
  functions = function_of 1 0 (record { line = 3; library = false; op = op.Call 0 1 0 1 } ∷ returns_zero)
      ∷ function_of 2 1 (record { line = 1; library = true; op = o } ∷ returns_zero) ∷ [];
  statics = [];
  main = 0;
}

-- `main` has called it
abbrev pub in_library : Op → Thread
in_library o = thread_after_step (library_code o) (λ n. n) (thread_with (integer 0 ∷ []))

-- a refusal in library text traps at the line of the user's call
abbrev pub LibraryRefusalWalks : Type 0
LibraryRefusalWalks =
    let load = op.LoadInt 0 0 1 in
    WalksIn (library_code load) (in_library load)
    (record { event = event.Check Nothing 0 1 false; answer = answer.Refused NoCapability }
    ∷ record { event = event.Trap NoCapability 3; answer = answer.Done } ∷ [])
    (at_stage (in_library load) (stage.Over (halt.Finished (Trapped NoCapability 3))))

-- and so does an instruction on registers there
abbrev pub LibraryStepWalks : Type 0
LibraryStepWalks =
    let division = op.Binary 0 0 0 3 5 in
    let divided = thread_after_step (library_code division) (λ n. n) (in_library division) in
    (want_of (library_code division) (in_library division) ≡ want.Instruction)
    × WalksIn (library_code division) divided
    (record { event = event.Trap Divide 3; answer = answer.Done } ∷ [])
    (at_stage divided (stage.Over (halt.Finished (Trapped Divide 3))))

abbrev pub PollWalks : Type 0
PollWalks =
    (want_of (code_with op.Poll) (thread_with (integer 7 ∷ [])) ≡ want.Poll)
    × (thread_after_poll (thread_with (integer 7 ∷ [])) ≡ goes_on (thread_with (integer 7 ∷ [])))
