-- Worked plays of programs: how threads end, how functions are called, and at which line they trap.
use Rattle.std.specs.Prelude.{◌≡◌, ℕ, List, [], ◌∷◌, Bool, true, false, Some}
use Rattle.filc_num.specs.declared.integer.IntType.TheVariants.{I32}
use Rattle.filc_num.specs.declared.integer.BinOp.TheVariants.{Add}
use Rattle.filc_num.specs.declared.reason.Reason.TheVariants.{NotFunction, FunctionType}
use Rattle.c_tree.specs.declared.operation.Operation.TheVariants as op
use Rattle.c_tree.specs.declared.operation.Access.TheVariants.{Integer}
use Rattle.c_tree.specs.declared.stmt.LocalKind.TheVariants.{Home}
use Rattle.c_tree.specs.declared.expr.Expr.{Expr}
use Rattle.c_tree.specs.declared.stmt.Stmt.{Stmt, Run, Return}
use Rattle.c_tree.specs.declared.program.FunctionDef.{FunctionDef}
use Rattle.c_tree.specs.Plain.{PlainProgram, plain_program}
use Rattle.ideal_machine.specs.declared.value.Value.{Value}
use Rattle.ideal_machine.specs.declared.value.Half.TheVariants.{Object as ObjectHalf}
use Rattle.ideal_machine.specs.declared.finish.Finish.{Finish}
use Rattle.ideal_machine.specs.declared.finish.Finish.TheVariants.{Exited, Trapped}
use Rattle.ideal_machine.specs.declared.event.Event.{Event}
use Rattle.ideal_machine.specs.declared.event.Event.TheVariants.{Check, GetInt, SetInt, New, Out, Input, End, Exit, Trap}
use Rattle.ideal_machine.specs.declared.event.Answer.{Answer}
use Rattle.ideal_machine.specs.declared.event.Answer.TheVariants.{Granted, Done, Number, Made}
use Rattle.ideal_machine.specs.Values.{integer}
use Rattle.ideal_machine.specs.Play.{Behaviour, Finished, Goes, Ends}
use Rattle.tree_play.specs.TreePlay.{play}
use Rattle.tree_play.specs.Worked.Setting.{leaf, one, two, three, number, local, static, base, bytes_at, empty, block_of_two, if_of, local_of, put}

-- ---- programs

-- a function of the user's or of a header, by the number of its type, its parameters and its body
abbrev pub function_of : (library : Bool) → (kind parameters : ℕ) → Stmt → FunctionDef
function_of library kind parameters body =
    record { line = 1; library = library; kind = kind; parameters = parameters; locals = 4; values = 16; body = body }

-- `main` is the first function
abbrev pub program_of : List FunctionDef → PlainProgram
program_of functions = plain_program functions [] 0

-- what a thread plays that begins with this function and argument
abbrev pub thread_of : List FunctionDef → ℕ → Value → List Answer → Behaviour (Unit {0}) ℕ
thread_of functions f argument answers =
    play 3 (program_of functions) (record { id = 0; function = f; argument = argument; base = base }) answers

-- the program ended so, after these events and so many calls
abbrev pub EndsWith : Behaviour (Unit {0}) ℕ → List Event → (calls : ℕ) → Finish → Type 0
EndsWith behaviour events calls finish =
    behaviour ≡ Ends (Finished finish) (record { answers = []; events = events; jumps = 0; calls = calls })

abbrev pub main_of : Stmt → FunctionDef
main_of body = function_of false 1 0 body

abbrev pub returns : Expr → Stmt
returns e = Return 1 (Some e)

-- ---- ends

-- what `main` returns is the program's status, by its low byte; where control reaches its end that is 0
abbrev pub MainExits : Type 0
MainExits =
    EndsWith (thread_of (main_of (returns (number 42)) ∷ []) 0 (integer 0) (Done ∷ [])) (Exit 42 ∷ []) 0 (Exited 42)
    × EndsWith (thread_of (main_of (returns (number 18446744073709551615)) ∷ []) 0 (integer 0) (Done ∷ [])) (Exit 255 ∷ []) 0 (Exited 255)
    × EndsWith (thread_of (main_of empty ∷ []) 0 (integer 0) (Done ∷ [])) (Exit 0 ∷ []) 0 (Exited 0)

-- what another thread's first function returns is the thread's result: here its argument
abbrev pub ThreadEnds : Type 0
ThreadEnds =
    (n : ℕ) →
    thread_of (main_of empty ∷ function_of false 0 1 (returns (local 0)) ∷ []) 1 (integer n) (Done ∷ [])
    ≡ Goes tt n (record { answers = []; events = End n ∷ []; jumps = 0; calls = 0 })

-- a call of `main` returns as any other call does, in the program's first thread and in another
abbrev pub one_more : Expr → Expr
one_more e = two (op.Binary Add I32) e (number 1)

abbrev pub calls_main_once : Stmt
calls_main_once = block_of_two [] (if_of (leaf op.Input) (returns (one_more (leaf (op.Call 0)))) empty) (returns (number 3))

abbrev pub CalledMainReturns : Type 0
CalledMainReturns =
    EndsWith (thread_of (main_of calls_main_once ∷ []) 0 (integer 0) (Number 1 ∷ Number 0 ∷ Done ∷ []))
    (Input ∷ Input ∷ Exit 4 ∷ []) 1 (Exited 4)
    × (thread_of (main_of (returns (number 3)) ∷ function_of false 0 1 (returns (one_more (leaf (op.Call 0)))) ∷ []) 1 (integer 0)
    (Done ∷ [])
    ≡ Goes tt 4 (record { answers = []; events = End 4 ∷ []; jumps = 0; calls = 1 }))

-- ---- calls

-- arguments are the callee's first locals, and its others are 0; the caller's locals stay
abbrev pub shows_locals : Stmt
shows_locals = block_of_two [] (put (local 1)) (block_of_two [] (put (local 2)) (returns (local 0)))

abbrev pub ArgumentsArePassed : Type 0
ArgumentsArePassed =
    EndsWith
    (thread_of (main_of (returns (two (op.Call 1) (number 7) (number 8))) ∷ function_of false 2 2 shows_locals ∷ []) 0 (integer 0)
    (Done ∷ Done ∷ Done ∷ []))
    (Out 8 ∷ Out 0 ∷ Exit 7 ∷ []) 1 (Exited 7)

-- a call through a pointer: its function's type has to be the call's
abbrev pub call_through : Expr → List FunctionDef
call_through pointer =
    main_of (returns (one (op.CallPointer 1) pointer)) ∷ function_of false 2 0 empty ∷ function_of false 1 0 (returns (number 5)) ∷ []

abbrev pub PointersAreCalled : Type 0
PointersAreCalled =
    EndsWith (thread_of (call_through (leaf (op.Function 2))) 0 (integer 0) (Done ∷ [])) (Exit 5 ∷ []) 1 (Exited 5)
    × EndsWith (thread_of (call_through (leaf (op.Function 1))) 0 (integer 0) (Done ∷ [])) (Trap FunctionType 1 ∷ []) 0 (Trapped FunctionType 1)
    × EndsWith (thread_of (call_through (static 0)) 0 (integer 0) (Done ∷ [])) (Trap NotFunction 1 ∷ []) 0 (Trapped NotFunction 1)
    × EndsWith (thread_of (call_through (number 0)) 0 (integer 0) (Done ∷ [])) (Trap NotFunction 1 ∷ []) 0 (Trapped NotFunction 1)

-- the operands behind the pointer are the arguments
abbrev pub PointersTakeArguments : Type 0
PointersTakeArguments =
    EndsWith
    (thread_of
    (main_of (returns (three (op.CallPointer 2) (leaf (op.Function 1)) (number 7) (number 8))) ∷ function_of false 2 2 shows_locals ∷ []) 0
    (integer 0) (Done ∷ Done ∷ Done ∷ []))
    (Out 8 ∷ Out 0 ∷ Exit 7 ∷ []) 1 (Exited 7)

-- the capability names the function, and not the address: a pointer that moved calls the same one
abbrev pub MovedPointerCalls : Type 0
MovedPointerCalls =
    EndsWith (thread_of (call_through (two (op.Advance 1) (leaf (op.Function 2)) (number 4))) 0 (integer 0) (Done ∷ []))
    (Exit 5 ∷ []) 1 (Exited 5)

-- `int*f(void){int x=7;return &x;}`: a home is not voided, so `*f()` is 7
abbrev pub returns_its_home : Stmt
returns_its_home = block_of_two (local_of 0 (Home 4) ∷ []) (Run (two (op.Store (Integer I32)) (local 0) (number 7))) (returns (local 0))

abbrev pub HomeOutlivesItsCall : Type 0
HomeOutlivesItsCall =
    EndsWith
    (thread_of (main_of (returns (one (op.Load (Integer I32)) (leaf (op.Call 1)))) ∷ function_of false 2 0 returns_its_home ∷ []) 0 (integer 0)
    (Made 2 67584 ∷ Granted ∷ Done ∷ Granted ∷ Number 7 ∷ Done ∷ []))
    (New 4 1 ∷ Check (ObjectHalf 2) 67584 4 true ∷ SetInt (bytes_at 2 0 4) 7
    ∷ Check (ObjectHalf 2) 67584 4 false ∷ GetInt (bytes_at 2 0 4) ∷ Exit 7 ∷ []) 1 (Exited 7)
