-- Worked histories of whole programs: which are legal, and which aren't.
use Rattle.std.specs.Prelude.{ℕ, List, [], ◌∷◌, false}
use Rattle.filc_num.specs.declared.integer.IntType.TheVariants.{I8}
use Rattle.filc_num.specs.declared.reason.Reason.TheVariants.{Freed as FreedReason}
use Rattle.c_tree.specs.declared.operation.Operation.TheVariants as op
use Rattle.c_tree.specs.declared.operation.Access.TheVariants.{Integer}
use Rattle.c_tree.specs.declared.expr.Expr.{Expr}
use Rattle.c_tree.specs.declared.stmt.Stmt.{Run, BreakUnless}
use Rattle.c_tree.specs.declared.program.FunctionDef.{FunctionDef}
use Rattle.ideal_machine.specs.declared.value.Half.{Half}
use Rattle.ideal_machine.specs.declared.value.Half.TheVariants.{Nothing, Freed, Object as ObjectHalf}
use Rattle.ideal_machine.specs.declared.event.Event.TheVariants.{Check, GetInt, New, Void, Out, Input, Spawn, Begin, End, Join, Exit, Trap}
use Rattle.ideal_machine.specs.declared.event.Answer.TheVariants.{Granted, Refused, Done, Number, Made}
use Rattle.ideal_machine.specs.Memory.{default_world}
use Rattle.tree_play.specs.Legal.{Entry, History, IsLegalHistory}
use Rattle.tree_play.specs.Worked.Setting.{leaf, one, two, number, local, bytes_at, empty, block_of_two, block_of_three, loop_of, put, set}
use Rattle.tree_play.specs.Worked.Programs.{program_of, function_of, main_of, returns}
use Rattle.tree_play.specs.Worked.Histories.{entry}

abbrev pub main_begins : Entry
main_begins = entry 0 (Begin 0 0 Nothing) Done

-- without input, a history that a program of these functions may have
abbrev pub MayBe : List FunctionDef → (rounds : ℕ) → History → Type 0
MayBe functions rounds history = IsLegalHistory history (program_of functions) (default_world []) rounds

-- ---- one thread

-- `int main(void){return 42;}` exits with 42 and nothing else, puts nothing out, and makes nothing after its exit
abbrev pub gives_42 : List FunctionDef
gives_42 = main_of (returns (number 42)) ∷ []

abbrev pub ExitIsTheReturn : Type 0
ExitIsTheReturn =
    (n : ℕ) →
    MayBe gives_42 n (main_begins ∷ entry 0 (Exit 42) Done ∷ [])
    × ¬ MayBe gives_42 n (main_begins ∷ entry 0 (Exit 41) Done ∷ [])
    × ¬ MayBe gives_42 n (main_begins ∷ entry 0 (Out 65) Done ∷ entry 0 (Exit 42) Done ∷ [])
    × ¬ MayBe gives_42 n (main_begins ∷ entry 0 (Exit 42) Done ∷ entry 0 (Out 65) Done ∷ [])

-- `int main(void){while(__filc_in());}` on the bytes 1 and 0 needs two rounds
abbrev pub takes_in : List FunctionDef
takes_in = main_of (loop_of (BreakUnless 1 (leaf op.Input)) empty) ∷ []

abbrev pub two_bytes : History
two_bytes = main_begins ∷ entry 0 Input (Number 1) ∷ entry 0 Input (Number 0) ∷ entry 0 (Exit 0) Done ∷ []

abbrev pub RoundsAreBounded : Type 0
RoundsAreBounded =
    IsLegalHistory two_bytes (program_of takes_in) (default_world (1 ∷ 0 ∷ [])) 2
    × ¬ IsLegalHistory two_bytes (program_of takes_in) (default_world (1 ∷ 0 ∷ [])) 1

-- ---- several threads

-- a thread that puts out its id, and gives 7
abbrev pub tells_id : FunctionDef
tells_id = function_of false 0 1 (block_of_two [] (put (leaf op.SelfId)) (returns (number 7)))

abbrev pub starts : Expr
starts = two op.Spawn (leaf (op.Function 1)) (number 0)

-- another thread may go on where `main` has exited
abbrev pub leaves_one : List FunctionDef
leaves_one = main_of (block_of_two [] (Run starts) (returns (number 0))) ∷ tells_id ∷ []

abbrev pub goes_on : History
goes_on =
    main_begins
    ∷ entry 0 (Spawn 1 0 Nothing) (Number 1)
    ∷ entry 0 (Exit 0) Done
    ∷ entry 1 (Begin 1 0 Nothing) Done
    ∷ entry 1 (Out 1) Done
    ∷ entry 1 (End 7) Done ∷ []

abbrev pub OthersGoOn : Type 0
OthersGoOn = (n : ℕ) → MayBe leaves_one n goes_on

-- an object that `main` made is read by another thread, at the fifth of its bytes: it lies where the last memory has it
abbrev pub hands_on : List FunctionDef
hands_on =
    main_of
    (block_of_two []
    (Run (two op.Spawn (leaf (op.Function 1)) (two (op.Advance 1) (one op.New (number 8)) (number 4)))) (returns (number 0)))
    ∷ function_of false 0 1 (returns (one (op.Load (Integer I8)) (local 0))) ∷ []

abbrev pub reads_at : (offset : ℕ) → History
reads_at offset =
    main_begins
    ∷ entry 0 (New 8 0) (Made 0 65536)
    ∷ entry 0 (Spawn 1 65540 (ObjectHalf 0)) (Number 1)
    ∷ entry 1 (Begin 1 65540 (ObjectHalf 0)) Done
    ∷ entry 1 (Check (ObjectHalf 0) 65540 1 false) Granted
    ∷ entry 1 (GetInt (bytes_at 0 offset 1)) (Number 0)
    ∷ entry 1 (End 0) Done
    ∷ entry 0 (Exit 0) Done ∷ []

abbrev pub OthersReadAnObject : Type 0
OthersReadAnObject = (n : ℕ) → MayBe hands_on n (reads_at 4) × ¬ MayBe hands_on n (reads_at 5)

-- a slot whose thread was joined is for another one, which has another id: 65 behind 1
abbrev pub starts_two : List FunctionDef
starts_two = main_of (block_of_three [] (Run (one op.Join starts)) (Run (one op.Join starts)) (returns (number 0))) ∷ tells_id ∷ []

abbrev pub two_threads : (told : ℕ) → History
two_threads told =
    main_begins
    ∷ entry 0 (Spawn 1 0 Nothing) (Number 1)
    ∷ entry 1 (Begin 1 0 Nothing) Done
    ∷ entry 1 (Out 1) Done
    ∷ entry 1 (End 7) Done
    ∷ entry 0 (Join 1) (Number 7)
    ∷ entry 0 (Spawn 1 0 Nothing) (Number 65)
    ∷ entry 1 (Begin 1 0 Nothing) Done
    ∷ entry 1 (Out told) Done
    ∷ entry 1 (End 7) Done
    ∷ entry 0 (Join 65) (Number 7)
    ∷ entry 0 (Exit 0) Done ∷ []

abbrev pub SlotsAreUsedAgain : Type 0
SlotsAreUsedAgain = (n : ℕ) → MayBe starts_two n (two_threads 65) × ¬ MayBe starts_two n (two_threads 1)

-- ---- freed objects

-- `int main(void){char *p=__filc_new(8);__filc_free(p);return *p;}`
abbrev pub reads_freed : List FunctionDef
reads_freed =
    main_of
    (block_of_three [] (set 0 (one op.New (number 8))) (Run (one op.Free (local 0))) (returns (one (op.Load (Integer I8)) (local 0))))
    ∷ []

-- the check behind the free may name the object, or show its half as freed
abbrev pub freed_and_read : Half → History
freed_and_read shown =
    main_begins
    ∷ entry 0 (New 8 0) (Made 0 65536)
    ∷ entry 0 (Void (ObjectHalf 0) 65536) Granted
    ∷ entry 0 (Check shown 65536 1 false) (Refused FreedReason)
    ∷ entry 0 (Trap FreedReason 1) Done ∷ []

-- the free itself may not
abbrev pub freed_twice : History
freed_twice =
    main_begins
    ∷ entry 0 (New 8 0) (Made 0 65536)
    ∷ entry 0 (Void Freed 65536) (Refused FreedReason)
    ∷ entry 0 (Trap FreedReason 1) Done ∷ []

abbrev pub FreedMayBeShown : Type 0
FreedMayBeShown =
    (n : ℕ) →
    MayBe reads_freed n (freed_and_read (ObjectHalf 0)) × MayBe reads_freed n (freed_and_read Freed) × ¬ MayBe reads_freed n freed_twice
