-- Worked plays of the intrinsics: their event, and what each answer gives.
use Rattle.std.specs.Prelude.{◌≡◌, [], ◌∷◌, true}
use Rattle.filc_num.specs.declared.reason.Reason.TheVariants.{NoCapability, Freed as FreedReason, NotFunction, FunctionType, BadFree, OutputLimit, Abort, NoCell}
use Rattle.c_tree.specs.declared.operation.Operation.TheVariants as op
use Rattle.ideal_machine.specs.declared.value.Half.TheVariants.{Nothing, Object as ObjectHalf}
use Rattle.ideal_machine.specs.declared.finish.Finish.TheVariants.{Exited}
use Rattle.ideal_machine.specs.declared.event.Event.TheVariants.{Check, New, Void, Size, Lock, Out, Input, Spawn, Join, Exit}
use Rattle.ideal_machine.specs.declared.event.Answer.TheVariants.{Granted, Refused, Done, Number, Made, Absent, End as InputEnd}
use Rattle.ideal_machine.specs.Values.{integer}
use Rattle.ideal_machine.specs.Play.{Cut, Finished, Ends, fresh_log, run}
use Rattle.tree_play.specs.Worked.Setting.{leaf, one, two, number, local, static, into, Yields, YieldsWith, Traps, WaitsAt, expr_play}

-- a lock: Check, and Lock
abbrev pub LockIsTaken : Type 0
LockIsTaken =
    Yields (expr_play (one op.Lock (static 0)) []) (Granted ∷ Done ∷ []) (Check (ObjectHalf 0) 65536 4 true ∷ Lock 0 0 ∷ []) [] (into 0 0)

-- its check is made once more for each further answer of a check; want of a cell is none
abbrev pub LockIsCheckedAgain : Type 0
LockIsCheckedAgain =
    YieldsWith 2 0 (expr_play (one op.Lock (static 0)) []) (Granted ∷ Granted ∷ Granted ∷ Done ∷ [])
    (Check (ObjectHalf 0) 65536 4 true ∷ Check (ObjectHalf 0) 65536 4 true ∷ Check (ObjectHalf 0) 65536 4 true ∷ Lock 0 0 ∷ []) [] (into 0 0)
    × WaitsAt (expr_play (one op.Lock (static 0)) []) (Granted ∷ []) (Check (ObjectHalf 0) 65536 4 true ∷ []) (Refused NoCell)

-- it may be refused at each of its checks, and is not taken without one
abbrev pub LockIsRefused : Type 0
LockIsRefused =
    Traps (expr_play (one op.Lock (number 0)) []) (Refused NoCapability ∷ []) (Check Nothing 0 4 true ∷ []) NoCapability
    × Traps (expr_play (one op.Lock (static 0)) []) (Granted ∷ Refused FreedReason ∷ [])
    (Check (ObjectHalf 0) 65536 4 true ∷ Check (ObjectHalf 0) 65536 4 true ∷ []) FreedReason
    × WaitsAt (expr_play (one op.Lock (static 0)) []) [] [] Done

-- after its first check it is tried three times here, as a loop makes three rounds, and is cut then
abbrev pub LockIsCut : Type 0
LockIsCut =
    run (expr_play (one op.Lock (static 0)) []) (fresh_log (Granted ∷ Granted ∷ Granted ∷ Granted ∷ []))
    ≡ Ends Cut
    (record {
      answers = [];
      events = Check (ObjectHalf 0) 65536 4 true ∷ Check (ObjectHalf 0) 65536 4 true ∷ Check (ObjectHalf 0) 65536 4 true
          ∷ Check (ObjectHalf 0) 65536 4 true ∷ [];
      jumps = 3;
      calls = 0;
    })

-- a new object, or a null pointer
abbrev pub ObjectIsMade : Type 0
ObjectIsMade =
    Yields (expr_play (one op.New (number 24)) []) (Made 2 67584 ∷ []) (New 24 0 ∷ []) [] (into 2 0)
    × Yields (expr_play (one op.New (number 24)) []) (Absent ∷ []) (New 24 0 ∷ []) [] (integer 0)

-- free; of address 0 there is no event, whatever the capability
abbrev pub ObjectIsFreed : Type 0
ObjectIsFreed =
    Yields (expr_play (one op.Free (static 0)) []) (Granted ∷ []) (Void (ObjectHalf 0) 65536 ∷ []) [] (into 0 0)
    × Traps (expr_play (one op.Free (static 0)) []) (Refused BadFree ∷ []) (Void (ObjectHalf 0) 65536 ∷ []) BadFree
    × Yields (expr_play (one op.Free (number 0)) []) [] [] [] (integer 0)
    × Yields (expr_play (one op.Free (local 0)) (record { number = 0; half = ObjectHalf 0 } ∷ [])) [] []
    (record { number = 0; half = ObjectHalf 0 } ∷ []) (record { number = 0; half = ObjectHalf 0 })

abbrev pub SizeIsTold : Type 0
SizeIsTold =
    Yields (expr_play (one op.Size (static 0)) []) (Number 24 ∷ []) (Size (ObjectHalf 0) 65536 ∷ []) [] (integer 24)
    × Traps (expr_play (one op.Size (number 8)) []) (Refused NoCapability ∷ []) (Size Nothing 8 ∷ []) NoCapability

-- the low byte is put out, or there is no room
abbrev pub ByteIsPutOut : Type 0
ByteIsPutOut =
    Yields (expr_play (one op.Out (number 321)) []) (Done ∷ []) (Out 65 ∷ []) [] (integer 321)
    × Traps (expr_play (one op.Out (number 65)) []) (Refused OutputLimit ∷ []) (Out 65 ∷ []) OutputLimit

-- a byte, or -1 at the end
abbrev pub ByteIsTakenIn : Type 0
ByteIsTakenIn =
    Yields (expr_play (leaf op.Input) []) (Number 65 ∷ []) (Input ∷ []) [] (integer 65)
    × Yields (expr_play (leaf op.Input) []) (InputEnd ∷ []) (Input ∷ []) [] (integer 18446744073709551615)

-- a thread is started, or -1; its function has to be one, of the type int(void*), which has number 0
abbrev pub ThreadIsStarted : Type 0
ThreadIsStarted =
    Yields (expr_play (two op.Spawn (leaf (op.Function 0)) (static 1)) []) (Number 66 ∷ []) (Spawn 0 66560 (ObjectHalf 1) ∷ []) [] (integer 66)
    × Yields (expr_play (two op.Spawn (leaf (op.Function 0)) (static 1)) []) (Absent ∷ []) (Spawn 0 66560 (ObjectHalf 1) ∷ []) []
    (integer 18446744073709551615)
    × Traps (expr_play (two op.Spawn (leaf (op.Function 1)) (static 1)) []) [] [] FunctionType
    × Traps (expr_play (two op.Spawn (static 0) (static 1)) []) [] [] NotFunction

-- a thread's result, or 4294967296
abbrev pub ThreadIsJoined : Type 0
ThreadIsJoined =
    Yields (expr_play (one op.Join (number 66)) []) (Number 5 ∷ []) (Join 66 ∷ []) [] (integer 5)
    × Yields (expr_play (one op.Join (number 66)) []) (Absent ∷ []) (Join 66 ∷ []) [] (integer 4294967296)

-- the thread's own id: no event
abbrev pub ThreadHasAnId : Type 0
ThreadHasAnId = Yields (expr_play (leaf op.SelfId) []) [] [] [] (integer 65)

-- the program ends with the low byte as its status, or is stopped
abbrev pub ProgramEnds : Type 0
ProgramEnds =
    (run (expr_play (one op.Exit (number 258)) []) (fresh_log (Done ∷ []))
    ≡ Ends (Finished (Exited 2)) (record { answers = []; events = Exit 2 ∷ []; jumps = 0; calls = 0 }))
    × Traps (expr_play (leaf op.Abort) []) [] [] Abort
