-- Worked plays of objects, output and input, threads, and ends.
use Rattle.std.specs.Prelude.{◌≡◌, [], ◌∷◌}
use Rattle.filc_num.specs.declared.reason.Reason.TheVariants.{BadFree, NoCell, NoCapability, OutputLimit, NotFunction, FunctionType, Abort}
use Rattle.whole_code.specs.declared.op.Op.TheVariants as op
use Rattle.ideal_machine.specs.declared.value.Half.TheVariants.{Nothing, Object as ObjectHalf}
use Rattle.ideal_machine.specs.declared.finish.Finish.TheVariants.{Exited}
use Rattle.ideal_machine.specs.declared.event.Event.TheVariants.{New, Void, Size, Out, Input, Spawn, Join, Exit}
use Rattle.ideal_machine.specs.declared.event.Answer.TheVariants.{Granted, Refused, Done, Number, Made, Absent, End as InputEnd}
use Rattle.ideal_machine.specs.Values.{integer}
use Rattle.ideal_machine.specs.Play.{Finished, Ends, run, fresh_log}
use Rattle.whole_thread.specs.Act.{Next, act}
use Rattle.whole_thread.specs.Worked.Setting.{code, start, into, function, minus_one, standing, log_of, Makes, Traps}

-- a home is an object of kind 1; where there is none, that is a trap
abbrev pub HomeIsMade : Type 0
HomeIsMade =
    Makes (op.Home 0 12) (integer 0 ∷ []) (Made 2 67584 ∷ []) (New 12 1 ∷ []) (into 2 0 ∷ [])
    × Traps (op.Home 0 12) (integer 0 ∷ []) (Absent ∷ []) (New 12 1 ∷ []) NoCell

-- an object of kind 0, of as many bytes as a register says; where there is none, d is null
abbrev pub ObjectIsMade : Type 0
ObjectIsMade =
    Makes (op.New 0 0) (integer 12 ∷ []) (Made 2 67584 ∷ []) (New 12 0 ∷ []) (into 2 0 ∷ [])
    × Makes (op.New 0 0) (integer 12 ∷ []) (Absent ∷ []) (New 12 0 ∷ []) (integer 0 ∷ [])

-- address 0 is freed without an event
abbrev pub ObjectIsFreed : Type 0
ObjectIsFreed =
    Makes (op.Free 0) (into 2 0 ∷ []) (Granted ∷ []) (Void (ObjectHalf 2) 67584 ∷ []) (into 2 0 ∷ [])
    × Makes (op.Free 0) (integer 0 ∷ []) [] [] (integer 0 ∷ [])
    × Traps (op.Free 0) (into 2 4 ∷ []) (Refused BadFree ∷ []) (Void (ObjectHalf 2) 67588 ∷ []) BadFree

abbrev pub SizeIsTold : Type 0
SizeIsTold =
    Makes (op.Size 0 0) (into 2 0 ∷ []) (Number 12 ∷ []) (Size (ObjectHalf 2) 67584 ∷ []) (integer 12 ∷ [])
    × Traps (op.Size 0 0) (integer 8 ∷ []) (Refused NoCapability ∷ []) (Size Nothing 8 ∷ []) NoCapability

-- the low byte of a register is put out, unless there is no room
abbrev pub ByteIsPutOut : Type 0
ByteIsPutOut =
    Makes (op.Out 0) (integer 321 ∷ []) (Done ∷ []) (Out 65 ∷ []) (integer 321 ∷ [])
    × Traps (op.Out 0) (integer 321 ∷ []) (Refused OutputLimit ∷ []) (Out 65 ∷ []) OutputLimit

-- -1 at the input's end
abbrev pub ByteIsTakenIn : Type 0
ByteIsTakenIn =
    Makes (op.Input 0) (integer 0 ∷ []) (Number 65 ∷ []) (Input ∷ []) (integer 65 ∷ [])
    × Makes (op.Input 0) (integer 0 ∷ []) (InputEnd ∷ []) (Input ∷ []) (integer minus_one ∷ [])

-- function 2 is one of kind 0; -1 where no slot is free
abbrev pub ThreadIsStarted : Type 0
ThreadIsStarted =
    Makes (op.Spawn 0 0 1) (function 2 ∷ into 0 4 ∷ []) (Number 65 ∷ []) (Spawn 2 65540 (ObjectHalf 0) ∷ []) (integer 65 ∷ into 0 4 ∷ [])
    × Makes (op.Spawn 0 0 1) (function 2 ∷ into 0 4 ∷ []) (Absent ∷ []) (Spawn 2 65540 (ObjectHalf 0) ∷ []) (integer minus_one ∷ into 0 4 ∷ [])
    × Traps (op.Spawn 0 0 1) (function 1 ∷ into 0 4 ∷ []) [] [] FunctionType
    × Traps (op.Spawn 0 0 1) (into 0 0 ∷ into 0 4 ∷ []) [] [] NotFunction

-- 4294967296 where there is no such thread
abbrev pub ThreadIsJoined : Type 0
ThreadIsJoined =
    Makes (op.Join 0 0) (integer 65 ∷ []) (Number 7 ∷ []) (Join 65 ∷ []) (integer 7 ∷ [])
    × Makes (op.Join 0 0) (integer 65 ∷ []) (Absent ∷ []) (Join 65 ∷ []) (integer 4294967296 ∷ [])

-- the program ends with a low byte as its status, or is stopped
abbrev pub ProgramEnds : Type 0
ProgramEnds =
    ((next : Next) →
    run (act code start next (standing (integer 298 ∷ [])) 1 (op.Exit 0)) (fresh_log (Done ∷ [])) ≡ Ends (Finished (Exited 42)) (log_of (Exit 42 ∷ []) 0))
    × Traps op.Abort [] [] [] Abort
