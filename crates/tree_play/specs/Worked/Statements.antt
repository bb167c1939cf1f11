-- Worked plays of statements: blocks with homes, loops and switches.
use Rattle.std.specs.Prelude.{◌≡◌, ℕ, [], ◌∷◌, true, Some, None}
use Rattle.filc_num.specs.declared.integer.IntType.TheVariants.{I32}
use Rattle.filc_num.specs.declared.integer.BinOp.TheVariants.{Add}
use Rattle.filc_num.specs.declared.reason.Reason.TheVariants.{NoCell}
use Rattle.c_tree.specs.declared.operation.Operation.TheVariants as op
use Rattle.c_tree.specs.declared.operation.Access.{Access}
use Rattle.c_tree.specs.declared.operation.Access.TheVariants.{Integer, Pointer, Box}
use Rattle.c_tree.specs.declared.operation.Change.TheVariants.{Integer as IntChange}
use Rattle.c_tree.specs.declared.stmt.LocalKind.TheVariants.{Zero, Home, Moved}
use Rattle.c_tree.specs.declared.stmt.Case.{Case}
use Rattle.c_tree.specs.declared.stmt.Stmt.{Stmt, Run, BreakUnless, Break, Continue, Switch', Return, end_of-Stmt, more_of-Stmt}
use Rattle.ideal_machine.specs.declared.value.Half.TheVariants.{Object as ObjectHalf}
use Rattle.ideal_machine.specs.declared.value.Kept.TheVariants.{Plain as KeptPlain, Pair as KeptPair}
use Rattle.ideal_machine.specs.declared.event.Event.TheVariants.{Check, SetInt, SetHalf, New, Out, Input}
use Rattle.ideal_machine.specs.declared.event.Answer.TheVariants.{Granted, Refused, Done, Number, Made, Absent}
use Rattle.ideal_machine.specs.Values.{integer}
use Rattle.ideal_machine.specs.Play.{Cut, Ends, fresh_log, run}
use Rattle.tree_play.specs.Around.{Normal, Broke, Continued, Returned}
use Rattle.tree_play.specs.Worked.Setting.{leaf, one, number, local, bytes_at, into, Yields, YieldsWith, Traps, empty, block_of_one, block_of_two, block_of_three, loop_of, if_of, local_of, put, set, stmt_play}

-- ---- blocks

-- a home is made when its block is entered; there may be no cell
abbrev pub HomeIsMade : Type 0
HomeIsMade =
    Yields (stmt_play (block_of_one (local_of 0 (Home 12) ∷ []) empty) []) (Made 2 67584 ∷ []) (New 12 1 ∷ []) (into 2 0 ∷ []) Normal
    × Traps (stmt_play (block_of_one (local_of 0 (Home 12) ∷ []) empty) []) (Absent ∷ []) (New 12 1 ∷ []) NoCell

-- a parameter's value is stored in its home
abbrev pub ParameterIsMoved : Type 0
ParameterIsMoved =
    Yields (stmt_play (block_of_one (local_of 0 (Moved 4 (Integer I32)) ∷ []) empty) (integer 7 ∷ []))
    (Made 2 67584 ∷ Granted ∷ Done ∷ [])
    (New 4 1 ∷ Check (ObjectHalf 2) 67584 4 true ∷ SetInt (bytes_at 2 0 4) 7 ∷ []) (into 2 0 ∷ []) Normal

-- a pointer's two halves are stored in its home, an atomic pointer as a pair; there may be no cell
abbrev pub moves_a_pointer : Access → Stmt
moves_a_pointer access = block_of_one (local_of 0 (Moved 8 access) ∷ []) empty

abbrev pub PointerIsMoved : Type 0
PointerIsMoved =
    Yields (stmt_play (moves_a_pointer Pointer) (into 1 4 ∷ [])) (Made 2 67584 ∷ Granted ∷ Done ∷ Done ∷ [])
    (New 8 1 ∷ Check (ObjectHalf 2) 67584 8 true ∷ SetInt (bytes_at 2 0 8) 66564 ∷ SetHalf 2 0 (KeptPlain (ObjectHalf 1)) ∷ [])
    (into 2 0 ∷ []) Normal
    × Yields (stmt_play (moves_a_pointer Box) (into 1 4 ∷ [])) (Made 2 67584 ∷ Granted ∷ Done ∷ [])
    (New 8 1 ∷ Check (ObjectHalf 2) 67584 8 true ∷ SetHalf 2 0 (KeptPair 66564 (ObjectHalf 1)) ∷ []) (into 2 0 ∷ []) Normal
    × Traps (stmt_play (moves_a_pointer Pointer) (into 1 4 ∷ [])) (Made 2 67584 ∷ Refused NoCell ∷ [])
    (New 8 1 ∷ Check (ObjectHalf 2) 67584 8 true ∷ []) NoCell

-- homes are made in the order in which they are declared, and each has its parameter's value before the next is made
abbrev pub HomesHaveAnOrder : Type 0
HomesHaveAnOrder =
    Yields (stmt_play (block_of_one (local_of 1 (Home 4) ∷ local_of 0 (Home 8) ∷ []) empty) []) (Made 2 67584 ∷ Made 3 68608 ∷ [])
    (New 4 1 ∷ New 8 1 ∷ []) (into 3 0 ∷ into 2 0 ∷ []) Normal
    × Yields
    (stmt_play (block_of_one (local_of 0 (Moved 4 (Integer I32)) ∷ local_of 1 (Moved 8 (Integer I32)) ∷ []) empty) (integer 7 ∷ integer 9 ∷ []))
    (Made 2 67584 ∷ Granted ∷ Done ∷ Made 3 68608 ∷ Granted ∷ Done ∷ [])
    (New 4 1 ∷ Check (ObjectHalf 2) 67584 4 true ∷ SetInt (bytes_at 2 0 4) 7
    ∷ New 8 1 ∷ Check (ObjectHalf 3) 68608 4 true ∷ SetInt (bytes_at 3 0 4) 9 ∷ []) (into 2 0 ∷ into 3 0 ∷ []) Normal

-- a local is 0 whenever its block is entered, and has a new home
abbrev pub LocalsAreZeroAgain : Type 0
LocalsAreZeroAgain =
    Yields (stmt_play (block_of_one (local_of 0 Zero ∷ []) (put (local 0))) (integer 9 ∷ [])) (Done ∷ []) (Out 0 ∷ []) (integer 0 ∷ []) Normal
    × Yields (stmt_play (block_of_one (local_of 0 (Home 4) ∷ []) empty) (into 2 0 ∷ [])) (Made 3 68608 ∷ []) (New 4 1 ∷ []) (into 3 0 ∷ []) Normal

-- however a block is left, its homes stay: no event
abbrev pub HomesStay : Type 0
HomesStay =
    Yields (stmt_play (block_of_two (local_of 0 (Home 4) ∷ []) (Break 1) (put (number 65))) []) (Made 2 67584 ∷ []) (New 4 1 ∷ [])
    (into 2 0 ∷ []) Broke
    × Yields (stmt_play (block_of_two (local_of 0 (Home 4) ∷ []) (Continue 1) (put (number 65))) []) (Made 2 67584 ∷ []) (New 4 1 ∷ [])
    (into 2 0 ∷ []) Continued
    × ((v : ℕ) →
    Yields (stmt_play (block_of_two (local_of 0 (Home 4) ∷ []) (Return 1 (Some (number v))) (put (number 65))) []) (Made 2 67584 ∷ [])
    (New 4 1 ∷ []) (into 2 0 ∷ []) (Returned (integer v)))

-- ---- loops

-- while the byte taken in isn't 0 it is put out; a backward jump ends each round but the last
abbrev pub echo : Stmt
echo = loop_of (block_of_three [] (set 0 (leaf op.Input)) (BreakUnless 1 (local 0)) (put (local 0))) empty

abbrev pub LoopGoesRound : Type 0
LoopGoesRound =
    YieldsWith 2 0 (stmt_play echo []) (Number 65 ∷ Done ∷ Number 66 ∷ Done ∷ Number 0 ∷ [])
    (Input ∷ Out 65 ∷ Input ∷ Out 66 ∷ Input ∷ []) (integer 0 ∷ []) Normal

-- `continue` goes on at the step of a `for`, `break` behind the loop
abbrev pub skip_loop : Stmt
skip_loop =
    loop_of (if_of (local 0) (Break 1) (Continue 1)) (Run (one (op.UpdateLocal 0 (IntChange Add I32 I32)) (number 1)))

abbrev pub ContinueMakesTheStep : Type 0
ContinueMakesTheStep = YieldsWith 1 0 (stmt_play skip_loop (integer 0 ∷ [])) [] [] (integer 1 ∷ []) Normal

-- `do s while (e)`: its test comes before the next round, also after a `continue`, and leaves the loop
abbrev pub NextLeavesTheLoop : Type 0
NextLeavesTheLoop =
    YieldsWith 1 0 (stmt_play (loop_of (put (number 65)) (BreakUnless 1 (leaf op.Input))) []) (Done ∷ Number 1 ∷ Done ∷ Number 0 ∷ [])
    (Out 65 ∷ Input ∷ Out 65 ∷ Input ∷ []) [] Normal
    × Yields (stmt_play (loop_of (Continue 1) (BreakUnless 1 (leaf op.Input))) []) (Number 0 ∷ []) (Input ∷ []) [] Normal

-- a return leaves the loop
abbrev pub ReturnLeavesTheLoop : Type 0
ReturnLeavesTheLoop = Yields (stmt_play (loop_of (Return 1 None) empty) []) [] [] [] (Returned (integer 0))

-- a loop is cut where it has made all its rounds: three here
abbrev pub LoopIsCut : Type 0
LoopIsCut =
    run (stmt_play (loop_of empty empty) []) (fresh_log []) ≡ Ends Cut (record { answers = []; events = []; jumps = 3; calls = 0 })

-- ---- switches

abbrev pub case_at : (value statement : ℕ) → Case
case_at value statement = record { value = value; statement = statement }

-- `switch (v) {case 1: int x = 5; case 2: putchar(x); break; default: putchar(66);}`. A switch on 2 passes over the
-- declaration: x is 0 all the same, whatever it was before
abbrev pub switch_on : ℕ → Stmt
switch_on v =
    block_of_one (local_of 0 Zero ∷ [])
    (Switch' 1 (number v) (case_at 1 0 ∷ case_at 2 1 ∷ []) 3 (tt ∷ tt ∷ tt ∷ tt ∷ [])
    (more_of-Stmt (set 0 (number 5)) (more_of-Stmt (put (local 0)) (more_of-Stmt (Break 1) (more_of-Stmt (put (number 66)) end_of-Stmt)))))

abbrev pub SwitchPassesOver : Type 0
SwitchPassesOver =
    Yields (stmt_play (switch_on 2) (integer 9 ∷ [])) (Done ∷ []) (Out 0 ∷ []) (integer 0 ∷ []) Normal
    × Yields (stmt_play (switch_on 1) (integer 9 ∷ [])) (Done ∷ []) (Out 5 ∷ []) (integer 5 ∷ []) Normal
    × Yields (stmt_play (switch_on 7) (integer 9 ∷ [])) (Done ∷ []) (Out 66 ∷ []) (integer 0 ∷ []) Normal

-- a `continue` in a switch is the loop's around it
abbrev pub SwitchContinues : Type 0
SwitchContinues =
    Yields (stmt_play (Switch' 1 (number 1) (case_at 1 0 ∷ []) 1 (tt ∷ []) (more_of-Stmt (Continue 1) end_of-Stmt)) []) [] [] [] Continued

-- a `break` in a switch goes on behind the switch, in the loop around it
abbrev pub switch_to : Stmt → Stmt
switch_to s = Switch' 1 (number 1) (case_at 1 0 ∷ []) 1 (tt ∷ []) (more_of-Stmt s end_of-Stmt)

abbrev pub BreakStaysInTheLoop : Type 0
BreakStaysInTheLoop =
    Yields (stmt_play (loop_of (block_of_three [] (switch_to (Break 1)) (put (number 65)) (Break 1)) empty) []) (Done ∷ []) (Out 65 ∷ []) []
    Normal

-- a return leaves the switch
abbrev pub ReturnLeavesTheSwitch : Type 0
ReturnLeavesTheSwitch =
    (v : ℕ) → Yields (stmt_play (switch_to (Return 1 (Some (number v)))) []) [] [] [] (Returned (integer v))
