-- Worked plays of the depth of calls: 1,024 activations stand, and the 1,025th traps.
--
-- The program is `int f(void){if(__filc_in())return f();return 0;}`, at line 1, and begins with f. So the input
-- says how deep it calls.
use Rattle.std.specs.Prelude.{◌≡◌, ℕ, suc, ◌≤◌, [], ◌∷◌, ◌++◌, replicate, None}
use Rattle.filc_num.specs.declared.reason.Reason.TheVariants.{CallDepth}
use Rattle.c_tree.specs.declared.operation.Operation.TheVariants as op
use Rattle.c_tree.specs.declared.stmt.Stmt.{Stmt, Return}
use Rattle.c_tree.specs.Plain.{PlainProgram}
use Rattle.ideal_machine.specs.declared.finish.Finish.TheVariants.{Exited, Trapped}
use Rattle.ideal_machine.specs.declared.event.Event.TheVariants.{Input, Exit, Trap}
use Rattle.ideal_machine.specs.declared.event.Answer.TheVariants.{Done, Number}
use Rattle.ideal_machine.specs.Values.{integer}
use Rattle.ideal_machine.specs.Play.{Finished, Ends}
use Rattle.ideal_machine.specs.Phrases.{Start}
use Rattle.tree_play.specs.TreePlay.{play}
use Rattle.tree_play.specs.Worked.Setting.{leaf, base, empty, block_of_two, if_of}
use Rattle.tree_play.specs.Worked.Programs.{program_of, main_of, returns}

abbrev pub calls_itself : Stmt
calls_itself = block_of_two [] (if_of (leaf op.Input) (returns (leaf (op.Call 0))) empty) (Return 1 None)

abbrev pub deep : PlainProgram
deep = program_of (main_of calls_itself ∷ [])

abbrev pub deep_start : Start
deep_start = record { id = 0; function = 0; argument = integer 0; base = base }

-- with 1,023 calls beside its first activation it returns
abbrev pub DepthIsReached : Type 0
DepthIsReached =
    (n calls : ℕ) → calls ≤ 1023 →
    play n deep deep_start (replicate calls (Number 1) ++ Number 0 ∷ Done ∷ [])
    ≡ Ends (Finished (Exited 0))
    (record { answers = []; events = replicate (suc calls) Input ++ Exit 0 ∷ []; jumps = 0; calls = calls })

-- the next call traps at its line
abbrev pub DepthIsPassed : Type 0
DepthIsPassed =
    (n : ℕ) →
    play n deep deep_start (replicate 1024 (Number 1) ++ Done ∷ [])
    ≡ Ends (Finished (Trapped CallDepth 1))
    (record { answers = []; events = replicate 1024 Input ++ Trap CallDepth 1 ∷ []; jumps = 0; calls = 1024 })
