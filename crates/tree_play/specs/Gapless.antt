-- A program that keeps what a program keeps has an equation wherever a thread of it comes: it waits for want of an answer,
-- and for nothing else.
use Rattle.std.specs.Prelude.{ℕ, ◌<◌, length, Option, Some, None}
use Rattle.c_tree.specs.Plain.{PlainProgram}
use Rattle.c_tree.specs.Fits.{IsProgram}
use Rattle.ideal_machine.specs.declared.value.Half.{Half}
use Rattle.ideal_machine.specs.declared.value.Half.TheVariants.{Object as ObjectHalf}
use Rattle.ideal_machine.specs.declared.event.Event.TheVariants.{Check}
use Rattle.ideal_machine.specs.Queries.{Query, Reply, Makes, ChecksForCell}
use Rattle.ideal_machine.specs.Play.{Play, Gives, Stops, Asks, Jump, Call, Finished, Waits, Cut}
use Rattle.ideal_machine.specs.Phrases.{Start}
use Rattle.tree_play.specs.TreePlay.{play_thread}

-- the half names an object
abbrev pub NamesObject : Half → Type 0
NamesObject (ObjectHalf n) = Unit {0}
NamesObject half = ⊥

-- where a check is granted its pointer names an object
abbrev pub IfGranted : {X : Type 0} → Half → Option X → Type 0
IfGranted half None = NamesObject half
IfGranted half (Some reason) = Unit {0}

-- the reply is one that some memory gives
abbrev pub IsPossible : (query : Query) → Reply query → Type 0
IsPossible (Makes (Check half address width write)) reply = IfGranted half reply
IsPossible (ChecksForCell half address) reply = IfGranted half reply
IsPossible query reply = Unit {0}

-- the play never stops for want of an equation
abbrev pub IsGapless : {S A : Type 0} → Play S A → Type 0
IsGapless (Gives state value) = Unit {0}
IsGapless (Stops (Finished finish)) = Unit {0}
IsGapless (Stops Cut) = Unit {0}
IsGapless (Stops Waits) = ⊥
IsGapless (Asks query next) = (reply : Reply query) → IsPossible query reply → IsGapless (next reply)
IsGapless (Jump next) = IsGapless next
IsGapless (Call next) = IsGapless next

abbrev pub ProgramsAreGapless : Type 0
ProgramsAreGapless =
    (n : ℕ) (program : PlainProgram) (start : Start) → IsProgram program → start.function < length program.functions →
    IsGapless (play_thread n program start)
