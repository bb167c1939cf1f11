-- The program of a checked file's parts, and why they make none.
use Rattle.std.specs.Prelude.{ℕ}
use Rattle.c_tree.specs.Fits.{IsProgram}
use Rattle.c_tree.specs.Plain.{PlainProgram, plain_program}
use Rattle.c_check.specs.declared.whole.CheckedFile.{CheckedFile}
use Rattle.checked_program.specs.declared.Unfit.{Unfit}
use Rattle.checked_program.specs.declared.Unfit.TheVariants as unfit

abbrev pub program_in : CheckedFile → PlainProgram
program_in c = plain_program c.functions.items c.statics.items c.main

-- the parts don't keep what a program keeps
abbrev pub IsUnfit : PlainProgram → Unfit → Type 0
IsUnfit program unfit.Parts = IsProgram program → ⊥
IsUnfit program unfit.NoMemory = Unit {0}
