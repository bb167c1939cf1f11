-- What each step of a call hands to the next, or how it ends the call.
--
-- The steps are those of `src/call.rt`: the name, the front of the file, and then to run it a program and its run. Those
-- of `src/front.rt` make a text of the file: to check it what says that it is a program, to list its code the listing. Each is
-- a clause of its function, and the headline is made of them. `Ends..` says which endings a step may come to, and what is
-- known then; want of memory says nothing.
use Rattle.std.specs.Prelude.{◌≡◌, ◌⊎◌, ℕ, List, [], take}
use Rattle.filc_io.specs.Counts.{HasRisen}
use Rattle.filc_io.specs.Outside.{FilesState}
use Rattle.filc_io.specs.declared.outside.TheConstants.{MOST_READ}
use Rattle.form_tree.specs.Plain.{PlainProgram}
use Rattle.form_reader.specs.Form.{HasForm}
use Rattle.filc_top.specs.Checking.{IsRefusedFile, IsTextOfCheck}
use Rattle.filc_top.specs.Coding.{HasListing}
use Rattle.filc_top.specs.Endings.{not_built}
use Rattle.filc_top.specs.Headline.{IsFile, HasNoFile, IsRunOf}
use Rattle.filc_top.specs.declared.command.Command.{Command}
use Rattle.filc_top.specs.declared.command.Command.TheVariants.{Run, Check, Code}
use Rattle.filc_top.specs.declared.ending.Ending.{Ending}
use Rattle.filc_top.specs.declared.ending.Ending.TheVariants as ending

-- the name of the file that a command is for
abbrev pub name_in : Command → List ℕ
name_in (Run name turns) = name.now
name_in (Check name) = name.now
name_in (Code name) = name.now

-- this is the front of the file of this name, as far as the files are told
pub record HasRead (files : FilesState) (name read : List ℕ) : Type 0 where
  pub file : List ℕ
  pub file_is : IsFile files.contents name file
  pub front : read ≡ take MOST_READ file

-- reading the file ends the call so
abbrev pub EndsReading : FilesState → FilesState → List ℕ → Ending → Type 0
EndsReading old new name ending.ReadFault = HasRisen old.faults new.faults ⊎ HasNoFile old.contents name
EndsReading old new name ending.NoMemory = Unit {0}
EndsReading old new name other = ⊥

-- the reader of the small form ends the call so
abbrev pub EndsFrontEnd : List ℕ → Ending → Type 0
EndsFrontEnd file (ending.Refused refusal) = (refusal ≡ not_built) × ((program : PlainProgram) → HasForm file program → ⊥)
EndsFrontEnd file ending.NoMemory = Unit {0}
EndsFrontEnd file other = ⊥

-- the front end of the whole language ends the call so
abbrev pub EndsLooking : List ℕ → Ending → Type 0
EndsLooking file (ending.Refused refusal) = IsRefusedFile file refusal
EndsLooking file ending.NoMemory = Unit {0}
EndsLooking file other = ⊥

-- checking the file ends the call so, and this is put out
abbrev pub EndsCheck : List ℕ → Ending → List ℕ → Type 0
EndsCheck file ending.Listed output = IsTextOfCheck file output
EndsCheck file other output = EndsLooking file other × (output ≡ [])

-- listing the file's code ends the call so, and this is put out
abbrev pub EndsCode : List ℕ → Ending → List ℕ → Type 0
EndsCode file ending.Listed output = HasListing file output
EndsCode file other output = EndsLooking file other × (output ≡ [])

-- the file is of the form, and a run of its program ends so and puts this out
pub record RunsForm (file : List ℕ) (turns : ℕ) (cause : Ending) (output : List ℕ) : Type 0 where
  pub program : PlainProgram
  pub form : HasForm file program
  pub run : IsRunOf program turns cause output
