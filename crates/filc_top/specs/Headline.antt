-- The headline: what a call of `filc` does, whatever its words, its file and its devices are.
--
-- The output and the ending of a run are those of ONE LEGAL HISTORY of the file's program: each of its events is
-- one that C's text asks for, in its order, with an answer that the abstract machine allows. Every beginning of
-- a legal history is legal too, so the statement says which one it is: the history of the instructions that
-- were carried out, one for each turn, of the code that the compiler gives, which plays the program. What
-- bounds it is the number of turns: without an end all of them were made, and the ending is Spent.
--
-- `check` and `code` run nothing. What they put out is said of the file alone: that it is a program of the language, or the
-- listing of a code that plays this program.
--
-- A call has a cause and an output. The cause is how it ends but for the writing: what the words, the file and
-- the run make it. Then the output goes to standard output, and the cause's line to standard error.
use Rattle.std.specs.Prelude.{◌≡◌, ◌⊎◌, ℕ, List, [], Option, Some, None}
use Rattle.filc_io.specs.Counts.{HasRisen}
use Rattle.filc_io.specs.Outside.{FilesState, SinkState, Takes, file_named}
use Rattle.form_tree.specs.Plain.{PlainProgram}
use Rattle.form_reader.specs.Form.{HasForm}
use Rattle.filc_code.specs.Plain.{PlainCode}
use Rattle.ideal_machine.specs.declared.finish.Finish.{Finish}
use Rattle.ideal_machine.specs.declared.finish.Finish.TheVariants.{Exited, Trapped}
use Rattle.ideal_machine.specs.Play.{Cut}
use Rattle.form_play.specs.Legal.{IsLegalHistory}
use Rattle.form_play.specs.Observable.{bytes_of, finish_of}
use Rattle.code_gen.specs.Code.{program_code}
use Rattle.code_gen.specs.Correct.{Plays}
use Rattle.single_thread.specs.Alone.{run_world, history_of_run, stop_of_run}
use Rattle.c_rules.specs.declared.refusal.Refusal.{Refusal}
use Rattle.filc_top.specs.Checking.{IsRefusedFile, IsTextOfCheck}
use Rattle.filc_top.specs.Coding.{HasListing}
use Rattle.filc_top.specs.Commands.{IsRun, IsCheck, IsCode, LooksAt, IsNoCommand}
use Rattle.filc_top.specs.Endings.{line_of, not_built}
use Rattle.filc_top.specs.Writing.{FailsWithin}
use Rattle.filc_top.specs.declared.ending.Ending.{Ending}
use Rattle.filc_top.specs.declared.ending.Ending.TheVariants as ending

-- ---- the devices

-- standard output and standard error at one moment
pub record Streams : Type 0 where
  pub out : SinkState
  pub err : SinkState

abbrev pub streams : SinkState → SinkState → Streams
streams out err = record { out = out; err = err }

-- the devices that a call works on, at one moment
pub record Devices : Type 0 where
  pub files : FilesState
  pub streams : Streams

abbrev pub devices : FilesState → SinkState → SinkState → Devices
devices files out err = record { files = files; streams = streams out err }

-- ---- the file

-- these are the bytes of the file of this name, as far as the files are told
abbrev pub IsFile : Option (List (List ℕ × List ℕ)) → List ℕ → List ℕ → Type 0
IsFile None name bytes = Unit {0}
IsFile (Some files) name bytes = file_named name files ≡ Some bytes

-- the files are told, and none has the name
abbrev pub HasNoFile : Option (List (List ℕ × List ℕ)) → List ℕ → Type 0
HasNoFile None name = ⊥
HasNoFile (Some files) name = file_named name files ≡ None

-- the words run this file, which holds these bytes as far as it is told, for so many turns
pub record RunsFile (words : List (List ℕ)) (files : FilesState) (file : List ℕ) (turns : ℕ) : Type 0 where
  pub name : List ℕ
  pub words_are : IsRun words name turns
  pub file_is : IsFile files.contents name file

-- ---- the run

-- how a call ends whose program ended so, or did not in its turns
abbrev pub ending_of : Option Finish → Ending
ending_of (Some (Exited status)) = ending.Exited status
ending_of (Some (Trapped reason line)) = ending.Trapped reason line
ending_of None = ending.Spent

-- a run of the program for so many turns, in which each loop makes at most as many rounds, puts out these bytes and ends
-- so; it reads no input
pub record IsRunOf (program : PlainProgram) (turns : ℕ) (cause : Ending) (output : List ℕ) : Type 0 where
  pub code : PlainCode
  pub code_is : code ≡ program_code program
  pub plays : Plays code program
  pub legal : IsLegalHistory (history_of_run run_world turns code) program run_world turns
  pub output_is : output ≡ bytes_of (history_of_run run_world turns code)
  pub cause_is : cause ≡ ending_of (finish_of (history_of_run run_world turns code))
  -- without an end, all these turns were made and the code goes on
  pub turns_made : finish_of (history_of_run run_world turns code) ≡ None → stop_of_run run_world turns code ≡ Some Cut

-- ---- why a call ends

-- the words are a command for the file of this name
pub data NamesFile (words : List (List ℕ)) (name : List ℕ) : Type 0 where
  to_run : (turns : ℕ) → IsRun words name turns → NamesFile words name
  to_look : LooksAt words name → NamesFile words name

-- the file was not read: the files failed, or none has the name
pub record HasNotRead (words : List (List ℕ)) (old new : FilesState) : Type 0 where
  pub name : List ℕ
  pub words_are : NamesFile words name
  pub why : HasRisen old.faults new.faults ⊎ HasNoFile old.contents name

-- the file is not of the form
pub record HasNoForm (words : List (List ℕ)) (files : FilesState) : Type 0 where
  pub file : List ℕ
  pub turns : ℕ
  pub file_is : RunsFile words files file turns
  pub no_form : (program : PlainProgram) → HasForm file program → ⊥

-- the file is of the form, and a run of its program, of which it has but one, puts out these bytes and ends so
pub record HasRun (words : List (List ℕ)) (files : FilesState) (cause : Ending) (output : List ℕ) : Type 0 where
  pub file : List ℕ
  pub turns : ℕ
  pub program : PlainProgram
  pub file_is : RunsFile words files file turns
  pub form : HasForm file program
  pub run : IsRunOf program turns cause output

-- the words look at a file that is refused
pub record HasRefusal (words : List (List ℕ)) (files : FilesState) (refusal : Refusal) : Type 0 where
  pub name : List ℕ
  pub file : List ℕ
  pub words_are : LooksAt words name
  pub file_is : IsFile files.contents name file
  pub why : IsRefusedFile file refusal

-- the words check a file that is a program, and this is the text that says so
pub record HasAcceptance (words : List (List ℕ)) (files : FilesState) (output : List ℕ) : Type 0 where
  pub name : List ℕ
  pub file : List ℕ
  pub words_are : IsCheck words name
  pub file_is : IsFile files.contents name file
  pub text : IsTextOfCheck file output

-- the words list the code of a file that is a program, and this is the listing
pub record HasCode (words : List (List ℕ)) (files : FilesState) (output : List ℕ) : Type 0 where
  pub name : List ℕ
  pub file : List ℕ
  pub words_are : IsCode words name
  pub file_is : IsFile files.contents name file
  pub text : HasListing file output

-- the words are a command for a file
pub record HasCommand (words : List (List ℕ)) : Type 0 where
  pub name : List ℕ
  pub words_are : NamesFile words name

-- this is the cause, and nothing was put out
pub record IsSilent (wanted cause : Ending) (output : List ℕ) : Type 0 where
  pub cause_is : cause ≡ wanted
  pub output_is : output ≡ []

-- why a call ends, and what its program put out
pub data IsCause (words : List (List ℕ)) (old new : FilesState) (cause : Ending) (output : List ℕ) : Type 0 where
  -- the words are no command, and the files stay as they are
  usage :
      IsNoCommand words → new ≡ old → IsSilent ending.Usage cause output → IsCause words old new cause output
  -- the file was not read
  unread :
      HasNotRead words old new → IsSilent ending.ReadFault cause output → IsCause words old new cause output
  -- the file that should run is not of the form
  refused :
      HasNoForm words old → IsSilent (ending.Refused not_built) cause output → IsCause words old new cause output
  -- the file was looked at, and is refused
  looked_at :
      (refusal : Refusal) → HasRefusal words old refusal → IsSilent (ending.Refused refusal) cause output →
      IsCause words old new cause output
  -- the file was checked, and is a program
  accepted : HasAcceptance words old output → cause ≡ ending.Listed → IsCause words old new cause output
  -- the code of the file's program was listed
  listed : HasCode words old output → cause ≡ ending.Listed → IsCause words old new cause output
  -- its program was run
  ran : HasRun words old cause output → IsCause words old new cause output
  -- there was no memory for it, before the first turn
  no_memory : HasCommand words → IsSilent ending.NoMemory cause output → IsCause words old new cause output

-- ---- what a call writes and answers

-- how the output and the line of a cause are written, and what the call answers then
pub data IsWritten (cause : Ending) (output : List ℕ) (old new : Streams) (result : Ending) : Type 0 where
  -- both whole
  whole :
      Takes old.out new.out output → Takes old.err new.err (line_of cause) → result ≡ cause →
      IsWritten cause output old new result
  -- standard output failed, and nothing more is written
  out_failed :
      FailsWithin old.out new.out output → new.err ≡ old.err → result ≡ ending.WriteFault →
      IsWritten cause output old new result
  -- standard error failed
  err_failed :
      Takes old.out new.out output → FailsWithin old.err new.err (line_of cause) → result ≡ ending.WriteFault →
      IsWritten cause output old new result

-- what a call with these words makes of the devices, and what it answers
pub record IsOutcome (words : List (List ℕ)) (old new : Devices) (result : Ending) : Type 0 where
  pub cause : Ending
  pub output : List ℕ
  pub caused : IsCause words old.files new.files cause output
  pub written : IsWritten cause output old.streams new.streams result
