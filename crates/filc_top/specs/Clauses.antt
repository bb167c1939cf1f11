-- What the headline says of each ending by itself.
--
-- The headline goes from a cause to an ending; here each ending leads back to its cause. All of it follows from the
-- headline, and says nothing more: it is for readers who ask what one status means. Read `SaysEnding` first.
use Rattle.std.specs.Prelude.{◌≡◌, ◌⊎◌, ℕ, List, []}
use Rattle.filc_io.specs.Counts.{HasRisen}
use Rattle.filc_io.specs.Outside.{FilesState, Takes}
use Rattle.c_rules.specs.declared.refusal.Refusal.{Refusal}
use Rattle.filc_top.specs.Commands.{IsCheck, IsCode, IsNoCommand}
use Rattle.filc_top.specs.Endings.{line_of, not_built}
use Rattle.filc_top.specs.Headline.{Streams, Devices, HasRun, HasNoForm, HasRefusal, HasAcceptance, HasCode, HasNotRead}
use Rattle.filc_top.specs.declared.ending.Ending.{Ending}
use Rattle.filc_top.specs.declared.ending.Ending.TheVariants as ending

-- the endings of a program that was run
abbrev pub IsOfRun : Ending → Type 0
IsOfRun (ending.Exited status) = Unit {0}
IsOfRun (ending.Trapped reason line) = Unit {0}
IsOfRun ending.Spent = Unit {0}
IsOfRun other = ⊥

-- the endings that a call may answer so far: it reads no input and runs one thread
abbrev pub IsAnswer : Ending → Type 0
IsAnswer ending.Deadlock = ⊥
IsAnswer ending.InputLimit = ⊥
IsAnswer other = Unit {0}

-- this was put out, and then the ending has its line
pub record IsPutOut (output : List ℕ) (old new : Streams) (result : Ending) : Type 0 where
  pub out : Takes old.out new.out output
  pub err : Takes old.err new.err (line_of result)

-- the file is a program, its run so ended, and what it put out was written
pub record HasRunWhole (words : List (List ℕ)) (old new : Devices) (result : Ending) : Type 0 where
  pub output : List ℕ
  pub ran : HasRun words old.files result output
  pub written : IsPutOut output old.streams new.streams result

-- a text that is made of a file and not of a run: of `check` that the file is a program, of `code` the listing
abbrev pub IsText : List (List ℕ) → FilesState → List ℕ → Type 0
IsText words files text = HasAcceptance words files text ⊎ HasCode words files text

-- such a text was written
pub record HasTextWhole (words : List (List ℕ)) (old new : Devices) (result : Ending) : Type 0 where
  pub text : List ℕ
  pub is_text : IsText words old.files text
  pub written : IsPutOut text old.streams new.streams result

-- a sink failed
abbrev pub HasWriteFault : Streams → Streams → Type 0
HasWriteFault old new = HasRisen old.out.faults new.out.faults ⊎ HasRisen old.err.faults new.err.faults

-- how a call ends that looks at a file: with its refusal, or where it is a program with this known of it
abbrev pub EndsLookingAt : (List (List ℕ) → FilesState → List ℕ → Type 0) → List (List ℕ) → FilesState → Ending → Type 0
EndsLookingAt Is words files ending.Listed = (text : List ℕ) × Is words files text
EndsLookingAt Is words files (ending.Refused refusal) = HasRefusal words files refusal
EndsLookingAt Is words files ending.ReadFault = Unit {0}
EndsLookingAt Is words files ending.WriteFault = Unit {0}
EndsLookingAt Is words files ending.NoMemory = Unit {0}
EndsLookingAt Is words files other = ⊥

-- each ending by itself
pub record SaysEnding (words : List (List ℕ)) (old new : Devices) (result : Ending) : Type 0 where
  pub ran : IsOfRun result → HasRunWhole words old new result
  pub refused :
      (refusal : Refusal) → result ≡ ending.Refused refusal →
      ((refusal ≡ not_built) × HasNoForm words old.files) ⊎ HasRefusal words old.files refusal
  -- what a file is was written
  pub listed : result ≡ ending.Listed → HasTextWhole words old new result
  -- words that check a file or list its code run nothing, and end by what the file is where nothing fails
  pub checked : (name : List ℕ) → IsCheck words name → EndsLookingAt HasAcceptance words old.files result
  pub coded : (name : List ℕ) → IsCode words name → EndsLookingAt HasCode words old.files result
  pub usage : result ≡ ending.Usage → IsNoCommand words
  pub no_command : IsNoCommand words → (result ≡ ending.Usage) ⊎ (result ≡ ending.WriteFault)
  pub files_stay : IsNoCommand words → new.files ≡ old.files
  pub read_fault : result ≡ ending.ReadFault → HasNotRead words old.files new.files
  pub write_fault : result ≡ ending.WriteFault → HasWriteFault old.streams new.streams
  -- where nothing was run or listed, nothing is put out
  pub line_alone :
      (IsOfRun result → ⊥) → (result ≡ ending.Listed → ⊥) → (result ≡ ending.WriteFault → ⊥) →
      IsPutOut [] old.streams new.streams result
  pub answer : IsAnswer result
