-- The code plays the program: for the same answers it makes the same events and ends alike.
--
-- Both sides have a bound, since either may go on for ever: the play makes at most n rounds of each loop, the
-- code at most m instructions. For every n there is an m at which the two have one behaviour wholly: the same
-- events, answers left, backward jumps, calls and end, also where the bound cut the play. For every m,
-- the play whose n is one more than the backward jumps that the code made has the same behaviour; where the code
-- was cut by its bound, its events are a prefix of the play's.
use Rattle.std.specs.Prelude.{◌≡◌, ℕ, ◌+◌, List}
use Rattle.form_tree.specs.Plain.{PlainProgram}
use Rattle.form_tree.specs.Fits.{IsProgram}
use Rattle.filc_code.specs.Plain.{PlainCode}
use Rattle.ideal_machine.specs.declared.event.Answer.{Answer}
use Rattle.ideal_machine.specs.Play.{log_of}
use Rattle.ideal_machine.specs.Phrases.{Start}
use Rattle.ideal_machine.specs.Reaches.{Reaches}
use Rattle.form_play.specs.FormPlay.{play}
use Rattle.code_thread.specs.Exec.{code_events}
use Rattle.code_gen.specs.Code.{program_code}

-- the code plays the program, in a thread that is begun so, on these answers
pub record PlaysOn (code : PlainCode) (program : PlainProgram) (start : Start) (answers : List Answer) : Type 0 where
  pub of_play : (n : ℕ) → (m : ℕ) × (code_events m code start answers ≡ play n program start answers)
  pub of_code : (m : ℕ) →
      Reaches (code_events m code start answers)
      (play ((log_of (code_events m code start answers)).jumps + 1) program start answers)

-- the code plays the program, whatever function is begun, with whatever id, argument and addresses, and whatever it is
-- answered
abbrev pub Plays : PlainCode → PlainProgram → Type 0
Plays code program = (start : Start) (answers : List Answer) → PlaysOn code program start answers

-- what the compiler gives plays
abbrev pub CodePlays : Type 0
CodePlays = (program : PlainProgram) → IsProgram program → Plays (program_code program) program
