-- What the code of a program keeps: it is well formed, and plays the program.
use Rattle.std.specs.Prelude.{◌≡◌, List, All, map}
use Rattle.filc_num.specs.StaticDefs.{plain_static}
use Rattle.c_tree.specs.Plain.{PlainProgram}
use Rattle.ideal_machine.specs.declared.event.Answer.{Answer}
use Rattle.ideal_machine.specs.Phrases.{Start}
use Rattle.whole_code.specs.Plain.{PlainCode}
use Rattle.expr_gen.specs.Stretch.{IsWordAnswer}
use Rattle.stmt_gen.specs.Programs.{function_code}
use Rattle.stmt_gen.specs.Correct.{ProgramSwitchesFit, PlaysOn}

-- the code of a program: that of its functions, each at its number, and copies of its static objects
pub record IsCodeOf (code : PlainCode) (program : PlainProgram) : Type 0 where
  pub functions : code.functions ≡ map function_code program.functions
  pub statics : map plain_static code.statics ≡ map plain_static program.statics
  pub main : code.main ≡ program.main

-- code plays a program whose switches go by words, whatever is begun and whatever words it is answered
abbrev pub Plays : PlainCode → PlainProgram → Type 0
Plays code program =
    ProgramSwitchesFit program → (start : Start) (answers : List Answer) → All IsWordAnswer answers → PlaysOn code program start answers
