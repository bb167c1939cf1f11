-- The listing is that of the code that the compiler gives of the file's program.
use Rattle.filc_top.proofs.front.text_of_code.Goals as goal

pub returns-clause-text : goal.returns-clause-text
returns-clause-text c =
    record {
      program = c.in_ok-program.program;
      code = c.in_ok-code.code;
      is_program = c.in_ok-program.ensures.program;
      is_code = c.in_ok-code.ensures.code;
      plays = c.in_ok-code.ensures.plays;
      text_is = c.in_ok-text.ensures;
    }
