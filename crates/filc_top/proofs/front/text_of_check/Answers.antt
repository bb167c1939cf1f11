-- The file is the program that was found.
use Rattle.filc_top.proofs.front.text_of_check.Goals as goal

pub returns-clause-text : goal.returns-clause-text
returns-clause-text c =
    record {
      program = c.in_ok-_program._program;
      is_program = c.in_ok-_program.ensures.program;
      text_is = c.in_ok-text.ensures.items;
    }
