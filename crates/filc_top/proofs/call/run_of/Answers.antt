-- The run is one of the code that the compiler gives, and that code plays the program.
use Rattle.std.proofs.Common.{ℕ, ap, subst, ◌∙◌}
use Rattle.filc_code.specs.Plain.{PlainCode}
use Rattle.filc_code.specs.WellFormed.{IsWellFormed}
use Rattle.single_thread.specs.Alone.{run_world}
use Rattle.filc_top.specs.Headline.{ending_of, IsRunOf}
use Rattle.filc_top.proofs.call.run_of.Goals as goal

pub returns-clause-ran : goal.returns-clause-ran
returns-clause-ran c =
    subst (λ (turns : ℕ). IsRunOf c.args.program.now turns c.ending_of.result c.run-finish.new.out.items) c.from.ensures
    (record {
      code = c.in_ok-code.code;
      code_is = c.in_ok-code.ensures.code;
      plays = c.in_ok-code.ensures.plays;
      legal = c.runs_are_legal.ensures.by_turns run_world c.args.program.now c.in_ok-code.code (ap (λ (code : PlainCode). code.main) c.in_ok-code.ensures.code) c.in_ok-code.ensures.plays c.from.result;
      output_is = c.run-finish.ensures.bytes;
      cause_is = c.ending_of.ensures ∙ ap ending_of c.run-finish.ensures.finish;
      turns_made = c.runs_are_unfinished.ensures run_world c.in_ok-code.code (subst IsWellFormed c.code.view_is c.code.invariant) c.from.result;
    })
