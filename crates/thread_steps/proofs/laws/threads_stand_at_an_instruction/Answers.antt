use Rattle.thread_steps.proofs.Standing.{begin_stands, step_stands, answer_stands, poll_stands, has_instruction}
use Rattle.thread_steps.proofs.Freed.{freed_stands}
use Rattle.thread_steps.proofs.laws.threads_stand_at_an_instruction.Goals as goal

pub returns-clause-begin : goal.returns-clause-begin
returns-clause-begin c = begin_stands

pub returns-clause-step : goal.returns-clause-step
returns-clause-step c = step_stands

pub returns-clause-answer : goal.returns-clause-answer
returns-clause-answer c = answer_stands

pub returns-clause-poll : goal.returns-clause-poll
returns-clause-poll c = poll_stands

pub returns-clause-there : goal.returns-clause-there
returns-clause-there c = has_instruction

pub returns-clause-freed : goal.returns-clause-freed
returns-clause-freed c = freed_stands
