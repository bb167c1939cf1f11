-- A thread that goes on after a poll stands at the next instruction.
use Rattle.std.proofs.Common.{inl, sym, subst}
use Rattle.whole_thread.specs.Thread.{Thread}
use Rattle.thread_steps.specs.Stands.{StandsIn}
use Rattle.thread_steps.proofs.Over.{polls_still}
use Rattle.thread_steps.proofs.Standing.{poll_stands}
use Rattle.thread_steps.proofs.thread.CodeThread.pass_poll.Goals as goal

pub instruction-i-requires : goal.instruction-i-requires
instruction-i-requires c = polls_still c.args.code.now c.args.self.now c.requires.stands c.requires.wanted

pub returns-clause-stands : goal.returns-clause-stands
returns-clause-stands c =
    inl (subst (λ (t : Thread). StandsIn c.args.code.now t) (sym c.next.ensures)
    (poll_stands c.args.code.now c.args.self.now c.functions-functions.ensures.well_formed
    (polls_still c.args.code.now c.args.self.now c.requires.stands c.requires.wanted) c.requires.wanted))
