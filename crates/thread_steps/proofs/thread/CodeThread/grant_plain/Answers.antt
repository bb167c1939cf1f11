use Rattle.std.proofs.Common.{Option, sym, subst}
use Rattle.filc_num.specs.declared.reason.Reason.{Reason}
use Rattle.thread_steps.specs.Short.{IsNearReply}
use Rattle.thread_steps.proofs.Near.{near_plain}
use Rattle.thread_steps.proofs.thread.CodeThread.grant_plain.Goals as goal

pub grant-requires : goal.grant-requires
grant-requires c = record {
  near =
      subst (λ (r : Option (Option Reason)). IsNearReply r c.args.p.half c.args.p.number) (sym c.plain_check_reply.ensures)
      (near_plain c.args.answer c.args.p.half c.args.p.number c.requires.near);
}
