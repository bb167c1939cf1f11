-- A check that wants no cell is granted where a check is.
use Rattle.std.proofs.Common.{ℕ}
use Rattle.filc_num.specs.declared.reason.Reason.{Reason}
use Rattle.filc_num.specs.declared.reason.Reason.TheVariants.{NoCell}
use Rattle.ideal_machine.specs.declared.value.Half.{Half}
use Rattle.ideal_machine.specs.declared.event.Answer.{Answer}
use Rattle.ideal_machine.specs.declared.event.Answer.TheVariants.{Granted, Refused}
use Rattle.ideal_machine.specs.Queries.{check_reply, plain_check_reply}
use Rattle.thread_steps.specs.Short.{IsNearReply}

refused_near : (reason : Reason) (half : Half) (address : ℕ) → IsNearReply (plain_check_reply (Refused reason)) half address
refused_near NoCell half address = tt
refused_near reason half address = tt

pub near_plain : (answer : Answer) (half : Half) (address : ℕ) → IsNearReply (check_reply answer) half address → IsNearReply (plain_check_reply answer) half address
near_plain Granted half address near = near
near_plain (Refused reason) half address near = refused_near reason half address
near_plain answer half address near = tt
