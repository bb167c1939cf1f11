use Rattle.code_thread.proofs.Follow.{thread_follows}
use Rattle.code_thread.proofs.laws.calls_follow_the_play.Goals as goal

pub returns : goal.returns
returns c = thread_follows
