-- All that the reader gives up to the limit was read, and so the cut at the limit takes nothing away.
use Rattle.std.proofs.Common.{◌≡◌, ℕ, ◌++◌, IfSome, take, subst}
use Rattle.std.specs.Option.{option_map}
use Rattle.filc_io.specs.declared.outside.TheConstants.{MOST_READ}
use Rattle.filc_io.proofs.OutsideLemmas.{front_of_left}
use Rattle.filc_io.proofs.retry.read_front.Goals as goal

pub returns-clause-bytes : goal.returns-clause-bytes
returns-clause-bytes g c =
    let left = g.R.Read.remaining in
    let read = c.read_to_end.new.buf.items in
    let given = subst (λ from. IfSome (option_map (take c.take.result.limit) (left from)) (λ bytes. read ≡ c.new-front.result.items ++ bytes)) c.take.ensures.inner c.in_ok-read_to_end.ensures.bytes in
    front_of_left (left c.args.from) MOST_READ c.new-front.result.items read _ c.new-front.ensures.items
    (subst (λ (limit : ℕ). IfSome (option_map (take limit) (left c.args.from)) (λ bytes. read ≡ c.new-front.result.items ++ bytes)) c.take.ensures.limit given)
    c.truncate.ensures.items
