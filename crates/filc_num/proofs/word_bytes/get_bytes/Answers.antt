-- A shift by bytes divides by the place of a byte.
use Rattle.std.proofs.Common.{ℕ, ◌/◌, ◌%◌, ◌^◌, sym, ap, ◌∙◌}
use Rattle.filc_num.proofs.WordBytes.{byte_power}
use Rattle.filc_num.proofs.word_bytes.get_bytes.Goals as goal

pub returns-clause-exact : goal.returns-clause-exact
returns-clause-exact c =
    c.low_bytes.ensures.exact ∙ ap (λ (m : ℕ). c.args.word / m % 256 ^ c.args.width) (sym (byte_power c.args.offset))
