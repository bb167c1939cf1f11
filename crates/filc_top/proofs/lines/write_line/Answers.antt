-- The text of a refusal and of a trap is that of its reason.
use Rattle.std.proofs.Common.{◌∙◌}
use Rattle.filc_top.proofs.lines.write_line.Goals as goal

pub returns-in-Refused : goal.returns-in-Refused
returns-in-Refused g c =
    rw c.in-Refused.is (rw (c.as_bytes-text.ensures.value ∙ c.text.ensures) at c.write_at_line.ensures)

pub returns-in-Trapped : goal.returns-in-Trapped
returns-in-Trapped g c =
    rw c.in-Trapped.is (rw (c.as_bytes.ensures.value ∙ c.text-in-Trapped.ensures) at c.write_at_line-in-Trapped.ensures)
