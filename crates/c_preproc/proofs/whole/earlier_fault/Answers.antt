use Rattle.std.proofs.Common.{◌∙◌, sym}
use Rattle.std.proofs.lemmas.Bool.{cond-true, cond-false}
use Rattle.c_preproc.proofs.whole.earlier_fault.Goals as goal

pub returns-then-is_before : goal.returns-then-is_before
returns-then-is_before c = cond-true _ _ _ (sym c.is_before.ensures ∙ c.if-is_before.true)

pub returns-else-is_before : goal.returns-else-is_before
returns-else-is_before c = cond-false _ _ _ (sym c.is_before.ensures ∙ c.if-is_before.false)
