-- A file that was refused is of no program.
use Rattle.std.proofs.Common.{refl, subst}
use Rattle.form_reader.specs.declared.form.ReadFault.{ReadFault}
use Rattle.form_reader.specs.Reading.{IsJust}
use Rattle.std.specs.Prelude.{Err}
use Rattle.filc_top.proofs.call.program_of.Goals as goal

pub returns-in-Err-NotForm-clause-ended : goal.returns-in-Err-NotForm-clause-ended
returns-in-Err-NotForm-clause-ended c =
    (refl, λ program form. subst (λ (fault : ReadFault). IsJust (Err fault) program) c.in-Err-NotForm.field-0-is (c.in-Err-NotForm.ensures.only program form))
