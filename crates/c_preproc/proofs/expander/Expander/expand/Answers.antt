use Rattle.c_preproc.specs.Code.Expander.{setting_of}
use Rattle.c_preproc.proofs.Steps.{placed_alone}
use Rattle.c_preproc.proofs.expander.Expander.expand.Goals as goal

pub returns-in_default-clause-expansion : goal.returns-in_default-clause-expansion
returns-in_default-clause-expansion c =
    placed_alone (setting_of c.args.bytes.now c.args.table.now) c.requires.indexed c.args.token c.entry_of.result c.entry_of.ensures c.in_default.not-Some c.place.result c.args.out.now.items _ c.place.ensures
