use Rattle.c_preproc.specs.Code.Table.{place_of}
use Rattle.c_preproc.proofs.MacroTable.{first_defined}
use Rattle.c_preproc.proofs.macros.Macros.empty.Goals as goal

pub returns-clause-macros : goal.returns-clause-macros
returns-clause-macros c = first_defined (place_of c.new-2.result) c.new.result.items c.new.ensures.items
