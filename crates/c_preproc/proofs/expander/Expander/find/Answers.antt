use Rattle.std.proofs.Common.{ap, length, arith}
use Rattle.c_preproc.specs.Code.Expander.{setting_of}
use Rattle.c_preproc.proofs.LeftOut.{entry_below}
use Rattle.c_preproc.proofs.expander.Expander.find.Goals as goal

pub is_expanded-requires-clause-entry_in : goal.is_expanded-requires-clause-entry_in
is_expanded-requires-clause-entry_in c =
    let there = entry_below (setting_of c.args.bytes.now c.args.table.now) c.requires.indexed c.args.token c.in-Some.entry c.in-Some.ensures in
    omega (arith, there, c.requires.store.seats, ap length c.deref.ensures.value)

pub kept_at-requires : goal.kept_at-requires
kept_at-requires c =
    let there = entry_below (setting_of c.args.bytes.now c.args.table.now) c.requires.indexed c.args.token c.in-Some.entry c.in-Some.ensures in
    omega (arith, there, c.requires.store.spots, ap length c.deref-3.ensures.value)
