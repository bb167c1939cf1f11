use Rattle.std.proofs.Common.{ap, arith, length, sym}
use Rattle.c_preproc.specs.Code.Expander.{setting_of}
use Rattle.c_preproc.proofs.LeftOut.{entry_below}
use Rattle.c_preproc.proofs.Steps.{known_range}
use Rattle.c_preproc.proofs.expander.Expander.range_of.Goals as goal

pub kept_at-requires : goal.kept_at-requires
kept_at-requires c =
    let below = entry_below (setting_of c.args.bytes.now c.args.table.now) c.requires.indexed c.args.token c.args.entry (sym c.requires.names) in
    omega (arith, below, c.requires.store.spots, ap length c.deref.ensures.value)

pub returns-in-Some-clause-range : goal.returns-in-Some-clause-range
returns-in-Some-clause-range c =
    known_range (setting_of c.args.bytes.now c.args.table.now) c.requires.indexed c.args.self.now c.args.token c.args.entry c.requires.names c.requires.store _ _ c.in-Some.kept c.deref.ensures.value c.deref-2.ensures.value c.in-Some.ensures

pub walk-requires-clause-store : goal.walk-requires-clause-store
walk-requires-clause-store c = c.make_room.ensures.store (setting_of c.args.bytes.now c.args.table.now) c.requires.store
