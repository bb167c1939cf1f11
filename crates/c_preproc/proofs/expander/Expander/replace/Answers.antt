use Rattle.std.proofs.Common.{◌∙◌, arith}
use Rattle.c_preproc.specs.Code.Expander.{setting_of}
use Rattle.c_preproc.proofs.Steps.{known_kept, new_below, opens, puts_hidden, puts_known, puts_plain, store_grown}
use Rattle.c_preproc.proofs.expander.Expander.replace.Goals as goal

pub open-requires : goal.open-requires
open-requires c =
    let s = setting_of c.args.bytes.now c.args.table.now in
    let below = new_below s c.requires.indexed c.args.limit c.args.self.now c.args.token c.requires.walking c.in-New.entry c.in-New.ensures in
    omega (arith, below, c.requires.walking.store.seats)

pub copy-requires-clause-ordered : goal.copy-requires-clause-ordered
copy-requires-clause-ordered c =
    (known_kept (setting_of c.args.bytes.now c.args.table.now) c.requires.indexed c.args.limit c.args.self.now c.args.token c.requires.walking c.in-Known.kept c.in-Known.ensures).0.ordered

pub copy-requires-clause-within : goal.copy-requires-clause-within
copy-requires-clause-within c =
    (known_kept (setting_of c.args.bytes.now c.args.table.now) c.requires.indexed c.args.limit c.args.self.now c.args.token c.requires.walking c.in-Known.kept c.in-Known.ensures).0.within

pub returns-in-Plain-clause-step : goal.returns-in-Plain-clause-step
returns-in-Plain-clause-step c =
    puts_plain (setting_of c.args.bytes.now c.args.table.now) c.requires.indexed c.args.limit c.args.self.now c.args.token c.requires.walking c.put.new.tokens c.in-Plain.ensures c.put.result c.put.ensures.put

pub returns-in-Plain-clause-store : goal.returns-in-Plain-clause-store
returns-in-Plain-clause-store c = store_grown (setting_of c.args.bytes.now c.args.table.now) c.args.self.now c.args.self.now.stack c.put.new.tokens c.requires.walking.store c.put.ensures.grown

pub returns-in_ok-taint-in-Hidden-clause-step : goal.returns-in_ok-taint-in-Hidden-clause-step
returns-in_ok-taint-in-Hidden-clause-step c =
    puts_hidden (setting_of c.args.bytes.now c.args.table.now) c.requires.indexed c.args.limit c.args.self.now c.args.token c.requires.walking c.taint.new.stack c.put-in-Hidden.new.tokens c.in-Hidden.ensures c.in_ok-taint-in-Hidden.ensures.frames c.in_ok-taint-in-Hidden.ensures.entries c.put-in-Hidden.result c.put-in-Hidden.ensures.put

pub returns-in_ok-taint-in-Hidden-clause-store : goal.returns-in_ok-taint-in-Hidden-clause-store
returns-in_ok-taint-in-Hidden-clause-store c = store_grown (setting_of c.args.bytes.now c.args.table.now) c.args.self.now c.taint.new.stack c.put-in-Hidden.new.tokens c.requires.walking.store c.put-in-Hidden.ensures.grown

pub returns-in-Known-clause-step : goal.returns-in-Known-clause-step
returns-in-Known-clause-step c =
    puts_known (setting_of c.args.bytes.now c.args.table.now) c.requires.indexed c.args.limit c.args.self.now c.args.token c.requires.walking c.in-Known.kept c.copy.new.tokens c.in-Known.ensures c.copy.result c.copy.ensures.put

pub returns-in-Known-clause-store : goal.returns-in-Known-clause-store
returns-in-Known-clause-store c = store_grown (setting_of c.args.bytes.now c.args.table.now) c.args.self.now c.args.self.now.stack c.copy.new.tokens c.requires.walking.store c.copy.ensures.grown

pub returns-in_ok-open-in-New-clause-step : goal.returns-in_ok-open-in-New-clause-step
returns-in_ok-open-in-New-clause-step c =
    opens (setting_of c.args.bytes.now c.args.table.now) c.requires.indexed c.args.limit c.args.self.now c.args.token c.requires.walking c.in-New.entry c.len.result c.open.new.seats c.open.new.stack c.in-New.ensures (c.len.ensures ∙ c.args.self.now.tokens.ok.0) c.in_ok-open-in-New.ensures.seats c.in_ok-open-in-New.ensures.stack
