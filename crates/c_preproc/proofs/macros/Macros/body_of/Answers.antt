use Rattle.std.proofs.Common.{sym, ap, arith}
use Rattle.c_preproc.specs.Code.Table.{place_of}
use Rattle.c_preproc.proofs.LeftOut.{leads_below}
use Rattle.c_preproc.proofs.MacroTable.{body_absent, body_present}
use Rattle.c_preproc.proofs.macros.Macros.body_of.Goals as goal

pub returns-in_err-place : goal.returns-in_err-place
returns-in_err-place c =
    let m = c.self.inside.table in
    rw c.from_residual.ensures (sym (body_absent (place_of m.index) m.entries.items c.args.self.now.macros c.args.name.now (ap (λ d. d.macros) c.self.view_is) (sym c.in_err-place.ensures)))

pub index-requires : goal.index-requires
index-requires c =
    let m = c.self.inside.table in
    let there = leads_below (place_of m.index) m.entries.items c.self.invariant.indexed c.args.name.now c.in_ok-place.place (sym c.in_ok-place.ensures) in
    omega (arith, there, m.entries.ok.0)

pub returns : goal.returns
returns c =
    let m = c.self.inside.table in
    rw c.as_slice.ensures.value
    (sym (body_present (place_of m.index) m.entries.items c.args.self.now.macros c.args.name.now c.in_ok-place.place c.index.result.now (ap (λ d. d.macros) c.self.view_is) c.self.invariant.indexed (sym c.in_ok-place.ensures) c.index.ensures))
