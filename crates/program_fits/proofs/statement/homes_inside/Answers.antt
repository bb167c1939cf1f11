-- The homes are put behind each other as the block's locals are gone through.
use Rattle.std.proofs.Common.{ℕ, List, get_or, sym, ap, ◌∙◌, subst}
use Rattle.c_tree.specs.declared.stmt.LocalDef.{LocalDef}
use Rattle.c_tree.specs.declared.stmt.LocalKind.TheVariants as kind
use Rattle.c_tree.specs.Operands.{Context}
use Rattle.c_tree.specs.Fits.{LocalFits}
use Rattle.program_fits.proofs.Loops.{fails}
use Rattle.program_fits.proofs.Homes.{with_homes, left_first, read_more, read_none, left_fits, left_inside}
use Rattle.program_fits.proofs.statement.homes_inside.Goals as goal

-- what stands behind the last local
abbrev no_local : LocalDef
no_local = record { line = 0; local = 0; kind = kind.Zero }

pub loop-local-init : goal.loop-local-init
loop-local-init c = left_first c.args.here.now c.in_ok-homes.homes.items c.args.locals.now c.in_ok-homes.ensures

pub returns-then-not-local_fits-clause-fits : goal.returns-then-not-local_fits-clause-fits
returns-then-not-local_fits-clause-fits c =
    let behind = c.with_homes-behind.ensures ∙ ap (λ (h : List ℕ). with_homes c.args.here.now h) c.as_slice.ensures.value in
    read_none c.args.here.now c.loop-local.homes.items c.args.locals.now c.loop-local.local-index no_local c.loop-local-test.true
    (λ h. fails c.local_fits.result c.local_fits.ensures c.if-not-local_fits.true (subst (λ (x : Context). LocalFits x (get_or c.args.locals.now c.loop-local.local-index no_local)) (sym behind) h))
    c.loop-local.invariant

pub loop-local-preserved : goal.loop-local-preserved
loop-local-preserved c =
    let behind = c.with_homes-behind.ensures ∙ ap (λ (h : List ℕ). with_homes c.args.here.now h) c.as_slice.ensures.value in
    read_more c.args.here.now c.loop-local.homes.items c.put_home.new.homes.items c.args.locals.now c.loop-local.local-index no_local
    c.loop-local-test.true c.in_ok-put_home.ensures
    (subst (λ (x : Context). LocalFits x (get_or c.args.locals.now c.loop-local.local-index no_local)) behind (c.local_fits.ensures.0 c.if-not-local_fits.false)) c.loop-local.invariant

pub returns-clause-fits : goal.returns-clause-fits
returns-clause-fits c = left_fits c.args.here.now c.loop-local.homes.items c.args.locals.now c.loop-local.local-index c.loop-local-test.false c.loop-local.invariant

pub returns-clause-homes : goal.returns-clause-homes
returns-clause-homes c =
    left_inside c.args.here.now c.loop-local.homes.items c.args.locals.now c.loop-local.local-index c.loop-local-test.false c.loop-local.invariant
