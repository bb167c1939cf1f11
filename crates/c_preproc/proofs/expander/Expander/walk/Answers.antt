-- The walk: what was put into the store and what is left are together what stands for the name.
use Rattle.std.proofs.Common.{◌≡◌, ◌+◌, ◌∙◌, arith, length, sym}
use Rattle.c_preproc.specs.Code.Expander.{macros_of, setting_of}
use Rattle.c_preproc.specs.Expansion.{token_limit}
use Rattle.c_preproc.specs.Macros.{replacement_of}
use Rattle.c_preproc.proofs.LeftOut.{entry_below}
use Rattle.c_preproc.proofs.Steps.{begins, goes_on, none_left, run_ends, runs_less, runs_on, runs_over}
use Rattle.c_preproc.proofs.expander.Expander.walk.Goals as goal

pub open-requires : goal.open-requires
open-requires c =
    let below = entry_below (setting_of c.args.bytes.now c.args.table.now) c.requires.indexed c.args.token c.args.entry (sym c.requires.names) in
    omega (arith, below, c.requires.store.seats)

pub loop-frame-init : goal.loop-frame-init
loop-frame-init c =
    begins (setting_of c.args.bytes.now c.args.table.now) c.requires.indexed c.args.self.now c.args.token c.args.entry c.requires.names c.requires.store c.requires.new c.len-start.result c.open.new.seats c.clear.new.self c.open.new.stack
    (c.len-start.ensures ∙ c.args.self.now.tokens.ok.0) c.clear.ensures.items c.in_ok-open.ensures.seats c.in_ok-open.ensures.stack

pub step-requires-clause-walking : goal.step-requires-clause-walking
step-requires-clause-walking c =
    let s = setting_of c.args.bytes.now c.args.table.now in
    goes_on s 0 c.loop-frame.self c.args.self.now.tokens.items (replacement_of c.args.bytes.now (macros_of s) c.args.token) c.loop-frame.invariant c.pop.new.self c.in-Some.frame c.in-Some.ensures.items

pub loop-frame-preserved : goal.loop-frame-preserved
loop-frame-preserved c =
    let s = setting_of c.args.bytes.now c.args.table.now in
    runs_on s (c.len-start.result + token_limit) c.loop-frame.self c.args.self.now.tokens.items (replacement_of c.args.bytes.now (macros_of s) c.args.token) c.loop-frame.invariant c.pop.new.self c.in-Some.frame c.in-Some.ensures.items c.step.new.self (rw c.in-Fits.is at c.in_ok-step.ensures.step)

pub loop-frame-smaller : goal.loop-frame-smaller
loop-frame-smaller c =
    let s = setting_of c.args.bytes.now c.args.table.now in
    runs_less s (c.len-start.result + token_limit) c.loop-frame.self c.args.self.now.tokens.items (replacement_of c.args.bytes.now (macros_of s) c.args.token) c.loop-frame.invariant c.pop.new.self c.in-Some.frame c.in-Some.ensures.items c.step.new.self (rw c.in-Fits.is at c.in_ok-step.ensures.step)

pub returns-in-TooMany-clause-walk : goal.returns-in-TooMany-clause-walk
returns-in-TooMany-clause-walk c =
    let s = setting_of c.args.bytes.now c.args.table.now in
    let limit : c.len-start.result + token_limit ≡ length c.args.self.now.tokens.items + token_limit = omega (arith, c.len-start.ensures, c.args.self.now.tokens.ok.0) in
    runs_over s (c.len-start.result + token_limit) c.loop-frame.self c.args.self.now.tokens.items (replacement_of c.args.bytes.now (macros_of s) c.args.token) c.loop-frame.invariant c.pop.new.self c.in-Some.frame c.in-Some.ensures.items token_limit c.step.new.self limit (rw c.in-TooMany.is at c.in_ok-step.ensures.step)

pub returns-clause-walk : goal.returns-clause-walk
returns-clause-walk c =
    let s = setting_of c.args.bytes.now c.args.table.now in
    run_ends s c.loop-frame.self c.args.self.now.tokens.items (replacement_of c.args.bytes.now (macros_of s) c.args.token) c.loop-frame.invariant (none_left c.loop-frame.self.stack.items (sym c.loop-frame.self.stack.ok.0 ∙ c.in_default.ensures.cases.0))

pub returns-clause-store : goal.returns-clause-store
returns-clause-store c =
    let store = c.loop-frame.invariant.walking.store in
    record { seats = store.seats; spots = store.spots; kept = store.kept }
