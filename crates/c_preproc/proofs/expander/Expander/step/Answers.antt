-- A step takes the next token of the frame, or closes it: then its expansion is kept, or the frame outside of it is tainted.
use Rattle.std.proofs.Common.{◌∙◌, arith, ap, length, sym, subst}
use Rattle.c_preproc.specs.Code.Expander.{setting_of, AllKept}
use Rattle.c_preproc.proofs.Steps.{closes_kept, closes_tainted, frame_below, takes, takes_step}
use Rattle.c_preproc.proofs.Store.{body_is, token_next, token_taken}
use Rattle.c_preproc.proofs.expander.Expander.step.Goals as goal

pub index-requires : goal.index-requires
index-requires c =
    let below = frame_below (setting_of c.args.bytes.now c.args.table.now) c.requires.indexed c.args.limit c.args.self.now c.args.frame c.requires.walking in
    omega (arith, below, c.args.table.now.entries.ok.0)

pub replace-requires-clause-walking : goal.replace-requires-clause-walking
replace-requires-clause-walking c =
    let s = setting_of c.args.bytes.now c.args.table.now in
    let below = frame_below s c.requires.indexed c.args.limit c.args.self.now c.args.frame c.requires.walking in
    let body = body_is s.entries c.args.frame.entry c.index.result.now c.as_slice-body.result.now below c.index.ensures c.as_slice-body.ensures.value in
    takes s c.requires.indexed c.args.limit c.args.self.now c.args.frame c.requires.walking c.push.new.self _ c.in_ok-push.ensures.items (token_taken c.as_slice-body.result.now _ c.args.frame.next _ body c.if-frame-body.true)

pub returns-then-frame-body-clause-step : goal.returns-then-frame-body-clause-step
returns-then-frame-body-clause-step c =
    let s = setting_of c.args.bytes.now c.args.table.now in
    let below = frame_below s c.requires.indexed c.args.limit c.args.self.now c.args.frame c.requires.walking in
    let body = body_is s.entries c.args.frame.entry c.index.result.now c.as_slice-body.result.now below c.index.ensures c.as_slice-body.ensures.value in
    takes_step s c.requires.indexed c.args.limit c.args.self.now c.args.frame c.requires.walking c.push.new.self _ c.in_ok-push.ensures.items (token_next c.as_slice-body.result.now _ c.args.frame.next _ body c.if-frame-body.true) c.replace.new.self c.replace.result c.replace.ensures.step

pub keep-requires : goal.keep-requires
keep-requires c =
    let below = frame_below (setting_of c.args.bytes.now c.args.table.now) c.requires.indexed c.args.limit c.args.self.now c.args.frame c.requires.walking in
    omega (arith, below, c.requires.walking.store.spots)

pub returns-in_err-keep-clause-store : goal.returns-in_err-keep-clause-store
returns-in_err-keep-clause-store c =
    let s = setting_of c.args.bytes.now c.args.table.now in
    let x = c.args.self.now in
    let same = c.in_err-keep.ensures.err in
    record {
      seats = c.requires.walking.store.seats;
      spots = omega (arith, c.requires.walking.store.spots, ap length same.1);
      kept = subst (λ spots. AllKept s spots c.keep.new.kept.items x.tokens.items) (sym same.1) (subst (λ kept. AllKept s x.spots.items kept x.tokens.items) (sym same.0) c.requires.walking.store.kept);
    }

pub returns-in_ok-keep-clause-step : goal.returns-in_ok-keep-clause-step
returns-in_ok-keep-clause-step c =
    let s = setting_of c.args.bytes.now c.args.table.now in
    let below = frame_below s c.requires.indexed c.args.limit c.args.self.now c.args.frame c.requires.walking in
    let body = body_is s.entries c.args.frame.entry c.index.result.now c.as_slice-body.result.now below c.index.ensures c.as_slice-body.ensures.value in
    closes_kept s c.requires.indexed c.args.limit c.args.self.now c.args.frame c.requires.walking (omega (arith, ap length body, c.if-frame-body.false)) c.if-frame.true c.len-end.result (c.len-end.ensures ∙ c.args.self.now.tokens.ok.0)
    c.keep.new.spots c.keep.new.kept c.in_ok-keep.ensures.spots c.in_ok-keep.ensures.kept

pub returns-in_ok-keep-clause-store : goal.returns-in_ok-keep-clause-store
returns-in_ok-keep-clause-store c =
    let s = setting_of c.args.bytes.now c.args.table.now in
    let below = frame_below s c.requires.indexed c.args.limit c.args.self.now c.args.frame c.requires.walking in
    let body = body_is s.entries c.args.frame.entry c.index.result.now c.as_slice-body.result.now below c.index.ensures c.as_slice-body.ensures.value in
    (closes_kept s c.requires.indexed c.args.limit c.args.self.now c.args.frame c.requires.walking (omega (arith, ap length body, c.if-frame-body.false)) c.if-frame.true c.len-end.result (c.len-end.ensures ∙ c.args.self.now.tokens.ok.0)
    c.keep.new.spots c.keep.new.kept c.in_ok-keep.ensures.spots c.in_ok-keep.ensures.kept).0.store

pub returns-in_ok-taint-clause-step : goal.returns-in_ok-taint-clause-step
returns-in_ok-taint-clause-step c =
    let s = setting_of c.args.bytes.now c.args.table.now in
    let below = frame_below s c.requires.indexed c.args.limit c.args.self.now c.args.frame c.requires.walking in
    let body = body_is s.entries c.args.frame.entry c.index.result.now c.as_slice-body.result.now below c.index.ensures c.as_slice-body.ensures.value in
    closes_tainted s c.requires.indexed c.args.limit c.args.self.now c.args.frame c.requires.walking (omega (arith, ap length body, c.if-frame-body.false)) c.taint.new.stack c.in_ok-taint.ensures.frames c.in_ok-taint.ensures.entries
