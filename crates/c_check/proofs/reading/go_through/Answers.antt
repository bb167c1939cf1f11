-- Construct by construct.
use Rattle.std.proofs.Common.{ap, ◌∙◌}
use Rattle.c_expr_rules.specs.Views.{seen_state}
use Rattle.c_file_rules.specs.Files.{start_state}
use Rattle.c_check.specs.Tokens.{plain_tokens}
use Rattle.c_check.specs.Going.{HasStopped, ahead_of}
use Rattle.c_check.proofs.Handing.{hands_on}
use Rattle.c_check.proofs.Past.{left_first, left_more, left_ends, left_stops}
use Rattle.c_check.proofs.reading.go_through.Goals as goal

pub externals-init : goal.externals-init
externals-init c =
    left_first (plain_tokens c.args.tokens.now) c.args.facts.now c.args.taken.now c.as_slice-item-items.result.now (seen_state c.in_ok-state.state)
    c.new-functions.result.items (c.in_ok-state.ensures ∙ ap start_state c.len.ensures) c.new-functions.ensures.items

pub go_past-requires : goal.go_past-requires
go_past-requires c = record { library = c.externals.invariant.kept.library ∙ c.requires.of_file.library }

pub externals-preserved : goal.externals-preserved
externals-preserved c =
    left_more (plain_tokens c.args.tokens.now) c.args.facts.now c.externals.facts c.go_past.new.facts c.args.taken.now c.as_slice-item-items.result.now
    c.externals.item-index c.item-item.result (seen_state c.externals.gone.state) (seen_state c.go_past.new.gone.state)
    c.externals.gone.functions.items c.go_past.new.gone.functions.items c.externals-test.true c.item-item.is c.externals.invariant
    c.in_ok-go_past.ensures.goes c.in_ok-go_past.ensures.kept

pub returns-clause-gone : goal.returns-clause-gone
returns-clause-gone c =
    left_ends (plain_tokens c.args.tokens.now) c.args.facts.now c.externals.facts c.args.taken.now c.args.file.now c.as_slice-item-items.result.now
    c.externals.item-index (seen_state c.externals.gone.state) c.externals.gone.functions.items c.as_slice-item-items.ensures c.requires.bodies
    c.externals-test.false c.externals.invariant

pub returns-clause-kept : goal.returns-clause-kept
returns-clause-kept c = c.externals.invariant.kept

pub returns-in_err-go_past-clause-stopped : goal.returns-in_err-go_past-clause-stopped
returns-in_err-go_past-clause-stopped c =
    let t = plain_tokens c.args.tokens.now in
    let first = c.args.facts.now in
    let f = c.in_err-go_past.field-0.0 in
    hands_on (HasStopped t (ahead_of first.kinds c.args.taken.now) c.args.file.now) c.from_residual-in_err-go_past.result f
    c.from_residual-in_err-go_past.ensures.1
    (left_stops t first c.externals.facts c.args.taken.now c.args.file.now c.as_slice-item-items.result.now c.externals.item-index
    c.item-item.result (seen_state c.externals.gone.state) c.externals.gone.functions.items f c.as_slice-item-items.ensures
    c.requires.bodies c.externals-test.true c.item-item.is c.externals.invariant c.in_err-go_past.ensures.stopped)
