-- The code looks at a construct as the definition does.
use Rattle.std.proofs.Common.{ap, ◌∙◌}
use Rattle.c_expr_rules.specs.Views.{seen_state}
use Rattle.c_file_rules.specs.Printing.{printer_in}
use Rattle.c_names.specs.declared.facts.Facts.{Facts}
use Rattle.c_check.specs.Going.{IsStopped}
use Rattle.c_check.specs.Tokens.{plain_tokens}
use Rattle.c_check.proofs.Handing.{hands_on}
use Rattle.c_check.proofs.Past.{goes_past, looking, stops_at}
use Rattle.c_check.proofs.constructs.go_past.Goals as goal

pub returns-clause-goes : goal.returns-clause-goes
returns-clause-goes c =
    let s = seen_state c.args.gone.now.state in
    goes_past (plain_tokens c.args.tokens.now) (record c.args.facts.now { printer = c.printer_in-facts.result }) c.args.taken.now s
    (seen_state c.construct.new.state) c.args.item.now c.in_ok-made.made c.args.gone.now.functions.items
    c.add_function.new.functions.items (record { library = c.requires.library })
    (c.printer_in-facts.ensures ∙ ap (λ n. printer_in n s) c.len.ensures) c.in_ok-made.ensures c.in_ok-add_function.ensures

pub returns-in_err-made-clause-stopped : goal.returns-in_err-made-clause-stopped
returns-in_err-made-clause-stopped c =
    let t = plain_tokens c.args.tokens.now in
    let s = seen_state c.args.gone.now.state in
    let facts : Facts = record c.args.facts.now { printer = c.printer_in-facts.result } in
    let f = c.in_err-made.field-0.0 in
    hands_on (IsStopped (looking t facts c.args.taken.now s c.args.item.now)) c.from_residual.result f
    c.from_residual.ensures.1
    (stops_at t facts c.args.taken.now s (seen_state c.construct.new.state) c.args.item.now f (record { library = c.requires.library })
    (c.printer_in-facts.ensures ∙ ap (λ n. printer_in n s) c.len.ensures) c.in_err-made.ensures)
