-- One reading, from its constructs to its end.
use Rattle.std.proofs.Common.{◌∙◌}
use Rattle.c_expr_rules.specs.Views.{seen_state}
use Rattle.c_file_rules.specs.Files.{file_checked}
use Rattle.c_check.specs.Answers.{IsRefusedBy}
use Rattle.c_check.specs.Going.{ahead_of}
use Rattle.c_check.specs.Rounds.{tokens_of}
use Rattle.c_check.specs.Tokens.{plain_tokens}
use Rattle.c_check.proofs.Ahead.{not_closed, reading_of}
use Rattle.c_check.proofs.Handing.{hands_on}
use Rattle.c_check.proofs.reading.read.Goals as goal

pub returns-clause-reading : goal.returns-clause-reading
returns-clause-reading c =
    let t = plain_tokens c.args.tokens.now in
    let ahead = ahead_of c.args.facts.now.kinds c.args.taken.now in
    reading_of t ahead c.args.file.now (record { state = c.in_ok-gone.gone.state; functions = c.in_ok-gone.gone.functions; main = c.in_ok-main.main })
    c.gone_through.new.facts.bodies (c.in_ok-gone.ensures.kept.bodies ∙ c.requires.bodies) c.in_ok-gone.ensures.gone c.in_ok-main.ensures.main

pub returns-in_err-main-clause-refused : goal.returns-in_err-main-clause-refused
returns-in_err-main-clause-refused c =
    let t = plain_tokens c.args.tokens.now in
    let ahead = ahead_of c.args.facts.now.kinds c.args.taken.now in
    let f = c.in_err-main.field-0.0 in
    hands_on (IsRefusedBy (file_checked (tokens_of t) ahead c.args.file.now)) c.from_residual-in_err-main.result f
    c.from_residual-in_err-main.ensures.1
    (not_closed t ahead c.args.file.now (seen_state c.in_ok-gone.gone.state) c.in_ok-gone.gone.functions.items
    c.gone_through.new.facts.bodies f (c.in_ok-gone.ensures.kept.bodies ∙ c.requires.bodies) c.in_ok-gone.ensures.gone
    c.in_err-main.ensures.refused)
