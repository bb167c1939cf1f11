-- A rule that a construct breaks is that of its file.
use Rattle.std.proofs.Common.{sym, subst}
use Rattle.c_file_rules.specs.Files.{file_checked}
use Rattle.c_check.specs.Answers.{IsRefusedBy}
use Rattle.c_check.specs.Going.{ahead_of}
use Rattle.c_check.specs.Rounds.{tokens_of}
use Rattle.c_check.specs.Tokens.{plain_tokens}
use Rattle.c_check.proofs.Ahead.{stopped_refused}
use Rattle.c_check.proofs.reading.gone_through.Goals as goal

pub returns-in-Err-clause-refused : goal.returns-in-Err-clause-refused
returns-in-Err-clause-refused c =
    let t = plain_tokens c.args.tokens.now in
    let ahead = ahead_of c.args.facts.now.kinds c.args.taken.now in
    subst (IsRefusedBy (file_checked (tokens_of t) ahead c.args.file.now)) (sym c.answer_of.ensures)
    (stopped_refused t ahead c.args.file.now c.in-Err.fault c.in-Err.ensures.stopped)
