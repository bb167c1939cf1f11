-- Body by body.
use Rattle.std.proofs.Common.{sym, ◌∙◌, arith}
use Rattle.c_check.specs.Tokens.{plain_tokens, text_at}
use Rattle.c_check.proofs.TextLists.{spelled_on, spelled_end}
use Rattle.c_check.proofs.tokens.body_spelled.Goals as goal

pub bodies-preserved : goal.bodies-preserved
bodies-preserved c =
    let e = spelled_on (text_at (plain_tokens c.args.tokens.now)) c.args.letters.now c.args.bodies.now c.bodies.number (omega arith) in
    grind arith

pub returns : goal.returns
returns c =
    sym (spelled_end (text_at (plain_tokens c.args.tokens.now)) c.args.letters.now c.args.bodies.now c.bodies.number (omega arith))
    ∙ c.bodies.invariant

pub returns-then-is_spelled : goal.returns-then-is_spelled
returns-then-is_spelled c =
    let e = spelled_on (text_at (plain_tokens c.args.tokens.now)) c.args.letters.now c.args.bodies.now c.bodies.number (omega arith) in
    grind arith
