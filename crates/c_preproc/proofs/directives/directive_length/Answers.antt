use Rattle.std.proofs.Common.{sym}
use Rattle.c_preproc.proofs.Lists.{and_true, and_false_of, false_and}
use Rattle.c_preproc.proofs.Blocks.{plain_front, directive_front}
use Rattle.c_preproc.proofs.directives.directive_length.Goals as goal
use Rattle.c_preproc.proofs.directives.directive_length.Goals.{else-token-via-then-token+else-is_punctuator, else-token-via-else-token}

pub returns-then-is_punctuator-clause-block : goal.returns-then-is_punctuator-clause-block
returns-then-is_punctuator-clause-block c =
    let a = c.args in
    directive_front a.bytes.now a.token a.behind.now c.line_rest.result (and_true _ _ c.if-token.true (sym c.if-is_punctuator.ensures)) c.line_rest.ensures.value

pub returns-else-token-clause-block : goal.returns-else-token-clause-block
returns-else-token-clause-block c =
    let a = c.args in
    elim c.else-token.branch [
      | else-token-via-then-token+else-is_punctuator w ↦ plain_front a.bytes.now a.token a.behind.now (and_false_of _ _ (sym w.if-is_punctuator.ensures))
      | else-token-via-else-token w ↦ plain_front a.bytes.now a.token a.behind.now (false_and _ _ w.if-token.false)
    ]
