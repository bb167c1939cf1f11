-- The laws are proved in `Idling.antt`.
use Rattle.stmt_gen.proofs.Idling.{endless_plays_nothing, one_jump_more}
use Rattle.stmt_gen.proofs.laws.idling_code_plays_nothing.Goals as goal

pub returns-clause-endless : goal.returns-clause-endless
returns-clause-endless c = endless_plays_nothing

pub returns-clause-once : goal.returns-clause-once
returns-clause-once c = one_jump_more
