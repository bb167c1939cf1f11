-- The locals are those that are told of the construct's function.
use Rattle.c_expr_rules.specs.Views.{seen_state}
use Rattle.c_names.specs.Code.{here_at}
use Rattle.c_check.specs.Rounds.{round_at}
use Rattle.c_check.specs.Tokens.{plain_tokens}
use Rattle.c_check.proofs.Inside.{construct_inside}
use Rattle.c_check.proofs.constructs.construct.Goals as goal

pub returns : goal.returns
returns c =
    construct_inside (here_at c.args.facts.now (round_at (plain_tokens c.args.tokens.now) c.args.facts.now 201)) c.args.taken.now
    c.homes_at-homes.result.now c.in_ok-number.number (seen_state c.args.state.now) (seen_state c.external_made.new.state) c.args.item.now
    c.external_made.result c.homes_at-homes.ensures c.in_ok-number.ensures c.external_made.ensures
