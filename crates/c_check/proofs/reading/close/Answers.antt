-- The rules of the whole, as they were looked at.
use Rattle.c_expr_rules.specs.Views.{seen_state}
use Rattle.c_check.specs.Tokens.{plain_tokens}
use Rattle.c_check.proofs.Closing.{ending_broken, ending_fine}
use Rattle.c_check.proofs.reading.close.Goals as goal

pub returns-in-Some-default-clause-refused : goal.returns-in-Some-default-clause-refused
returns-in-Some-default-clause-refused c =
    ending_broken (plain_tokens c.args.tokens.now) c.args.facts.now.bodies (seen_state c.args.gone.now.state) c.args.gone.now.functions.items
    c.as_slice.result.now c.in_ok-words.words c.body_spelled-main.result c.in_ok-broken.field-0
    c.in-Some-default.broken c.refusal_of.result c.as_slice.ensures.value c.in_ok-words.ensures
    c.body_spelled-main.ensures c.in_ok-broken.ensures c.in-Some-default.is-0 c.refusal_of.ensures

pub returns-in-None-Some-clause-main : goal.returns-in-None-Some-clause-main
returns-in-None-Some-clause-main c =
    ending_fine (plain_tokens c.args.tokens.now) c.args.facts.now.bodies (seen_state c.args.gone.now.state) c.args.gone.now.functions.items
    c.as_slice.result.now c.in_ok-words.words c.body_spelled-main.result c.in_ok-broken.field-0
    c.in-None-Some.main c.as_slice.ensures.value c.in_ok-words.ensures
    c.body_spelled-main.ensures c.in_ok-broken.ensures c.in-None-Some.is-0 c.in-None-Some.is-1
