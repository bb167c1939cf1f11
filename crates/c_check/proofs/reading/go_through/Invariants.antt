-- What is left of the constructs.
use Rattle.c_expr_rules.specs.Views.{seen_state}
use Rattle.c_check.specs.Tokens.{plain_tokens}
use Rattle.c_check.proofs.Past.{IsLeft}
use Rattle.c_check.proofs.reading.go_through.Given as goal

abbrev pub invariant-externals : goal.invariant-externals
invariant-externals l =
    IsLeft (plain_tokens l.tokens) l.fn.facts l.facts l.taken l.item-items l.item-index (seen_state l.gone.state) l.gone.functions.items
