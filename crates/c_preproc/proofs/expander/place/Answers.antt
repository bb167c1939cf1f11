use Rattle.std.proofs.Common.{◌++◌, map, length, ap, sym, ◌∙◌, arith, length-append}
use Rattle.c_preproc.proofs.Store.{placed_push}
use Rattle.std.proofs.lemmas.List.{append-nil, length-map, take_all}
use Rattle.c_preproc.specs.Macros.{placed_at}
use Rattle.c_preproc.proofs.expander.place.Goals as goal

pub loop-token-init : goal.loop-token-init
loop-token-init c = sym (append-nil c.args.out.now.items)

pub loop-token-preserved : goal.loop-token-preserved
loop-token-preserved c =
    placed_push c.args.name c.args.tokens.now c.loop-token.token-index _ c.args.out.now.items _ _ (omega (arith, c.loop-token-test.true)) c.loop-token.invariant c.in_ok-push.ensures.items

pub returns : goal.returns
returns c =
    let all = c.loop-token.invariant ∙ ap (λ ts. c.args.out.now.items ++ map (placed_at c.args.name) ts) (take_all c.loop-token.token-index c.args.tokens.now (omega arith)) in
    (all, omega (arith, ap length all, length-append c.args.out.now.items (map (placed_at c.args.name) c.args.tokens.now), length-map c.args.tokens.now (placed_at c.args.name), c.if-len-tokens-gt-TOKEN_LIMIT.false, c.len.ensures, c.args.out.now.ok.0))
