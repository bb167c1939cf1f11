use Rattle.std.proofs.Common.{◌≡◌, ◌++◌, length, ap, sym, ◌∙◌, arith, length-append}
use Rattle.std.proofs.lemmas.List.{append-nil}
use Rattle.c_preproc.specs.Code.Expander.{part_of}
use Rattle.c_preproc.proofs.Store.{copied_more, length-part, part_nothing}
use Rattle.c_preproc.proofs.expander.copy.Goals as goal

pub loop-at-init : goal.loop-at-init
loop-at-init c = (sym (ap (λ ts. c.args.tokens.now.items ++ ts) (part_nothing c.args.tokens.now.items c.args.kept.start) ∙ append-nil c.args.tokens.now.items), omega arith, c.requires.ordered)

pub index-token-requires : goal.index-token-requires
index-token-requires c = omega (arith, ap length c.loop-at.invariant.0, length-append c.args.tokens.now.items (part_of c.args.tokens.now.items c.args.kept.start c.loop-at.at), c.loop-at.tokens.ok.0, c.requires.within)

pub returns-in_err-push-clause-grown : goal.returns-in_err-push-clause-grown
returns-in_err-push-clause-grown c = (part_of c.args.tokens.now.items c.args.kept.start c.loop-at.at, c.in_err-push.ensures.items ∙ c.loop-at.invariant.0)

pub loop-at-preserved : goal.loop-at-preserved
loop-at-preserved c =
    let less = c.loop-at-test.true in (
      copied_more c.args.tokens.now.items c.loop-at.tokens.items c.push.new.self.items c.args.kept.start c.loop-at.at c.index-token.result.now c.loop-at.invariant.1 (omega (arith, c.requires.within)) c.loop-at.invariant.0 c.index-token.ensures c.in_ok-push.ensures.items,
      omega (arith, c.loop-at.invariant.1),
      omega arith,
    )

pub returns-clause-put : goal.returns-clause-put
returns-clause-put c =
    let old = c.args.tokens.now.items in
    let last : c.loop-at.at ≡ c.args.kept.end = omega (arith, c.loop-at.invariant.2, c.loop-at-test.false) in
    let all = c.loop-at.invariant.0 ∙ ap (λ at. old ++ part_of old c.args.kept.start at) last in
    (all, omega (arith, ap length all, length-append old (part_of old c.args.kept.start c.args.kept.end), length-part old c.args.kept.start c.args.kept.end c.requires.ordered c.requires.within, c.if-len-kept.false, c.len.ensures, c.args.tokens.now.ok.0))

pub returns-clause-grown : goal.returns-clause-grown
returns-clause-grown c = (part_of c.args.tokens.now.items c.args.kept.start c.loop-at.at, c.loop-at.invariant.0)
