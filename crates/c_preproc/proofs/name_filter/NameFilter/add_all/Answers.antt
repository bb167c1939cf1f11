use Rattle.std.proofs.Common.{refl, arith, subst}
use Rattle.std.proofs.lemmas.List.{take_all}
use Rattle.c_preproc.specs.Code.NameFilter.{AreIn}
use Rattle.c_preproc.proofs.Staying.{filtered_next}
use Rattle.c_preproc.proofs.name_filter.NameFilter.add_all.Goals as goal

pub loop-token-init : goal.loop-token-init
loop-token-init c = record { more = λ name h. h; added = refl }

pub loop-token-preserved : goal.loop-token-preserved
loop-token-preserved c =
    let l = c.loop-token in
    record {
      more = λ name h. c.add_token.ensures.more name (l.invariant.more name h);
      added = filtered_next l.self.slots.items c.add_token.new.self.slots.items c.args.bytes.now c.args.tokens.now l.token-index _ (omega (arith, c.loop-token-test.true)) c.add_token.ensures.more l.invariant.added c.add_token.ensures.added;
    }

pub returns-clause-added : goal.returns-clause-added
returns-clause-added c =
    let l = c.loop-token in
    subst (AreIn l.self.slots.items c.args.bytes.now) (take_all l.token-index c.args.tokens.now (omega (arith, c.loop-token-test.false))) l.invariant.added
