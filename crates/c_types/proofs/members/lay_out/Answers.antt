-- What is laid out so far, and the members that are left, are the whole layout.
use Rattle.std.proofs.Common.{◌≡◌, ◌++◌, ◌∷◌, [], Err, Result, sym, ap, ◌∙◌, arith}
use Rattle.std.proofs.lemmas.Grind.{common_steps}
use Rattle.c_types.specs.declared.ctype.TypeFault.{TypeFault}
use Rattle.c_types.specs.declared.ctype.TypeFault.TheVariants.{Incomplete, TooLarge}
use Rattle.c_types.specs.declared.members.Placement.{Placement}
use Rattle.c_types.specs.Placements.{placement_in}
use Rattle.c_types.proofs.Layings.{laid_further, fails_at, laid_out}
use Rattle.c_types.proofs.members.lay_out.Goals as goal

pub returns-in-Err-Incomplete : goal.returns-in-Err-Incomplete
returns-in-Err-Incomplete c =
    let s = c.loop-member in
    fails_at c.args.form c.args.members.now (record { offsets = s.offsets.items; end = s.end; align = s.align }) s.member-index s.invariant.ahead
    c.member-item.result Incomplete (omega arith) c.member-item.is
    (sym c.place_member.ensures.placement ∙ ap (λ (r : Result Placement TypeFault). placement_in r) (c.in-Err-Incomplete.is ∙ ap Err c.in-Err-Incomplete.field-0-is))

pub returns-in-Err-TooLarge : goal.returns-in-Err-TooLarge
returns-in-Err-TooLarge c =
    let s = c.loop-member in
    fails_at c.args.form c.args.members.now (record { offsets = s.offsets.items; end = s.end; align = s.align }) s.member-index s.invariant.ahead
    c.member-item.result TooLarge (omega arith) c.member-item.is
    (sym c.place_member.ensures.placement ∙ ap (λ (r : Result Placement TypeFault). placement_in r) (c.in-Err-TooLarge.is ∙ ap Err c.in-Err-TooLarge.field-0-is))

pub loop-member-preserved : goal.loop-member-preserved
loop-member-preserved c =
    let s = c.loop-member in
    let n = c.in-Ok.next in
    let pushed : c.push.new.self.items ≡ s.offsets.items ++ n.offset ∷ [] = grind (arith, common_steps, c.push.ensures.items) in
    record {
      ahead = rw pushed (laid_further c.args.form c.args.members.now (record { offsets = s.offsets.items; end = s.end; align = s.align }) s.member-index s.invariant.ahead
          c.member-item.result (record { offset = n.offset; end = n.end; align = n.align }) (omega arith) c.member-item.is
          (sym c.place_member.ensures.placement ∙ ap (λ (r : Result Placement TypeFault). placement_in r) c.in-Ok.is));
      within = c.in-Ok.ensures.within.1;
      some = λ _. c.in-Ok.ensures.within.0;
      aligned = c.in-Ok.ensures.aligned;
    }

pub returns : goal.returns
returns c =
    let s = c.loop-member in
    rw c.next_multiple_of.ensures.value (laid_out c.args.form c.args.members.now (record { offsets = s.offsets.items; end = s.end; align = s.align }) s.member-index s.invariant.ahead (omega arith))
