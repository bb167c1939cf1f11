-- The parameter at the index is adjusted after those before it.
use Rattle.std.proofs.Common.{◌≤◌, length, refl, arith}
use Rattle.c_types.proofs.Deriving.{Keeps-trans}
use Rattle.c_types.proofs.Whole.{Keeps-stays}
use Rattle.c_declarations.proofs.Adjusting.{type_there, has_type, adjusting_starts, adjusting_step, adjusting_ends}
use Rattle.c_declarations.proofs.parameters.adjusted_numbers.Goals as goal

pub loop-parameter-init : goal.loop-parameter-init
loop-parameter-init c = adjusting_starts c.args.types.now c.args.parameters.now c.new-numbers.result.items c.new-numbers.ensures.items

pub type_there-part-requires : goal.type_there-part-requires
type_there-part-requires c = has_type c.args.types.now c.args.parameters.now c.loop-parameter.parameter-index _ _ c.loop-parameter-test.true refl c.requires.fine

pub adjust-requires : goal.adjust-requires
adjust-requires c =
    (Keeps-stays c.args.types.now c.loop-parameter.types c.loop-parameter.invariant.kept).parts c.type_there-part.result
    (type_there c.args.types.now c.args.parameters.now c.loop-parameter.parameter-index _ _ c.loop-parameter-test.true refl c.type_there-part.result c.requires.fit c.type_there-part.ensures)

pub loop-parameter-preserved : goal.loop-parameter-preserved
loop-parameter-preserved c =
    adjusting_step c.args.types.now c.args.parameters.now c.loop-parameter.parameter-index _ _ c.loop-parameter-test.true refl c.loop-parameter.types c.adjust.new.self c.loop-parameter.numbers.items c.push.new.self.items c.type_there-part.result c.in_ok-made.made c.loop-parameter.invariant
    c.type_there-part.ensures
    (type_there c.args.types.now c.args.parameters.now c.loop-parameter.parameter-index _ _ c.loop-parameter-test.true refl c.type_there-part.result c.requires.fit c.type_there-part.ensures)
    c.adjust.ensures.kept c.in_ok-made.ensures.adjusted c.in_ok-made.ensures.part c.in_ok-push.ensures.items

pub returns-clause-adjusted : goal.returns-clause-adjusted
returns-clause-adjusted c =
    let past : length c.args.parameters.now ≤ c.loop-parameter.parameter-index = omega (arith, c.loop-parameter-test.false) in
    adjusting_ends c.args.types.now c.loop-parameter.types c.args.parameters.now c.loop-parameter.parameter-index c.loop-parameter.numbers.items past c.loop-parameter.invariant

pub returns-in_err-made-clause-kept : goal.returns-in_err-made-clause-kept
returns-in_err-made-clause-kept c = Keeps-trans c.args.types.now c.loop-parameter.types c.adjust.new.self c.loop-parameter.invariant.kept c.adjust.ensures.kept

pub returns-in_err-push-clause-kept : goal.returns-in_err-push-clause-kept
returns-in_err-push-clause-kept c = Keeps-trans c.args.types.now c.loop-parameter.types c.adjust.new.self c.loop-parameter.invariant.kept c.adjust.ensures.kept
