-- One word more, and at the end all of them.
use Rattle.std.proofs.Common.{◌<◌, ℕ, length, arith, ◌∙◌}
use Rattle.filc_num.specs.declared.statics.StaticHalf.{StaticHalf}
use Rattle.ideal_machine.specs.Memory.{Word}
use Rattle.ideal_machine.specs.Beginning.{first_word}
use Rattle.ideal_step.specs.Statics.{first_world, plain_statics}
use Rattle.ideal_step.proofs.Firsts.{zipped_more, zipped_all}
use Rattle.ideal_step.proofs.beginning.first_words.Goals as goal

pub loop-index-preserved : goal.loop-index-preserved
loop-index-preserved c =
    let f : ℕ × StaticHalf → Word = λ w. first_word first_world (plain_statics c.args.statics.now) w.0 w.1 in
    let here : c.loop-index.index < length c.args.object.now.words.items = omega (arith, c.loop-index-test.true, c.len-index-end.ensures) in
    let half_too : c.loop-index.index < length c.args.object.now.halves.items = omega (arith, here, c.args.object.now.a_word_each, c.args.object.now.a_half_each) in
    zipped_more f c.args.object.now.words.items c.args.object.now.halves.items c.loop-index.words.items c.push.new.self.items c.first_word.result c.loop-index.index c.index-number.result.now c.index.result.now here half_too c.index-number.ensures c.index.ensures c.in_ok-push.ensures.items c.loop-index.invariant c.first_word.ensures

pub returns : goal.returns
returns c =
    let f : ℕ × StaticHalf → Word = λ w. first_word first_world (plain_statics c.args.statics.now) w.0 w.1 in
    c.loop-index.invariant ∙ zipped_all f c.args.object.now.words.items c.args.object.now.halves.items c.loop-index.index (omega (arith, c.loop-index-test.false, c.len-index-end.ensures))
