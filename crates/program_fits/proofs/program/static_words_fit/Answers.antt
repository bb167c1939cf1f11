-- The room falls as the words are counted.
use Rattle.std.proofs.Common.{◌≡◌, ◌-◌, length, arith}
use Rattle.program_fits.proofs.Loops.{no_true}
use Rattle.program_fits.proofs.Programs.{words_more, words_none, words_end}
use Rattle.program_fits.proofs.program.static_words_fit.Goals as goal

pub returns-then-words-room : goal.returns-then-words-room
returns-then-words-room c =
    let e : c.len-words.result ≡ length c.object-item.result.words.items = omega (arith, c.object-item.result.words.ok.0) in
    no_true
    (words_none c.args.statics.now c.loop-object.room c.len-words.result c.loop-object.object-index c.object-item.result c.loop-object-test.true c.object-item.is
    e c.if-words-room.true c.loop-object.invariant)

pub loop-object-preserved : goal.loop-object-preserved
loop-object-preserved c =
    let e : c.len-words.result ≡ length c.object-item.result.words.items = omega (arith, c.object-item.result.words.ok.0) in
    words_more c.args.statics.now c.loop-object.room (c.loop-object.room - c.len-words.result) c.len-words.result c.loop-object.object-index
    c.object-item.result c.loop-object-test.true c.object-item.is e c.if-words-room.false (omega (arith, c.if-words-room.false))
    c.loop-object.invariant

pub returns : goal.returns
returns c = words_end c.args.statics.now c.loop-object.room c.loop-object.object-index c.loop-object-test.false c.loop-object.invariant
