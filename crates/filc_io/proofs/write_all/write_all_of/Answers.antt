-- What a write took goes on where the writes before it ended.
use Rattle.std.proofs.Common.{◌-◌, arith, length, take, drop, ap, ◌∙◌, length-drop}
use Rattle.filc_io.specs.Outside.{append}
use Rattle.filc_io.proofs.OutsideLemmas.{append-offered}
use Rattle.filc_io.proofs.write_all.write_all_of.Goals as goal

pub loop-count-preserved : goal.loop-count-preserved
loop-count-preserved g c =
    let bytes = c.args.bytes.now in
    let count = c.loop-count.count in
    let taken = c.in-Ok.taken in
    record {
      part = omega (arith, c.in-Ok.ensures.at_most, length-drop count bytes);
      taken = c.in-Ok.ensures.front
          ∙ ap (λ before. append before (take taken (take (length bytes - count) (drop count bytes)))) c.loop-count.invariant.taken
          ∙ append-offered (g.S.Sink.state c.args.sink.now).taken bytes count taken;
      never_falls = omega (arith, c.loop-count.invariant.never_falls, c.write.ensures.never_falls);
    }
