-- One object more goes under.
use Rattle.std.proofs.Common.{sym, ap, ◌∙◌, slice_set}
use Rattle.std.proofs.lemmas.List.Edits.{map_over_more}
use Rattle.ideal_machine.specs.Memory.{Object}
use Rattle.ideal_machine.specs.Names.{object_under}
use Rattle.ideal_step.proofs.make.cover.Goals as goal

pub loop-object-preserved : goal.loop-object-preserved
loop-object-preserved c =
    ap (λ (o : Object). slice_set c.loop-object.objects c.loop-object.object-index o) (c.go_under.ensures ∙ ap (object_under c.args.new.now) (sym c.object-item.is))
    ∙ map_over_more (object_under c.args.new.now) c.args.objects.now c.loop-object.objects c.loop-object.object-index c.object-item.result c.loop-object-test.true c.loop-object.invariant c.object-item.is
