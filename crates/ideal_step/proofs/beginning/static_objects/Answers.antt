-- One object more, and at the end all of them.
use Rattle.std.proofs.Common.{◌≡◌, ◌<◌, ℕ, length, get_or, arith, sym, ap, ◌∙◌}
use Rattle.std.proofs.lemmas.List.{get_or-map, length-map}
use Rattle.filc_num.specs.StaticDefs.{PlainStatic, plain_static}
use Rattle.ideal_machine.specs.Memory.{Object}
use Rattle.ideal_machine.specs.Beginning.{static_object}
use Rattle.ideal_step.specs.Statics.{first_world, plain_statics}
use Rattle.ideal_step.proofs.Firsts.{numbered_more, numbered_all}
use Rattle.ideal_step.proofs.beginning.static_objects.Goals as goal

pub loop-number-preserved : goal.loop-number-preserved
loop-number-preserved c =
    let ps = plain_statics c.args.statics.now in
    let s = c.index-statics-number.result in
    let f : ℕ × PlainStatic → Object = λ p. static_object first_world (plain_statics c.args.statics.now) p.0 p.1 in
    let here : c.loop-number.number < length (plain_statics c.args.statics.now) = omega (arith, c.loop-number-test.true, length-map c.args.statics.now plain_static) in
    let is : get_or (plain_statics c.args.statics.now) c.loop-number.number (plain_static s) ≡ plain_static s =
    get_or-map plain_static c.args.statics.now c.loop-number.number s (plain_static s) c.loop-number-test.true ∙ ap plain_static (sym c.index-statics-number.is) in
    numbered_more f ps c.loop-number.objects.items c.push.new.self.items c.in_ok-static_object.field-0 c.loop-number.number (plain_static s) here is c.in_ok-push.ensures.items c.loop-number.invariant c.in_ok-static_object.ensures

pub returns : goal.returns
returns c =
    let f : ℕ × PlainStatic → Object = λ s. static_object first_world (plain_statics c.args.statics.now) s.0 s.1 in
    c.loop-number.invariant ∙ numbered_all f (plain_statics c.args.statics.now) c.loop-number.number (omega (arith, c.loop-number-test.false, length-map c.args.statics.now plain_static))
