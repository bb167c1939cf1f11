-- The arrays that were taken off make the type of the qualified element.
use Rattle.std.proofs.Common.{List, Option, refl, sym, ◌∙◌, subst}
use Rattle.c_types.specs.declared.rule.TypeRule.{TypeRule}
use Rattle.c_types.specs.Derivations.{IsCause}
use Rattle.c_types.proofs.Whole.{part_is_type}
use Rattle.c_type_rules.proofs.Peeling.{IsPeeling, peeling_starts, falls, peeling_step, base_part, lists_fit, none_broken, qualified}
use Rattle.c_types.specs.declared.ctype.ElementCount.{ElementCount}
use Rattle.c_types.specs.declared.derivation.Derivation.{Derivation}
use Rattle.c_type_rules.proofs.Unrolling.{IsUnrolled, unrolled_starts, unrolled_step, unrolled_table, unrolled_part}
use Rattle.c_type_rules.proofs.qualification.qualify.Goals as goal

pub loop-array-init : goal.loop-array-init
loop-array-init c =
    record {
      peeled = subst (IsPeeling c.args.types.now c.args.part c.args.part) (sym c.new-arrays.ensures.items) (peeling_starts c.args.types.now c.args.part c.requires);
      unrolled = subst (λ (ds : List Derivation). IsUnrolled c.args.types.now c.args.part c.args.part ds c.args.set.0) (sym c.new-arrays.ensures.items) (unrolled_starts c.args.types.now c.args.part c.args.set.0 c.requires);
    }

pub array_at-requires : goal.array_at-requires
array_at-requires c = part_is_type c.args.types.now c.loop-array.element c.loop-array.invariant.peeled.there

pub loop-array-preserved : goal.loop-array-preserved
loop-array-preserved c =
    let t = c.args.types.now in
    let count : ElementCount = record { value = c.in-Some.array.count; some = c.push-arg-1.given.0 } in
    record {
      peeled = subst (IsPeeling t c.args.part c.in-Some.array.element) (sym c.in_ok-push.ensures.items)
          (peeling_step t c.args.part c.loop-array.element c.loop-array.arrays.items c.in-Some.array count c.loop-array.invariant.peeled c.in-Some.ensures.there c.in-Some.ensures.fits refl);
      unrolled = subst (λ (ds : List Derivation). IsUnrolled t c.args.part c.in-Some.array.element ds c.args.set.0) (sym c.in_ok-push.ensures.items)
          (unrolled_step t c.args.part c.loop-array.element c.loop-array.arrays.items c.in-Some.array count c.args.set.0 c.in-Some.ensures.there c.in-Some.ensures.fits refl
          (falls t c.loop-array.element.number c.in-Some.array c.len.ensures.whole c.in-Some.ensures.there) c.loop-array.invariant.unrolled);
    }

pub loop-array-smaller : goal.loop-array-smaller
loop-array-smaller c = falls c.args.types.now c.loop-array.element.number c.in-Some.array c.len.ensures.whole c.in-Some.ensures.there

pub derive_all-requires-clause-part : goal.derive_all-requires-clause-part
derive_all-requires-clause-part c =
    base_part c.args.types.now c.args.part c.loop-array.element c.element_with-base.result c.loop-array.arrays.items c.as_slice.result.now c.args.set c.loop-array.invariant.peeled
    (c.as_slice.ensures.value ∙ c.outermost_first-outwards.ensures) c.element_with-base.ensures

pub derive_all-requires-clause-lists : goal.derive_all-requires-clause-lists
derive_all-requires-clause-lists c =
    lists_fit c.args.types.now c.args.part c.loop-array.element c.element_with-base.result c.loop-array.arrays.items c.as_slice.result.now c.args.set c.loop-array.invariant.peeled
    (c.as_slice.ensures.value ∙ c.outermost_first-outwards.ensures) c.element_with-base.ensures

pub want_of_memory-requires : goal.want_of_memory-requires
want_of_memory-requires c =
    subst (λ (o : Option TypeRule). IsCause o c.in-Err.fault)
    (none_broken c.args.types.now c.args.part c.loop-array.element c.element_with-base.result c.loop-array.arrays.items c.as_slice.result.now c.args.set c.loop-array.invariant.peeled
    (c.as_slice.ensures.value ∙ c.outermost_first-outwards.ensures) c.element_with-base.ensures)
    c.in-Err.ensures.fault

pub returns-in-Ok-clause-qualified : goal.returns-in-Ok-clause-qualified
returns-in-Ok-clause-qualified c =
    qualified c.args.types.now c.args.part c.loop-array.element c.element_with-base.result c.loop-array.arrays.items c.as_slice.result.now c.args.set c.loop-array.invariant.peeled
    (c.as_slice.ensures.value ∙ c.outermost_first-outwards.ensures) c.element_with-base.ensures c.derive_all.new.self c.in-Ok.made c.in_default.ensures.none c.derive_all.ensures.kept c.in-Ok.ensures.made

pub returns-in-Ok-clause-gives : goal.returns-in-Ok-clause-gives
returns-in-Ok-clause-gives c =
    unrolled_part c.args.types.now c.args.part c.loop-array.element c.element_with-base.result c.loop-array.arrays.items c.as_slice.result.now c.args.set c.loop-array.invariant.unrolled
    (c.as_slice.ensures.value ∙ c.outermost_first-outwards.ensures) c.element_with-base.ensures c.in_default.ensures.none c.in-Ok.made c.in-Ok.ensures.gives

pub returns-in-Ok-clause-grown : goal.returns-in-Ok-clause-grown
returns-in-Ok-clause-grown c =
    unrolled_table c.args.types.now c.args.part c.loop-array.element c.element_with-base.result c.loop-array.arrays.items c.as_slice.result.now c.args.set c.loop-array.invariant.unrolled
    (c.as_slice.ensures.value ∙ c.outermost_first-outwards.ensures) c.element_with-base.ensures c.in_default.ensures.none c.derive_all.new.self c.in-Ok.ensures.grown
