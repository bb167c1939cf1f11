-- Each address is the one before it and what that object takes up.
use Rattle.std.proofs.Common.{◌≡◌, ◌+◌, ◌*◌, ◌<◌, ◌≤◌, ◌++◌, [], ◌∷◌, List, ℕ, length, slice_index_or, arith, sym, ap, ◌∙◌, length-append}
use Rattle.std.proofs.lemmas.List.{length-map}
use Rattle.filc_num.specs.declared.statics.StaticDef.{StaticDef}
use Rattle.filc_num.specs.StaticDefs.{plain_static}
use Rattle.ideal_machine.specs.Beginning.{words_of_static, static_address}
use Rattle.ideal_step.specs.Statics.{first_world, plain_statics, HaveAddresses}
use Rattle.ideal_step.proofs.Addresses.{address_after, address_below, values_up_to}
use Rattle.ideal_step.proofs.beginning.static_addresses.Invariants.{AddressesUpTo}
use Rattle.ideal_step.proofs.beginning.static_addresses.Goals as goal

module _ (ss : List StaticDef) (list : List ℕ) (address i taken : ℕ) (s : StaticDef) (fits : HaveAddresses (plain_statics ss)) (so_far : AddressesUpTo (plain_statics ss) list address i) (here : i < length ss) (is : s ≡ slice_index_or ss i s) (takes : taken ≡ words_of_static (plain_static s)) where
  next_is : address + 8 * taken ≡ static_address first_world (plain_statics ss) (i + 1)
  next_is =
      let more = address_after ss i s here is in
      ap (λ (n : ℕ). address + 8 * n) takes ∙ ap (λ (n : ℕ). n + 8 * words_of_static (plain_static s)) so_far.next ∙ sym more

  pub next_fits : address + 8 * taken < 18446744073709551616
  next_fits =
      let below : static_address first_world (plain_statics ss) (i + 1) ≤ static_address first_world (plain_statics ss) (length (plain_statics ss)) =
      address_below (plain_statics ss) (i + 1) (omega (arith, length-map ss plain_static, here)) in
      rw next_is (let h : static_address first_world (plain_statics ss) (i + 1) < 18446744073709551616 = omega (arith, below, fits) in h)

  pub one_more : AddressesUpTo (plain_statics ss) (list ++ (address + 8 * taken) ∷ []) (address + 8 * taken) (i + 1)
  one_more = record {
    within = omega (arith, length-map ss plain_static, here);
    count = omega (arith, length-append list ((address + 8 * taken) ∷ []), so_far.count);
    next = next_is;
    each = values_up_to (λ (n : ℕ). static_address first_world (plain_statics ss) n) list (address + 8 * taken) i so_far.count next_is so_far.each;
  }

pub overflow_mul-address : goal.overflow_mul-address
overflow_mul-address c =
    let h : c.loop-object.address + 8 * c.words_of_static.result < 18446744073709551616 =
    next_fits c.args.statics.now c.loop-object.addresses.items c.loop-object.address c.loop-object.object-index c.words_of_static.result c.object-item.result c.requires c.loop-object.invariant c.loop-object-test.true c.object-item.is c.words_of_static.ensures in
    record { fits = omega (arith, h) }

pub overflow_add-address : goal.overflow_add-address
overflow_add-address c =
    record { fits = next_fits c.args.statics.now c.loop-object.addresses.items c.loop-object.address c.loop-object.object-index c.words_of_static.result c.object-item.result c.requires c.loop-object.invariant c.loop-object-test.true c.object-item.is c.words_of_static.ensures }

pub loop-object-preserved : goal.loop-object-preserved
loop-object-preserved c =
    rw c.in_ok-push-2.ensures.items
    (one_more c.args.statics.now c.loop-object.addresses.items c.loop-object.address c.loop-object.object-index c.words_of_static.result c.object-item.result c.requires c.loop-object.invariant c.loop-object-test.true c.object-item.is c.words_of_static.ensures)
