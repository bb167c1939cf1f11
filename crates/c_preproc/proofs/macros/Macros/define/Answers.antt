-- A definition is one entry more, which the index leads to unless it had no memory for it.
use Rattle.std.proofs.Common.{◌≡◌, ◌∙◌, ◌∷◌, [], ℕ, length, get_or, Some, None, ap, arith, sym, subst, length-append}
use Rattle.c_preproc.specs.declared.macros.Entry.{Entry}
use Rattle.c_preproc.specs.Code.Expander.{setting_of}
use Rattle.c_preproc.specs.Macros.{Macro, macro_of}
use Rattle.c_preproc.specs.Code.Table.{IsIndexed, body_at, defined_of, place_of}
use Rattle.c_preproc.specs.Code.NameFilter.{AreIn, may_have}
use Rattle.c_preproc.proofs.MacroTable.{changed_by, made_indexed, made_macro, on_err, same_places, unmade_indexed, unmade_macro}
use Rattle.c_preproc.proofs.Staying.{Carries, body_more, carries_changed, carries_same, carries_unmade, filtered_on, filtered_push, not_old, store_after}
use Rattle.c_preproc.proofs.macros.Macros.define.Goals as goal

-- no memory, and the table as it was
pub invariant_of-self : goal.invariant_of-self
invariant_of-self c =
    let m = c.self.inside in
    record {
      indexed = c.self.invariant.indexed;
      digits = c.self.invariant.digits;
      small = c.self.invariant.small;
      store = store_after c.may_have.result (setting_of m.bytes.items m.table) (setting_of m.bytes.items m.table) m.expander c.grow.new.self
          (λ met. c.grow.ensures.kept ∙ c.forget_where.ensures.all met) (λ free. (c.grow.ensures.kept ∙ (c.forget_where.ensures.none free).0, c.grow.ensures.tokens ∙ (c.forget_where.ensures.none free).1))
          (omega (arith, c.self.invariant.store.seats, ap length c.forget_where.ensures.seats, c.grow.ensures.more_seats))
          (omega (arith, c.self.invariant.store.spots, ap length c.forget_where.ensures.spots, c.grow.ensures.more_spots)) (omega arith)
          (λ i. c.grow.ensures.same_spots i ∙ ap (λ spots. get_or spots i 0) c.forget_where.ensures.spots)
          (λ free. carries_same (setting_of m.bytes.items m.table)) c.self.invariant.store;
      filtered = filtered_on m.names.slots.items c.add_all.new.self.slots.items m.bytes.items m.table.entries.items c.add_all.ensures.more c.self.invariant.filtered;
    }

pub invariant_of-self-in_err-push : goal.invariant_of-self-in_err-push
invariant_of-self-in_err-push c =
    let m = c.self.inside in
    let same = c.in_err-push.ensures.items in
    let size = ap length same in
    let s = setting_of m.bytes.items m.table in
    record {
      indexed = subst (IsIndexed (place_of m.table.index)) (sym same) c.self.invariant.indexed;
      digits = c.self.invariant.digits;
      small = c.self.invariant.small;
      store = store_after c.may_have.result (setting_of m.bytes.items m.table) (setting_of m.bytes.items (record { entries = c.push.new.self; index = m.table.index })) m.expander c.grow.new.self
          (λ met. c.grow.ensures.kept ∙ c.forget_where.ensures.all met) (λ free. (c.grow.ensures.kept ∙ (c.forget_where.ensures.none free).0, c.grow.ensures.tokens ∙ (c.forget_where.ensures.none free).1))
          (omega (arith, c.self.invariant.store.seats, ap length c.forget_where.ensures.seats, c.grow.ensures.more_seats, size))
          (omega (arith, c.self.invariant.store.spots, ap length c.forget_where.ensures.spots, c.grow.ensures.more_spots, size)) (omega (arith, size))
          (λ i. c.grow.ensures.same_spots i ∙ ap (λ spots. get_or spots i 0) c.forget_where.ensures.spots)
          (λ free. subst (λ entries. Carries s (record s { entries = entries })) (sym same) (carries_same s)) c.self.invariant.store;
      filtered = subst (λ entries. (place : ℕ) → AreIn c.add_all.new.self.slots.items m.bytes.items (body_at entries place)) (sym same)
          (filtered_on m.names.slots.items c.add_all.new.self.slots.items m.bytes.items m.table.entries.items c.add_all.ensures.more c.self.invariant.filtered);
    }

pub invariant_of-self-in_err-insert : goal.invariant_of-self-in_err-insert
invariant_of-self-in_err-insert c =
    let m = c.self.inside in
    let e : Entry = record { name = c.in_ok-from_slice.field-0; body = c.in_ok-from_slice-2.field-0 } in
    let pushed = c.in_ok-push.ensures.items in
    let size = ap length pushed ∙ length-append m.table.entries.items (e ∷ []) in
    let filter = c.add_all.new.self.slots.items in
    let added : AreIn filter m.bytes.items e.body.items =
    subst (λ ts. AreIn filter m.bytes.items ts) (sym c.in_ok-from_slice-2.ensures.items) (subst (λ bs. AreIn filter bs c.args.body.now) c.deref.ensures.value c.add_all.ensures.added) in
    let filtered : (place : ℕ) → AreIn filter m.bytes.items (body_at c.push.new.self.items place) =
    subst (λ es. (place : ℕ) → AreIn filter m.bytes.items (body_at es place)) (sym pushed) (filtered_push m.names.slots.items filter m.bytes.items m.table.entries.items e c.add_all.ensures.more added c.self.invariant.filtered) in
    record {
      indexed = unmade_indexed (place_of m.table.index) m.table.entries.items c.push.new.self.items c.self.invariant.indexed e pushed (place_of c.insert.new.self) (same_places m.table.index c.insert.new.self c.in_err-insert.ensures.err);
      digits = c.self.invariant.digits;
      small = c.self.invariant.small;
      store = store_after c.may_have.result (setting_of m.bytes.items m.table) (setting_of m.bytes.items (record { entries = c.push.new.self; index = c.insert.new.self })) m.expander c.grow.new.self
          (λ met. c.grow.ensures.kept ∙ c.forget_where.ensures.all met) (λ free. (c.grow.ensures.kept ∙ (c.forget_where.ensures.none free).0, c.grow.ensures.tokens ∙ (c.forget_where.ensures.none free).1))
          (omega (arith, c.self.invariant.store.seats, ap length c.forget_where.ensures.seats, c.in_ok-grow.ensures.seats, size))
          (omega (arith, c.self.invariant.store.spots, ap length c.forget_where.ensures.spots, c.in_ok-grow.ensures.spots, size)) (omega (arith, size))
          (λ i. c.grow.ensures.same_spots i ∙ ap (λ spots. get_or spots i 0) c.forget_where.ensures.spots)
          (λ free. carries_unmade m.bytes.items (place_of m.table.index) (place_of c.insert.new.self) m.table.entries.items c.push.new.self.items
          (body_more (place_of m.table.index) m.table.entries.items c.push.new.self.items c.self.invariant.indexed e pushed) (same_places m.table.index c.insert.new.self c.in_err-insert.ensures.err)) c.self.invariant.store;
      filtered = filtered;
    }

pub returns-in_err-insert-clause-err : goal.returns-in_err-insert-clause-err
returns-in_err-insert-clause-err c =
    let m = c.self.inside in
    let e : Entry = record { name = c.in_ok-from_slice.field-0; body = c.in_ok-from_slice-2.field-0 } in
    on_err c.from_residual-in_err-insert.result _
    (unmade_macro (place_of m.table.index) m.table.entries.items c.push.new.self.items c.self.invariant.indexed e c.in_ok-push.ensures.items (place_of c.insert.new.self) (same_places m.table.index c.insert.new.self c.in_err-insert.ensures.err)
    ∙ ap (λ d. d.macros) c.self.view_is)

pub invariant_of-self-2 : goal.invariant_of-self-2
invariant_of-self-2 c =
    let m = c.self.inside in
    let e : Entry = record { name = c.in_ok-from_slice.field-0; body = c.in_ok-from_slice-2.field-0 } in
    let pushed = c.in_ok-push.ensures.items in
    let size = ap length pushed ∙ length-append m.table.entries.items (e ∷ []) in
    let filter = c.add_all.new.self.slots.items in
    let added : AreIn filter m.bytes.items e.body.items =
    subst (λ ts. AreIn filter m.bytes.items ts) (sym c.in_ok-from_slice-2.ensures.items) (subst (λ bs. AreIn filter bs c.args.body.now) c.deref.ensures.value c.add_all.ensures.added) in
    let filtered : (place : ℕ) → AreIn filter m.bytes.items (body_at c.push.new.self.items place) =
    subst (λ es. (place : ℕ) → AreIn filter m.bytes.items (body_at es place)) (sym pushed) (filtered_push m.names.slots.items filter m.bytes.items m.table.entries.items e c.add_all.ensures.more added c.self.invariant.filtered) in
    let changes = changed_by m.table.index c.insert.new.self c.in_ok-key.key.items (Some c.len-place.result) c.in_ok-insert.ensures.updates in
    let last : c.len-place.result ≡ length m.table.entries.items = c.len-place.ensures ∙ m.table.entries.ok.0 in
    record {
      indexed = made_indexed (place_of m.table.index) m.table.entries.items c.push.new.self.items c.self.invariant.indexed e pushed (place_of c.insert.new.self) c.in_ok-key.key.items (c.in_ok-key.ensures.items ∙ sym c.in_ok-from_slice.ensures.items) c.len-place.result last changes;
      digits = c.self.invariant.digits;
      small = c.self.invariant.small;
      store = store_after c.may_have.result (setting_of m.bytes.items m.table) (setting_of m.bytes.items (record { entries = c.push.new.self; index = c.insert.new.self })) m.expander c.grow.new.self
          (λ met. c.grow.ensures.kept ∙ c.forget_where.ensures.all met) (λ free. (c.grow.ensures.kept ∙ (c.forget_where.ensures.none free).0, c.grow.ensures.tokens ∙ (c.forget_where.ensures.none free).1))
          (omega (arith, c.self.invariant.store.seats, ap length c.forget_where.ensures.seats, c.in_ok-grow.ensures.seats, size))
          (omega (arith, c.self.invariant.store.spots, ap length c.forget_where.ensures.spots, c.in_ok-grow.ensures.spots, size)) (omega (arith, size))
          (λ i. c.grow.ensures.same_spots i ∙ ap (λ spots. get_or spots i 0) c.forget_where.ensures.spots)
          (λ free. carries_changed m.bytes.items (place_of m.table.index) (place_of c.insert.new.self) m.table.entries.items c.push.new.self.items
          (body_more (place_of m.table.index) m.table.entries.items c.push.new.self.items c.self.invariant.indexed e pushed) c.in_ok-key.key.items
          m.names.slots.items (ap (may_have m.names.slots.items) c.in_ok-key.ensures.items ∙ sym c.may_have.ensures ∙ free) c.self.invariant.filtered changes.others
          (λ place below leads. not_old _ c.len-place.result place (length m.table.entries.items) changes.here last below leads)) c.self.invariant.store;
      filtered = filtered;
    }

pub returns-clause-ok : goal.returns-clause-ok
returns-clause-ok c =
    let m = c.self.inside in
    let e : Entry = record { name = c.in_ok-from_slice.field-0; body = c.in_ok-from_slice-2.field-0 } in
    let changes = changed_by m.table.index c.insert.new.self c.in_ok-key.key.items (Some c.len-place.result) c.in_ok-insert.ensures.updates in
    let macros = ap (λ d. d.macros) c.self.view_is in
    let absent : macro_of (defined_of (place_of m.table.index) m.table.entries.items) e.name.items ≡ None = ap (λ ms. macro_of ms e.name.items) macros ∙ ap (macro_of c.args.self.now.macros) c.in_ok-from_slice.ensures.items ∙ c.requires in
    made_macro (place_of m.table.index) m.table.entries.items c.push.new.self.items c.self.invariant.indexed e c.in_ok-push.ensures.items (place_of c.insert.new.self) c.in_ok-key.key.items (c.in_ok-key.ensures.items ∙ sym c.in_ok-from_slice.ensures.items) c.len-place.result (c.len-place.ensures ∙ m.table.entries.ok.0) changes absent
    ∙ ap (λ older. let m : Macro = record { name = e.name.items; body = e.body.items } in m ∷ older) macros
    ∙ ap (λ text. let m : Macro = record { name = text; body = e.body.items } in m ∷ c.args.self.now.macros) c.in_ok-from_slice.ensures.items
    ∙ ap (λ tokens. let m : Macro = record { name = c.args.name.now; body = tokens } in m ∷ c.args.self.now.macros) c.in_ok-from_slice-2.ensures.items
