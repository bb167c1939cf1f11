use Rattle.std.proofs.Common.{None, length, get_or, refl, sym, ◌∙◌, ap, arith}
use Rattle.c_preproc.specs.Code.Expander.{setting_of}
use Rattle.c_preproc.specs.Macros.{without}
use Rattle.c_preproc.specs.Code.Table.{place_of}
use Rattle.c_preproc.specs.Texts.{text_of}
use Rattle.c_preproc.proofs.MacroTable.{changed_by, defined_less, indexed_less}
use Rattle.c_preproc.proofs.Staying.{carries_changed, not_there, store_after}
use Rattle.c_preproc.proofs.macros.Macros.undefine.Goals as goal

pub invariant_of-self : goal.invariant_of-self
invariant_of-self c =
    let m = c.self.inside in
    let changes = changed_by m.table.index c.remove.new.self c.text_of-name.result.now None c.remove.ensures.updates in
    record {
      indexed = indexed_less (place_of m.table.index) m.table.entries.items c.self.invariant.indexed (place_of c.remove.new.self) c.text_of-name.result.now changes;
      digits = c.self.invariant.digits;
      small = c.self.invariant.small;
      filtered = c.self.invariant.filtered;
      store = store_after c.may_have.result (setting_of m.bytes.items m.table) (setting_of m.bytes.items (record { entries = m.table.entries; index = c.remove.new.self })) m.expander c.forget_where.new.self
          c.forget_where.ensures.all c.forget_where.ensures.none (omega (arith, c.self.invariant.store.seats, ap length c.forget_where.ensures.seats)) (omega (arith, c.self.invariant.store.spots, ap length c.forget_where.ensures.spots))
          (omega arith) (λ i. ap (λ spots. get_or spots i 0) c.forget_where.ensures.spots)
          (λ free. carries_changed m.bytes.items (place_of m.table.index) (place_of c.remove.new.self) m.table.entries.items m.table.entries.items (λ other place leads. refl) c.text_of-name.result.now
          m.names.slots.items (sym c.may_have.ensures ∙ free) c.self.invariant.filtered changes.others (λ place below leads. not_there _ place changes.here leads)) c.self.invariant.store;
    }

pub returns-clause-macros : goal.returns-clause-macros
returns-clause-macros c =
    let m = c.self.inside in
    let changes = changed_by m.table.index c.remove.new.self c.text_of-name.result.now None c.remove.ensures.updates in
    defined_less (place_of m.table.index) m.table.entries.items c.self.invariant.indexed (place_of c.remove.new.self) c.text_of-name.result.now changes
    ∙ ap (λ macros. without macros c.text_of-name.result.now) (ap (λ d. d.macros) c.self.view_is)
    ∙ ap (without c.args.self.now.macros) (c.text_of-name.ensures ∙ ap (λ bytes. text_of bytes c.args.name) (c.deref.ensures.value ∙ ap (λ d. d.bytes) c.self.view_is))
