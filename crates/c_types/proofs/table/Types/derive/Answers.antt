-- The entry that is numbered is the type that the derivation makes.
use Rattle.std.proofs.Common.{◌≡◌, Some, Ok, refl, sym, ap, ◌∙◌}
use Rattle.c_types.specs.Derivations.{Shape, shape_of, known_room_in}
use Rattle.c_types.specs.declared.ctype.Extent.{Extent}
use Rattle.c_types.proofs.Deriving.{Keeps-table, Makes-part, made_pointer, made_array, made_function, shape_known}
use Rattle.c_types.specs.Extensions.{with_entry, part_with, derived_once}
use Rattle.c_types.specs.declared.entry.Entry.TheVariants.{OfType}
use Rattle.c_types.proofs.Extending.{once_pointer, once_array, once_function, table_once, part_once}
use Rattle.c_types.proofs.Whole.{part_is_type}
use Rattle.c_types.proofs.table.Types.derive.Goals as goal
use Rattle.c_types.proofs.table.Types.derive.Goals.{in-Pointer, in-Array+in-Ok, in-Function, In-Ok-number_of}

pub returns-in-Ok-number_of-clause-kept : goal.returns-in-Ok-number_of-clause-kept
returns-in-Ok-number_of-clause-kept c = Keeps-table c.args.self.now c.number_of.new.self _ c.number_of.ensures.table

pub returns-in-Ok-number_of-clause-made : goal.returns-in-Ok-number_of-clause-made
returns-in-Ok-number_of-clause-made c =
    let t = c.number_of.new.self in
    let n = c.in-Ok-number_of.number in
    let at = c.in-Ok-number_of.ensures.number in
    elim c.match-derivation.branch [
      | in-Pointer w ↦ made_pointer t c.args.of n c.match-derivation.made c.args.derivation at w.in-Pointer.qualifiers w.in-Pointer.is w.made-is
      | in-Array+in-Ok w ↦
          let extent = ap (λ (e : Extent). known_room_in (Some (Ok e))) (sym w.array_of-array.ensures.extent) in
          let shape = shape_known c.args.self.now c.args.of.number c.type_at-ty.result (shape_of c.type_at-ty.result) c.type_at-ty.ensures.value refl in
          made_array t c.args.of n c.match-derivation.made c.args.derivation at c.args.self.now w.in-Array.count w.array_of-array.result w.empty.result w.in-Array.is w.made-is (w.empty.ensures tt) w.array_of-array.ensures.element w.array_of-array.ensures.count
          (Keeps-table c.args.self.now t _ c.number_of.ensures.table) (part_is_type c.args.self.now c.args.of c.requires.part) (ap (λ (s : Shape). s.room) shape ∙ ap Some (sym w.in-Ok.ensures) ∙ extent)
      | in-Function w ↦
          made_function t c.args.of n c.match-derivation.made c.args.derivation at w.in-Function.parameters w.in-Function.more w.empty-in-Function.result w.in-Function.is w.made-is (w.empty-in-Function.ensures tt)
    ]

pub returns-in-Ok-number_of-clause-part : goal.returns-in-Ok-number_of-clause-part
returns-in-Ok-number_of-clause-part c = Makes-part c.number_of.new.self c.args.of c.args.derivation (record { number = c.in-Ok-number_of.number; qualifiers = c.match-derivation.made.1 }) (returns-in-Ok-number_of-clause-made c)

-- what the derivation makes is the entry that is numbered
once : (c : In-Ok-number_of) → derived_once c.args.self.now c.args.of c.args.derivation ≡ part_with c.match-derivation.made.1.0 (with_entry c.args.self.now (OfType c.match-derivation.made.0))
once c =
    let t = c.args.self.now in
    elim c.match-derivation.branch [
      | in-Pointer w ↦ once_pointer t c.args.of c.args.derivation c.match-derivation.made w.in-Pointer.qualifiers w.in-Pointer.is w.made-is
      | in-Array+in-Ok w ↦
          once_array t c.args.of c.args.derivation c.match-derivation.made c.type_at-ty.result w.in-Array.count w.in-Ok.extent w.array_of-array.result w.empty.result w.in-Array.is w.made-is (w.empty.ensures tt)
          c.type_at-ty.ensures.value w.in-Ok.ensures w.array_of-array.ensures.element w.array_of-array.ensures.extent w.array_of-array.ensures.count
      | in-Function w ↦
          once_function t c.args.of c.args.derivation c.match-derivation.made w.in-Function.parameters w.in-Function.more w.empty-in-Function.result w.in-Function.is w.made-is (w.empty-in-Function.ensures tt)
    ]

pub returns-in-Ok-number_of-clause-gives : goal.returns-in-Ok-number_of-clause-gives
returns-in-Ok-number_of-clause-gives c =
    part_once c.args.self.now c.args.of c.args.derivation c.match-derivation.made c.in-Ok-number_of.number (once (goal.at.returns-in-Ok-number_of-clause-gives c).In-Ok-number_of) c.in-Ok-number_of.ensures.gives

pub returns-in-Ok-number_of-clause-grown : goal.returns-in-Ok-number_of-clause-grown
returns-in-Ok-number_of-clause-grown c =
    table_once c.args.self.now c.args.of c.args.derivation c.match-derivation.made c.number_of.new.self (once (goal.at.returns-in-Ok-number_of-clause-grown c).In-Ok-number_of) c.in-Ok-number_of.ensures.grown
