-- Derivations that break no rule make the types that they say.
use Rattle.std.proofs.Common.{◌≡◌, ℕ, ◌*◌, ◌%◌, ◌≤◌, Bool, true, false, IsTrue, List, [], ◌∷◌, Option, Some, None, Result, Ok, Err, refl, sym, ap, ◌∙◌, subst, arith}
use Rattle.std.specs.Prelude.{slice_get, nat_lt, IsSomeAnd, if◌then◌else◌}
use Rattle.std.proofs.lemmas.Nat.{mul-mod_second, mul-le}
use native.Mathlib.Decide.{ℕ_discrete, dec_le}
use Rattle.filc_num.specs.declared.c_int_type.CIntType.TheVariants as kind
use Rattle.c_types.specs.declared.ctype.CType.{CType}
use Rattle.c_types.specs.declared.ctype.CType.TheVariants.{Void, Integer, Enumeration, Pointer, ArrayOf, Function, Structure, Union}
use Rattle.c_types.specs.declared.ctype.ElementCount.{ElementCount}
use Rattle.c_types.specs.declared.ctype.Extent.{Extent}
use Rattle.c_types.specs.declared.ctype.Part.{Part}
use Rattle.c_types.specs.declared.ctype.TypeFault.{TypeFault}
use Rattle.c_types.specs.declared.ctype.TypeFault.TheVariants.{Incomplete, TooLarge}
use Rattle.c_types.specs.declared.derivation.Derivation.{Derivation}
use Rattle.c_types.specs.declared.derivation.Derivation.TheVariants as derivation
use Rattle.c_types.specs.declared.entry.Entry.{Entry}
use Rattle.c_types.specs.declared.entry.Entry.TheVariants.{OfType, NoParameters, Parameters}
use Rattle.c_types.specs.declared.rule.TypeRule.{TypeRule}
use Rattle.c_types.specs.declared.rule.DeriveFault.TheVariants as fault
use Rattle.c_types.specs.Extents.{IsExtent, is_align}
use Rattle.c_types.specs.Sizes.{Room, room_of}
use Rattle.c_types.specs.Derivations.{lowest, shape_after, rule_of, lowest_rule, rule_of_elements, known_room_of_elements, room_of_elements}
use Rattle.c_types.specs.Declarators.{type_in, shape_at, shape_of_any, type_of_entry, IsTypeEntry, Keeps, Makes, IsDerived}
use Rattle.c_types.specs.Whole.{IsTypeAt}
use Rattle.c_types.proofs.Guards.{list_known, adjusted_known, derived_known}
use Rattle.c_types.proofs.Deriving.{Keeps-trans, shape_at-keeps, Makes-keeps, Makes-type, Makes-shape, fine_next, no_cause}
use Rattle.c_file_rules.specs.Types.{Table, with_entry, extent_of, extent_if, extent_in, or_void, array_of, derived_once, derived_each}
use Rattle.c_file_rules.specs.Laws.{TypesAreMade}
use Rattle.c_types.proofs.Extending.{entry_taken, entry_keeps}
use Rattle.c_file_rules.proofs.Entries.{list_made, adjusted_made}

some_value : {A : Type 0} (x y : A) → Some x ≡ Some y → x ≡ y
some_value x y h = cc

abbrev room_or_fault : Room → Result Room TypeFault
room_or_fault r = Ok r

ok_value : (x y : Room) → room_or_fault x ≡ Ok y → x ≡ y
ok_value x y h = cc

-- ---- extents

extent_known : (size align : ℕ) (p : Dec (1 ≤ size)) (q : Dec (size ≤ 131072)) (b : Bool) (f : IsTrue b → IsTrue (is_align align)) (w : Dec (size % align ≡ 0)) (e : Extent)
    → extent_if size align p q b f w ≡ Some e → (size ≡ e.size) × (align ≡ e.align)
extent_known size align (yes p) (yes q) true f (yes w) e h =
    let same = some_value _ e h in (ap (λ (x : Extent). x.size) same, ap (λ (x : Extent). x.align) same)
extent_known size align (no p) q b f w e h = cc
extent_known size align (yes p) (no q) b f w e h = cc
extent_known size align (yes p) (yes q) false f w e h = cc
extent_known size align (yes p) (yes q) true f (no w) e h = cc

extent_missing : (size align : ℕ) (p : Dec (1 ≤ size)) (q : Dec (size ≤ 131072)) (b : Bool) (f : IsTrue b → IsTrue (is_align align)) (w : Dec (size % align ≡ 0))
    → is_align align ≡ b → IsExtent size align → extent_if size align p q b f w ≡ None → ⊥
extent_missing size align (yes p) (yes q) true f (yes w) s x h = cc
extent_missing size align (no p) q b f w s x h = p x.some
extent_missing size align (yes p) (no q) b f w s x h = q x.bounded
extent_missing size align (yes p) (yes q) false f w s x h = cc
extent_missing size align (yes p) (yes q) true f (no w) s x h = w x.whole

-- ---- a room is an extent

byte : IsExtent 1 1
byte = record { some = omega arith; bounded = omega arith; of_a_scalar = refl; whole = refl }

two_bytes : IsExtent 2 2
two_bytes = record { some = omega arith; bounded = omega arith; of_a_scalar = refl; whole = refl }

four_bytes : IsExtent 4 4
four_bytes = record { some = omega arith; bounded = omega arith; of_a_scalar = refl; whole = refl }

eight_bytes : IsExtent 8 8
eight_bytes = record { some = omega arith; bounded = omega arith; of_a_scalar = refl; whole = refl }

at_room : (size align : ℕ) → IsExtent size align → (r : Room) → room_or_fault (record { size = size; align = align }) ≡ Ok r → IsExtent r.size r.align
at_room size align x r h = subst (λ (r : Room). IsExtent r.size r.align) (ok_value _ r h) x

elements : (count size align : ℕ) → 1 ≤ count → IsExtent size align → (b : Bool) → nat_lt 131072 (count * size) ≡ b → (r : Room)
    → (if b then Err TooLarge else Ok (record { size = count * size; align = align })) ≡ Ok r → IsExtent r.size r.align
elements count size align some x true s r h = cc
elements count size align some x false s r h =
    at_room (count * size) align (record {
      some = omega (arith, mul-le 1 1 count size some x.some);
      bounded = grind (arith, s);
      of_a_scalar = x.of_a_scalar;
      whole = sym (mul-mod_second count size align) ∙ ap (λ (n : ℕ). (count * n) % align) x.whole ∙ omega arith;
    }) r h

room_sound : (ty : CType) (r : Room) → room_of ty ≡ Ok r → IsExtent r.size r.align
room_sound Void r h = cc
room_sound (Integer kind.Bool) r h = at_room 1 1 byte r h
room_sound (Integer kind.Char) r h = at_room 1 1 byte r h
room_sound (Integer kind.SignedChar) r h = at_room 1 1 byte r h
room_sound (Integer kind.UnsignedChar) r h = at_room 1 1 byte r h
room_sound (Integer kind.Short) r h = at_room 2 2 two_bytes r h
room_sound (Integer kind.UnsignedShort) r h = at_room 2 2 two_bytes r h
room_sound (Integer kind.Int) r h = at_room 4 4 four_bytes r h
room_sound (Integer kind.UnsignedInt) r h = at_room 4 4 four_bytes r h
room_sound (Integer kind.Long) r h = at_room 8 8 eight_bytes r h
room_sound (Integer kind.UnsignedLong) r h = at_room 8 8 eight_bytes r h
room_sound (Integer kind.LongLong) r h = at_room 8 8 eight_bytes r h
room_sound (Integer kind.UnsignedLongLong) r h = at_room 8 8 eight_bytes r h
room_sound (Enumeration tag) r h = at_room 4 4 four_bytes r h
room_sound (Pointer to) r h = at_room 8 8 eight_bytes r h
room_sound (ArrayOf a) r h = elements a.count a.extent.size a.extent.align a.some a.extent.sound (nat_lt 131072 (a.count * a.extent.size)) refl r h
room_sound (Function f) r h = cc
room_sound (Structure tag None) r h = cc
room_sound (Structure tag (Some e)) r h = at_room e.size e.align e.sound r h
room_sound (Union tag None) r h = cc
room_sound (Union tag (Some e)) r h = at_room e.size e.align e.sound r h

abbrev room_with : ℕ → ℕ → Room
room_with size align = record { size = size; align = align }

room_by : (r : Room) (size align : ℕ) → r.size ≡ size → r.align ≡ align → r ≡ room_with size align
room_by r size align p q = ap (λ (n : ℕ). room_with n r.align) p ∙ ap (room_with size) q

-- ---- one derivation

abbrev IsMade : Table → Part → Derivation → Table × Part → Type 0
IsMade t of d made = Keeps t made.0 × Makes made.0 of d made.1

-- an array of elements of this room
array_made : (t : Table) (of : Part) (count : ElementCount) (ty : CType) → type_in t of.number ≡ Some ty → (r : Room) → room_of ty ≡ Ok r
    → (x : Option Extent) → extent_of r.size r.align ≡ x → IsMade t of (derivation.Array count) (array_of t of count x)
array_made t of count ty there r room None h =
    absurd (extent_missing r.size r.align (dec_le 1 r.size) (dec_le r.size 131072) (is_align r.align) (λ h. h) (ℕ_discrete (r.size % r.align) 0) refl (room_sound ty r room) h)
array_made t of count ty there r room (Some e) h =
    let known = extent_known r.size r.align (dec_le 1 r.size) (dec_le r.size 131072) (is_align r.align) (λ h. h) (ℕ_discrete (r.size % r.align) 0) e h in
    let a = OfType (ArrayOf (record { element = of; extent = e; count = count.value; some = count.some })) in
    let k = entry_keeps t a in
    let shape = shape_at-keeps t (with_entry t a).0 of.number k (is_type (slice_get t of.number) ty there) in
    let old : (shape_at t of.number).room ≡ Some (Ok r) = ap (λ o. (shape_of_any o).room) there ∙ ap Some room in
    let same : r ≡ room_with e.size e.align = room_by r e.size e.align known.0 known.1 in
    (k, (record { element = of; extent = e; count = count.value; some = count.some }, (entry_taken t a, refl), refl, refl, ap (λ s. s.room) shape ∙ old ∙ ap (λ x. Some (Ok x)) same))
  where
    is_type : (o : Option Entry) (ty : CType) → type_of_entry o ≡ Some ty → IsSomeAnd o IsTypeEntry
    is_type None ty h = cc
    is_type (Some (OfType x)) ty h = tt
    is_type (Some NoParameters) ty h = cc
    is_type (Some (Parameters a b)) ty h = cc

-- elements that break no rule have a room
elements_made : (t : Table) (of : Part) (count : ElementCount) (o : Option CType) → type_in t of.number ≡ o
    → rule_of_elements (known_room_of_elements count.value (shape_of_any o).room) ≡ None
    → IsMade t of (derivation.Array count) (array_of t of count (extent_in (room_of (or_void o))))
elements_made t of count None there fine = cc
elements_made t of count (Some ty) there fine = by (room_of ty) refl fine where
  by : (x : Result Room TypeFault) → room_of ty ≡ x → rule_of_elements (Some (room_of_elements count.value x)) ≡ None
      → IsMade t of (derivation.Array count) (array_of t of count (extent_in x))
  by (Ok r) room fine = array_made t of count ty there r room (extent_of r.size r.align) refl
  by (Err Incomplete) room fine = cc
  by (Err TooLarge) room fine = cc

no_size : (o : Option TypeRule) (r : TypeRule) → lowest o (Some r) ≡ None → ⊥
no_size None r h = cc
no_size (Some q) r h = cc

no_list : (o : Option TypeRule) (r : TypeRule) → lowest (Some r) o ≡ None → ⊥
no_list None r h = cc
no_list (Some q) r h = cc

once_made : (t : Table) (of : Part) (d : Derivation) → rule_of (shape_at t of.number) d ≡ None → IsMade t of d (derived_once t of d)
once_made t of (derivation.Pointer set) fine = (entry_keeps t (OfType (Pointer of)), (entry_taken t (OfType (Pointer of)), refl))
once_made t of (derivation.Array count) fine = elements_made t of count (type_in t of.number) refl fine
once_made t of derivation.OpenArray fine = absurd (no_size (rule_of_elements (shape_at t of.number).room) _ fine)
once_made t of derivation.BadArray fine = absurd (no_size (rule_of_elements (shape_at t of.number).room) _ fine)
once_made t of (derivation.Function list more) fine =
    let f = OfType (Function (record { result = of.number; parameters = list; more = more })) in
    (entry_keeps t f, (entry_taken t f, refl))
once_made t of (derivation.BadFunction broken) fine = absurd (no_list _ broken fine)

-- ---- all of them

first_fine : (t : Table) (base : Part) (d : Derivation) (ds : List Derivation) → lowest_rule (shape_at t base.number) None (d ∷ ds) ≡ None
    → rule_of (shape_at t base.number) d ≡ None
first_fine t base d ds h = by (rule_of (shape_at t base.number) d) refl where
  by : (o : Option TypeRule) → rule_of (shape_at t base.number) d ≡ o → o ≡ None
  by None e = refl
  by (Some r) e = let wrong : None ≡ Some r = no_cause (shape_at t base.number) d ds (fault.Broken r) None h e in cc

pub derived_made : (t : Table) (base : Part) (ds : List Derivation) → IsTypeAt t base.number → lowest_rule (shape_at t base.number) None ds ≡ None
    → Keeps t (derived_each t base ds).0 × IsDerived (derived_each t base ds).0 base ds (derived_each t base ds).1
unfolding IsDerived
derived_made t base [] there fine = (λ n x h. h, refl)
derived_made t base (d ∷ ds) there fine =
    let first = first_fine t base d ds fine in
    let one = derived_once t base d in
    let made = once_made t base d first in
    let shape = Makes-shape one.0 base d one.1 made.1 ∙ ap (λ s. shape_after s d) (shape_at-keeps t one.0 base.number made.0 there) in
    let left = subst (λ s. lowest_rule s None ds ≡ None) (sym shape) (fine_next (shape_at t base.number) d ds fine first) in
    let rest = derived_made one.0 one.1 ds (Makes-type one.0 base d one.1 made.1) left in (
      Keeps-trans t one.0 (derived_each one.0 one.1 ds).0 made.0 rest.0,
      (one.1, Makes-keeps one.0 (derived_each one.0 one.1 ds).0 base d one.1 rest.0 made.1, rest.1),
    )

pub types_made : (t : Table) → TypesAreMade t
types_made t =
    record {
      plain = λ ty. (entry_keeps t (OfType ty), (entry_taken t (OfType ty), refl));
      list = list_made t;
      adjusted = adjusted_made t;
      derived = derived_made t;
      list_of_types = list_known t;
      adjusted_part = adjusted_known t;
      derived_part = derived_known t;
    }
