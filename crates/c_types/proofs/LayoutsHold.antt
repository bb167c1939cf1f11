-- Members that are laid one by one lie in order, or together, and what they take is least.
use Rattle.std.proofs.Common.{◌≡◌, ℕ, zero, suc, ◌+◌, ◌*◌, ◌<◌, ◌≤◌, max, Bool, true, false, cond, List, [], ◌∷◌, ◌++◌, length, Option, Some, None, Result, Ok, Err, IsTrue, fold, replicate, refl, sym, ap, ◌∙◌, subst, append_assoc, IfOk, arith}
use Rattle.std.specs.Prelude.{nat_lt, slice_index}
use Rattle.std.specs.Int.{next_multiple_of}
use Rattle.std.proofs.lemmas.List.{append-nil}
use Rattle.filc_num.specs.declared.c_int_type.CIntType.{CIntType}
use Rattle.filc_num.specs.declared.c_int_type.CIntType.TheVariants.{Bool as BoolType, Char, SignedChar, UnsignedChar, Short, UnsignedShort, Int, UnsignedInt, Long, UnsignedLong, LongLong, UnsignedLongLong}
use Rattle.c_types.specs.declared.ctype.CType.{CType}
use Rattle.c_types.specs.declared.ctype.CType.TheVariants.{Void, Integer, Enumeration, Pointer, ArrayOf, Function, Structure, Union}
use Rattle.c_types.specs.declared.ctype.Extent.{Extent}
use Rattle.c_types.specs.declared.ctype.TypeFault.{TypeFault}
use Rattle.c_types.specs.declared.ctype.TypeFault.TheVariants.{TooLarge}
use Rattle.c_types.specs.declared.layouts.Form.{Form}
use Rattle.c_types.specs.declared.layouts.Form.TheVariants.{Structure as InOrder, Union as Together}
use Rattle.c_types.specs.Extents.{is_align}
use Rattle.c_types.specs.Sizes.{Room, room_of, room_of_contents}
use Rattle.c_types.specs.Layouts.{PlainPlacement, Placements, Layout, offset_of, placement_of, go_on, placements_of, no_placements, layout_in, layout_of}
use Rattle.c_types.specs.LayoutLaws.{room_size, room_align, bytes_of_type, alignment_of_type, sizes_of, alignments_of, IsLeastMultiple, LieInOrder, LieApart, IsStructureLayout, IsUnionLayout}
use Rattle.c_types.proofs.Multiples.{next_multiple_of-least}

-- ---- alignments

align_positive : (a : ℕ) → IsTrue (is_align a) → 0 < a
align_positive zero h = cc
align_positive (suc a) h = omega arith

integer_align : (named : CIntType) → 0 < alignment_of_type (Integer named)
integer_align BoolType = omega arith
integer_align Char = omega arith
integer_align SignedChar = omega arith
integer_align UnsignedChar = omega arith
integer_align Short = omega arith
integer_align UnsignedShort = omega arith
integer_align Int = omega arith
integer_align UnsignedInt = omega arith
integer_align Long = omega arith
integer_align UnsignedLong = omega arith
integer_align LongLong = omega arith
integer_align UnsignedLongLong = omega arith

contents_align : (contents : Option Extent) → 0 < room_align (room_of_contents contents)
contents_align None = omega arith
contents_align (Some e) = align_positive e.align e.sound.of_a_scalar

array_align : (large : Bool) (size align : ℕ) → 0 < align → 0 < room_align (cond large (Err TooLarge) (Ok (record { size = size; align = align })))
array_align true size align h = omega arith
array_align false size align h = h

alignment_positive : (t : CType) → 0 < alignment_of_type t
alignment_positive Void = omega arith
alignment_positive (Integer named) = integer_align named
alignment_positive (Enumeration tag) = omega arith
alignment_positive (Pointer to) = omega arith
alignment_positive (ArrayOf a) = array_align (nat_lt 131072 (a.count * a.extent.size)) (a.count * a.extent.size) a.extent.align (align_positive a.extent.align a.extent.sound.of_a_scalar)
alignment_positive (Function signature) = omega arith
alignment_positive (Structure tag contents) = contents_align contents
alignment_positive (Union tag contents) = contents_align contents

-- ---- one step

-- the places after a member
after : Form → Placements → Room → Placements
after form p room = record { offsets = p.offsets ++ offset_of form p.end room.align ∷ []; end = max p.end (offset_of form p.end room.align + room.size); align = max p.align room.align }

not_too_large :
    (large : Bool) (p q : Placements) (s : PlainPlacement) (rest : Placements → Result Placements TypeFault) →
    go_on p (cond large (Err TooLarge) (Ok s)) rest ≡ Ok q →
    rest (record { offsets = p.offsets ++ s.offset ∷ []; end = s.end; align = s.align }) ≡ Ok q
not_too_large true p q s rest h = cc
not_too_large false p q s rest h = h

-- a member that is laid has a size, and the others are laid after it
one_laid :
    (form : Form) (p q : Placements) (ms : List CType) (r : Result Room TypeFault) →
    go_on p (placement_of form p.end p.align r) (λ next. placements_of form next ms) ≡ Ok q →
    (room : Room) × (r ≡ Ok room) × (placements_of form (after form p room) ms ≡ Ok q)
unfolding after
one_laid form p q ms (Err fault) h = cc
one_laid form p q ms (Ok room) h = (
  room,
  refl,
  not_too_large (nat_lt 131072 (offset_of form p.end room.align + room.size)) p q
      (record { offset = offset_of form p.end room.align; end = max p.end (offset_of form p.end room.align + room.size); align = max p.align room.align })
      (λ next. placements_of form next ms) h,
)

-- ---- all steps of a structure

-- what is laid after p, member by member
record LaidInOrder (p : Placements) (ms : List CType) (q : Placements) : Type 0 where
  offsets : List ℕ
  joined : q.offsets ≡ p.offsets ++ offsets
  order : LieInOrder p.end ms offsets q.end
  align : q.align ≡ fold max p.align (alignments_of ms)

none_in_order : (p q : Placements) → p ≡ q → LaidInOrder p [] q
none_in_order p q e =
    record { offsets = []; joined = sym (append-nil p.offsets ∙ ap (λ (x : Placements). x.offsets) e); order = ap (λ (x : Placements). x.end) e; align = sym (ap (λ (x : Placements). x.align) e) }

one_in_order : (p q : Placements) (m : CType) (ms : List CType) (room : Room) → room_of m ≡ Ok room → LaidInOrder (after InOrder p room) ms q → LaidInOrder p (m ∷ ms) q
unfolding after
one_in_order p q m ms room e rest =
    let offset = next_multiple_of p.end room.align in
    let size : bytes_of_type m ≡ room.size = ap room_size e in
    let align : alignment_of_type m ≡ room.align = ap room_align e in
    let positive : 0 < room.align = subst (λ (n : ℕ). 0 < n) align (alignment_positive m) in
    let next = next_multiple_of-least p.end room.align positive in
    let end : max p.end (offset + room.size) ≡ offset + bytes_of_type m = omega (arith, next.reaches) in
    record {
      offsets = offset ∷ rest.offsets;
      joined = rest.joined ∙ append_assoc p.offsets (offset ∷ []) rest.offsets;
      order = (subst (λ (n : ℕ). IsLeastMultiple offset n p.end) (sym align) next, subst (λ (n : ℕ). LieInOrder n ms rest.offsets q.end) end rest.order);
      align = rest.align ∙ ap (λ (n : ℕ). fold max (max p.align n) (alignments_of ms)) (sym align);
    }

laid_in_order : (p q : Placements) (ms : List CType) → placements_of InOrder p ms ≡ Ok q → LaidInOrder p ms q
unfolding placements_of
laid_in_order p q [] h = none_in_order p q cc
laid_in_order p q (m ∷ ms) h =
    let one = one_laid InOrder p q ms (room_of m) h in
    one_in_order p q m ms one.0 one.1 (laid_in_order (after InOrder p one.0) q ms one.2)

-- ---- no overlap

behind_all : (from : ℕ) (ms : List CType) (offsets : List ℕ) (end : ℕ) → LieInOrder from ms offsets end → (j : ℕ) → j < length (sizes_of ms) → from ≤ slice_index offsets j
behind_all from [] [] end h j k = absurd (omega arith)
behind_all from [] (o ∷ os) end h j k = absurd h
behind_all from (m ∷ ms) [] end h j k = absurd h
behind_all from (m ∷ ms) (o ∷ os) end h zero k = h.0.reaches
behind_all from (m ∷ ms) (o ∷ os) end h (suc j) k =
    let later = behind_all (o + bytes_of_type m) ms os end h.1 j (omega arith) in omega (arith, h.0.reaches)

in_order_apart : (from : ℕ) (ms : List CType) (offsets : List ℕ) (end : ℕ) → LieInOrder from ms offsets end → LieApart (sizes_of ms) offsets
in_order_apart from [] [] end h i j l k = absurd (omega arith)
in_order_apart from [] (o ∷ os) end h i j l k = absurd h
in_order_apart from (m ∷ ms) [] end h i j l k = absurd h
in_order_apart from (m ∷ ms) (o ∷ os) end h i zero l k = absurd (omega arith)
in_order_apart from (m ∷ ms) (o ∷ os) end h zero (suc j) l k = behind_all (o + bytes_of_type m) ms os end h.1 j (omega arith)
in_order_apart from (m ∷ ms) (o ∷ os) end h (suc i) (suc j) l k = in_order_apart (o + bytes_of_type m) ms os end h.1 i j (omega arith) (omega arith)

-- ---- all steps of a union

record LaidTogether (p : Placements) (ms : List CType) (q : Placements) : Type 0 where
  joined : q.offsets ≡ p.offsets ++ replicate (length ms) 0
  end : q.end ≡ fold max p.end (sizes_of ms)
  align : q.align ≡ fold max p.align (alignments_of ms)

none_together : (p q : Placements) → p ≡ q → LaidTogether p [] q
none_together p q e =
    record { joined = sym (append-nil p.offsets ∙ ap (λ (x : Placements). x.offsets) e); end = sym (ap (λ (x : Placements). x.end) e); align = sym (ap (λ (x : Placements). x.align) e) }

one_together : (p q : Placements) (m : CType) (ms : List CType) (room : Room) → room_of m ≡ Ok room → LaidTogether (after Together p room) ms q → LaidTogether p (m ∷ ms) q
unfolding after
one_together p q m ms room e rest =
    let size : 0 + room.size ≡ bytes_of_type m = omega (arith, ap room_size e) in
    let align : room.align ≡ alignment_of_type m = sym (ap room_align e) in
    record {
      joined = rest.joined ∙ append_assoc p.offsets (0 ∷ []) (replicate (length ms) 0);
      end = rest.end ∙ ap (λ (n : ℕ). fold max (max p.end n) (sizes_of ms)) size;
      align = rest.align ∙ ap (λ (n : ℕ). fold max (max p.align n) (alignments_of ms)) align;
    }

laid_together : (p q : Placements) (ms : List CType) → placements_of Together p ms ≡ Ok q → LaidTogether p ms q
unfolding placements_of
laid_together p q [] h = none_together p q cc
laid_together p q (m ∷ ms) h =
    let one = one_laid Together p q ms (room_of m) h in
    one_together p q m ms one.0 one.1 (laid_together (after Together p one.0) q ms one.2)

-- ---- the layout

fold_max-le : (a : ℕ) (xs : List ℕ) → a ≤ fold max a xs
fold_max-le a [] = omega arith
fold_max-le a (x ∷ xs) = omega (arith, fold_max-le (max a x) xs)

layout_at : Placements → Layout
layout_at q = record { offsets = q.offsets; size = next_multiple_of q.end q.align; align = q.align }

unrounded : (r : Result Placements TypeFault) (l : Layout) → layout_in r ≡ Ok l → (q : Placements) × (r ≡ Ok q) × (layout_at q ≡ l)
unfolding layout_at
unrounded (Ok q) l h = (q, refl, cc)
unrounded (Err fault) l h = cc

structure_at : (members : List CType) (q : Placements) → LaidInOrder no_placements members q → IsStructureLayout members (layout_at q)
unfolding layout_at
structure_at members q h =
    let order = subst (λ (os : List ℕ). LieInOrder 0 members os q.end) (sym h.joined) h.order in
    record {
      end = q.end;
      in_order = order;
      apart = in_order_apart 0 members q.offsets q.end order;
      least_size = next_multiple_of-least q.end q.align (omega (arith, h.align, fold_max-le 1 (alignments_of members)));
      greatest_align = h.align;
    }

union_at : (members : List CType) (q : Placements) → LaidTogether no_placements members q → IsUnionLayout members (layout_at q)
unfolding layout_at
union_at members q h =
    record {
      together = h.joined;
      least_size = subst (λ (n : ℕ). IsLeastMultiple (next_multiple_of q.end q.align) q.align n) h.end
          (next_multiple_of-least q.end q.align (omega (arith, h.align, fold_max-le 1 (alignments_of members))));
      greatest_align = h.align;
    }

where_ok : (r : Result Layout TypeFault) (P : Layout → Type 0) → ((l : Layout) → r ≡ Ok l → P l) → IfOk r P
where_ok (Ok l) P f = f l refl
where_ok (Err fault) P f = tt

pub structure_layout : (members : List CType) → IfOk (layout_of InOrder members) (IsStructureLayout members)
unfolding layout_of
structure_layout members = where_ok (layout_of InOrder members) (IsStructureLayout members) here where
  here : (l : Layout) → layout_of InOrder members ≡ Ok l → IsStructureLayout members l
  here l h =
      let u = unrounded (placements_of InOrder no_placements members) l h in
      subst (IsStructureLayout members) u.2 (structure_at members u.0 (laid_in_order no_placements u.0 members u.1))

pub union_layout_is : (members : List CType) → IfOk (layout_of Together members) (IsUnionLayout members)
unfolding layout_of
union_layout_is members = where_ok (layout_of Together members) (IsUnionLayout members) here where
  here : (l : Layout) → layout_of Together members ≡ Ok l → IsUnionLayout members l
  here l h =
      let u = unrounded (placements_of Together no_placements members) l h in
      subst (IsUnionLayout members) u.2 (union_at members u.0 (laid_together no_placements u.0 members u.1))
