-- Members laid one by one, by the place of the loop in the list.
use Rattle.std.proofs.Common.{◌≡◌, ℕ, ◌+◌, ◌<◌, ◌≤◌, List, [], ◌∷◌, ◌++◌, length, get_or, drop, Result, Ok, Err, sym, ap, ◌∙◌}
use Rattle.std.specs.Int.{next_multiple_of}
use Rattle.std.proofs.lemmas.List.{at_drop_more, at_drop_all}
use Rattle.c_types.specs.declared.ctype.CType.{CType}
use Rattle.c_types.specs.declared.ctype.TypeFault.{TypeFault}
use Rattle.c_types.specs.declared.layouts.Form.{Form}
use Rattle.c_types.specs.Sizes.{room_of}
use Rattle.c_types.specs.Layouts.{PlainPlacement, Placements, placement_of, go_on, placements_of, no_placements, layout_in, layout_of}

module _ (form : Form) (members : List CType) (so_far : Placements) (i : ℕ) (left : placements_of form no_placements members ≡ placements_of form so_far (drop i members)) where
  -- the member at i is laid next
  next_member :
      (m : CType) → i < length members → m ≡ get_or members i m →
      placements_of form no_placements members ≡ go_on so_far (placement_of form so_far.end so_far.align (room_of m)) (λ next. placements_of form next (drop (i + 1) members))
  unfolding placements_of
  next_member m h e =
      left ∙ at_drop_more (placements_of form so_far) members i m h
      ∙ ap (λ (x : CType). go_on so_far (placement_of form so_far.end so_far.align (room_of x)) (λ next. placements_of form next (drop (i + 1) members))) (sym e)

  pub laid_further :
      (m : CType) (s : PlainPlacement) → i < length members → m ≡ get_or members i m →
      placement_of form so_far.end so_far.align (room_of m) ≡ Ok s →
      placements_of form no_placements members ≡ placements_of form (record { offsets = so_far.offsets ++ s.offset ∷ []; end = s.end; align = s.align }) (drop (i + 1) members)
  laid_further m s h e f =
      next_member m h e ∙ ap (λ (r : Result PlainPlacement TypeFault). go_on so_far r (λ next. placements_of form next (drop (i + 1) members))) f

  pub fails_at : (m : CType) (fault : TypeFault) → i < length members → m ≡ get_or members i m → placement_of form so_far.end so_far.align (room_of m) ≡ Err fault → layout_of form members ≡ Err fault
  unfolding layout_of
  fails_at m fault h e f =
      ap layout_in (next_member m h e ∙ ap (λ (r : Result PlainPlacement TypeFault). go_on so_far r (λ next. placements_of form next (drop (i + 1) members))) f)

  pub laid_out : length members ≤ i → layout_of form members ≡ Ok (record { offsets = so_far.offsets; size = next_multiple_of so_far.end so_far.align; align = so_far.align })
  unfolding layout_of placements_of
  laid_out h = ap layout_in (left ∙ at_drop_all (placements_of form so_far) members i h)
