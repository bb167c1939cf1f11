-- Lemmas on a step of the reader: what becomes of the frames when the innermost gets its value.
use Rattle.std.proofs.Common.{◌≡◌, ℕ, List, [], ◌∷◌, ◌++◌, length, reverse, Option, Some, None, refl, ap, sym, ◌∙◌}
use Rattle.std.proofs.lemmas.List.{reverse-append, nil_from_length}
use Rattle.std.specs.Option.{option_and_then}
use Rattle.c_preproc.specs.declared.condition_item.Value.{Value}
use Rattle.c_preproc.specs.declared.condition_item.Punctuator.{Punctuator}
use Rattle.c_preproc.specs.declared.condition_reader.Frame.{Frame}
use Rattle.c_preproc.specs.declared.condition_reader.Whole.{Whole}
use Rattle.c_preproc.specs.declared.condition_reader.Mode.TheVariants.{Wanted}
use Rattle.c_preproc.specs.Code.Reading.{State, state, top_floor, shift, reduce, close, with_frame, after_reduction, go_on, reduce_all}

-- the last of the frames that are kept is the innermost
pub reverse-push : (after before : List Frame) (frame : Frame) → after ≡ before ++ frame ∷ [] → reverse after ≡ frame ∷ reverse before
reverse-push after before frame e = ap reverse e ∙ reverse-append before (frame ∷ [])

reverse-empty : (frames : List Frame) → length frames ≡ 0 → reverse frames ≡ []
reverse-empty frames e = ap reverse (nil_from_length frames e)

-- what the punctuator opens
abbrev pub shift_in : List Frame → Whole → Punctuator → Option Frame
shift_in frames w p = shift (top_floor frames) w p

pub go_on-opens : (frames : List Frame) (w : Whole) (p : Punctuator) (frame : Frame) → shift_in frames w p ≡ Some frame → go_on frames w p ≡ with_frame frames (Some frame)
unfolding go_on
go_on-opens [] w p frame e = ap (with_frame []) e
go_on-opens (top ∷ frames) w p frame e = rw e refl

go_on-empty : (w : Whole) (p : Punctuator) → shift 0 w p ≡ None → go_on [] w p ≡ None
unfolding go_on
go_on-empty w p e = ap (with_frame []) e

pub go_on-top : (top : Frame) (frames : List Frame) (w : Whole) (p : Punctuator) → shift_in (top ∷ frames) w p ≡ None → go_on (top ∷ frames) w p ≡ after_reduction (reduce top w.value) (λ next. go_on frames next p) (close frames top w.value p.separator)
unfolding go_on
go_on-top top frames w p e = rw e refl

-- a frame that the punctuator opens
pub on_shifted : (before slice after : List Frame) (floor : ℕ) (frame : Frame) (w : Whole) (p : Punctuator) (all : Option State) → slice ≡ before → floor ≡ top_floor (reverse slice) → Some frame ≡ shift floor w p → after ≡ before ++ frame ∷ [] → go_on (reverse before) w p ≡ all → Some (state (reverse after) Wanted) ≡ all
on_shifted before slice after floor frame w p all same low opens pushed h =
    let e : shift_in (reverse before) w p ≡ Some frame = ap (λ xs. shift_in (reverse xs) w p) (sym same) ∙ ap (λ n. shift n w p) (sym low) ∙ sym opens in
    ap (λ fs. Some (state fs Wanted)) (reverse-push after before frame pushed) ∙ sym (go_on-opens (reverse before) w p frame e) ∙ h

-- no frame is left for the punctuator
pub on_empty : (before slice : List Frame) (floor : ℕ) (w : Whole) (p : Punctuator) (all : Option State) → slice ≡ before → floor ≡ top_floor (reverse slice) → None ≡ shift floor w p → length before ≡ 0 → go_on (reverse before) w p ≡ all → None ≡ all
on_empty before slice floor w p all same low opens empty h =
    let none = reverse-empty before empty in
    let e : shift 0 w p ≡ None = ap (λ fs. shift_in fs w p) (sym none) ∙ ap (λ xs. shift_in (reverse xs) w p) (sym same) ∙ ap (λ n. shift n w p) (sym low) ∙ sym opens in
    sym (go_on-empty w p e) ∙ ap (λ fs. go_on fs w p) (sym none) ∙ h

-- the innermost frame is taken off
on_popped : (before slice after : List Frame) (floor : ℕ) (frame : Frame) (w : Whole) (p : Punctuator) → slice ≡ before → floor ≡ top_floor (reverse slice) → None ≡ shift floor w p → before ≡ after ++ frame ∷ [] → go_on (reverse before) w p ≡ after_reduction (reduce frame w.value) (λ next. go_on (reverse after) next p) (close (reverse after) frame w.value p.separator)
on_popped before slice after floor frame w p same low opens popped =
    let top = reverse-push before after frame popped in
    let e : shift_in (frame ∷ reverse after) w p ≡ None = ap (λ fs. shift_in fs w p) (sym top) ∙ ap (λ xs. shift_in (reverse xs) w p) (sym same) ∙ ap (λ n. shift n w p) (sym low) ∙ sym opens in
    ap (λ fs. go_on fs w p) top ∙ go_on-top frame (reverse after) w p e

-- the innermost frame makes a value
pub on_reduced : (before slice after : List Frame) (floor : ℕ) (frame : Frame) (w next : Whole) (p : Punctuator) (all : Option State) → slice ≡ before → floor ≡ top_floor (reverse slice) → None ≡ shift floor w p → before ≡ after ++ frame ∷ [] → Some next ≡ reduce frame w.value → go_on (reverse before) w p ≡ all → go_on (reverse after) next p ≡ all
on_reduced before slice after floor frame w next p all same low opens popped settles h =
    ap (λ s. after_reduction s (λ next. go_on (reverse after) next p) (close (reverse after) frame w.value p.separator)) settles
    ∙ sym (on_popped before slice after floor frame w p same low opens popped) ∙ h

-- the innermost frame waits for a separator
pub on_closed : (before slice after : List Frame) (floor : ℕ) (frame : Frame) (w : Whole) (p : Punctuator) (all : Option State) → slice ≡ before → floor ≡ top_floor (reverse slice) → None ≡ shift floor w p → before ≡ after ++ frame ∷ [] → None ≡ reduce frame w.value → go_on (reverse before) w p ≡ all → close (reverse after) frame w.value p.separator ≡ all
on_closed before slice after floor frame w p all same low opens popped settles h =
    ap (λ s. after_reduction s (λ next. go_on (reverse after) next p) (close (reverse after) frame w.value p.separator)) settles
    ∙ sym (on_popped before slice after floor frame w p same low opens popped) ∙ h

-- ---- the end

reduce_all-top : (before after : List Frame) (frame : Frame) (v : Value) → before ≡ after ++ frame ∷ [] → reduce_all (reverse before) v ≡ option_and_then (λ w. reduce_all (reverse after) w.value) (reduce frame v)
unfolding reduce_all
reduce_all-top before after frame v popped = ap (λ fs. reduce_all fs v) (reverse-push before after frame popped)

-- a frame makes a value
pub end_reduced : (before after : List Frame) (frame : Frame) (v : Value) (next : Whole) (all : Option Value) → before ≡ after ++ frame ∷ [] → Some next ≡ reduce frame v → reduce_all (reverse before) v ≡ all → reduce_all (reverse after) next.value ≡ all
end_reduced before after frame v next all popped settles h =
    ap (λ s. option_and_then (λ w. reduce_all (reverse after) w.value) s) settles ∙ sym (reduce_all-top before after frame v popped) ∙ h

-- a frame waits for a separator
pub end_open : (before after : List Frame) (frame : Frame) (v : Value) (all : Option Value) → before ≡ after ++ frame ∷ [] → None ≡ reduce frame v → reduce_all (reverse before) v ≡ all → None ≡ all
end_open before after frame v all popped settles h =
    ap (λ s. option_and_then (λ w. reduce_all (reverse after) w.value) s) settles ∙ sym (reduce_all-top before after frame v popped) ∙ h

-- no frame is left
pub end_empty : (before : List Frame) (v : Value) (all : Option Value) → length before ≡ 0 → reduce_all (reverse before) v ≡ all → Some v ≡ all
unfolding reduce_all
end_empty before v all empty h = ap (λ fs. reduce_all fs v) (sym (reverse-empty before empty)) ∙ h
