-- The addresses of static objects, one after another.
use Rattle.std.proofs.Common.{◌≡◌, ℕ, ◌+◌, ◌*◌, ◌<◌, ◌≤◌, ◌⊎◌, inl, inr, List, [], ◌∷◌, ◌++◌, length, get_or, take, arith, sym, ap, ◌∙◌}
use Rattle.std.specs.Prelude.{sum_by}
use Rattle.std.proofs.lemmas.List.{get_or-map, length-map}
use Rattle.std.proofs.Math.ListN.{get_or-append}
use Rattle.std.proofs.Math.Seq.{take-length, get_or-append_seam}
use Rattle.std.proofs.lemmas.Bool.{cases_lt}
use Rattle.std.proofs.lemmas.List.Sums.{sum_by_more, sum_by-take-le}
use Rattle.filc_num.specs.declared.statics.StaticDef.{StaticDef}
use Rattle.filc_num.specs.StaticDefs.{PlainStatic, plain_static}
use Rattle.ideal_machine.specs.Beginning.{words_of_static, static_address}
use Rattle.ideal_step.specs.Statics.{first_world, plain_statics}

pub address_more : (ps : List PlainStatic) (n : ℕ) (d : PlainStatic) → n < length ps → static_address first_world ps (n + 1) ≡ static_address first_world ps n + 8 * words_of_static (get_or ps n d)
address_more ps n d h = omega (arith, sum_by_more words_of_static ps n d h)

pub address_after : (ss : List StaticDef) (n : ℕ) (s : StaticDef) → n < length ss → s ≡ get_or ss n s → static_address first_world (plain_statics ss) (n + 1) ≡ static_address first_world (plain_statics ss) n + 8 * words_of_static (plain_static s)
address_after ss n s h e =
    let q : get_or (plain_statics ss) n (plain_static s) ≡ plain_static s =
    get_or-map plain_static ss n s (plain_static s) h ∙ ap plain_static (sym e) in
    let l : n < length (plain_statics ss) = omega (arith, length-map ss plain_static) in
    rw q at (address_more (plain_statics ss) n (plain_static s) l)

sum_more : (ps : List PlainStatic) (n : ℕ) → n ≤ length ps → sum_by words_of_static (take n ps) ≤ sum_by words_of_static (take (length ps) ps)
sum_more ps n h = rw take-length (sum_by-take-le words_of_static ps n)

pub address_below : (ps : List PlainStatic) (n : ℕ) → n ≤ length ps → static_address first_world ps n ≤ static_address first_world ps (length ps)
address_below ps n h = omega (arith, sum_more ps n h)

-- a list that has the values of f up to i gets the next one
pub values_up_to : (f : ℕ → ℕ) (list : List ℕ) (a i : ℕ) → length list ≡ i + 1 → a ≡ f (i + 1) → ((n d : ℕ) → n ≤ i → get_or list n d ≡ f n) → (n d : ℕ) → n ≤ i + 1 → get_or (list ++ a ∷ []) n d ≡ f n
values_up_to f list a i l e h n d q = by_place (cases_lt n (length list)) where
  by_place : (n < length list) ⊎ (length list ≤ n) → get_or (list ++ a ∷ []) n d ≡ f n
  by_place (inl p) = get_or-append list (a ∷ []) d n p ∙ h n d (omega (arith, p, l))
  by_place (inr p) =
      let here : n ≡ i + 1 = omega (arith, p, l, q) in
      let last : n ≡ length list = omega (arith, here, l) in
      ap (λ (k : ℕ). get_or (list ++ a ∷ []) k d) last ∙ get_or-append_seam list a [] d ∙ e ∙ ap f (sym here)
