-- What is found, with what is given so far: from one construct to the next.
use Rattle.std.proofs.Common.{◌≡◌, ℕ, ◌+◌, ◌<◌, ◌≤◌, Bool, true, false, not, ◌&&◌, ◌||◌, ◌==◌, cond, List, [], ◌∷◌, length, get_or, take, drop, refl, sym, ap, ◌∙◌, subst}
use Rattle.std.specs.Prelude.{nat_lt, slice_get, Option, Some, None, Result, Ok, Err, IsErrAnd, if◌then◌else◌}
use Rattle.std.proofs.lemmas.List.{at_drop_more, at_drop_all}
use Rattle.c_parts.specs.declared.span.Span.{Span}
use Rattle.c_syntax.specs.declared.file.Initialiser.{Initialiser}
use Rattle.c_expr_rules.specs.Expressions.{Around}
use Rattle.c_expr_rules.specs.Outcomes as o
use Rattle.c_expr_rules.specs.Outcomes.{State, Checked, Fine, Breaks, Broke, Rule, next, inner, first_broken, known_in_spite, outcome_of, by_rules}
use Rattle.c_expr_rules.specs.TypedExpressions.{type_at}
use Rattle.c_expr_rules.specs.declared.found.Fault.{Fault}
use Rattle.c_expr_rules.specs.declared.found.Fault.TheVariants as fault
use Rattle.c_expr_rules.specs.declared.found.Found.{Found}
use Rattle.c_expr_rules.specs.declared.found.Found.TheVariants as found
use Rattle.c_expr_rules.specs.Views.{Gives, Passes, checked, seen_broken}
use Rattle.c_file_rules.specs.Filling.{kept_of, giving, found_with, told_with, done_with, nothing_by, is_text_among, look_list, fill_list}
use Rattle.c_file_rules.specs.Initialising.{nothing_given, then_given, parts_of, looked_at}
use Rattle.c_file_rules.specs.declared.targets.Given.{Given}
use Rattle.c_file_rules.specs.declared.targets.PartAt.{PartAt}
use Rattle.c_file_rules.specs.declared.targets.Target.{Target}
use Rattle.c_initialisers.specs.Listed.{list_filled, count_rules, item_filled}
use Rattle.c_check_expr.proofs.Outcomes.{Fails, gives_fault, passes_fault, next_goes, behind_passed, fails_at}
use Rattle.c_initialisers.proofs.Kept.{given_assoc, given_nothing, kept_then, kept_nothing}
use Rattle.c_initialisers.proofs.Rows.{fill_at, fill_settled, fill_taken}

-- ---- rules that leave nothing to look at

abbrev pub IsLow : List Rule → Type 0
IsLow [] = Unit {0}
IsLow (r ∷ rules) = (nat_lt 18 r.number ≡ false) × IsLow rules

first_low : (rules : List Rule) (n : ℕ) → IsLow rules → first_broken rules ≡ Some n → nat_lt 18 n ≡ false
first_low [] n low h = cc
first_low (r ∷ rules) n low h = by r.is_broken h (first_low rules n low.1) where
  by : (b : Bool) → (if b then Some r.number else first_broken rules) ≡ Some n → (first_broken rules ≡ Some n → nat_lt 18 n ≡ false) → nat_lt 18 n ≡ false
  by true k later = let same : r.number ≡ n = cc in ap (nat_lt 18) (sym same) ∙ low.0
  by false k later = later k

unknown : (n : ℕ) (g : Given) → nat_lt 18 n ≡ false → known_in_spite n g ≡ None
unknown n g low = ap (λ b. cond (b && not (n == 20 || n == 23)) (Some g) None) low

module _ (before after g : Given) (t : Target) (line : ℕ) (s : State) (is : after ≡ then_given before (kept_of t.is_static g)) where
  outcome_told : (n : Option ℕ) → ((m : ℕ) → n ≡ Some m → nat_lt 18 m ≡ false) → (f : Found (Unit {0})) → checked s f ≡ outcome_of line n s tt
      → giving before t (outcome_of line n s g) ≡ checked s (found_with after f)
  outcome_told None low (found.Fine x) h = ap (Fine s) (sym is)
  outcome_told None low (found.Breaks broken known) h = cc
  outcome_told (Some n) low (found.Fine x) h = cc
  outcome_told (Some n) low (found.Breaks broken known) h =
      let made : o.Broken = record { rule = n; line = line } in
      let same : seen_broken broken ≡ made = cc in
      ap (λ (k : Option Given). giving before t (Breaks made s k)) (unknown n g (low n refl)) ∙ ap (λ (b : o.Broken). Breaks b s None) (sym same)

  -- a construct with these rules, of which the call found this
  pub rules_told : (rules : List Rule) → IsLow rules → (f : Found (Unit {0})) → checked s f ≡ by_rules line rules s tt → giving before t (by_rules line rules s g) ≡ checked s (found_with after f)
  rules_told rules low f h = outcome_told (first_broken rules) (λ m e. first_low rules m low e) f h

-- the same behind what is found before it
pub rules_behind : (before after : Given) (t : Target) (line : ℕ) (u : State) (c : Checked Given) (rules : State → List Rule) → ((s : State) → IsLow (rules s)) → (f : Found (Unit {0}))
    → giving before t c ≡ Fine u after → checked u f ≡ by_rules line (rules u) u tt → giving before t (next c (λ s g. by_rules line (rules s) s g)) ≡ checked u (found_with after f)
rules_behind before after t line u (Fine s g) rules low f h k =
    let state : s ≡ u = cc in
    let is : then_given before (kept_of t.is_static g) ≡ after = cc in
    ap (λ (v : State). giving before t (by_rules line (rules v) v g)) state ∙ rules_told before after g t line u (sym is) (rules u) (low u) f k
rules_behind before after t line u (Breaks broken s None) rules low f h k = cc
rules_behind before after t line u (Breaks broken s (Some x)) rules low f h k = cc
rules_behind before after t line u (Broke broken) rules low f h k = cc

-- ---- calls that fail

pub giving_failed : (f : Fault) (before : Given) (t : Target) (c : Checked Given) → Fails f c → Fails f (giving before t c)
giving_failed (fault.Broke broken) before t c h = ap (giving before t) h
giving_failed fault.NoMemory before t c h = h

pub told_failed : (s : State) (g : Given) (r : Result (Found (Unit {0})) Fault) (f : Fault) (a : Checked Given) → IsErrAnd r (λ e. e ≡ f) → Fails f a → Gives s (told_with g r) a
told_failed s g (Ok x) f a h w = absurd h
told_failed s g (Err e) f a h w = gives_fault s e a (subst (λ e. Fails e a) (sym h) w)

pub done_failed : (s : State) (g : Given) (r : Result (Unit {0}) Fault) (f : Fault) (a : Checked Given) → IsErrAnd r (λ e. e ≡ f) → Fails f a → Passes s (done_with g r) a
done_failed s g (Ok x) f a h w = absurd h
done_failed s g (Err e) f a h w = passes_fault s e a (subst (λ e. Fails e a) (sym h) w)

-- ---- what is given by one construct, and then by the next

giving_then : (before g : Given) (t : Target) (d : Checked Given) → giving before t (next d (λ s more. Fine s (then_given g more))) ≡ giving (then_given before (kept_of t.is_static g)) t (inner d)
giving_then before g t (Fine s more) =
    ap (Fine s) (ap (then_given before) (kept_then t.is_static g more) ∙ sym (given_assoc before (kept_of t.is_static g) (kept_of t.is_static more)))
giving_then before g t (Breaks broken s known) = refl
giving_then before g t (Broke broken) = refl

giving_next : (before after : Given) (t : Target) (c : Checked Given) (go : State → Checked Given) (u : State) → ((s : State) → inner (go s) ≡ go s)
    → giving before t c ≡ Fine u after → giving before t (next c (λ s g. next (go s) (λ s more. Fine s (then_given g more)))) ≡ giving after t (go u)
giving_next before after t (Fine s g) go u settled h =
    let state : s ≡ u = cc in
    let is : then_given before (kept_of t.is_static g) ≡ after = cc in
    giving_then before g t (go s) ∙ ap (giving (then_given before (kept_of t.is_static g)) t) (settled s)
    ∙ ap (λ (x : Given). giving x t (go s)) is ∙ ap (λ (v : State). giving after t (go v)) state
giving_next before after t (Breaks broken s None) go u settled h = cc
giving_next before after t (Breaks broken s (Some x)) go u settled h = cc
giving_next before after t (Broke broken) go u settled h = cc

-- where this fails, nothing is given behind it
giving_stops : (before : Given) (t : Target) (c : Checked Given) (go : State → Given → Checked Given) (b : o.Broken) → inner (giving before t c) ≡ Broke b → giving before t (next c go) ≡ Broke b
giving_stops before t (Fine s g) go b h = cc
giving_stops before t (Breaks broken s None) go b h = h
giving_stops before t (Breaks broken s (Some x)) go b h = h
giving_stops before t (Broke broken) go b h = h

pub giving_fails : (v : State) (f : Fault) (before : Given) (t : Target) (c : Checked Given) (go : State → Given → Checked Given) → Passes v (Err f) (giving before t c) → Fails f (giving before t (next c go))
giving_fails v (fault.Broke broken) before t c go h = giving_stops before t c go (seen_broken broken) h
giving_fails v fault.NoMemory before t c go h = h

inner_same : (before : Given) (t : Target) (c : Checked Given) → inner (giving before t c) ≡ giving before t (inner c)
inner_same before t (Fine s g) = refl
inner_same before t (Breaks broken s None) = refl
inner_same before t (Breaks broken s (Some x)) = refl
inner_same before t (Broke broken) = refl

-- what fails among items is an earlier construct's
pub items_fail : (v : State) (f : Fault) (before : Given) (t : Target) (c : Checked Given) → inner c ≡ c → Passes v (Err f) (giving before t c) → Fails f (giving before t c)
items_fail v (fault.Broke broken) before t c settled h = sym (inner_same before t c ∙ ap (giving before t) settled) ∙ h
items_fail v fault.NoMemory before t c settled h = h

nothing_more : (before : Given) (t : Target) → then_given before (kept_of t.is_static nothing_given) ≡ before
nothing_more before t = ap (then_given before) (kept_nothing t.is_static) ∙ given_nothing before

-- ---- the loop over items, each with the part at its index

module _ (around : Around) (t : Target) (parts : List PartAt) (items : List Initialiser) (i j : ℕ) (before : Given) (s : State) (whole : Checked Given) where
  next_item : (part : Option PartAt) (item : Initialiser) → j < length items → item ≡ get_or items j item → part ≡ slice_get parts i
      → fill_list around t s (drop i parts) (drop j items)
      ≡ next (item_filled around t s part item) (λ s g. next (fill_list around t s (drop (i + 1) parts) (drop (j + 1) items)) (λ s more. Fine s (then_given g more)))
  next_item part item within is at =
      let rest = drop (j + 1) items in
      let go = λ (s : State) (g : Given). next (fill_list around t s (drop (i + 1) parts) rest) (λ s more. Fine s (then_given g more)) in
      at_drop_more (fill_list around t s (drop i parts)) items j item within
      ∙ ap (λ (x : Initialiser). fill_list around t s (drop i parts) (x ∷ rest)) (sym is)
      ∙ fill_at around t s parts i item rest
      ∙ ap (λ (p : Option PartAt). next (item_filled around t s p item) go) (sym at)

  pub item_goes : (part : Option PartAt) (item : Initialiser) (u : State) (after : Given) → j < length items → item ≡ get_or items j item → part ≡ slice_get parts i → giving before t (fill_list around t s (drop i parts) (drop j items)) ≡ whole
      → giving before t (item_filled around t s part item) ≡ Fine u after
      → giving after t (fill_list around t u (drop (i + 1) parts) (drop (j + 1) items)) ≡ whole
  item_goes part item u after within is at so_far h =
      let go = λ (s : State). fill_list around t s (drop (i + 1) parts) (drop (j + 1) items) in
      sym (giving_next before after t (item_filled around t s part item) go u (λ s. fill_settled around t s (drop (i + 1) parts) (drop (j + 1) items)) h)
      ∙ ap (giving before t) (sym (next_item part item within is at)) ∙ so_far

  pub item_fails : (part : Option PartAt) (item : Initialiser) (v : State) (f : Fault) → j < length items → item ≡ get_or items j item → part ≡ slice_get parts i → giving before t (fill_list around t s (drop i parts) (drop j items)) ≡ whole
      → Passes v (Err f) (giving before t (item_filled around t s part item)) → Fails f whole
  item_fails part item v f within is at so_far h =
      let go = λ (s : State) (g : Given). next (fill_list around t s (drop (i + 1) parts) (drop (j + 1) items)) (λ s more. Fine s (then_given g more)) in
      fails_at f whole (giving before t (next (item_filled around t s part item) go)) (sym so_far ∙ ap (giving before t) (next_item part item within is at))
      (giving_fails v f before t (item_filled around t s part item) go h)

  pub items_end : length items ≤ j → giving before t (fill_list around t s (drop i parts) (drop j items)) ≡ whole → whole ≡ Fine s before
  items_end past so_far =
      sym so_far ∙ ap (giving before t) (at_drop_all (fill_list around t s (drop i parts)) items j past) ∙ ap (Fine s) (nothing_more before t)

-- an item without a part gives nothing
pub looked_item : (around : Around) (t : Target) (before : Given) (s u : State) (item : Initialiser) → looked_at around s item ≡ Fine u nothing_given → giving before t (item_filled around t s None item) ≡ Fine u before
looked_item around t before s u item h =
    ap (giving before t) (next_goes (looked_at around s item) (λ s g. Fine s nothing_given) u nothing_given h) ∙ ap (Fine u) (nothing_more before t)

pub looked_fails : (around : Around) (t : Target) (before : Given) (s v : State) (item : Initialiser) (f : Fault) → Passes v (Err f) (looked_at around s item) → Fails f (giving before t (item_filled around t s None item))
looked_fails around t before s v item (fault.Broke broken) h =
    ap (giving before t) (behind_passed v (fault.Broke broken) (looked_at around s item) (λ s g. Fine s nothing_given) h)
looked_fails around t before s v item fault.NoMemory h = h

-- the same of a call
pub looked_done : (around : Around) (t : Target) (before : Given) (s u : State) (item : Initialiser) (r : Result (Unit {0}) Fault)
    → Passes u (nothing_by r) (looked_at around s item) → Passes u (done_with before r) (giving before t (item_filled around t s None item))
looked_done around t before s u item (Ok x) h = looked_item around t before s u item h
looked_done around t before s u item (Err f) h = passes_fault u f (giving before t (item_filled around t s None item)) (looked_fails around t before s u item f h)

-- what is found of an initialiser, for the next construct
pub done_passed : (s : State) (g : Given) (f : Found (Unit {0})) (r : Result (Unit {0}) Fault) → Passes s r (checked s f) → Passes s (done_with g r) (checked s (found_with g f))
done_passed s g (found.Fine x) (Ok y) h = refl
done_passed s g (found.Fine x) (Err (fault.Broke broken)) h = cc
done_passed s g (found.Fine x) (Err fault.NoMemory) h = tt
done_passed s g (found.Breaks broken known) (Ok y) h = cc
done_passed s g (found.Breaks broken known) (Err (fault.Broke other)) h =
    let same : seen_broken broken ≡ seen_broken other = cc in
    let outcome : o.Broken → Checked Given = λ b. Broke b in
    ap outcome same
done_passed s g (found.Breaks broken known) (Err fault.NoMemory) h = tt

-- ---- items that are looked at

module _ (around : Around) (items : List Initialiser) (i : ℕ) (s : State) (item : Initialiser) (whole : Checked Given) (within : i < length items) (is : item ≡ get_or items i item)
    (so_far : look_list around s (drop i items) ≡ whole) where
  next_look : whole ≡ next (looked_at around s item) (λ s g. look_list around s (drop (i + 1) items))
  next_look =
      sym so_far ∙ at_drop_more (look_list around s) items i item within
      ∙ ap (λ (x : Initialiser). next (looked_at around s x) (λ s g. look_list around s (drop (i + 1) items))) (sym is)

  pub look_goes : (u : State) (g : Given) → looked_at around s item ≡ Fine u g → look_list around u (drop (i + 1) items) ≡ whole
  look_goes u g h = sym (next_look ∙ next_goes (looked_at around s item) (λ s g. look_list around s (drop (i + 1) items)) u g h)

  pub look_fails : (v : State) (f : Fault) → Passes v (Err f) (looked_at around s item) → Fails f whole
  look_fails v f h = fails_at f whole _ next_look (behind_passed v f (looked_at around s item) (λ s g. look_list around s (drop (i + 1) items)) h)

-- ---- a list in braces

module _ (around : Around) (t : Target) (s : State) (span : Span) (items : List Initialiser) (before : Given) where
  pub text_listed : is_text_among s (type_at s t.part.number) items ≡ true → giving before t (list_filled around t s span items) ≡ giving before t (fill_list around t s (record { offset = 0; part = t.part } ∷ []) items)
  text_listed h = ap (λ (b : Bool). giving before t (cond b (fill_list around t s (record { offset = 0; part = t.part } ∷ []) items) (next (fill_list around t s (parts_of s (type_at s t.part.number)) items) (λ s g.
      by_rules span.line (count_rules t s (length items)) s g)))) h

  pub parts_listed : is_text_among s (type_at s t.part.number) items ≡ false → (parts : List PartAt) → parts ≡ take (length items) (parts_of s (type_at s t.part.number))
      → giving before t (list_filled around t s span items) ≡ giving before t (next (fill_list around t s parts items) (λ s g. by_rules span.line (count_rules t s (length items)) s g))
  parts_listed h parts is =
      let all = parts_of s (type_at s t.part.number) in
      let go = λ (s : State) (g : Given). by_rules span.line (count_rules t s (length items)) s g in
      ap (λ (b : Bool). giving before t (cond b (fill_list around t s (record { offset = 0; part = t.part } ∷ []) items) (next (fill_list around t s all items) go))) h
      ∙ ap (λ (c : Checked Given). giving before t (next c go)) (sym (fill_taken around t s all items))
      ∙ ap (λ (l : List PartAt). giving before t (next (fill_list around t s l items) go)) (sym is)
