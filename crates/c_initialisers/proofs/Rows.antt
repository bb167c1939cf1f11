-- A list in braces over the list of its items, and what is found of one item after the other.
use Rattle.std.proofs.Common.{◌≡◌, ℕ, zero, suc, ◌+◌, Bool, true, false, ◌&&◌, cond, List, [], ◌∷◌, length, take, drop, refl, sym, ap, ◌∙◌}
use Rattle.std.proofs.lemmas.List.{drop-drop}
use Rattle.std.specs.Prelude.{slice_get, is_some, Option, Some, None, if◌then◌else◌}
use Rattle.c_parts.specs.declared.span.Span.{Span}
use Rattle.c_syntax.specs.declared.expr.Expr.{Expr}
use Rattle.c_syntax.specs.declared.file.Initialiser.{Initialiser, Expression, List', Row_of-Initialiser, end_of-Initialiser, more_of-Initialiser, items-the_row-Initialiser}
use Rattle.c_syntax.specs.declared.file.Initialiser.TheBlock as i
use Rattle.c_syntax.specs.declared.file.Initialiser.TheVariants as initialiser
use Rattle.c_expr_rules.specs.Expressions.{Around, is_text}
use Rattle.c_expr_rules.specs.Outcomes.{State, Checked, Fine, Breaks, Broke, next, inner, by_rules}
use Rattle.c_expr_rules.specs.TypedExpressions.{type_at}
use Rattle.c_file_rules.specs.Filling.{one_text, look_list, fill_list}
use Rattle.c_file_rules.specs.Initialising.{nothing_given, then_given, parts_of, characters_of, is_one_text, is_text_list, items_in, looked_at, all_looked_at, filled, items_filled, characters_in, listed_elements, elements_in}
use Rattle.c_file_rules.specs.declared.targets.Given.{Given}
use Rattle.c_file_rules.specs.declared.targets.PartAt.{PartAt}
use Rattle.c_file_rules.specs.declared.targets.Target.{Target}
use Rattle.c_initialisers.specs.Listed.{list_filled, count_rules, item_filled}
use Rattle.c_initialisers.specs.Sized.{text_or_items, elements_of_list}
use Rattle.c_check_expr.proofs.Outcomes.{next_same}

-- ---- rows as lists

there_by : {A : Type 0} (b : Bool) (x : A) → b ≡ is_some (if b then Some x else None)
there_by true x = refl
there_by false x = refl

text_rows : {m : _} (k : Row_of-Initialiser m) → is_one_text k ≡ is_some (one_text (items-the_row-Initialiser _ k))
text_rows end_of-Initialiser = refl
text_rows (more_of-Initialiser (Expression e) end_of-Initialiser) = there_by (is_text e.kind) e
text_rows (more_of-Initialiser (List' span z items) end_of-Initialiser) = refl
text_rows (more_of-Initialiser (Expression e) (more_of-Initialiser other rest)) = refl
text_rows (more_of-Initialiser (List' span z items) (more_of-Initialiser other rest)) = refl

count_rows : {m : _} (k : Row_of-Initialiser m) → items_in k ≡ length (items-the_row-Initialiser _ k)
count_rows end_of-Initialiser = refl
count_rows (more_of-Initialiser item rest) = ap suc (count_rows rest)

look_rows : {m : _} (around : Around) (s : State) (k : Row_of-Initialiser m) → all_looked_at around s k ≡ look_list around s (items-the_row-Initialiser _ k)
look_rows around s end_of-Initialiser = refl
look_rows around s (more_of-Initialiser item rest) = next_same _ _ _ (λ s g. look_rows around s rest)

fill_rows : {m : _} (around : Around) (t : Target) (s : State) (parts : List PartAt) (k : Row_of-Initialiser m) → items_filled around t s parts k ≡ fill_list around t s parts (items-the_row-Initialiser _ k)
fill_rows around t s parts end_of-Initialiser = refl
fill_rows around t s [] (more_of-Initialiser item rest) = look_rows around s (more_of-Initialiser item rest)
fill_rows around t s (p ∷ parts) (more_of-Initialiser item rest) =
    next_same _ _ _ (λ s g. ap (λ c. next c (λ s more. Fine s (then_given g more))) (fill_rows around t s parts rest))

pub list_looked_at : (around : Around) (s : State) (span : Span) (items : List Initialiser) → looked_at around s (initialiser.List span items) ≡ look_list around s items
list_looked_at around s span items =
    look_rows around s (i.hidden-the_row-Initialiser-0 items) ∙ ap (look_list around s) (i.items_hidden-the_row-Initialiser-0 items)

row_filled : {m : _} (around : Around) (t : Target) (s : State) (span : Span) (k : Row_of-Initialiser m)
    → (if is_text_list s (type_at s t.part.number) k
    then items_filled around t s (record { offset = 0; part = t.part } ∷ []) k
    else next (items_filled around t s (parts_of s (type_at s t.part.number)) k) (λ s g. by_rules span.line (count_rules t s (items_in k)) s g))
    ≡ list_filled around t s span (items-the_row-Initialiser _ k)
row_filled around t s span k =
    let has = is_some (characters_of s (type_at s t.part.number)) in
    let whole : List PartAt = record { offset = 0; part = t.part } ∷ [] in
    let parts = parts_of s (type_at s t.part.number) in
    let items = items-the_row-Initialiser _ k in
    let go = λ (n : ℕ) (s : State) (g : Given). by_rules span.line (count_rules t s n) s g in
    ap (λ (b : Bool). cond (has && b) (items_filled around t s whole k) (next (items_filled around t s parts k) (go (items_in k)))) (text_rows k)
    ∙ ap (λ (c : Checked Given). cond (has && is_some (one_text items)) c (next (items_filled around t s parts k) (go (items_in k)))) (fill_rows around t s whole k)
    ∙ ap (λ (c : Checked Given). cond (has && is_some (one_text items)) (fill_list around t s whole items) (next c (go (items_in k)))) (fill_rows around t s parts k)
    ∙ ap (λ (n : ℕ). cond (has && is_some (one_text items)) (fill_list around t s whole items) (next (fill_list around t s parts items) (go n))) (count_rows k)

pub filled_list : (around : Around) (t : Target) (s : State) (span : Span) (items : List Initialiser) → filled around t s (initialiser.List span items) ≡ list_filled around t s span items
filled_list around t s span items =
    row_filled around t s span (i.hidden-the_row-Initialiser-0 items) ∙ ap (list_filled around t s span) (i.items_hidden-the_row-Initialiser-0 items)

-- ---- how many elements a list says

by_text : (around : Around) (e : Expr) (b : Bool) → (if b then characters_in around e else 1) ≡ text_or_items around (if b then Some e else None) (Expression e ∷ [])
by_text around e true = refl
by_text around e false = refl

element_rows : {m : _} (around : Around) (are_characters : Bool) (k : Row_of-Initialiser m) → listed_elements around are_characters k ≡ elements_of_list around are_characters (items-the_row-Initialiser _ k)
element_rows around false k = count_rows k
element_rows around true end_of-Initialiser = refl
element_rows around true (more_of-Initialiser (Expression e) end_of-Initialiser) = by_text around e (is_text e.kind)
element_rows around true (more_of-Initialiser (List' span z items) end_of-Initialiser) = refl
element_rows around true (more_of-Initialiser (Expression e) (more_of-Initialiser other rest)) = ap (λ (n : ℕ). suc (suc n)) (count_rows rest)
element_rows around true (more_of-Initialiser (List' span z items) (more_of-Initialiser other rest)) = ap (λ (n : ℕ). suc (suc n)) (count_rows rest)

pub list_elements : (around : Around) (are_characters : Bool) (span : Span) (items : List Initialiser)
    → elements_in around are_characters (initialiser.List span items) ≡ Some (elements_of_list around are_characters items)
list_elements around are_characters span items =
    ap Some (element_rows around are_characters (i.hidden-the_row-Initialiser-0 items)
    ∙ ap (elements_of_list around are_characters) (i.items_hidden-the_row-Initialiser-0 items))

-- ---- a list breaks no rule itself: what is broken in it is an earlier construct's

next_settled : {A B : Type 0} (c : Checked A) (go : State → A → Checked B) → ((s : State) (x : A) → inner (go s x) ≡ go s x) → inner (next c go) ≡ next c go
next_settled (Fine s x) go h = h s x
next_settled (Breaks broken s known) go h = refl
next_settled (Broke broken) go h = refl

look_settled : (around : Around) (s : State) (items : List Initialiser) → inner (look_list around s items) ≡ look_list around s items
look_settled around s [] = refl
look_settled around s (item ∷ rest) = next_settled (looked_at around s item) (λ s g. look_list around s rest) (λ s g. look_settled around s rest)

pub fill_settled : (around : Around) (t : Target) (s : State) (parts : List PartAt) (items : List Initialiser) → inner (fill_list around t s parts items) ≡ fill_list around t s parts items
fill_settled around t s parts [] = refl
fill_settled around t s [] (item ∷ rest) = look_settled around s (item ∷ rest)
fill_settled around t s (p ∷ parts) (item ∷ rest) =
    let more = λ (g : Given) (s : State) (h : Given). Fine s (then_given g h) in
    next_settled _ (λ (s : State) (g : Given). next (fill_list around t s parts rest) (more g))
    (λ s g. next_settled (fill_list around t s parts rest) (more g) (λ s h. refl))

-- ---- the parts that count, and the first of them

pub fill_taken : (around : Around) (t : Target) (s : State) (parts : List PartAt) (items : List Initialiser) → fill_list around t s (take (length items) parts) items ≡ fill_list around t s parts items
fill_taken around t s parts [] = refl
fill_taken around t s [] (item ∷ rest) = refl
fill_taken around t s (p ∷ parts) (item ∷ rest) =
    next_same _ _ _ (λ s g. ap (λ c. next c (λ s more. Fine s (then_given g more))) (fill_taken around t s parts rest))

without_parts : (around : Around) (t : Target) (s : State) (items : List Initialiser) → fill_list around t s [] items ≡ look_list around s items
without_parts around t s [] = refl
without_parts around t s (item ∷ rest) = refl

looked_first : (around : Around) (t : Target) (c : Checked Given) (rest : List Initialiser)
    → next c (λ s g. look_list around s rest)
    ≡ next (next c (λ s g. Fine s nothing_given)) (λ s g. next (fill_list around t s [] rest) (λ s more. Fine s (then_given g more)))
looked_first around t (Fine s g) rest = sym (ap inner (without_parts around t s rest) ∙ look_settled around s rest)
looked_first around t (Breaks broken s known) rest = refl
looked_first around t (Broke broken) rest = refl

fill_first : (around : Around) (t : Target) (s : State) (parts : List PartAt) (item : Initialiser) (rest : List Initialiser)
    → fill_list around t s parts (item ∷ rest)
    ≡ next (item_filled around t s (slice_get parts 0) item) (λ s g. next (fill_list around t s (drop 1 parts) rest) (λ s more. Fine s (then_given g more)))
fill_first around t s [] item rest = looked_first around t (looked_at around s item) rest
fill_first around t s (p ∷ parts) item rest = refl

first_at : {A : Type 0} (xs : List A) (i : ℕ) → slice_get (drop i xs) 0 ≡ slice_get xs i
first_at xs zero = refl
first_at [] (suc i) = refl
first_at (x ∷ xs) (suc i) = first_at xs i

-- an item and the part at its index, and then the rest of both
pub fill_at : (around : Around) (t : Target) (s : State) (parts : List PartAt) (index : ℕ) (item : Initialiser) (rest : List Initialiser)
    → fill_list around t s (drop index parts) (item ∷ rest)
    ≡ next (item_filled around t s (slice_get parts index) item) (λ s g. next (fill_list around t s (drop (index + 1) parts) rest) (λ s more. Fine s (then_given g more)))
fill_at around t s parts index item rest =
    let after = λ (left : List PartAt) (s : State) (g : Given). next (fill_list around t s left rest) (λ s more. Fine s (then_given g more)) in
    fill_first around t s (drop index parts) item rest
    ∙ ap (λ (p : Option PartAt). next (item_filled around t s p item) (after (drop 1 (drop index parts)))) (first_at parts index)
    ∙ ap (λ (left : List PartAt). next (item_filled around t s (slice_get parts index) item) (after left)) (drop-drop 1 index parts)
