-- Statements at the constructors by which Rust sees a tree: rows as lists, and what stands under a statement as a statement.
use Rattle.std.proofs.Common.{◌≡◌, ℕ, ◌+◌, ◌<◌, ◌≤◌, List, [], ◌∷◌, ◌++◌, length, get_or, drop, refl, sym, ap, ap₂, ◌∙◌, subst}
use Rattle.std.specs.Prelude.{Option, Some, None, Err}
use Rattle.std.proofs.lemmas.List.{at_drop_all, at_drop_more}
use denote.Hole.Carrier
use Rattle.filc_num.specs.declared.c_int_type.CIntType.{CIntType}
use Rattle.c_parts.specs.declared.span.Span.{Span}
use Rattle.c_syntax.specs.declared.expr.Expr.{Expr}
use Rattle.c_syntax.specs.declared.file.Block.{Block, Row_of-BlockItem, end_of-BlockItem, more_of-BlockItem, items-the_row-BlockItem}
use Rattle.c_syntax.specs.declared.file.BlockItem.TheBlock as b
use Rattle.c_syntax.specs.declared.file.BlockItem.TheVariants as item
use Rattle.c_syntax.specs.declared.file.ForStart.{ForStart}
use Rattle.c_syntax.specs.declared.file.Statement.{Statement, out-Statement}
use Rattle.c_syntax.specs.declared.file.StatementKind.{StatementKind, Row_of-SwitchItem, end_of-SwitchItem, more_of-SwitchItem, items-the_row-SwitchItem}
use Rattle.c_syntax.specs.declared.file.StatementKind.TheVariants as kind
use Rattle.c_syntax.specs.declared.file.SwitchItem.{SwitchItem}
use Rattle.c_syntax.specs.declared.file.SwitchItem.TheVariants as switch
use Rattle.c_tree.specs.declared.expr.Expr.{Expr as Tree}
use Rattle.c_tree.specs.declared.stmt.Stmt.{Stmt}
use Rattle.c_tree.specs.declared.stmt.Stmt.TheVariants as stmt
use Rattle.c_expr_rules.specs.Contexts.{condition, switch_value}
use Rattle.c_expr_rules.specs.Operators.{kind_in}
use Rattle.c_expr_rules.specs.Outcomes.{State, Checked, Fine, next}
use Rattle.c_expr_rules.specs.TypedExpressions.{tree_of}
use Rattle.c_tree.specs.declared.stmt.LocalDef.{LocalDef}
use Rattle.c_expr_rules.specs.declared.found.Fault.{Fault}
use Rattle.c_expr_rules.specs.declared.typed.Typed.{Typed}
use Rattle.c_expr_rules.specs.Views.{Passes}
use Rattle.c_check_expr.proofs.Outcomes.{Fails, next_same, next_goes, behind_passed, fails_at}
use Rattle.c_file_rules.specs.Switching.{switch_statement}
use Rattle.c_file_rules.specs.Constructs.{Here}
use Rattle.c_file_rules.specs.Naming.{in_scope, out_of_scope, leaves, scoped}
use Rattle.c_file_rules.specs.Statements.{in_loop, in_switch, nothing_done, with_locals, block_of, block_with, tested, start_done, optionally_tested, optional_run, nothing_switched, with_statements, with_switch_local, set_local, switch_on, statement_checked, items_checked, item_checked, switch_checked, switched}
use Rattle.c_file_rules.specs.declared.jumps.Inside.{Inside}
use Rattle.c_file_rules.specs.declared.switches.Switched.{Switched}
use Rattle.c_statements.specs.Waiting.{test_of, unless_of, statement_loop, block_left}
use Rattle.c_statements.proofs.Blocked.{block_ends, block_fails}
use Rattle.c_statements.proofs.Steps.{next_next, next_fails}
use Rattle.c_statements.specs.StatementLists.{item_list, switch_list, one_statement, statement_under, kind_of, items_in}

-- ---- rows

pub items_rows :
    {m : _} (here : Here) (i : Inside) (s : State) (k : Row_of-BlockItem m) →
    items_checked here i s k ≡ item_list here i s (items-the_row-BlockItem _ k)
items_rows here i s end_of-BlockItem = refl
items_rows here i s (more_of-BlockItem x rest) =
    next_same _ _ _ (λ s first. ap (λ c. next c (λ s more. Fine s (first ++ more))) (items_rows here i s rest))

pub switch_rows :
    {m : _} (here : Here) (i : Inside) (k : CIntType) (s : State) (w : Switched) (r : Row_of-SwitchItem m) →
    switch_checked here i k s w r ≡ switch_list here i k s w (items-the_row-SwitchItem _ r)
switch_rows here i k s w end_of-SwitchItem = refl
switch_rows here i k s w (more_of-SwitchItem x rest) = next_same _ _ _ (λ s w. switch_rows here i k s w rest)

-- ---- statements

pub of_kind :
    (here : Here) (i : Inside) (s : State) (x : Statement) (k : StatementKind) → kind_of x ≡ k →
    one_statement here i s x ≡ statement_checked here i s (out-Statement x).span k
of_kind here i s x k h = ap (λ (k : StatementKind). statement_checked here i s (out-Statement x).span k) h

pub block_is :
    (here : Here) (i : Inside) (s : State) (span : Span) (x : Block) →
    statement_checked here i s span (kind.Block x) ≡ block_with here s (λ s. item_list here i s x.items)
block_is here i s span x =
    let inside = in_scope (with_locals [] s) in
    ap (λ c. next (leaves c) (λ after statements. block_of s.above.locals after statements))
    (items_rows here i inside (b.hidden-the_row-BlockItem-0 x.items)
    ∙ ap (item_list here i inside) (b.items_hidden-the_row-BlockItem-0 x.items))

-- a condition, and then the rest by its tree
test_first :
    {A : Type 0} (here : Here) (s : State) (e : Expr) (go : State → Tree → Checked A) →
    next (condition here.around s e) (λ s t. go s (tree_of t.made)) ≡ next (test_of here s e) go
test_first here s e go = sym (next_next (condition here.around s e) (λ s t. Fine s (tree_of t.made)) go)

unless_first :
    {A : Type 0} (here : Here) (s : State) (e : Expr) (go : State → Stmt → Checked A) →
    next (condition here.around s e) (λ s t. go s (stmt.BreakUnless e.span.line (tree_of t.made))) ≡ next (unless_of here s e) go
unless_first here s e go =
    test_first here s e (λ s test. go s (stmt.BreakUnless e.span.line test))
    ∙ sym (next_next (test_of here s e) (λ s test. Fine s (stmt.BreakUnless e.span.line test)) go)

pub tested_is : (here : Here) (s : State) (e : Expr) → tested here s e ≡ next (unless_of here s e) (λ s test. Fine s (test ∷ []))
tested_is here s e = unless_first here s e (λ s test. Fine s (test ∷ []))

if_is :
    (here : Here) (i : Inside) (s : State) (span : Span) (e : Expr) (one : Statement) →
    statement_checked here i s span (kind.If e one None)
    ≡ scoped s (λ s. next (test_of here s e) (λ s test.
    next (statement_under here i s one) (λ s one. Fine s (stmt.If span.line test one nothing_done))))
unfolding b.hidden-the_row-Statement-1 b.shape-the_row-Statement-1 Carrier.hidden
if_is here i s span e one =
    ap leaves (test_first here (in_scope s) e (λ s test.
    next (statement_under here i s one) (λ s one. Fine s (stmt.If span.line test one nothing_done))))

else_is :
    (here : Here) (i : Inside) (s : State) (span : Span) (e : Expr) (one other : Statement) →
    statement_checked here i s span (kind.If e one (Some other))
    ≡ scoped s (λ s. next (test_of here s e) (λ s test.
    next (statement_under here i s one) (λ s one.
    next (statement_under here i s other) (λ s other. Fine s (stmt.If span.line test one other)))))
unfolding b.hidden-the_row-Statement-1 b.shape-the_row-Statement-1 Carrier.hidden
else_is here i s span e one other =
    ap leaves (test_first here (in_scope s) e (λ s test.
    next (statement_under here i s one) (λ s one.
    next (statement_under here i s other) (λ s other. Fine s (stmt.If span.line test one other)))))

-- what stands in a scope of each kind of statement
abbrev pub choice_rest : Here → Inside → (line : ℕ) → Tree → Stmt → Option Statement → State → Checked Stmt
choice_rest here i line test one None s = Fine s (stmt.If line test one nothing_done)
choice_rest here i line test one (Some other) s =
    next (statement_under here i s other) (λ s other. Fine s (stmt.If line test one other))

abbrev pub choice_inside : Here → Inside → (line : ℕ) → Expr → Statement → Option Statement → State → Checked Stmt
choice_inside here i line e one o s =
    next (test_of here s e) (λ s test. next (statement_under here i s one) (λ s one. choice_rest here i line test one o s))

pub choice_is :
    (here : Here) (i : Inside) (s : State) (span : Span) (e : Expr) (one : Statement) (o : Option Statement) →
    statement_checked here i s span (kind.If e one o) ≡ scoped s (choice_inside here i span.line e one o)
choice_is here i s span e one None = if_is here i s span e one
choice_is here i s span e one (Some other) = else_is here i s span e one other

abbrev pub while_inside : Here → Inside → (line : ℕ) → Expr → Statement → State → Checked Stmt
while_inside here w line e body s =
    next (tested here s e) (λ s test. next (statement_under here w s body) (λ s body. Fine s (statement_loop line test body [])))

abbrev pub do_inside : Here → Inside → (line : ℕ) → Statement → Expr → State → Checked Stmt
do_inside here w line body e s =
    next (statement_under here w s body) (λ s body. next (unless_of here s e) (λ s test. Fine s (stmt.Loop line body test)))

abbrev pub for_inside : Here → Inside → (line : ℕ) → ForStart → (test step : Option Expr) → Statement → State → Checked (List Stmt)
for_inside here w line start test step body s =
    next (start_done here s start) (λ s first. next (optionally_tested here s test) (λ s test. next (optional_run here s step) (λ s step.
    next (statement_under here w s body) (λ s body. Fine s (first ++ statement_loop line test body step ∷ [])))))

abbrev pub switch_block : Here → Inside → (line : ℕ) → CIntType → (local : ℕ) → List SwitchItem → State → Checked (List Stmt)
switch_block here w line k local items s =
    next (switch_list here w k s nothing_switched items) (λ s w. switch_on line local k s w)

abbrev pub switch_inside : Here → Inside → (line : ℕ) → Expr → List SwitchItem → State → Checked Stmt
switch_inside here w line e items s =
    next (switch_value here.around s e) (λ s t.
    next (block_with here (with_switch_local s) (switch_block here w line (kind_in t) s.above.next_local items)) (λ u block.
    Fine u (stmt.Block [] (set_local e.span.line s.above.next_local (tree_of t.made) ∷ block ∷ []))))

-- in a loop, or in a switch
pub while_is :
    (here : Here) (i w : Inside) (s : State) (span : Span) (e : Expr) (body : Statement) → w ≡ in_loop i →
    statement_checked here i s span (kind.While e body) ≡ scoped s (while_inside here w span.line e body)
unfolding b.hidden-the_row-Statement-1 b.shape-the_row-Statement-1 Carrier.hidden
while_is here i w s span e body h = ap (λ (j : Inside). scoped s (while_inside here j span.line e body)) (sym h)

pub do_is :
    (here : Here) (i w : Inside) (s : State) (span : Span) (body : Statement) (e : Expr) → w ≡ in_loop i →
    statement_checked here i s span (kind.Do body e) ≡ scoped s (do_inside here w span.line body e)
unfolding b.hidden-the_row-Statement-1 b.shape-the_row-Statement-1 Carrier.hidden
do_is here i w s span body e h =
    ap leaves (next_same (statement_under here (in_loop i) (in_scope s) body)
    (λ s body. next (condition here.around s e) (λ s t. Fine s (stmt.Loop span.line body (stmt.BreakUnless e.span.line (tree_of t.made)))))
    (λ s body. next (unless_of here s e) (λ s test. Fine s (stmt.Loop span.line body test)))
    (λ s body. unless_first here s e (λ s test. Fine s (stmt.Loop span.line body test))))
    ∙ ap (λ (j : Inside). scoped s (do_inside here j span.line body e)) (sym h)

pub for_is :
    (here : Here) (i w : Inside) (s : State) (span : Span) (start : ForStart) (test step : Option Expr) (body : Statement) → w ≡ in_loop i →
    statement_checked here i s span (kind.For start test step body) ≡ block_with here s (for_inside here w span.line start test step body)
unfolding b.hidden-the_row-Statement-1 b.shape-the_row-Statement-1 Carrier.hidden
for_is here i w s span start test step body h =
    ap (λ (j : Inside). block_with here s (for_inside here j span.line start test step body)) (sym h)

pub switch_is :
    (here : Here) (i w : Inside) (s : State) (span : Span) (e : Expr) (items : List SwitchItem) → w ≡ in_switch i →
    statement_checked here i s span (kind.Switch e items) ≡ scoped s (switch_inside here w span.line e items)
switch_is here i w s span e items h =
    ap leaves (next_same (switch_value here.around (in_scope s) e) _ _ (λ s t.
    let local = s.above.next_local in
    let inside = in_scope (with_locals [] (with_switch_local s)) in
    ap (λ (c : Checked Switched). next (next (leaves (next c (λ s w. switch_on span.line local (kind_in t) s w)))
    (λ after statements. block_of s.above.locals after statements))
    (λ s block. Fine s (stmt.Block [] (set_local e.span.line local (tree_of t.made) ∷ block ∷ []))))
    (switch_rows here (in_switch i) (kind_in t) inside nothing_switched (b.hidden-the_row-SwitchItem-2 items)
    ∙ ap (switch_list here (in_switch i) (kind_in t) inside nothing_switched) (b.items_hidden-the_row-SwitchItem-2 items))))
    ∙ ap (λ (j : Inside). scoped s (switch_inside here j span.line e items)) (sym h)

-- the items of a switch
pub items_are : (x : Statement) (e : Expr) (items : List SwitchItem) → kind_of x ≡ kind.Switch e items → items ≡ items_in (kind_of x)
items_are x e items h = sym (ap items_in h ∙ b.items_hidden-the_row-SwitchItem-2 items)

-- ---- items

pub statement_item_is :
    (here : Here) (i : Inside) (s : State) (x : Statement) →
    item_checked here i s (item.Statement x) ≡ next (one_statement here i s x) (λ s done. Fine s (done ∷ []))
statement_item_is here i s x = refl

pub statement_case_is :
    (here : Here) (i : Inside) (k : CIntType) (s : State) (w : Switched) (x : Statement) →
    switched here i k s w (switch.Statement x)
    ≡ next (one_statement here i s x) (λ s done. Fine s (with_statements (done ∷ []) w))
statement_case_is here i k s w x = refl

-- ---- what stands in a switch, of which this is left

module _ (here : Here) (i : Inside) (k : CIntType) where
  case_at : (s : State) (w : Switched) (xs : List SwitchItem) (n : ℕ) (x d : SwitchItem) → n < length xs → x ≡ get_or xs n d →
      switch_list here i k s w (drop n xs) ≡ next (switched here i k s w x) (λ s w. switch_list here i k s w (drop (n + 1) xs))
  case_at s w xs n x d within is =
      at_drop_more (λ (l : List SwitchItem). switch_list here i k s w l) xs n d within
      ∙ ap (λ (y : SwitchItem). switch_list here i k s w (y ∷ drop (n + 1) xs)) (sym is)

  pub cases_go :
      (s t : State) (w v : Switched) (xs : List SwitchItem) (n : ℕ) (x d : SwitchItem) → n < length xs → x ≡ get_or xs n d → switched here i k s w x ≡ Fine t v →
      switch_list here i k s w (drop n xs) ≡ switch_list here i k t v (drop (n + 1) xs)
  cases_go s t w v xs n x d within is found =
      case_at s w xs n x d within is ∙ next_goes (switched here i k s w x) (λ s w. switch_list here i k s w (drop (n + 1) xs)) t v found

  pub cases_fail :
      (s t : State) (w : Switched) (xs : List SwitchItem) (n : ℕ) (x d : SwitchItem) (f : Fault) → n < length xs → x ≡ get_or xs n d →
      Passes {A = Switched} t (Err f) (switched here i k s w x) → Fails f (switch_list here i k s w (drop n xs))
  cases_fail s t w xs n x d f within is found =
      fails_at f (switch_list here i k s w (drop n xs)) (next (switched here i k s w x) (λ s w. switch_list here i k s w (drop (n + 1) xs))) (case_at s w xs n x d within is)
      (behind_passed t f (switched here i k s w x) (λ s w. switch_list here i k s w (drop (n + 1) xs)) found)

  pub cases_end : (s : State) (w : Switched) (xs : List SwitchItem) (n : ℕ) → length xs ≤ n → switch_list here i k s w (drop n xs) ≡ Fine s w
  cases_end s w xs n past = at_drop_all (λ (l : List SwitchItem). switch_list here i k s w l) xs n past

-- ---- a switch, by what was found of each part of it

pub switch_goes :
    (here : Here) (w : Inside) (line local : ℕ) (e : Expr) (items : List SwitchItem) (s t two begun u after : State) (typed : Typed) (k : CIntType) (body : Switched)
    (done : List Stmt) (block made : Stmt) (locals : List LocalDef) →
    switch_value here.around s e ≡ Fine t typed → local ≡ t.above.next_local → two ≡ with_switch_local t → k ≡ kind_in typed →
    begun ≡ in_scope (with_locals [] two) → switch_list here w k begun nothing_switched items ≡ Fine u body → done ≡ switch_statement line local k body ∷ [] →
    after ≡ with_locals locals (out_of_scope u) → locals ≡ two.above.locals → block ≡ block_left u done →
    made ≡ stmt.Block [] (set_local e.span.line local (tree_of typed.made) ∷ block ∷ []) →
    switch_inside here w line e items s ≡ Fine after made
switch_goes here w line local e items s t two begun u after typed k body done block made locals found l q kinds b gone d a ls bl m =
    let in_block = switch_block here w line (kind_in typed) t.above.next_local items in
    let behind = λ (v : State) (block : Stmt). Fine v (stmt.Block [] (set_local e.span.line t.above.next_local (tree_of typed.made) ∷ block ∷ [])) in
    let begins : in_scope (with_locals [] (with_switch_local t)) ≡ begun = sym (b ∙ ap (λ (v : State). in_scope (with_locals [] v)) q) in
    let listed : switch_list here w (kind_in typed) begun nothing_switched items ≡ Fine u body =
    ap (λ (k : CIntType). switch_list here w k begun nothing_switched items) (sym kinds) ∙ gone in
    let all : in_block (in_scope (with_locals [] (with_switch_local t))) ≡ Fine u done =
    ap in_block begins
    ∙ next_goes (switch_list here w (kind_in typed) begun nothing_switched items) (λ s w. switch_on line t.above.next_local (kind_in typed) s w) u body listed
    ∙ ap (λ (xs : List Stmt). Fine u xs) (sym (d ∙ ap₂ (λ (l : ℕ) (k : CIntType). switch_statement line l k body ∷ []) l kinds)) in
    next_goes (switch_value here.around s e) _ t typed found
    ∙ next_goes (block_with here (with_switch_local t) in_block) behind after block
    (block_ends here (with_switch_local t) u after in_block done block all
    (a ∙ ap (λ (ls : List LocalDef). with_locals ls (out_of_scope u)) (ls ∙ ap (λ (v : State). v.above.locals) q)) bl)
    ∙ ap (λ (y : Stmt). Fine after y) (sym (m ∙ ap (λ (l : ℕ). stmt.Block [] (set_local e.span.line l (tree_of typed.made) ∷ block ∷ [])) l))

-- the same where something in it breaks a rule
pub switch_stops :
    (here : Here) (w : Inside) (line : ℕ) (e : Expr) (items : List SwitchItem) (s t two begun v : State) (typed : Typed) (k : CIntType) (f : Fault) →
    switch_value here.around s e ≡ Fine t typed → two ≡ with_switch_local t → k ≡ kind_in typed → begun ≡ in_scope (with_locals [] two) →
    Passes {A = Switched} v (Err f) (switch_list here w k begun nothing_switched items) → Fails f (switch_inside here w line e items s)
switch_stops here w line e items s t two begun v typed k f found q kinds b gone =
    let in_block = switch_block here w line (kind_in typed) t.above.next_local items in
    let behind = λ (v : State) (block : Stmt). Fine v (stmt.Block [] (set_local e.span.line t.above.next_local (tree_of typed.made) ∷ block ∷ [])) in
    let begins : in_scope (with_locals [] (with_switch_local t)) ≡ begun = sym (b ∙ ap (λ (v : State). in_scope (with_locals [] v)) q) in
    let listed = switch_list here w (kind_in typed) begun nothing_switched items in
    fails_at f (switch_inside here w line e items s) (next (block_with here (with_switch_local t) in_block) behind)
    (next_goes (switch_value here.around s e) _ t typed found)
    (next_fails f (block_with here (with_switch_local t) in_block) behind
    (block_fails here (with_switch_local t) in_block f
    (fails_at f (in_block (in_scope (with_locals [] (with_switch_local t)))) (in_block begun) (ap in_block begins)
    (behind_passed v f listed (λ s w. switch_on line t.above.next_local (kind_in typed) s w)
    (subst (λ (k : CIntType). Passes {A = Switched} v (Err f) (switch_list here w k begun nothing_switched items)) kinds gone)))))
