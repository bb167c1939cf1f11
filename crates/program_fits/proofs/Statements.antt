-- What a statement keeps and needs, at the constructors by which Rust sees it: rows as lists.
use Rattle.std.proofs.Common.{◌≡◌, ℕ, suc, ◌≤◌, ◌↔◌, max, List, length, All, refl, sym, ap, ◌∙◌, subst, arith}
use Rattle.std.proofs.lemmas.List.Elements.{All-nil, All-cons, All-head, All-tail}
use Rattle.c_tree.specs.declared.expr.Expr.{Expr}
use Rattle.c_tree.specs.declared.stmt.LocalDef.{LocalDef}
use Rattle.c_tree.specs.declared.stmt.Case.{Case}
use Rattle.c_tree.specs.declared.stmt.Stmt.{Stmt, Block, If, Loop, Switch, Row_of-Stmt, end_of-Stmt, more_of-Stmt, items-the_row-Stmt}
use Rattle.c_tree.specs.declared.stmt.Stmt.TheBlock as b
use Rattle.c_tree.specs.Operands.{Outline, Context}
use Rattle.c_tree.specs.Fits.{ExprFits, StmtFits, StmtsFit, statements_in, LocalsFit, in_block, in_loop, behind_body, in_switch}
use Rattle.c_tree.specs.Temps.{temps_of, stmt_temps, stmts_temps}
use denote.Hole.Carrier
use Rattle.program_fits.specs.Parts.{BlockFits, HeadFits, StmtIsWithin}

-- ---- rows

count_list : {m : _} (k : Row_of-Stmt m) → statements_in k ≡ length (items-the_row-Stmt _ k)
count_list end_of-Stmt = refl
count_list (more_of-Stmt s rest) = ap suc (count_list rest)

statements_list : {m : _} (o : Outline) (here : Context) (k : Row_of-Stmt m) → StmtsFit o here k ↔ All (StmtFits o here) (items-the_row-Stmt _ k)
statements_list o here end_of-Stmt = (λ _. All-nil (StmtFits o here), λ _. tt)
statements_list o here (more_of-Stmt s rest) =
    let l = items-the_row-Stmt _ rest in (
      λ h. All-cons (StmtFits o here) s l h.0 ((statements_list o here rest).0 h.1),
      λ h. (All-head (StmtFits o here) s l h, (statements_list o here rest).1 (All-tail (StmtFits o here) s l h)),
    )

within_list : {m : _} (k : Row_of-Stmt m) (limit : ℕ) → (stmts_temps k ≤ limit) ↔ All (StmtIsWithin limit) (items-the_row-Stmt _ k)
within_list end_of-Stmt limit = (λ _. All-nil (StmtIsWithin limit), λ _. omega arith)
within_list (more_of-Stmt s rest) limit =
    let l = items-the_row-Stmt _ rest in (
      λ h.
          let both : max (stmt_temps s) (stmts_temps rest) ≤ limit = h in
          let first : stmt_temps s ≤ limit = omega arith in
          let left : stmts_temps rest ≤ limit = omega arith in
          All-cons (StmtIsWithin limit) s l first ((within_list rest limit).0 left),
      λ h.
          let first : stmt_temps s ≤ limit = All-head (StmtIsWithin limit) s l h in
          let left : stmts_temps rest ≤ limit = (within_list rest limit).1 (All-tail (StmtIsWithin limit) s l h) in
          let both : max (stmt_temps s) (stmts_temps rest) ≤ limit = omega arith in
          both,
    )

statements_hidden : (o : Outline) (here : Context) (l : List Stmt) → StmtsFit o here (b.hidden-the_row-Stmt-0 l) ↔ All (StmtFits o here) l
statements_hidden o here l =
    subst (λ (x : List Stmt). StmtsFit o here (b.hidden-the_row-Stmt-0 l) ↔ All (StmtFits o here) x) (b.items_hidden-the_row-Stmt-0 l)
    (statements_list o here (b.hidden-the_row-Stmt-0 l))

within_hidden : (l : List Stmt) (limit : ℕ) → (stmts_temps (b.hidden-the_row-Stmt-0 l) ≤ limit) ↔ All (StmtIsWithin limit) l
within_hidden l limit =
    subst (λ (x : List Stmt). (stmts_temps (b.hidden-the_row-Stmt-0 l) ≤ limit) ↔ All (StmtIsWithin limit) x) (b.items_hidden-the_row-Stmt-0 l)
    (within_list (b.hidden-the_row-Stmt-0 l) limit)

count_hidden : (l : List Stmt) → statements_in (b.hidden-the_row-Stmt-0 l) ≡ length l
count_hidden l = count_list (b.hidden-the_row-Stmt-0 l) ∙ ap length (b.items_hidden-the_row-Stmt-0 l)

-- ---- what a statement keeps

block_fits : (o : Outline) (here : Context) (locals : List LocalDef) (body : List Stmt) → StmtFits o here (Block locals body) ↔ BlockFits o here locals body
block_fits o here locals body = (
  λ h. (h.0, (statements_hidden o (in_block here locals) body).0 h.1),
  λ h. (h.0, (statements_hidden o (in_block here locals) body).1 h.1),
)

if_fits :
    (o : Outline) (here : Context) (line : ℕ) (test : Expr) (one other : Stmt) →
    StmtFits o here (If line test one other) ↔ (ExprFits o here test × (StmtFits o here one × StmtFits o here other))
unfolding b.hidden-the_row-Stmt-1 b.shape-the_row-Stmt-1 Carrier.hidden
if_fits o here line test one other = (λ h. h, λ h. h)

loop_fits :
    (o : Outline) (here : Context) (line : ℕ) (body next : Stmt) →
    StmtFits o here (Loop line body next) ↔ (StmtFits o (in_loop here) body × StmtFits o (behind_body here) next)
unfolding b.hidden-the_row-Stmt-1 b.shape-the_row-Stmt-1 Carrier.hidden
loop_fits o here line body next = (λ h. h, λ h. h)

switch_fits :
    (o : Outline) (here : Context) (line : ℕ) (value : Expr) (cases : List Case) (other : ℕ) (body : List Stmt) →
    StmtFits o here (Switch line value cases other body) ↔ (HeadFits o here value cases other (length body) × All (StmtFits o (in_switch here)) body)
switch_fits o here line value cases other body =
    let k = b.hidden-the_row-Stmt-0 body in
    let rest = statements_hidden o (in_switch here) body in (
      λ h. (
        subst (λ (n : ℕ). HeadFits o here value cases other n) (count_hidden body) (h.0, (h.1.0, h.1.1.0)),
        rest.0 h.1.1.1,
      ),
      λ h.
          let head : HeadFits o here value cases other (statements_in k) = subst (λ (n : ℕ). HeadFits o here value cases other n) (sym (count_hidden body)) h.0 in
          (head.0, (head.1.0, (head.1.1, rest.1 h.1))),
    )

-- ---- the same of what the code has in hand

view_at : (o : Outline) (here : Context) (s t : Stmt) {P : Type 0} → s ≡ t → StmtFits o here t ↔ P → StmtFits o here s ↔ P
view_at o here s t is view = (λ h. view.0 (subst (λ (x : Stmt). StmtFits o here x) is h), λ p. subst (λ (x : Stmt). StmtFits o here x) (sym is) (view.1 p))

pub block_view :
    (o : Outline) (here : Context) (locals defs : List LocalDef) (body items : List Stmt) (s : Stmt) → s ≡ Block locals body → defs ≡ locals → items ≡ body →
    StmtFits o here s ↔ BlockFits o here defs items
block_view o here locals defs body items s is same alike =
    view_at o here s (Block locals body) is
    (subst (λ (d : List LocalDef). StmtFits o here (Block locals body) ↔ BlockFits o here d items) (sym same)
    (subst (λ (x : List Stmt). StmtFits o here (Block locals body) ↔ BlockFits o here locals x) (sym alike) (block_fits o here locals body)))

pub if_view :
    (o : Outline) (here : Context) (line : ℕ) (test : Expr) (one other x y : Stmt) (s : Stmt) → s ≡ If line test one other → x ≡ one → y ≡ other →
    StmtFits o here s ↔ (ExprFits o here test × (StmtFits o here x × StmtFits o here y))
if_view o here line test one other x y s is same alike =
    view_at o here s (If line test one other) is
    (subst (λ (x : Stmt). StmtFits o here (If line test one other) ↔ (ExprFits o here test × (StmtFits o here x × StmtFits o here y))) (sym same)
    (subst (λ (y : Stmt). StmtFits o here (If line test one other) ↔ (ExprFits o here test × (StmtFits o here one × StmtFits o here y))) (sym alike)
    (if_fits o here line test one other)))

pub loop_view :
    (o : Outline) (here inside behind : Context) (line : ℕ) (body next x y : Stmt) (s : Stmt) → s ≡ Loop line body next → x ≡ body → y ≡ next →
    inside ≡ in_loop here → behind ≡ behind_body here → StmtFits o here s ↔ (StmtFits o inside x × StmtFits o behind y)
loop_view o here inside behind line body next x y s is same alike within after =
    view_at o here s (Loop line body next) is
    (subst (λ (c : Context). StmtFits o here (Loop line body next) ↔ (StmtFits o c x × StmtFits o behind y)) (sym within)
    (subst (λ (c : Context). StmtFits o here (Loop line body next) ↔ (StmtFits o (in_loop here) x × StmtFits o c y)) (sym after)
    (subst (λ (x : Stmt). StmtFits o here (Loop line body next) ↔ (StmtFits o (in_loop here) x × StmtFits o (behind_body here) y)) (sym same)
    (subst (λ (y : Stmt). StmtFits o here (Loop line body next) ↔ (StmtFits o (in_loop here) body × StmtFits o (behind_body here) y)) (sym alike)
    (loop_fits o here line body next)))))

pub switch_view :
    (o : Outline) (here inside : Context) (line : ℕ) (value : Expr) (cases goes : List Case) (other n : ℕ) (body items : List Stmt) (s : Stmt) →
    s ≡ Switch line value cases other body → goes ≡ cases → items ≡ body → n ≡ length items → inside ≡ in_switch here →
    StmtFits o here s ↔ (HeadFits o here value goes other n × All (StmtFits o inside) items)
switch_view o here inside line value cases goes other n body items s is same alike many within =
    let S = Switch line value cases other body in
    view_at o here s (Switch line value cases other body) is
    (subst (λ (c : Context). StmtFits o here S ↔ (HeadFits o here value goes other n × All (StmtFits o c) items)) (sym within)
    (subst (λ (n : ℕ). StmtFits o here S ↔ (HeadFits o here value goes other n × All (StmtFits o (in_switch here)) items)) (sym many)
    (subst (λ (g : List Case). StmtFits o here S ↔ (HeadFits o here value g other (length items) × All (StmtFits o (in_switch here)) items)) (sym same)
    (subst (λ (x : List Stmt). StmtFits o here S ↔ (HeadFits o here value cases other (length x) × All (StmtFits o (in_switch here)) x)) (sym alike)
    (switch_fits o here line value cases other body)))))

pub switch_inside :
    (o : Outline) (here inside : Context) (value : Expr) (cases : List Case) (other : ℕ) (body : List Stmt) → inside ≡ in_switch here →
    (HeadFits o here value cases other (length body) × All (StmtFits o (in_switch here)) body)
    ↔ (HeadFits o here value cases other (length body) × All (StmtFits o inside) body)
switch_inside o here inside value cases other body is = (
  λ h. (h.0, subst (λ (c : Context). All (StmtFits o c) body) (sym is) h.1),
  λ h. (h.0, subst (λ (c : Context). All (StmtFits o c) body) is h.1),
)

pub block_inside :
    (o : Outline) (here inside : Context) (locals : List LocalDef) (body : List Stmt) → LocalsFit here locals → inside ≡ in_block here locals →
    BlockFits o here locals body ↔ All (StmtFits o inside) body
block_inside o here inside locals body fits is = (
  λ h. subst (λ (c : Context). All (StmtFits o c) body) (sym is) h.1,
  λ all. (fits, subst (λ (c : Context). All (StmtFits o c) body) is all),
)

-- ---- what a statement needs

with_two : (n k limit : ℕ) (P Q : Type 0) → (n ≤ limit) ↔ P → (k ≤ limit) ↔ Q → (max n k ≤ limit) ↔ (P × Q)
with_two n k limit P Q one two = (
  λ h.
      let first : n ≤ limit = omega (arith, h) in
      let second : k ≤ limit = omega (arith, h) in
      (one.0 first, two.0 second),
  λ h.
      let first : n ≤ limit = one.1 h.0 in
      let second : k ≤ limit = two.1 h.1 in
      omega arith,
)

itself : (P : Type 0) → P ↔ P
itself P = (λ p. p, λ p. p)

if_within :
    (limit line : ℕ) (test : Expr) (one other : Stmt) →
    StmtIsWithin limit (If line test one other) ↔ ((temps_of test ≤ limit) × (StmtIsWithin limit one × StmtIsWithin limit other))
unfolding b.hidden-the_row-Stmt-1 b.shape-the_row-Stmt-1 Carrier.hidden
if_within limit line test one other =
    with_two (temps_of test) (max (stmt_temps one) (stmt_temps other)) limit (temps_of test ≤ limit) (StmtIsWithin limit one × StmtIsWithin limit other)
    (itself (temps_of test ≤ limit))
    (with_two (stmt_temps one) (stmt_temps other) limit (StmtIsWithin limit one) (StmtIsWithin limit other) (itself (StmtIsWithin limit one))
    (itself (StmtIsWithin limit other)))

loop_within : (limit line : ℕ) (body next : Stmt) → StmtIsWithin limit (Loop line body next) ↔ (StmtIsWithin limit body × StmtIsWithin limit next)
unfolding b.hidden-the_row-Stmt-1 b.shape-the_row-Stmt-1 Carrier.hidden
loop_within limit line body next =
    with_two (stmt_temps body) (stmt_temps next) limit (StmtIsWithin limit body) (StmtIsWithin limit next) (itself (StmtIsWithin limit body))
    (itself (StmtIsWithin limit next))

switch_within :
    (limit line : ℕ) (value : Expr) (cases : List Case) (other : ℕ) (body : List Stmt) →
    StmtIsWithin limit (Switch line value cases other body) ↔ ((temps_of value ≤ limit) × All (StmtIsWithin limit) body)
switch_within limit line value cases other body =
    with_two (temps_of value) (stmts_temps (b.hidden-the_row-Stmt-0 body)) limit (temps_of value ≤ limit) (All (StmtIsWithin limit) body)
    (itself (temps_of value ≤ limit)) (within_hidden body limit)

needs_at : (limit : ℕ) (s t : Stmt) {P : Type 0} → s ≡ t → StmtIsWithin limit t ↔ P → StmtIsWithin limit s ↔ P
needs_at limit s t is view =
    (λ h. view.0 (subst (λ (x : Stmt). StmtIsWithin limit x) is h), λ p. subst (λ (x : Stmt). StmtIsWithin limit x) (sym is) (view.1 p))

pub block_room :
    (limit : ℕ) (locals : List LocalDef) (body items : List Stmt) (s : Stmt) → s ≡ Block locals body → items ≡ body →
    StmtIsWithin limit s ↔ All (StmtIsWithin limit) items
block_room limit locals body items s is same =
    needs_at limit s (Block locals body) is
    (subst (λ (x : List Stmt). StmtIsWithin limit (Block locals body) ↔ All (StmtIsWithin limit) x) (sym same) (within_hidden body limit))

pub if_room :
    (limit line : ℕ) (test : Expr) (one other x y : Stmt) (s : Stmt) → s ≡ If line test one other → x ≡ one → y ≡ other →
    StmtIsWithin limit s ↔ ((temps_of test ≤ limit) × (StmtIsWithin limit x × StmtIsWithin limit y))
if_room limit line test one other x y s is same alike =
    needs_at limit s (If line test one other) is
    (subst (λ (x : Stmt). StmtIsWithin limit (If line test one other) ↔ ((temps_of test ≤ limit) × (StmtIsWithin limit x × StmtIsWithin limit y))) (sym same)
    (subst (λ (y : Stmt). StmtIsWithin limit (If line test one other) ↔ ((temps_of test ≤ limit) × (StmtIsWithin limit one × StmtIsWithin limit y))) (sym alike)
    (if_within limit line test one other)))

pub loop_room :
    (limit line : ℕ) (body next x y : Stmt) (s : Stmt) → s ≡ Loop line body next → x ≡ body → y ≡ next →
    StmtIsWithin limit s ↔ (StmtIsWithin limit x × StmtIsWithin limit y)
loop_room limit line body next x y s is same alike =
    needs_at limit s (Loop line body next) is
    (subst (λ (x : Stmt). StmtIsWithin limit (Loop line body next) ↔ (StmtIsWithin limit x × StmtIsWithin limit y)) (sym same)
    (subst (λ (y : Stmt). StmtIsWithin limit (Loop line body next) ↔ (StmtIsWithin limit body × StmtIsWithin limit y)) (sym alike)
    (loop_within limit line body next)))

pub switch_room :
    (limit line : ℕ) (value : Expr) (cases : List Case) (other : ℕ) (body items : List Stmt) (s : Stmt) → s ≡ Switch line value cases other body → items ≡ body →
    StmtIsWithin limit s ↔ ((temps_of value ≤ limit) × All (StmtIsWithin limit) items)
switch_room limit line value cases other body items s is same =
    needs_at limit s (Switch line value cases other body) is
    (subst (λ (x : List Stmt). StmtIsWithin limit (Switch line value cases other body) ↔ ((temps_of value ≤ limit) × All (StmtIsWithin limit) x)) (sym same)
    (switch_within limit line value cases other body))
