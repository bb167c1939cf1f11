-- What an expression keeps, at the constructors by which Rust sees it: rows as lists.
use Rattle.std.proofs.Common.{◌≡◌, ℕ, suc, ◌<◌, ◌↔◌, List, length, All, Bool, sym, ap, ◌∙◌, subst, refl}
use Rattle.std.proofs.lemmas.List.Elements.{All-nil, All-cons, All-head, All-tail}
use Rattle.c_tree.specs.declared.operation.Operation.{Operation}
use Rattle.c_tree.specs.declared.operation.Piece.{Piece}
use Rattle.c_tree.specs.declared.expr.Expr.{Expr, Apply, Chain, Logic, Choose, Print, Row_of-Expr, end_of-Expr, more_of-Expr, Row_of-Link, end_of-Link, more_of-Link, items-the_row-Expr, items-the_row-Link}
use Rattle.c_tree.specs.declared.expr.Link.{Link}
use Rattle.c_tree.specs.declared.expr.Expr.TheBlock as b
use Rattle.c_tree.specs.Operands.{Outline, Context, OpFits}
use Rattle.c_tree.specs.Fits.{count_of, PieceFits, ExprFits, OperandsFit, LinksFit}
use denote.Hole.Carrier
use Rattle.program_fits.specs.Lists.{LinkFits}

-- ---- rows

count_list : {m : _} (k : Row_of-Expr m) → count_of k ≡ length (items-the_row-Expr _ k)
count_list end_of-Expr = refl
count_list (more_of-Expr e rest) = ap suc (count_list rest)

operands_list : {m : _} (o : Outline) (here : Context) (k : Row_of-Expr m) → OperandsFit o here k ↔ All (ExprFits o here) (items-the_row-Expr _ k)
operands_list o here end_of-Expr = (λ _. All-nil (ExprFits o here), λ _. tt)
operands_list o here (more_of-Expr e rest) =
    let l = items-the_row-Expr _ rest in (
      λ h. All-cons (ExprFits o here) e l h.0 ((operands_list o here rest).0 h.1),
      λ h. (All-head (ExprFits o here) e l h, (operands_list o here rest).1 (All-tail (ExprFits o here) e l h)),
    )

links_list : {m : _} (o : Outline) (here : Context) (k : Row_of-Link m) → LinksFit o here k ↔ All (LinkFits o here) (items-the_row-Link _ k)
links_list o here end_of-Link = (λ _. All-nil (LinkFits o here), λ _. tt)
links_list o here (more_of-Link op z operands rest) =
    let l = b.shown-the_row-Expr-0 z operands in
    let same = b.items_shown-the_row-Expr-0 z operands in
    let many : count_of operands ≡ length l = count_list operands ∙ ap length (sym same) in
    let link : Link = record { op = op; operands = l } in
    let more = items-the_row-Link _ rest in (
      λ h. All-cons (LinkFits o here) link more
          (subst (λ (n : ℕ). OpFits o here op (suc n)) many h.0, subst (λ (x : List Expr). All (ExprFits o here) x) (sym same) ((operands_list o here operands).0 h.1.0))
          ((links_list o here rest).0 h.1.1),
      λ h. (
        subst (λ (n : ℕ). OpFits o here op (suc n)) (sym many) (All-head (LinkFits o here) link more h).0,
        (
          (operands_list o here operands).1 (subst (λ (x : List Expr). All (ExprFits o here) x) same (All-head (LinkFits o here) link more h).1),
          (links_list o here rest).1 (All-tail (LinkFits o here) link more h),
        ),
      ),
    )

count_hidden : (l : List Expr) → count_of (b.hidden-the_row-Expr-0 l) ≡ length l
count_hidden l = count_list (b.hidden-the_row-Expr-0 l) ∙ ap length (b.items_hidden-the_row-Expr-0 l)

operands_hidden : (o : Outline) (here : Context) (l : List Expr) → OperandsFit o here (b.hidden-the_row-Expr-0 l) ↔ All (ExprFits o here) l
operands_hidden o here l =
    let view = operands_list o here (b.hidden-the_row-Expr-0 l) in
    let same = b.items_hidden-the_row-Expr-0 l in (
      λ h. subst (λ (x : List Expr). All (ExprFits o here) x) same (view.0 h),
      λ h. view.1 (subst (λ (x : List Expr). All (ExprFits o here) x) (sym same) h),
    )

links_hidden : (o : Outline) (here : Context) (l : List Link) → LinksFit o here (b.hidden-the_row-Link-2 l) ↔ All (LinkFits o here) l
links_hidden o here l =
    let view = links_list o here (b.hidden-the_row-Link-2 l) in
    let same = b.items_hidden-the_row-Link-2 l in (
      λ h. subst (λ (x : List Link). All (LinkFits o here) x) same (view.0 h),
      λ h. view.1 (subst (λ (x : List Link). All (LinkFits o here) x) (sym same) h),
    )

-- ---- expressions

apply_fits :
    (o : Outline) (here : Context) (line : ℕ) (op : Operation) (l : List Expr) →
    ExprFits o here (Apply line op l) ↔ (OpFits o here op (length l) × All (ExprFits o here) l)
apply_fits o here line op l = (
  λ h. (subst (λ (n : ℕ). OpFits o here op n) (count_hidden l) h.0, (operands_hidden o here l).0 h.1),
  λ h. (subst (λ (n : ℕ). OpFits o here op n) (sym (count_hidden l)) h.0, (operands_hidden o here l).1 h.1),
)

chain_fits :
    (o : Outline) (here : Context) (line : ℕ) (first : Expr) (l : List Link) →
    ExprFits o here (Chain line first l) ↔ (ExprFits o here first × All (LinkFits o here) l)
unfolding b.hidden-the_row-Expr-1 b.shape-the_row-Expr-1 Carrier.hidden
chain_fits o here line first l = (λ h. (h.0, (links_hidden o here l).0 h.1), λ h. (h.0, (links_hidden o here l).1 h.1))

logic_fits :
    (o : Outline) (here : Context) (line : ℕ) (all : Bool) (l : List Expr) → ExprFits o here (Logic line all l) ↔ ((0 < length l) × All (ExprFits o here) l)
logic_fits o here line all l = (
  λ h. (subst (λ (n : ℕ). 0 < n) (count_hidden l) h.0, (operands_hidden o here l).0 h.1),
  λ h. (subst (λ (n : ℕ). 0 < n) (sym (count_hidden l)) h.0, (operands_hidden o here l).1 h.1),
)

choose_fits :
    (o : Outline) (here : Context) (line : ℕ) (test one other : Expr) →
    ExprFits o here (Choose line test one other) ↔ (ExprFits o here test × (ExprFits o here one × ExprFits o here other))
unfolding b.hidden-the_row-Expr-1 b.shape-the_row-Expr-1 Carrier.hidden
choose_fits o here line test one other = (λ h. h, λ h. h)

print_fits :
    (o : Outline) (here : Context) (line : ℕ) (l : List Expr) (pieces : List Piece) →
    ExprFits o here (Print line l pieces) ↔ ((0 < length l) × (All (ExprFits o here) l × All (PieceFits o (length l)) pieces))
print_fits o here line l pieces = (
  λ h. (
    subst (λ (n : ℕ). 0 < n) (count_hidden l) h.0,
    ((operands_hidden o here l).0 h.1.0, subst (λ (n : ℕ). All (PieceFits o n) pieces) (count_hidden l) h.1.1),
  ),
  λ h. (
    subst (λ (n : ℕ). 0 < n) (sym (count_hidden l)) h.0,
    ((operands_hidden o here l).1 h.1.0, subst (λ (n : ℕ). All (PieceFits o n) pieces) (sym (count_hidden l)) h.1.1),
  ),
)

-- ---- the same of what the code has in hand

view_at : (o : Outline) (here : Context) (e f : Expr) {P : Type 0} → e ≡ f → ExprFits o here f ↔ P → ExprFits o here e ↔ P
view_at o here e f is view = (λ h. view.0 (subst (λ (x : Expr). ExprFits o here x) is h), λ p. subst (λ (x : Expr). ExprFits o here x) (sym is) (view.1 p))

pub apply_view :
    (o : Outline) (here : Context) (line : ℕ) (op : Operation) (l items : List Expr) (n : ℕ) (e : Expr) → e ≡ Apply line op l → items ≡ l →
    n ≡ length items → ExprFits o here e ↔ (OpFits o here op n × All (ExprFits o here) items)
apply_view o here line op l items n e is same many =
    view_at o here e (Apply line op l) is
    (subst (λ (n : ℕ). ExprFits o here (Apply line op l) ↔ (OpFits o here op n × All (ExprFits o here) items)) (sym many)
    (subst (λ (x : List Expr). ExprFits o here (Apply line op l) ↔ (OpFits o here op (length x) × All (ExprFits o here) x)) (sym same)
    (apply_fits o here line op l)))

pub chain_view :
    (o : Outline) (here : Context) (line : ℕ) (first f : Expr) (l items : List Link) (e : Expr) → e ≡ Chain line first l → f ≡ first → items ≡ l →
    ExprFits o here e ↔ (ExprFits o here f × All (LinkFits o here) items)
chain_view o here line first f l items e is one same =
    view_at o here e (Chain line first l) is
    (subst (λ (x : Expr). ExprFits o here (Chain line first l) ↔ (ExprFits o here x × All (LinkFits o here) items)) (sym one)
    (subst (λ (x : List Link). ExprFits o here (Chain line first l) ↔ (ExprFits o here first × All (LinkFits o here) x)) (sym same)
    (chain_fits o here line first l)))

pub logic_view :
    (o : Outline) (here : Context) (line : ℕ) (all : Bool) (l items : List Expr) (n : ℕ) (e : Expr) → e ≡ Logic line all l → items ≡ l →
    n ≡ length items → ExprFits o here e ↔ ((0 < n) × All (ExprFits o here) items)
logic_view o here line all l items n e is same many =
    view_at o here e (Logic line all l) is
    (subst (λ (n : ℕ). ExprFits o here (Logic line all l) ↔ ((0 < n) × All (ExprFits o here) items)) (sym many)
    (subst (λ (x : List Expr). ExprFits o here (Logic line all l) ↔ ((0 < length x) × All (ExprFits o here) x)) (sym same)
    (logic_fits o here line all l)))

pub choose_view :
    (o : Outline) (here : Context) (line : ℕ) (test one other x y z : Expr) (e : Expr) → e ≡ Choose line test one other → x ≡ test → y ≡ one → z ≡ other →
    ExprFits o here e ↔ (ExprFits o here x × (ExprFits o here y × ExprFits o here z))
choose_view o here line test one other x y z e is a b c =
    view_at o here e (Choose line test one other) is
    (subst (λ (x : Expr). ExprFits o here (Choose line test one other) ↔ (ExprFits o here x × (ExprFits o here y × ExprFits o here z))) (sym a)
    (subst (λ (y : Expr). ExprFits o here (Choose line test one other) ↔ (ExprFits o here test × (ExprFits o here y × ExprFits o here z))) (sym b)
    (subst (λ (z : Expr). ExprFits o here (Choose line test one other) ↔ (ExprFits o here test × (ExprFits o here one × ExprFits o here z))) (sym c)
    (choose_fits o here line test one other))))

pub print_view :
    (o : Outline) (here : Context) (line : ℕ) (l items : List Expr) (pieces put : List Piece) (n k : ℕ) (e : Expr) → e ≡ Print line l pieces → items ≡ l →
    put ≡ pieces → n ≡ length items → k ≡ length items →
    ExprFits o here e ↔ ((0 < n) × (All (ExprFits o here) items × All (PieceFits o k) put))
print_view o here line l items pieces put n k e is same out many again =
    view_at o here e (Print line l pieces) is
    (subst (λ (n : ℕ). ExprFits o here (Print line l pieces) ↔ ((0 < n) × (All (ExprFits o here) items × All (PieceFits o k) put))) (sym many)
    (subst (λ (k : ℕ). ExprFits o here (Print line l pieces) ↔ ((0 < length items) × (All (ExprFits o here) items × All (PieceFits o k) put))) (sym again)
    (subst (λ (put : List Piece). ExprFits o here (Print line l pieces) ↔ ((0 < length items) × (All (ExprFits o here) items × All (PieceFits o (length items)) put))) (sym out)
    (subst (λ (x : List Expr). ExprFits o here (Print line l pieces) ↔ ((0 < length x) × (All (ExprFits o here) x × All (PieceFits o (length x)) pieces))) (sym same)
    (print_fits o here line l pieces)))))

pub link_view :
    (o : Outline) (here : Context) (link : Link) (items : List Expr) (n : ℕ) → items ≡ link.operands → n ≡ suc (length items) →
    LinkFits o here link ↔ (OpFits o here link.op n × All (ExprFits o here) items)
link_view o here link items n same many =
    subst (λ (k : ℕ). LinkFits o here link ↔ (OpFits o here link.op k × All (ExprFits o here) items)) (sym many)
    (subst (λ (x : List Expr). LinkFits o here link ↔ (OpFits o here link.op (suc (length x)) × All (ExprFits o here) x)) (sym same) (λ h. h, λ h. h))
