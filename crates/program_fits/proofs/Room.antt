-- The registers that trees need, at the constructors by which Rust sees them: rows as lists.
use Rattle.std.proofs.Common.{◌≡◌, ℕ, suc, ◌+◌, ◌-◌, ◌<◌, ◌≤◌, ◌↔◌, max, List, ◌∷◌, length, get_or, drop, All, Bool, refl, sym, ap, ◌∙◌, subst, arith}
use Rattle.std.proofs.lemmas.List.{drop_more, drop_all}
use Rattle.std.proofs.lemmas.List.Elements.{All-nil, All-cons, All-head, All-tail}
use Rattle.c_tree.specs.declared.operation.Operation.{Operation}
use Rattle.c_tree.specs.declared.operation.Piece.{Piece}
use Rattle.c_tree.specs.declared.expr.Expr.{Expr, Apply, Chain, Logic, Choose, Print, Row_of-Expr, end_of-Expr, more_of-Expr, Row_of-Link, end_of-Link, more_of-Link, items-the_row-Expr, items-the_row-Link}
use Rattle.c_tree.specs.declared.expr.Link.{Link}
use Rattle.c_tree.specs.declared.expr.Expr.TheBlock as b
use Rattle.filc_num.specs.declared.registers.TheConstants.{REGISTERS, SPARE_REGISTERS}
use Rattle.c_tree.specs.declared.program.FunctionDef.{FunctionDef}
use Rattle.c_tree.specs.Temps.{temps_of, operands_temps, tests_temps, links_temps, stmt_temps}
use denote.Hole.Carrier
use Rattle.program_fits.specs.Lists.{OperandsAreBelow, ExprIsWithin, LinkIsWithin}
use Rattle.program_fits.specs.Parts.{RegistersFit}

-- ---- rows

-- operand number i has all that is left of the limit from its own register on
below_list :
    {m : _} (k : Row_of-Expr m) (i limit room : ℕ) → room + i ≡ limit + 1 → (operands_temps i k ≤ limit) ↔ OperandsAreBelow room (items-the_row-Expr _ k)
below_list end_of-Expr i limit room e = (λ _. tt, λ _. omega arith)
below_list (more_of-Expr x rest) i limit room e = (
  λ h.
      let both : max (i + temps_of x) (operands_temps (suc i) rest) ≤ limit = h in
      let more : (room - 1) + suc i ≡ limit + 1 = omega arith in
      let first : temps_of x < room = omega arith in
      let left : operands_temps (suc i) rest ≤ limit = omega arith in
      (first, (below_list rest (suc i) limit (room - 1) more).0 left),
  λ h.
      let first : temps_of x < room = h.0 in
      let more : (room - 1) + suc i ≡ limit + 1 = omega arith in
      let left : operands_temps (suc i) rest ≤ limit = (below_list rest (suc i) limit (room - 1) more).1 h.1 in
      let both : max (i + temps_of x) (operands_temps (suc i) rest) ≤ limit = omega arith in
      both,
)

each_list : {m : _} (k : Row_of-Expr m) (limit : ℕ) → (tests_temps k ≤ limit) ↔ All (ExprIsWithin limit) (items-the_row-Expr _ k)
each_list end_of-Expr limit = (λ _. All-nil (ExprIsWithin limit), λ _. omega arith)
each_list (more_of-Expr x rest) limit =
    let l = items-the_row-Expr _ rest in (
      λ h.
          let both : max (temps_of x) (tests_temps rest) ≤ limit = h in
          let first : temps_of x ≤ limit = omega arith in
          let left : tests_temps rest ≤ limit = omega arith in
          All-cons (ExprIsWithin limit) x l first ((each_list rest limit).0 left),
      λ h.
          let first : temps_of x ≤ limit = All-head (ExprIsWithin limit) x l h in
          let left : tests_temps rest ≤ limit = (each_list rest limit).1 (All-tail (ExprIsWithin limit) x l h) in
          let both : max (temps_of x) (tests_temps rest) ≤ limit = omega arith in
          both,
    )

links_within_list : {m : _} (k : Row_of-Link m) (limit : ℕ) → (links_temps k ≤ limit) ↔ All (LinkIsWithin limit) (items-the_row-Link _ k)
links_within_list end_of-Link limit = (λ _. All-nil (LinkIsWithin limit), λ _. omega arith)
links_within_list (more_of-Link op z operands rest) limit =
    let l = b.shown-the_row-Expr-0 z operands in
    let same = b.items_shown-the_row-Expr-0 z operands in
    let link : Link = record { op = op; operands = l } in
    let more = items-the_row-Link _ rest in
    let start : limit + 1 ≡ limit + 1 = omega arith in (
      λ h.
          let both : max (operands_temps 1 operands) (links_temps rest) ≤ limit = h in
          let first : operands_temps 1 operands ≤ limit = omega arith in
          let left : links_temps rest ≤ limit = omega arith in
          All-cons (LinkIsWithin limit) link more
          (subst (λ (x : List Expr). OperandsAreBelow limit x) (sym same) ((below_list operands 1 limit limit start).0 first))
          ((links_within_list rest limit).0 left),
      λ h.
          let first : operands_temps 1 operands ≤ limit =
          (below_list operands 1 limit limit start).1 (subst (λ (x : List Expr). OperandsAreBelow limit x) same (All-head (LinkIsWithin limit) link more h)) in
          let left : links_temps rest ≤ limit = (links_within_list rest limit).1 (All-tail (LinkIsWithin limit) link more h) in
          let both : max (operands_temps 1 operands) (links_temps rest) ≤ limit = omega arith in
          both,
    )

below_hidden : (l : List Expr) (limit : ℕ) → (operands_temps 0 (b.hidden-the_row-Expr-0 l) ≤ limit) ↔ OperandsAreBelow (limit + 1) l
below_hidden l limit =
    let start : limit + 1 + 0 ≡ limit + 1 = omega arith in
    let view = below_list (b.hidden-the_row-Expr-0 l) 0 limit (limit + 1) start in
    let same = b.items_hidden-the_row-Expr-0 l in (
      λ h. subst (λ (x : List Expr). OperandsAreBelow (limit + 1) x) same (view.0 h),
      λ h. view.1 (subst (λ (x : List Expr). OperandsAreBelow (limit + 1) x) (sym same) h),
    )

-- ---- expressions

-- the value needs one register, and so do operands that stand from the first on
with_one :
    (n limit : ℕ) (P : Type 0) → (n ≤ limit) ↔ P → (max 1 n ≤ limit) ↔ ((0 < limit) × P)
with_one n limit P view = (
  λ h.
      let left : n ≤ limit = omega (arith, h) in
      let some : 0 < limit = omega (arith, h) in
      (some, view.0 left),
  λ h.
      let left : n ≤ limit = view.1 h.1 in
      let some : 0 < limit = h.0 in
      omega arith,
)

with_two : (n k limit : ℕ) (P Q : Type 0) → (n ≤ limit) ↔ P → (k ≤ limit) ↔ Q → (max n k ≤ limit) ↔ (P × Q)
with_two n k limit P Q one two = (
  λ h.
      let first : n ≤ limit = omega (arith, h) in
      let second : k ≤ limit = omega (arith, h) in
      (one.0 first, two.0 second),
  λ h.
      let first : n ≤ limit = one.1 h.0 in
      let second : k ≤ limit = two.1 h.1 in
      omega arith,
)

itself : (P : Type 0) → P ↔ P
itself P = (λ p. p, λ p. p)

apply_within : (limit line : ℕ) (op : Operation) (l : List Expr) → ExprIsWithin limit (Apply line op l) ↔ ((0 < limit) × OperandsAreBelow (limit + 1) l)
apply_within limit line op l = with_one (operands_temps 0 (b.hidden-the_row-Expr-0 l)) limit (OperandsAreBelow (limit + 1) l) (below_hidden l limit)

print_within : (limit line : ℕ) (l : List Expr) (pieces : List Piece) → ExprIsWithin limit (Print line l pieces) ↔ ((0 < limit) × OperandsAreBelow (limit + 1) l)
print_within limit line l pieces = with_one (operands_temps 0 (b.hidden-the_row-Expr-0 l)) limit (OperandsAreBelow (limit + 1) l) (below_hidden l limit)

logic_within : (limit line : ℕ) (all : Bool) (l : List Expr) → ExprIsWithin limit (Logic line all l) ↔ ((0 < limit) × All (ExprIsWithin limit) l)
logic_within limit line all l =
    let view = each_list (b.hidden-the_row-Expr-0 l) limit in
    with_one (tests_temps (b.hidden-the_row-Expr-0 l)) limit (All (ExprIsWithin limit) l)
    (subst (λ (x : List Expr). (tests_temps (b.hidden-the_row-Expr-0 l) ≤ limit) ↔ All (ExprIsWithin limit) x) (b.items_hidden-the_row-Expr-0 l) view)

chain_within :
    (limit line : ℕ) (first : Expr) (l : List Link) → ExprIsWithin limit (Chain line first l) ↔ (ExprIsWithin limit first × All (LinkIsWithin limit) l)
unfolding b.hidden-the_row-Expr-1 b.shape-the_row-Expr-1 Carrier.hidden
chain_within limit line first l =
    let k = b.hidden-the_row-Link-2 l in
    with_two (temps_of first) (links_temps k) limit (ExprIsWithin limit first) (All (LinkIsWithin limit) l) (itself (ExprIsWithin limit first))
    (subst (λ (x : List Link). (links_temps k ≤ limit) ↔ All (LinkIsWithin limit) x) (b.items_hidden-the_row-Link-2 l) (links_within_list k limit))

choose_within :
    (limit line : ℕ) (test one other : Expr) →
    ExprIsWithin limit (Choose line test one other) ↔ (ExprIsWithin limit test × (ExprIsWithin limit one × ExprIsWithin limit other))
unfolding b.hidden-the_row-Expr-1 b.shape-the_row-Expr-1 Carrier.hidden
choose_within limit line test one other =
    with_two (temps_of test) (max (temps_of one) (temps_of other)) limit (ExprIsWithin limit test) (ExprIsWithin limit one × ExprIsWithin limit other)
    (itself (ExprIsWithin limit test))
    (with_two (temps_of one) (temps_of other) limit (ExprIsWithin limit one) (ExprIsWithin limit other) (itself (ExprIsWithin limit one))
    (itself (ExprIsWithin limit other)))

-- ---- the same of what the code has in hand

view_at : (limit : ℕ) (e f : Expr) {P : Type 0} → e ≡ f → ExprIsWithin limit f ↔ P → ExprIsWithin limit e ↔ P
view_at limit e f is view = (λ h. view.0 (subst (λ (x : Expr). ExprIsWithin limit x) is h), λ p. subst (λ (x : Expr). ExprIsWithin limit x) (sym is) (view.1 p))

pub apply_room :
    (limit line room : ℕ) (op : Operation) (l items : List Expr) (e : Expr) → e ≡ Apply line op l → items ≡ l → room ≡ limit + 1 →
    ExprIsWithin limit e ↔ ((0 < limit) × OperandsAreBelow room items)
apply_room limit line room op l items e is same all =
    view_at limit e (Apply line op l) is
    (subst (λ (r : ℕ). ExprIsWithin limit (Apply line op l) ↔ ((0 < limit) × OperandsAreBelow r items)) (sym all)
    (subst (λ (x : List Expr). ExprIsWithin limit (Apply line op l) ↔ ((0 < limit) × OperandsAreBelow (limit + 1) x)) (sym same)
    (apply_within limit line op l)))

pub print_room :
    (limit line room : ℕ) (l items : List Expr) (pieces : List Piece) (e : Expr) → e ≡ Print line l pieces → items ≡ l → room ≡ limit + 1 →
    ExprIsWithin limit e ↔ ((0 < limit) × OperandsAreBelow room items)
print_room limit line room l items pieces e is same all =
    view_at limit e (Print line l pieces) is
    (subst (λ (r : ℕ). ExprIsWithin limit (Print line l pieces) ↔ ((0 < limit) × OperandsAreBelow r items)) (sym all)
    (subst (λ (x : List Expr). ExprIsWithin limit (Print line l pieces) ↔ ((0 < limit) × OperandsAreBelow (limit + 1) x)) (sym same)
    (print_within limit line l pieces)))

pub logic_room :
    (limit line : ℕ) (all : Bool) (l items : List Expr) (e : Expr) → e ≡ Logic line all l → items ≡ l →
    ExprIsWithin limit e ↔ ((0 < limit) × All (ExprIsWithin limit) items)
logic_room limit line all l items e is same =
    view_at limit e (Logic line all l) is
    (subst (λ (x : List Expr). ExprIsWithin limit (Logic line all l) ↔ ((0 < limit) × All (ExprIsWithin limit) x)) (sym same) (logic_within limit line all l))

pub chain_room :
    (limit line : ℕ) (first f : Expr) (l items : List Link) (e : Expr) → e ≡ Chain line first l → f ≡ first → items ≡ l →
    ExprIsWithin limit e ↔ (ExprIsWithin limit f × All (LinkIsWithin limit) items)
chain_room limit line first f l items e is one same =
    view_at limit e (Chain line first l) is
    (subst (λ (x : Expr). ExprIsWithin limit (Chain line first l) ↔ (ExprIsWithin limit x × All (LinkIsWithin limit) items)) (sym one)
    (subst (λ (x : List Link). ExprIsWithin limit (Chain line first l) ↔ (ExprIsWithin limit first × All (LinkIsWithin limit) x)) (sym same)
    (chain_within limit line first l)))

pub choose_room :
    (limit line : ℕ) (test one other x y z : Expr) (e : Expr) → e ≡ Choose line test one other → x ≡ test → y ≡ one → z ≡ other →
    ExprIsWithin limit e ↔ (ExprIsWithin limit x × (ExprIsWithin limit y × ExprIsWithin limit z))
choose_room limit line test one other x y z e is a b c =
    view_at limit e (Choose line test one other) is
    (subst (λ (x : Expr). ExprIsWithin limit (Choose line test one other) ↔ (ExprIsWithin limit x × (ExprIsWithin limit y × ExprIsWithin limit z))) (sym a)
    (subst (λ (y : Expr). ExprIsWithin limit (Choose line test one other) ↔ (ExprIsWithin limit test × (ExprIsWithin limit y × ExprIsWithin limit z))) (sym b)
    (subst (λ (z : Expr). ExprIsWithin limit (Choose line test one other) ↔ (ExprIsWithin limit test × (ExprIsWithin limit one × ExprIsWithin limit z))) (sym c)
    (choose_within limit line test one other))))

-- ---- a loop over operands

-- what is left of the operands is all that is to be shown of them
pub record IsLeft (room : ℕ) (rest : List Expr) (start : ℕ) (operands : List Expr) : Type 0 where
  pub small : room ≤ start
  pub fits : OperandsAreBelow room rest → OperandsAreBelow start operands
  pub back : OperandsAreBelow start operands → OperandsAreBelow room rest

pub left_first : (room : ℕ) (operands : List Expr) → IsLeft room operands room operands
left_first room operands = record { small = omega arith; fits = λ h. h; back = λ h. h }

rest_at : (operands : List Expr) (i : ℕ) (x : Expr) → i < length operands → x ≡ get_or operands i x → drop i operands ≡ x ∷ drop (i + 1) operands
rest_at operands i x within is = drop_more operands i x within ∙ ap (λ (e : Expr). e ∷ drop (i + 1) operands) (sym is)

pub left_more :
    (room start : ℕ) (operands : List Expr) (i : ℕ) (x : Expr) → i < length operands → x ≡ get_or operands i x → temps_of x < room →
    IsLeft room (drop i operands) start operands → IsLeft (room - 1) (drop (i + 1) operands) start operands
left_more room start operands i x within is now left =
    let here : IsLeft room (x ∷ drop (i + 1) operands) start operands = subst (λ (l : List Expr). IsLeft room l start operands) (rest_at operands i x within is) left in
    let small : room ≤ start = here.small in
    record { small = omega arith; fits = λ h. here.fits (now, h); back = λ h. (here.back h).1 }

pub left_none :
    (room start : ℕ) (operands : List Expr) (i : ℕ) (x : Expr) → i < length operands → x ≡ get_or operands i x → (temps_of x < room → ⊥) →
    IsLeft room (drop i operands) start operands → OperandsAreBelow start operands → ⊥
left_none room start operands i x within is lacks left all =
    lacks (subst (λ (l : List Expr). OperandsAreBelow room l) (rest_at operands i x within is) (left.back all)).0

pub left_all :
    (room start : ℕ) (operands : List Expr) (i : ℕ) → length operands ≤ i → IsLeft room (drop i operands) start operands → OperandsAreBelow start operands
left_all room start operands i past left = left.fits (subst (λ (l : List Expr). OperandsAreBelow room l) (sym (drop_all i operands past)) tt)

-- ---- one operand, and a function

pub below_view : (n room : ℕ) → 0 < room → (n < room) ↔ (n ≤ room - 1)
below_view n room some = (λ h. omega (arith, h, some), λ h. omega (arith, h, some))

pub registers_view :
    (f : FunctionDef) (limit : ℕ) → f.parameters ≤ f.locals → f.values ≤ REGISTERS → limit + f.locals + 6 ≡ f.values →
    RegistersFit f ↔ (stmt_temps f.body ≤ limit)
registers_view f limit first most room =
    let spare : SPARE_REGISTERS - 2 ≡ 6 = refl in (
      λ h.
          let need : f.locals + stmt_temps f.body + (SPARE_REGISTERS - 2) ≤ f.values = h.1.0 in
          omega (arith, need, spare, room),
      λ h.
          let need : f.locals + stmt_temps f.body + (SPARE_REGISTERS - 2) ≤ f.values = omega (arith, h, spare, room) in
          (first, (need, most)),
    )
