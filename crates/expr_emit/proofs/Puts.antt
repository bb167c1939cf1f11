-- What is put where there is room, part by part, is put there as a whole.
use Rattle.std.proofs.Common.{◌≡◌, ℕ, suc, ◌+◌, ◌-◌, ◌≤◌, List, [], ◌∷◌, length, drop, Bool, refl, sym, ap, ◌∙◌, subst, arith}
use Rattle.c_tree.specs.declared.operation.Operation.{Operation}
use Rattle.c_tree.specs.declared.operation.Piece.{Piece}
use Rattle.c_tree.specs.declared.expr.Expr.{Expr, Apply, Chain, Logic, Choose, Print}
use Rattle.c_tree.specs.declared.expr.Link.{Link}
use Rattle.whole_code.specs.declared.op.Op.TheVariants.{Const, Jump, JumpZero}
use Rattle.expr_gen.specs.Operations.{at_line}
use Rattle.expr_gen.specs.Code.{op_size, op_code, print_code, branch_size, expr_size, expr_code}
use Rattle.expr_gen.proofs.Sizes.{expr_length}
use Rattle.expr_emit.specs.declared.place.Place.{Place}
use Rattle.expr_emit.specs.Tail.{PlainTail, before, PutsBefore}
use Rattle.expr_emit.specs.Place.{place_at}
use Rattle.expr_emit.specs.Lists.{exprs_size, exprs_code, link_list_size, link_list_code, test_list_size, and_list_code, or_list_code, logic_list_size, logic_list_code}
use Rattle.expr_emit.proofs.Tails.{start_after}
use Rattle.expr_emit.proofs.Views.{apply_size, chain_size, choose_size, logic_view_size}
use Rattle.expr_emit.proofs.Steps.{operands_step, operands_room, and_step, and_room, or_step, or_room, links_step, op_room, link_room, apply_room, apply_built, print_room, print_built, chain_room, chain_built, logic_built, choice_built}

module _ (library : Bool) (i j : ℕ) (s0 s1 s2 : PlainTail) where
  pub operands_put :
      (l : List Expr) (e : Expr) (t d : ℕ) → j ≡ i + 1 → drop i l ≡ e ∷ drop j l → d ≡ t + i →
      (exprs_size l ≤ s0.start → s1 ≡ before (exprs_code library (drop j l) (t + j) (s0.start - exprs_size (drop j l))) s0) →
      PutsBefore (expr_size e) (expr_code library e d) s1 s2 → exprs_size l ≤ s0.start →
      s2 ≡ before (exprs_code library (drop i l) (t + i) (s0.start - exprs_size (drop i l))) s0
  operands_put l e t d above more here f g room =
      let held = f room in
      operands_step library i j s0 s1 s2 l e t d above more here room held (g (operands_room library i j s0 s1 s2 l e t more room held))

  pub and_put :
      (line : ℕ) (l : List Expr) (e : Expr) (t end : ℕ) (s : PlainTail) → drop i l ≡ e ∷ drop j l →
      (test_list_size 1 l ≤ s0.start → s1 ≡ before (and_list_code library line (drop j l) t (s0.start - test_list_size 1 (drop j l)) end) s0) →
      s ≡ before (at_line library line (JumpZero t end) ∷ []) s1 → PutsBefore (expr_size e) (expr_code library e t) s s2 → test_list_size 1 l ≤ s0.start →
      s2 ≡ before (and_list_code library line (drop i l) t (s0.start - test_list_size 1 (drop i l)) end) s0
  and_put line l e t end s more f g h room =
      let held = f room in
      and_step library i j s0 s1 s2 line l e t end s more room held g (h (and_room library i j s0 s1 s2 line l e t end s more room held g))

  pub or_put :
      (line : ℕ) (l : List Expr) (e : Expr) (t next end : ℕ) (s : PlainTail) → drop i l ≡ e ∷ drop j l →
      (test_list_size 3 l ≤ s0.start → s1 ≡ before (or_list_code library line (drop j l) t (s0.start - test_list_size 3 (drop j l)) end) s0) → next ≡ s1.start →
      s ≡ before (at_line library line (JumpZero t next) ∷ at_line library line (Const t 1) ∷ at_line library line (Jump end) ∷ []) s1 →
      PutsBefore (expr_size e) (expr_code library e t) s s2 → test_list_size 3 l ≤ s0.start →
      s2 ≡ before (or_list_code library line (drop i l) t (s0.start - test_list_size 3 (drop i l)) end) s0
  or_put line l e t next end s more f there g h room =
      let held = f room in
      or_step library i j s0 s1 s2 line l e t next end s more room held there g (h (or_room library i j s0 s1 s2 line l e t next end s more room held g))

  pub links_put :
      (line : ℕ) (l : List Link) (e : Link) (operands : List Expr) (t second count : ℕ) (s : PlainTail) → drop i l ≡ e ∷ drop j l →
      operands ≡ e.operands → second ≡ t + 1 → count ≡ suc (length operands) →
      (link_list_size l ≤ s0.start → s1 ≡ before (link_list_code library line (drop j l) t (s0.start - link_list_size (drop j l))) s0) →
      PutsBefore (op_size e.op) (op_code library e.op line t count) s1 s → PutsBefore (exprs_size operands) (exprs_code library operands second) s s2 →
      link_list_size l ≤ s0.start → s2 ≡ before (link_list_code library line (drop i l) t (s0.start - link_list_size (drop i l))) s0
  links_put line l e operands t second count s more same two many f g h room =
      let held = f room in
      let fits : op_size e.op ≤ s1.start = omega (arith, op_room library i j s0 s1 s2 line l e t more room held) in
      let put = g fits in
      links_step library i j s0 s1 s2 line l e operands t second count s more room same two many held put
      (h (link_room library i j s0 s1 s2 line l e operands t count s more room same held put))

-- ---- whole expressions

module _ (library : Bool) (line t : ℕ) (e : Expr) (s0 s1 s2 : PlainTail) where
  abbrev IsPut : Type 0
  IsPut = PutsBefore (expr_size e) (expr_code library e t) s0 s2

  pub apply_put :
      (o : Operation) (operands items : List Expr) (count : ℕ) → e ≡ Apply line o operands → items ≡ operands → count ≡ length items →
      PutsBefore (op_size o) (op_code library o line t count) s0 s1 → PutsBefore (exprs_size items) (exprs_code library items t) s1 s2 → IsPut
  apply_put o operands items count is same many f g room =
      let put = f (omega (arith, room, ap expr_size is ∙ apply_size line o operands)) in
      apply_built library line t e s0 s1 s2 room o operands items count is same many put
      (g (apply_room library line t e s0 s1 s2 room o operands items count is same put))

  pub print_put :
      (operands items : List Expr) (pieces given : List Piece) (count : ℕ) → e ≡ Print line operands pieces → items ≡ operands → given ≡ pieces →
      count ≡ length items → s1 ≡ before (print_code library given line t count) s0 → PutsBefore (exprs_size items) (exprs_code library items t) s1 s2 → IsPut
  print_put operands items pieces given count is same alike many f g room =
      print_built library line t e s0 s1 s2 room operands items pieces given count is same alike many f
      (g (print_room library line t e s0 s1 s2 room operands items pieces given count is same alike f))

  pub chain_put :
      (first given : Expr) (links items : List Link) → e ≡ Chain line first links → items ≡ links → given ≡ first →
      PutsBefore (link_list_size items) (link_list_code library line items t) s0 s1 → PutsBefore (expr_size given) (expr_code library given t) s1 s2 → IsPut
  chain_put first given links items is same alike f g room =
      let put = f (omega (arith, room, ap expr_size is ∙ chain_size line first links, ap link_list_size same)) in
      chain_built library line t e s0 s1 s2 room first given links items is same alike put
      (g (chain_room library line t e s0 s1 s2 room first given links items is same alike put))

pub logic_put :
    (library : Bool) (line t : ℕ) (e : Expr) (s0 s1 : PlainTail) (all : Bool) (operands items : List Expr) → e ≡ Logic line all operands → items ≡ operands →
    PutsBefore (logic_list_size all items) (logic_list_code library line all items t) s0 s1 → PutsBefore (expr_size e) (expr_code library e t) s0 s1
logic_put library line t e s0 s1 all operands items is same f room =
    logic_built library line t e s0 s1 all operands items is same
    (f (omega (arith, room, ap expr_size is ∙ logic_view_size line all operands, ap (logic_list_size all) same)))

pub choice_put :
    (library : Bool) (line t end other : ℕ) (e test one last given0 given1 given2 : Expr) (s0 s1 s2 s3 s4 s5 : PlainTail) → e ≡ Choose line test one last →
    given0 ≡ test → given1 ≡ one → given2 ≡ last → end ≡ s0.start → other ≡ s1.start →
    PutsBefore (expr_size given2) (expr_code library given2 t) s0 s1 → s2 ≡ before (at_line library line (Jump end) ∷ []) s1 →
    PutsBefore (expr_size given1) (expr_code library given1 t) s2 s3 → s4 ≡ before (at_line library line (JumpZero t other) ∷ []) s3 →
    PutsBefore (expr_size given0) (expr_code library given0 t) s4 s5 → PutsBefore (expr_size e) (expr_code library e t) s0 s5
choice_put library line t end other e test one last given0 given1 given2 s0 s1 s2 s3 s4 s5 is same0 same1 same2 there mid e1 e2 e3 e4 e5 room =
    let size : expr_size e ≡ branch_size (expr_size test) (expr_size one) (expr_size last) = ap expr_size is ∙ choose_size line test one last in
    let z0 = ap expr_size same0 in
    let z1 = ap expr_size same1 in
    let z2 = ap expr_size same2 in
    let c1 = e1 (omega (arith, room, size, z2)) in
    let start1 = start_after (expr_code library given2 t (s0.start - expr_size given2)) (expr_size given2) s0 s1 (expr_length library given2 t (s0.start - expr_size given2)) c1 in
    let start2 = start_after (at_line library line (Jump end) ∷ []) 1 s1 s2 refl e2 in
    let c3 = e3 (omega (arith, room, size, z1, z2, start1, start2)) in
    let start3 = start_after (expr_code library given1 t (s2.start - expr_size given1)) (expr_size given1) s2 s3 (expr_length library given1 t (s2.start - expr_size given1)) c3 in
    let start4 = start_after (at_line library line (JumpZero t other) ∷ []) 1 s3 s4 refl e4 in
    choice_built library line t end other e test one last given0 given1 given2 s0 s1 s2 s3 s4 s5 is same0 same1 same2 room there mid c1 e2 c3 e4
    (e5 (omega (arith, room, size, z0, z1, z2, start1, start2, start3, start4)))

-- an expression that is put at a place of this line is put with its value in t
pub put_as :
    (p : Place) (library : Bool) (line t : ℕ) (d : ℕ → Expr) (e : Expr) (s0 s1 : PlainTail) → p ≡ place_at library line t → e ≡ d line →
    PutsBefore (expr_size (d p.line)) (expr_code p.library (d p.line) p.t) s0 s1 → PutsBefore (expr_size e) (expr_code library e t) s0 s1
put_as p library line t d e s0 s1 there is put =
    subst (λ (x : Expr). PutsBefore (expr_size x) (expr_code library x t) s0 s1) (sym is)
    (subst (λ (q : Place). PutsBefore (expr_size (d q.line)) (expr_code q.library (d q.line) q.t) s0 s1) there put)
