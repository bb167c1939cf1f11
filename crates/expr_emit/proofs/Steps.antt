-- The code of an operand, a link or a branch comes before the code of what stands behind it.
use Rattle.std.proofs.Common.{◌≡◌, ℕ, zero, suc, ◌+◌, ◌-◌, ◌<◌, ◌≤◌, List, [], ◌∷◌, ◌++◌, length, drop, get_or, Bool, refl, sym, ap, ◌∙◌, arith, length-append}
use Rattle.std.proofs.lemmas.List.{drop_more}
use Rattle.c_tree.specs.declared.operation.Operation.{Operation}
use Rattle.c_tree.specs.declared.operation.Piece.{Piece}
use Rattle.c_tree.specs.declared.expr.Expr.{Expr, Apply, Chain, Logic, Choose, Print}
use Rattle.c_tree.specs.declared.expr.Link.{Link}
use Rattle.whole_code.specs.declared.op.Op.TheVariants.{Const, Jump, JumpZero}
use Rattle.whole_code.specs.declared.op.Instruction.{Instruction}
use Rattle.expr_gen.specs.Operations.{at_line}
use Rattle.expr_gen.specs.Code.{op_size, op_code, print_size, print_code, branch_size, branch_code, expr_size, expr_code}
use Rattle.expr_gen.proofs.Sizes.{op_length, print_length, expr_length}
use Rattle.expr_emit.specs.Tail.{PlainTail, before}
use Rattle.expr_emit.specs.Lists.{exprs_size, exprs_code, link_list_size, link_list_code, test_list_size, and_list_code, or_list_code, logic_list_size, logic_list_code}
use Rattle.expr_emit.proofs.Tails.{next_before, start_after, long_two}
use Rattle.expr_emit.proofs.Views.{apply_size, apply_code, chain_size, chain_code, choose_size, choose_code, logic_view_size, logic_view_code, print_view_size, print_view_code}

-- ---- how long lists are

pub exprs_length : (library : Bool) (l : List Expr) (t at : ℕ) → length (exprs_code library l t at) ≡ exprs_size l
exprs_length library [] t at = refl
exprs_length library (e ∷ rest) t at =
    long_two (expr_code library e t at) (exprs_code library rest (t + 1) (at + expr_size e)) _ _ (expr_length library e t at) (exprs_length library rest (t + 1) (at + expr_size e))

pub links_length : (library : Bool) (line : ℕ) (l : List Link) (t at : ℕ) → length (link_list_code library line l t at) ≡ link_list_size l
links_length library line [] t at = refl
links_length library line (l ∷ rest) t at =
    let i1 = at + exprs_size l.operands in
    let i2 = at + exprs_size l.operands + op_size l.op in
    let a = exprs_code library l.operands (t + 1) at in
    let b = op_code library l.op line t (suc (length l.operands)) i1 in
    let c = link_list_code library line rest t i2 in
    omega (arith, length-append a (b ++ c), length-append b c, exprs_length library l.operands (t + 1) at, op_length library l.op line t (suc (length l.operands)) i1, links_length library line rest t i2)

pub and_length : (library : Bool) (line : ℕ) (l : List Expr) (t at end : ℕ) → length (and_list_code library line l t at end) ≡ test_list_size 1 l
and_length library line [] t at end = refl
and_length library line (e ∷ rest) t at end =
    let jz = at_line library line (JumpZero t end) in
    let more = and_list_code library line rest t (at + expr_size e + 1) end in
    omega (arith, length-append (expr_code library e t at) (jz ∷ more), expr_length library e t at, and_length library line rest t (at + expr_size e + 1) end)

pub or_length : (library : Bool) (line : ℕ) (l : List Expr) (t at end : ℕ) → length (or_list_code library line l t at end) ≡ test_list_size 3 l
or_length library line [] t at end = refl
or_length library line (e ∷ rest) t at end =
    let jz = at_line library line (JumpZero t (at + expr_size e + 3)) in
    let one = at_line library line (Const t 1) in
    let j = at_line library line (Jump end) in
    let more = or_list_code library line rest t (at + expr_size e + 3) end in
    omega (arith, length-append (expr_code library e t at) (jz ∷ one ∷ j ∷ more), expr_length library e t at, or_length library line rest t (at + expr_size e + 3) end)

-- ---- the rest of a list is no longer than the list

pub exprs_rest : (i : ℕ) (l : List Expr) → exprs_size (drop i l) ≤ exprs_size l
exprs_rest zero l = omega arith
exprs_rest (suc i) [] = omega arith
exprs_rest (suc i) (e ∷ rest) = omega (arith, exprs_rest i rest)

pub links_rest : (i : ℕ) (l : List Link) → link_list_size (drop i l) ≤ link_list_size l
links_rest zero l = omega arith
links_rest (suc i) [] = omega arith
links_rest (suc i) (e ∷ rest) = omega (arith, links_rest i rest)

pub tests_rest : (more i : ℕ) (l : List Expr) → test_list_size more (drop i l) ≤ test_list_size more l
tests_rest more zero l = omega arith
tests_rest more (suc i) [] = omega arith
tests_rest more (suc i) (e ∷ rest) = omega (arith, tests_rest more i rest)

-- ---- one more

-- what is left at an index is the element there and what is left behind it
pub next_at : {X : Type 0} (l : List X) (i j : ℕ) (x : X) → j ≡ i + 1 → i < length l → x ≡ get_or l i x → drop i l ≡ x ∷ drop j l
next_at l i j x above within is = drop_more l i x within ∙ ap (λ y. y ∷ drop (i + 1) l) (sym is) ∙ ap (λ k. x ∷ drop k l) (sym above)

module _ (library : Bool) (i j : ℕ) (s0 s1 s2 : PlainTail) where
  pub operands_step :
      (l : List Expr) (e : Expr) (t d : ℕ) → j ≡ i + 1 → drop i l ≡ e ∷ drop j l → d ≡ t + i → exprs_size l ≤ s0.start →
      s1 ≡ before (exprs_code library (drop j l) (t + j) (s0.start - exprs_size (drop j l))) s0 →
      s2 ≡ before (expr_code library e d (s1.start - expr_size e)) s1 →
      s2 ≡ before (exprs_code library (drop i l) (t + i) (s0.start - exprs_size (drop i l))) s0
  operands_step l e t d above more here room f g =
      let rest = drop j l in
      let fits : expr_size e + exprs_size rest ≤ s0.start = omega (arith, room, exprs_rest i l, ap exprs_size more) in
      let next : t + j ≡ t + i + 1 = omega (arith, above) in
      next_before (λ at. expr_code library e (t + i) at) (λ at. exprs_code library rest (t + i + 1) at) (expr_size e) (exprs_size rest) s0 s1 s2
      (λ at. exprs_length library rest (t + i + 1) at) fits (f ∙ ap (λ k. before (exprs_code library rest k (s0.start - exprs_size rest)) s0) next)
      (g ∙ ap (λ k. before (expr_code library e k (s1.start - expr_size e)) s1) here)
      ∙ ap (λ k. before (exprs_code library k (t + i) (s0.start - exprs_size k)) s0) (sym more)

  pub and_step :
      (line : ℕ) (l : List Expr) (e : Expr) (t end : ℕ) (s : PlainTail) → drop i l ≡ e ∷ drop j l → test_list_size 1 l ≤ s0.start →
      s1 ≡ before (and_list_code library line (drop j l) t (s0.start - test_list_size 1 (drop j l)) end) s0 →
      s ≡ before (at_line library line (JumpZero t end) ∷ []) s1 → s2 ≡ before (expr_code library e t (s.start - expr_size e)) s →
      s2 ≡ before (and_list_code library line (drop i l) t (s0.start - test_list_size 1 (drop i l)) end) s0
  and_step line l e t end s more room f g h =
      let rest = drop j l in
      let n = expr_size e in
      let m = test_list_size 1 rest in
      let fits : n + 1 + m ≤ s0.start = omega (arith, room, tests_rest 1 i l, ap (test_list_size 1) more) in
      let jz = at_line library line (JumpZero t end) in
      let r = λ (at : ℕ). and_list_code library line rest t at end in
      let behind = next_before (λ _. jz ∷ []) r 1 m s0 s1 s (λ at. and_length library line rest t at end) (omega (arith, fits)) f g in
      let r1 = λ (at : ℕ). jz ∷ r (at + 1) in
      let size : n + (1 + m) ≡ n + 1 + m = omega arith in
      next_before (λ at. expr_code library e t at) r1 n (1 + m) s0 s s2 (λ at. omega (arith, and_length library line rest t (at + 1) end)) (omega (arith, fits)) behind h
      ∙ ap (λ k. before (expr_code library e t (s0.start - k) ++ (jz ∷ r (s0.start - k + n + 1))) s0) size
      ∙ ap (λ k. before (and_list_code library line k t (s0.start - test_list_size 1 k) end) s0) (sym more)

  pub or_step :
      (line : ℕ) (l : List Expr) (e : Expr) (t next end : ℕ) (s : PlainTail) → drop i l ≡ e ∷ drop j l → test_list_size 3 l ≤ s0.start →
      s1 ≡ before (or_list_code library line (drop j l) t (s0.start - test_list_size 3 (drop j l)) end) s0 → next ≡ s1.start →
      s ≡ before (at_line library line (JumpZero t next) ∷ at_line library line (Const t 1) ∷ at_line library line (Jump end) ∷ []) s1 →
      s2 ≡ before (expr_code library e t (s.start - expr_size e)) s →
      s2 ≡ before (or_list_code library line (drop i l) t (s0.start - test_list_size 3 (drop i l)) end) s0
  or_step line l e t next end s more room f there g h =
      let rest = drop j l in
      let n = expr_size e in
      let m = test_list_size 3 rest in
      let fits : n + 3 + m ≤ s0.start = omega (arith, room, tests_rest 3 i l, ap (test_list_size 3) more) in
      let test = λ (p : ℕ). at_line library line (JumpZero t p) ∷ at_line library line (Const t 1) ∷ at_line library line (Jump end) ∷ [] in
      let r = λ (at : ℕ). or_list_code library line rest t at end in
      let behind = next_before (λ _. test next) r 3 m s0 s1 s (λ at. or_length library line rest t at end) (omega (arith, fits)) f g in
      let r1 = λ (at : ℕ). test next ++ r (at + 3) in
      let size : n + (3 + m) ≡ n + 3 + m = omega arith in
      let start : s1.start ≡ s0.start - m = ap (λ (s : PlainTail). s.start) f ∙ ap (λ k. s0.start - k) (or_length library line rest t (s0.start - m) end) in
      let target : next ≡ s0.start - (n + 3 + m) + n + 3 = omega (arith, start, there, fits) in
      next_before (λ at. expr_code library e t at) r1 n (3 + m) s0 s s2 (λ at. omega (arith, or_length library line rest t (at + 3) end)) (omega (arith, fits)) behind h
      ∙ ap (λ k. before (expr_code library e t (s0.start - k) ++ (test next ++ r (s0.start - k + n + 3))) s0) size
      ∙ ap (λ p. before (expr_code library e t (s0.start - (n + 3 + m)) ++ (test p ++ r (s0.start - (n + 3 + m) + n + 3))) s0) target
      ∙ ap (λ k. before (or_list_code library line k t (s0.start - test_list_size 3 k) end) s0) (sym more)

  pub links_step :
      (line : ℕ) (l : List Link) (e : Link) (operands : List Expr) (t second count : ℕ) (s : PlainTail) → drop i l ≡ e ∷ drop j l →
      link_list_size l ≤ s0.start → operands ≡ e.operands → second ≡ t + 1 → count ≡ suc (length operands) →
      s1 ≡ before (link_list_code library line (drop j l) t (s0.start - link_list_size (drop j l))) s0 →
      s ≡ before (op_code library e.op line t count (s1.start - op_size e.op)) s1 →
      s2 ≡ before (exprs_code library operands second (s.start - exprs_size operands)) s →
      s2 ≡ before (link_list_code library line (drop i l) t (s0.start - link_list_size (drop i l))) s0
  links_step line l e operands t second count s more room same two many f g h =
      let rest = drop j l in
      let n = exprs_size e.operands in
      let o = op_size e.op in
      let m = link_list_size rest in
      let c = suc (length e.operands) in
      let fits : n + o + m ≤ s0.start = omega (arith, room, links_rest i l, ap link_list_size more) in
      let counts : count ≡ c = many ∙ ap (λ k. suc (length k)) same in
      let r = λ (at : ℕ). link_list_code library line rest t at in
      let p = λ (at : ℕ). op_code library e.op line t c at in
      let behind = next_before p r o m s0 s1 s (λ at. links_length library line rest t at) (omega (arith, fits)) f (g ∙ ap (λ k. before (op_code library e.op line t k (s1.start - o)) s1) counts) in
      let r1 = λ (at : ℕ). p at ++ r (at + o) in
      let size : n + (o + m) ≡ n + o + m = omega arith in
      next_before (λ at. exprs_code library e.operands (t + 1) at) r1 n (o + m) s0 s s2
      (λ at. long_two (p at) (r (at + o)) o m (op_length library e.op line t c at) (links_length library line rest t (at + o))) (omega (arith, fits)) behind
      (h ∙ ap (λ k. before (exprs_code library k second (s.start - exprs_size k)) s) same ∙ ap (λ k. before (exprs_code library e.operands k (s.start - n)) s) two)
      ∙ ap (λ k. before (exprs_code library e.operands (t + 1) (s0.start - k) ++ (p (s0.start - k + n) ++ r (s0.start - k + n + o))) s0) size
      ∙ ap (λ k. before (link_list_code library line k t (s0.start - link_list_size k)) s0) (sym more)

  pub operands_room :
      (l : List Expr) (e : Expr) (t : ℕ) → drop i l ≡ e ∷ drop j l → exprs_size l ≤ s0.start →
      s1 ≡ before (exprs_code library (drop j l) (t + j) (s0.start - exprs_size (drop j l))) s0 → expr_size e ≤ s1.start
  operands_room l e t more room f =
      let rest = drop j l in
      let start = start_after (exprs_code library rest (t + j) (s0.start - exprs_size rest)) (exprs_size rest) s0 s1 (exprs_length library rest (t + j) (s0.start - exprs_size rest)) f in
      omega (arith, room, exprs_rest i l, ap exprs_size more, start)

  pub and_room :
      (line : ℕ) (l : List Expr) (e : Expr) (t end : ℕ) (s : PlainTail) → drop i l ≡ e ∷ drop j l → test_list_size 1 l ≤ s0.start →
      s1 ≡ before (and_list_code library line (drop j l) t (s0.start - test_list_size 1 (drop j l)) end) s0 →
      s ≡ before (at_line library line (JumpZero t end) ∷ []) s1 → expr_size e ≤ s.start
  and_room line l e t end s more room f g =
      let rest = drop j l in
      let m = test_list_size 1 rest in
      let start = start_after (and_list_code library line rest t (s0.start - m) end) m s0 s1 (and_length library line rest t (s0.start - m) end) f in
      let next = start_after (at_line library line (JumpZero t end) ∷ []) 1 s1 s refl g in
      omega (arith, room, tests_rest 1 i l, ap (test_list_size 1) more, start, next)

  pub or_room :
      (line : ℕ) (l : List Expr) (e : Expr) (t next end : ℕ) (s : PlainTail) → drop i l ≡ e ∷ drop j l → test_list_size 3 l ≤ s0.start →
      s1 ≡ before (or_list_code library line (drop j l) t (s0.start - test_list_size 3 (drop j l)) end) s0 →
      s ≡ before (at_line library line (JumpZero t next) ∷ at_line library line (Const t 1) ∷ at_line library line (Jump end) ∷ []) s1 → expr_size e ≤ s.start
  or_room line l e t next end s more room f g =
      let rest = drop j l in
      let m = test_list_size 3 rest in
      let start = start_after (or_list_code library line rest t (s0.start - m) end) m s0 s1 (or_length library line rest t (s0.start - m) end) f in
      let behind = start_after (at_line library line (JumpZero t next) ∷ at_line library line (Const t 1) ∷ at_line library line (Jump end) ∷ []) 3 s1 s refl g in
      omega (arith, room, tests_rest 3 i l, ap (test_list_size 3) more, start, behind)

  pub op_room :
      (line : ℕ) (l : List Link) (e : Link) (t : ℕ) → drop i l ≡ e ∷ drop j l → link_list_size l ≤ s0.start →
      s1 ≡ before (link_list_code library line (drop j l) t (s0.start - link_list_size (drop j l))) s0 → exprs_size e.operands + op_size e.op ≤ s1.start
  op_room line l e t more room f =
      let rest = drop j l in
      let m = link_list_size rest in
      let start = start_after (link_list_code library line rest t (s0.start - m)) m s0 s1 (links_length library line rest t (s0.start - m)) f in
      omega (arith, room, links_rest i l, ap link_list_size more, start)

  pub link_room :
      (line : ℕ) (l : List Link) (e : Link) (operands : List Expr) (t count : ℕ) (s : PlainTail) → drop i l ≡ e ∷ drop j l → link_list_size l ≤ s0.start →
      operands ≡ e.operands → s1 ≡ before (link_list_code library line (drop j l) t (s0.start - link_list_size (drop j l))) s0 →
      s ≡ before (op_code library e.op line t count (s1.start - op_size e.op)) s1 → exprs_size operands ≤ s.start
  link_room line l e operands t count s more room same f g =
      let start = start_after (op_code library e.op line t count (s1.start - op_size e.op)) (op_size e.op) s1 s (op_length library e.op line t count (s1.start - op_size e.op)) g in
      omega (arith, op_room line l e t more room f, start, ap exprs_size same)

-- ---- a branch

pub built_branch :
    (library : Bool) (line t n0 n1 n2 end other : ℕ) (ct c1 c2 : ℕ → List Instruction) (s0 s1 s2 s3 s4 s5 : PlainTail) →
    ((at : ℕ) → length (c1 at) ≡ n1) → ((at : ℕ) → length (c2 at) ≡ n2) → branch_size n0 n1 n2 ≤ s0.start → end ≡ s0.start → other ≡ s1.start →
    s1 ≡ before (c2 (s0.start - n2)) s0 → s2 ≡ before (at_line library line (Jump end) ∷ []) s1 → s3 ≡ before (c1 (s2.start - n1)) s2 →
    s4 ≡ before (at_line library line (JumpZero t other) ∷ []) s3 → s5 ≡ before (ct (s4.start - n0)) s4 → (at : ℕ) → at ≡ s0.start - branch_size n0 n1 n2 →
    s5 ≡ before (branch_code library line t at n0 n1 n2 (ct at) (c1 (at + n0 + 1)) (c2 (at + n0 + 1 + n1 + 1))) s0
built_branch library line t n0 n1 n2 end other ct c1 c2 s0 s1 s2 s3 s4 s5 long1 long2 room there mid e1 e2 e3 e4 e5 at here =
    let jz = λ (p : ℕ). at_line library line (JumpZero t p) in
    let j = λ (p : ℕ). at_line library line (Jump p) in
    let start : s1.start ≡ s0.start - n2 = ap (λ (s : PlainTail). s.start) e1 ∙ ap (λ k. s0.start - k) (long2 (s0.start - n2)) in
    let target : other ≡ at + n0 + 1 + n1 + 1 = omega (arith, mid, start, room, here) in
    let last : end ≡ at + n0 + 1 + n1 + 1 + n2 = omega (arith, there, room, here) in
    let b1 = next_before (λ _. j end ∷ []) c2 1 n2 s0 s1 s2 long2 (omega (arith, room)) e1 e2 in
    let r2 = λ (i : ℕ). j end ∷ c2 (i + 1) in
    let long3 = λ (i : ℕ). (let e : length (r2 i) ≡ 1 + n2 = omega (arith, long2 (i + 1)) in e) in
    let b2 = next_before c1 r2 n1 (1 + n2) s0 s2 s3 long3 (omega (arith, room)) b1 e3 in
    let r3 = λ (i : ℕ). c1 i ++ r2 (i + n1) in
    let long4 = λ (i : ℕ). long_two (c1 i) (r2 (i + n1)) n1 (1 + n2) (long1 i) (long3 (i + n1)) in
    let b3 = next_before (λ _. jz other ∷ []) r3 1 (n1 + (1 + n2)) s0 s3 s4 long4 (omega (arith, room)) b2 e4 in
    let r4 = λ (i : ℕ). jz other ∷ r3 (i + 1) in
    let long5 = λ (i : ℕ). (let e : length (r4 i) ≡ 1 + (n1 + (1 + n2)) = omega (arith, long4 (i + 1)) in e) in
    let b4 = next_before ct r4 n0 (1 + (n1 + (1 + n2))) s0 s4 s5 long5 (omega (arith, room)) b3 e5 in
    let place : s0.start - (n0 + (1 + (n1 + (1 + n2)))) ≡ at = omega (arith, here) in
    b4 ∙ ap (λ i. before (ct i ++ (jz other ∷ (c1 (i + n0 + 1) ++ (j end ∷ c2 (i + n0 + 1 + n1 + 1))))) s0) place
    ∙ ap (λ p. before (ct at ++ (jz p ∷ (c1 (at + n0 + 1) ++ (j end ∷ c2 (at + n0 + 1 + n1 + 1))))) s0) target
    ∙ ap (λ p. before (ct at ++ (jz (at + n0 + 1 + n1 + 1) ∷ (c1 (at + n0 + 1) ++ (j p ∷ c2 (at + n0 + 1 + n1 + 1))))) s0) last

-- ---- whole expressions, of which the last part was put first

module _ (library : Bool) (line t : ℕ) (e : Expr) (s0 s1 s2 : PlainTail) (room : expr_size e ≤ s0.start) where
  pub apply_room :
      (o : Operation) (operands items : List Expr) (count : ℕ) → e ≡ Apply line o operands → items ≡ operands →
      s1 ≡ before (op_code library o line t count (s0.start - op_size o)) s0 → exprs_size items ≤ s1.start
  apply_room o operands items count is same f =
      let start = start_after (op_code library o line t count (s0.start - op_size o)) (op_size o) s0 s1 (op_length library o line t count (s0.start - op_size o)) f in
      omega (arith, room, start, ap expr_size is ∙ apply_size line o operands, ap exprs_size same)

  pub apply_built :
      (o : Operation) (operands items : List Expr) (count : ℕ) → e ≡ Apply line o operands → items ≡ operands → count ≡ length items →
      s1 ≡ before (op_code library o line t count (s0.start - op_size o)) s0 → s2 ≡ before (exprs_code library items t (s1.start - exprs_size items)) s1 →
      s2 ≡ before (expr_code library e t (s0.start - expr_size e)) s0
  apply_built o operands items count is same many f g =
      let n = exprs_size operands in
      let size : expr_size e ≡ n + op_size o = ap expr_size is ∙ apply_size line o operands in
      let counts : count ≡ length operands = many ∙ ap length same in
      let at = s0.start - (n + op_size o) in
      next_before (λ i. exprs_code library operands t i) (λ i. op_code library o line t (length operands) i) n (op_size o) s0 s1 s2
      (λ i. op_length library o line t (length operands) i) (omega (arith, room, size))
      (f ∙ ap (λ k. before (op_code library o line t k (s0.start - op_size o)) s0) counts)
      (g ∙ ap (λ l. before (exprs_code library l t (s1.start - exprs_size l)) s1) same)
      ∙ ap (λ c. before c s0) (sym (apply_code library line o operands t at))
      ∙ ap (λ k. before (expr_code library (Apply line o operands) t (s0.start - k)) s0) (sym size)
      ∙ ap (λ x. before (expr_code library x t (s0.start - expr_size e)) s0) (sym is)

  pub print_room :
      (operands items : List Expr) (pieces given : List Piece) (count : ℕ) → e ≡ Print line operands pieces → items ≡ operands → given ≡ pieces →
      s1 ≡ before (print_code library given line t count) s0 → exprs_size items ≤ s1.start
  print_room operands items pieces given count is same alike f =
      let start = start_after (print_code library given line t count) (print_size given) s0 s1 (print_length library given line t count) f in
      omega (arith, room, start, ap expr_size is ∙ print_view_size line operands pieces, ap exprs_size same, ap print_size alike)

  pub print_built :
      (operands items : List Expr) (pieces given : List Piece) (count : ℕ) → e ≡ Print line operands pieces → items ≡ operands → given ≡ pieces →
      count ≡ length items → s1 ≡ before (print_code library given line t count) s0 → s2 ≡ before (exprs_code library items t (s1.start - exprs_size items)) s1 →
      s2 ≡ before (expr_code library e t (s0.start - expr_size e)) s0
  print_built operands items pieces given count is same alike many f g =
      let n = exprs_size operands in
      let m = print_size pieces in
      let size : expr_size e ≡ n + m = ap expr_size is ∙ print_view_size line operands pieces in
      let counts : count ≡ length operands = many ∙ ap length same in
      let at = s0.start - (n + m) in
      next_before (λ i. exprs_code library operands t i) (λ _. print_code library pieces line t (length operands)) n m s0 s1 s2
      (λ _. print_length library pieces line t (length operands)) (omega (arith, room, size))
      (f ∙ ap (λ l. before (print_code library l line t count) s0) alike ∙ ap (λ k. before (print_code library pieces line t k) s0) counts)
      (g ∙ ap (λ l. before (exprs_code library l t (s1.start - exprs_size l)) s1) same)
      ∙ ap (λ c. before c s0) (sym (print_view_code library line operands pieces t at))
      ∙ ap (λ k. before (expr_code library (Print line operands pieces) t (s0.start - k)) s0) (sym size)
      ∙ ap (λ x. before (expr_code library x t (s0.start - expr_size e)) s0) (sym is)

  pub chain_room :
      (first given : Expr) (links items : List Link) → e ≡ Chain line first links → items ≡ links → given ≡ first →
      s1 ≡ before (link_list_code library line items t (s0.start - link_list_size items)) s0 → expr_size given ≤ s1.start
  chain_room first given links items is same alike f =
      let m = link_list_size items in
      let start = start_after (link_list_code library line items t (s0.start - m)) m s0 s1 (links_length library line items t (s0.start - m)) f in
      omega (arith, room, start, ap expr_size is ∙ chain_size line first links, ap link_list_size same, ap expr_size alike)

  pub chain_built :
      (first given : Expr) (links items : List Link) → e ≡ Chain line first links → items ≡ links → given ≡ first →
      s1 ≡ before (link_list_code library line items t (s0.start - link_list_size items)) s0 →
      s2 ≡ before (expr_code library given t (s1.start - expr_size given)) s1 → s2 ≡ before (expr_code library e t (s0.start - expr_size e)) s0
  chain_built first given links items is same alike f g =
      let n = expr_size first in
      let m = link_list_size links in
      let size : expr_size e ≡ n + m = ap expr_size is ∙ chain_size line first links in
      let at = s0.start - (n + m) in
      next_before (λ i. expr_code library first t i) (λ i. link_list_code library line links t i) n m s0 s1 s2
      (λ i. links_length library line links t i) (omega (arith, room, size))
      (f ∙ ap (λ l. before (link_list_code library line l t (s0.start - link_list_size l)) s0) same)
      (g ∙ ap (λ x. before (expr_code library x t (s1.start - expr_size x)) s1) alike)
      ∙ ap (λ c. before c s0) (sym (chain_code library line first links t at))
      ∙ ap (λ k. before (expr_code library (Chain line first links) t (s0.start - k)) s0) (sym size)
      ∙ ap (λ x. before (expr_code library x t (s0.start - expr_size e)) s0) (sym is)

pub logic_built :
    (library : Bool) (line t : ℕ) (e : Expr) (s0 s1 : PlainTail) (all : Bool) (operands items : List Expr) → e ≡ Logic line all operands → items ≡ operands →
    s1 ≡ before (logic_list_code library line all items t (s0.start - logic_list_size all items)) s0 → s1 ≡ before (expr_code library e t (s0.start - expr_size e)) s0
logic_built library line t e s0 s1 all operands items is same f =
    let size : expr_size e ≡ logic_list_size all operands = ap expr_size is ∙ logic_view_size line all operands in
    f ∙ ap (λ l. before (logic_list_code library line all l t (s0.start - logic_list_size all l)) s0) same
    ∙ ap (λ c. before c s0) (sym (logic_view_code library line all operands t (s0.start - logic_list_size all operands)))
    ∙ ap (λ k. before (expr_code library (Logic line all operands) t (s0.start - k)) s0) (sym size)
    ∙ ap (λ x. before (expr_code library x t (s0.start - expr_size e)) s0) (sym is)

pub choice_built :
    (library : Bool) (line t end other : ℕ) (e test one last given0 given1 given2 : Expr) (s0 s1 s2 s3 s4 s5 : PlainTail) → e ≡ Choose line test one last →
    given0 ≡ test → given1 ≡ one → given2 ≡ last → expr_size e ≤ s0.start → end ≡ s0.start → other ≡ s1.start →
    s1 ≡ before (expr_code library given2 t (s0.start - expr_size given2)) s0 → s2 ≡ before (at_line library line (Jump end) ∷ []) s1 →
    s3 ≡ before (expr_code library given1 t (s2.start - expr_size given1)) s2 → s4 ≡ before (at_line library line (JumpZero t other) ∷ []) s3 →
    s5 ≡ before (expr_code library given0 t (s4.start - expr_size given0)) s4 → s5 ≡ before (expr_code library e t (s0.start - expr_size e)) s0
choice_built library line t end other e test one last given0 given1 given2 s0 s1 s2 s3 s4 s5 is same0 same1 same2 room there mid e1 e2 e3 e4 e5 =
    let n0 = expr_size test in
    let n1 = expr_size one in
    let n2 = expr_size last in
    let size : expr_size e ≡ branch_size n0 n1 n2 = ap expr_size is ∙ choose_size line test one last in
    let at = s0.start - branch_size n0 n1 n2 in
    built_branch library line t n0 n1 n2 end other (expr_code library test t) (expr_code library one t) (expr_code library last t) s0 s1 s2 s3 s4 s5
    (λ i. expr_length library one t i) (λ i. expr_length library last t i) (omega (arith, room, size)) there mid
    (e1 ∙ ap (λ x. before (expr_code library x t (s0.start - expr_size x)) s0) same2) e2
    (e3 ∙ ap (λ x. before (expr_code library x t (s2.start - expr_size x)) s2) same1) e4
    (e5 ∙ ap (λ x. before (expr_code library x t (s4.start - expr_size x)) s4) same0) at refl
    ∙ ap (λ c. before c s0) (sym (choose_code library line test one last t at))
    ∙ ap (λ k. before (expr_code library (Choose line test one last) t (s0.start - k)) s0) (sym size)
    ∙ ap (λ x. before (expr_code library x t (s0.start - expr_size e)) s0) (sym is)
