-- What is put where there is room, part by part, is put there as a whole.
use Rattle.std.proofs.Common.{◌≡◌, ℕ, ◌+◌, ◌-◌, ◌≤◌, List, [], ◌∷◌, ◌++◌, length, drop, reverse, Bool, refl, sym, ap, ◌∙◌, subst, arith}
use Rattle.std.specs.Prelude.{slice_index_or, Option, Some}
use Rattle.std.proofs.lemmas.List.{reverse-reverse}
use Rattle.c_tree.specs.declared.expr.Expr.{Expr}
use Rattle.c_tree.specs.declared.stmt.LocalDef.{LocalDef}
use Rattle.c_tree.specs.declared.stmt.Case.{Case}
use Rattle.c_tree.specs.declared.stmt.Stmt.{Stmt, Block, If, Loop, BreakUnless, Switch}
use Rattle.whole_code.specs.declared.op.Op.TheVariants.{Jump, JumpZero, Return}
use Rattle.whole_code.specs.declared.op.Instruction.{Instruction}
use Rattle.expr_gen.specs.Operations.{at_line}
use Rattle.expr_gen.specs.Code.{branch_size, expr_size, expr_code}
use Rattle.stmt_gen.specs.Code.{Exits, locals_size, locals_code, cases_size, cases_code, switch_exits, return_size, return_code, stmt_size, stmt_code}
use Rattle.stmt_gen.proofs.Sizes.{stmt_length, cases_length}
use Rattle.expr_emit.specs.Tail.{PlainTail, before, PutsBefore, Replaces}
use Rattle.expr_emit.proofs.Tails.{next_before, start_after, long_two}
use Rattle.expr_emit.proofs.Steps.{built_branch}
use Rattle.stmt_emit.specs.declared.statement.Inside.{Inside}
use Rattle.stmt_emit.specs.Lists.{exits_of, inside_at, statements_size, statements_code, starts_of}
use Rattle.stmt_emit.proofs.Views.{block_size, block_code, if_size, if_code, loop_size, loop_view_code, switch_size, switch_view_code}
use Rattle.stmt_emit.proofs.Steps.{statements_length, statements_rest, statements_step, starts_step, built_loop}

module _ (library : Bool) (i j : ℕ) (s0 s1 s2 : PlainTail) (l : List Stmt) (s : Stmt) (t : ℕ) (x : Exits) (more : drop i l ≡ s ∷ drop j l) where
  statements_room :
      statements_size l ≤ s0.start → s1 ≡ before (statements_code library (drop j l) t (s0.start - statements_size (drop j l)) x) s0 → stmt_size s ≤ s1.start
  statements_room room f =
      let rest = drop j l in
      let m = statements_size rest in
      let start = start_after (statements_code library rest t (s0.start - m) x) m s0 s1 (statements_length library rest t (s0.start - m) x) f in
      omega (arith, room, statements_rest i l, ap statements_size more, start)

  pub statements_put :
      (statements_size l ≤ s0.start → s1 ≡ before (statements_code library (drop j l) t (s0.start - statements_size (drop j l)) x) s0) →
      PutsBefore (stmt_size s) (λ at. stmt_code library s t at x) s1 s2 → statements_size l ≤ s0.start →
      s2 ≡ before (statements_code library (drop i l) t (s0.start - statements_size (drop i l)) x) s0
  statements_put f g room =
      let held = f room in
      statements_step library i j s0 s1 s2 l s t x more room held (g (statements_room room held))

  -- and its start is put behind those of the following ones
  pub starts_put :
      (start : ℕ) (starts starts1 starts2 : List ℕ) →
      (statements_size l ≤ s0.start → s1 ≡ before (statements_code library (drop j l) t (s0.start - statements_size (drop j l)) x) s0) →
      PutsBefore (stmt_size s) (λ at. stmt_code library s t at x) s1 s2 → start ≡ s2.start →
      (statements_size l ≤ s0.start → starts1 ≡ starts ++ reverse (starts_of (drop j l) (s0.start - statements_size (drop j l)))) →
      starts2 ≡ starts1 ++ start ∷ [] → statements_size l ≤ s0.start →
      starts2 ≡ starts ++ reverse (starts_of (drop i l) (s0.start - statements_size (drop i l)))
  starts_put start starts starts1 starts2 f g there e h room =
      let m = statements_size (drop i l) in
      let here : start ≡ s0.start - m =
      there ∙ start_after (statements_code library (drop i l) t (s0.start - m) x) m s0 s2 (statements_length library (drop i l) t (s0.start - m) x) (statements_put f g room) in
      starts_step i j s0.start start starts starts1 starts2 l s more room here (e room) h

-- a value's code, and then its return
pub return_put :
    (library : Bool) (line t : ℕ) (given : Option Expr) (value : Expr) (s0 s1 s2 : PlainTail) → given ≡ Some value →
    s1 ≡ before (at_line library line (Return t) ∷ []) s0 → PutsBefore (expr_size value) (expr_code library value t) s1 s2 →
    PutsBefore (return_size given) (return_code library line given t) s0 s2
return_put library line t given value s0 s1 s2 is f g =
    let n = expr_size value in
    let back = at_line library line (Return t) in
    let start = start_after (back ∷ []) 1 s0 s1 refl f in
    subst (λ (o : Option Expr). PutsBefore (return_size o) (return_code library line o t) s0 s2) (sym is)
    (λ room. next_before (expr_code library value t) (λ _. back ∷ []) n 1 s0 s1 s2 (λ _. refl) room f (g (omega (arith, room, start))))

module _ (library : Bool) (t : ℕ) (e : Stmt) (x : Exits) where
  abbrev IsPut : PlainTail → PlainTail → Type 0
  IsPut s0 s1 = PutsBefore (stmt_size e) (λ at. stmt_code library e t at x) s0 s1

  -- code that is known to be the statement's
  as_code :
      (s0 s1 : PlainTail) (d : Stmt) (n : ℕ) (c : List Instruction) → e ≡ d → stmt_size d ≡ n → stmt_code library d t (s0.start - n) x ≡ c → s1 ≡ before c s0 →
      s1 ≡ before (stmt_code library e t (s0.start - stmt_size e) x) s0
  as_code s0 s1 d n c is size code f =
      f ∙ ap (λ c. before c s0) (sym code) ∙ ap (λ k. before (stmt_code library d t (s0.start - k) x) s0) (sym size)
      ∙ ap (λ y. before (stmt_code library y t (s0.start - stmt_size y) x) s0) (sym is)

  pub block_put :
      (s0 s1 s2 : PlainTail) (locals given : List LocalDef) (body items : List Stmt) → e ≡ Block locals body → given ≡ locals → items ≡ body →
      PutsBefore (statements_size items) (λ at. statements_code library items t at x) s0 s1 → s2 ≡ before (locals_code library given t) s1 → IsPut s0 s2
  block_put s0 s1 s2 locals given body items is alike same f g room =
      let n = locals_size locals in
      let m = statements_size body in
      let size = ap stmt_size is ∙ block_size locals body in
      let put = f (omega (arith, room, size, ap statements_size same)) ∙ ap (λ l. before (statements_code library l t (s0.start - statements_size l) x) s0) same in
      as_code s0 s2 (Block locals body) (n + m) _ is (block_size locals body) (block_code library locals body t (s0.start - (n + m)) x)
      (next_before (λ _. locals_code library locals t) (λ i. statements_code library body t i x) n m s0 s1 s2 (λ i. statements_length library body t i x)
      (omega (arith, room, size)) put (g ∙ ap (λ l. before (locals_code library l t) s1) alike))

  pub if_put :
      (line end other : ℕ) (test : Expr) (one last given1 given2 : Stmt) (s0 s1 s2 s3 s4 s5 : PlainTail) → e ≡ If line test one last → given1 ≡ one → given2 ≡ last →
      end ≡ s0.start → other ≡ s1.start → PutsBefore (stmt_size given2) (λ at. stmt_code library given2 t at x) s0 s1 →
      s2 ≡ before (at_line library line (Jump end) ∷ []) s1 → PutsBefore (stmt_size given1) (λ at. stmt_code library given1 t at x) s2 s3 →
      s4 ≡ before (at_line library line (JumpZero t other) ∷ []) s3 → PutsBefore (expr_size test) (expr_code library test t) s4 s5 → IsPut s0 s5
  if_put line end other test one last given1 given2 s0 s1 s2 s3 s4 s5 is same1 same2 there mid e1 e2 e3 e4 e5 room =
      let n0 = expr_size test in
      let n1 = stmt_size one in
      let n2 = stmt_size last in
      let size = ap stmt_size is ∙ if_size line test one last in
      let z1 = ap stmt_size same1 in
      let z2 = ap stmt_size same2 in
      let c1 = e1 (omega (arith, room, size, z2)) ∙ ap (λ y. before (stmt_code library y t (s0.start - stmt_size y) x) s0) same2 in
      let start1 = start_after (stmt_code library last t (s0.start - n2) x) n2 s0 s1 (stmt_length library last t (s0.start - n2) x) c1 in
      let start2 = start_after (at_line library line (Jump end) ∷ []) 1 s1 s2 refl e2 in
      let c3 = e3 (omega (arith, room, size, z1, start1, start2)) ∙ ap (λ y. before (stmt_code library y t (s2.start - stmt_size y) x) s2) same1 in
      let start3 = start_after (stmt_code library one t (s2.start - n1) x) n1 s2 s3 (stmt_length library one t (s2.start - n1) x) c3 in
      let start4 = start_after (at_line library line (JumpZero t other) ∷ []) 1 s3 s4 refl e4 in
      let c5 = e5 (omega (arith, room, size, start1, start2, start3, start4)) in
      as_code s0 s5 (If line test one last) (branch_size n0 n1 n2) _ is (if_size line test one last) (if_code library line test one last t (s0.start - branch_size n0 n1 n2) x)
      (built_branch library line t n0 n1 n2 end other (expr_code library test t) (λ i. stmt_code library one t i x) (λ i. stmt_code library last t i x) s0 s1 s2 s3 s4 s5
      (λ i. stmt_length library one t i x) (λ i. stmt_length library last t i x) (omega (arith, room, size)) there mid c1 e2 c3 e4 c5 (s0.start - branch_size n0 n1 n2) refl)

  pub break_unless_put :
      (line : ℕ) (test : Expr) (s0 s1 s2 : PlainTail) → e ≡ BreakUnless line test → s1 ≡ before (at_line library line (JumpZero t x.broke) ∷ []) s0 →
      PutsBefore (expr_size test) (expr_code library test t) s1 s2 → IsPut s0 s2
  break_unless_put line test s0 s1 s2 is f g room =
      let n = expr_size test in
      let jz = at_line library line (JumpZero t x.broke) in
      let size : stmt_size e ≡ n + 1 = ap stmt_size is in
      let start = start_after (jz ∷ []) 1 s0 s1 refl f in
      as_code s0 s2 (BreakUnless line test) (n + 1) _ is refl refl
      (next_before (expr_code library test t) (λ _. jz ∷ []) n 1 s0 s1 s2 (λ _. refl) (omega (arith, room, size)) f (g (omega (arith, room, size, start))))

  pub loop_put :
      (line : ℕ) (body next givenb givenn : Stmt) (xb xn : Exits) (s0 s1 s2 s3 s4 : PlainTail) → e ≡ Loop line body next → givenb ≡ body → givenn ≡ next →
      xb.broke ≡ s0.start → xb.continued ≡ s2.start → xn.broke ≡ s0.start → xn.continued ≡ s1.start →
      s1 ≡ before (at_line library line (Jump 0) ∷ []) s0 → PutsBefore (stmt_size givenn) (λ at. stmt_code library givenn t at xn) s1 s2 →
      PutsBefore (stmt_size givenb) (λ at. stmt_code library givenb t at xb) s2 s3 → s4.start ≡ s3.start →
      Replaces (length s0.instructions) (at_line library line (Jump s3.start)) s3.instructions s4.instructions → IsPut s0 s4
  loop_put line body next givenb givenn xb xn s0 s1 s2 s3 s4 is sameb samen bb bc nb nc e1 e2 e3 kept replaces room =
      let n1 = stmt_size body in
      let n2 = stmt_size next in
      let size = ap stmt_size is ∙ loop_size line body next in
      let zb = ap stmt_size sameb in
      let zn = ap stmt_size samen in
      let start1 = start_after (at_line library line (Jump 0) ∷ []) 1 s0 s1 refl e1 in
      let c2 = e2 (omega (arith, room, size, zn, start1)) ∙ ap (λ y. before (stmt_code library y t (s1.start - stmt_size y) xn) s1) samen in
      let start2 = start_after (stmt_code library next t (s1.start - n2) xn) n2 s1 s2 (stmt_length library next t (s1.start - n2) xn) c2 in
      let c3 = e3 (omega (arith, room, size, zb, start1, start2)) ∙ ap (λ y. before (stmt_code library y t (s2.start - stmt_size y) xb) s2) sameb in
      let at = s0.start - (n1 + n2 + 1) in
      as_code s0 s4 (Loop line body next) (n1 + n2 + 1) _ is (loop_size line body next) (loop_view_code library line body next t at x)
      (built_loop library line n1 n2 (λ x at. stmt_code library body t at x) (λ x at. stmt_code library next t at x) xb xn s0 s1 s2 s3 s4
      (λ i. stmt_length library body t i xb) (λ i. stmt_length library next t i xn) (omega (arith, room, size)) bb bc nb nc e1 c2 c3 kept replaces at refl)

  pub switch_put :
      (line : ℕ) (value : Expr) (cases given : List Case) (other target end : ℕ) (body items : List Stmt) (fresh starts turned : List ℕ) (s0 s1 s2 s3 s4 : PlainTail) →
      e ≡ Switch line value cases other body → given ≡ cases → items ≡ body → end ≡ s0.start →
      PutsBefore (statements_size items) (λ at. statements_code library items t at (switch_exits end x)) s0 s1 →
      fresh ≡ [] → (statements_size items ≤ s0.start → starts ≡ fresh ++ reverse (starts_of items (s0.start - statements_size items))) → turned ≡ reverse starts →
      target ≡ slice_index_or turned other end → s2 ≡ before (at_line library line (Jump target) ∷ []) s1 →
      s3 ≡ before (cases_code library line t (λ n. slice_index_or turned n end) given) s2 → PutsBefore (expr_size value) (expr_code library value t) s3 s4 → IsPut s0 s4
  switch_put line value cases given other target end body items fresh starts turned s0 s1 s2 s3 s4 is alike same there f new known turn aim e2 e3 g room =
      let n = expr_size value in
      let k = cases_size cases in
      let m = statements_size body in
      let size : stmt_size e ≡ n + k + 1 + m = ap stmt_size is ∙ switch_size line value cases other body in
      let z = ap statements_size same in
      let at = s0.start - (n + k + 1 + m) in
      let p = at + n + k + 1 in
      let enough : statements_size items ≤ s0.start = omega (arith, room, size, z) in
      let here : s0.start - m ≡ p = omega (arith, room, size) in
      let last : end ≡ p + m = omega (arith, there, room, size) in
      let index_of = λ (i : ℕ). slice_index_or (starts_of body p) i end in
      let all : turned ≡ starts_of body p =
      turn ∙ ap reverse (known enough) ∙ ap (λ l. reverse (l ++ reverse (starts_of items (s0.start - statements_size items)))) new ∙ reverse-reverse (starts_of items (s0.start - statements_size items))
      ∙ ap (λ l. starts_of l (s0.start - statements_size l)) same ∙ ap (λ i. starts_of body i) here in
      let c1 = f enough ∙ ap (λ l. before (statements_code library l t (s0.start - statements_size l) (switch_exits end x)) s0) same in
      let start1 = start_after (statements_code library body t (s0.start - m) (switch_exits end x)) m s0 s1 (statements_length library body t (s0.start - m) (switch_exits end x)) c1 in
      let jump = at_line library line (Jump (index_of other)) in
      let c2 : s2 ≡ before (jump ∷ []) s1 =
      e2 ∙ ap (λ i. before (at_line library line (Jump i) ∷ []) s1) (aim ∙ ap (λ l. slice_index_or l other end) all) in
      let c3 : s3 ≡ before (cases_code library line t index_of cases) s2 =
      e3 ∙ ap (λ l. before (cases_code library line t (λ i. slice_index_or l i end) given) s2) all ∙ ap (λ l. before (cases_code library line t index_of l) s2) alike in
      let start2 = start_after (jump ∷ []) 1 s1 s2 refl c2 in
      let start3 = start_after (cases_code library line t index_of cases) k s2 s3 (cases_length library line t index_of cases) c3 in
      let c4 = g (omega (arith, room, size, start1, start2, start3)) in
      let r1 = λ (i : ℕ). statements_code library body t i (switch_exits end x) in
      let long1 = λ (i : ℕ). statements_length library body t i (switch_exits end x) in
      let b1 = next_before (λ _. jump ∷ []) r1 1 m s0 s1 s2 long1 (omega (arith, room, size)) c1 c2 in
      let r2 = λ (i : ℕ). jump ∷ r1 (i + 1) in
      let long2 = λ (i : ℕ). (let e : length (r2 i) ≡ 1 + m = omega (arith, long1 (i + 1)) in e) in
      let b2 = next_before (λ _. cases_code library line t index_of cases) r2 k (1 + m) s0 s2 s3 long2 (omega (arith, room, size)) b1 c3 in
      let r3 = λ (i : ℕ). cases_code library line t index_of cases ++ r2 (i + k) in
      let long3 = λ (i : ℕ). long_two (cases_code library line t index_of cases) (r2 (i + k)) k (1 + m) (cases_length library line t index_of cases) (long2 (i + k)) in
      let b3 = next_before (expr_code library value t) r3 n (k + (1 + m)) s0 s3 s4 long3 (omega (arith, room, size)) b2 c4 in
      let place : s0.start - (n + (k + (1 + m))) ≡ at = omega arith in
      as_code s0 s4 (Switch line value cases other body) (n + k + 1 + m) _ is (switch_size line value cases other body)
      (switch_view_code library line value cases other body t at p end x refl last)
      (b3 ∙ ap (λ i. before (expr_code library value t i ++ (cases_code library line t index_of cases ++ (jump ∷ r1 (i + n + k + 1)))) s0) place)

-- ---- the statement that is put is the one that was given

abbrev IsPutIn : Inside → Stmt → (old new : PlainTail) → Type 0
IsPutIn i e s0 s1 = PutsBefore (stmt_size e) (λ at. stmt_code i.place.library e i.place.t at (exits_of i.exits)) s0 s1

pub put_same : (i : Inside) (d e : Stmt) (s0 s1 : PlainTail) → e ≡ d → IsPutIn i d s0 s1 → IsPutIn i e s0 s1
put_same i d e s0 s1 is put = subst (λ (x : Stmt). IsPutIn i x s0 s1) (sym is) put

-- and so where it is put for its own line
pub put_as :
    (p i : Inside) (line : ℕ) (d : ℕ → Stmt) (e : Stmt) (s0 s1 : PlainTail) → p ≡ inside_at i line → e ≡ d line →
    IsPutIn p (d p.place.line) s0 s1 → IsPutIn i e s0 s1
put_as p i line d e s0 s1 there is put =
    put_same i (d line) e s0 s1 is (subst (λ (q : Inside). IsPutIn q (d q.place.line) s0 s1) there put)
