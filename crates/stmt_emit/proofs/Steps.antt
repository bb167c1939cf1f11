-- The code of a statement comes before the code of what stands behind it.
use Rattle.std.proofs.Common.{◌≡◌, ℕ, zero, suc, ◌+◌, ◌-◌, ◌≤◌, List, [], ◌∷◌, ◌++◌, length, drop, reverse, Bool, refl, sym, ap, ◌∙◌, arith, append_assoc, length-append}
use Rattle.std.proofs.lemmas.List.{reverse-append}
use Rattle.c_tree.specs.declared.stmt.Stmt.{Stmt}
use Rattle.c_tree.specs.declared.stmt.Case.{Case}
use Rattle.c_tree.specs.declared.stmt.LocalDef.{LocalDef}
use Rattle.whole_code.specs.declared.op.Op.TheVariants.{Jump}
use Rattle.whole_code.specs.declared.op.Instruction.{Instruction}
use Rattle.expr_gen.specs.Operations.{at_line}
use Rattle.expr_gen.specs.Code.{instructions}
use Rattle.stmt_gen.specs.Code.{Exits, local_ops, locals_code, case_ops, cases_code, loop_code, loop_exits, stmt_size, stmt_code}
use Rattle.stmt_gen.proofs.Sizes.{stmt_length}
use Rattle.expr_emit.specs.Tail.{PlainTail, before, Replaces}
use Rattle.expr_emit.proofs.Tails.{same_tail, two_before, next_before, long_two}
use Rattle.stmt_emit.specs.Lists.{statements_size, statements_code, starts_of}

pub statements_length : (library : Bool) (l : List Stmt) (t at : ℕ) (x : Exits) → length (statements_code library l t at x) ≡ statements_size l
statements_length library [] t at x = refl
statements_length library (s ∷ rest) t at x =
    long_two (stmt_code library s t at x) (statements_code library rest t (at + stmt_size s) x) _ _ (stmt_length library s t at x) (statements_length library rest t (at + stmt_size s) x)

pub statements_rest : (i : ℕ) (l : List Stmt) → statements_size (drop i l) ≤ statements_size l
statements_rest zero l = omega arith
statements_rest (suc i) [] = omega arith
statements_rest (suc i) (s ∷ rest) = omega (arith, statements_rest i rest)

pub statements_step :
    (library : Bool) (i j : ℕ) (s0 s1 s2 : PlainTail) (l : List Stmt) (s : Stmt) (t : ℕ) (x : Exits) → drop i l ≡ s ∷ drop j l → statements_size l ≤ s0.start →
    s1 ≡ before (statements_code library (drop j l) t (s0.start - statements_size (drop j l)) x) s0 →
    s2 ≡ before (stmt_code library s t (s1.start - stmt_size s) x) s1 →
    s2 ≡ before (statements_code library (drop i l) t (s0.start - statements_size (drop i l)) x) s0
statements_step library i j s0 s1 s2 l s t x more room f g =
    let rest = drop j l in
    let fits : stmt_size s + statements_size rest ≤ s0.start = omega (arith, room, statements_rest i l, ap statements_size more) in
    next_before (λ at. stmt_code library s t at x) (λ at. statements_code library rest t at x) (stmt_size s) (statements_size rest) s0 s1 s2
    (λ at. statements_length library rest t at x) fits f g
    ∙ ap (λ k. before (statements_code library k t (s0.start - statements_size k) x) s0) (sym more)

-- where it begins is put behind where the following ones do
pub starts_step :
    (i j start0 start : ℕ) (starts starts1 starts2 : List ℕ) (l : List Stmt) (s : Stmt) → drop i l ≡ s ∷ drop j l → statements_size l ≤ start0 →
    start ≡ start0 - statements_size (drop i l) → starts1 ≡ starts ++ reverse (starts_of (drop j l) (start0 - statements_size (drop j l))) →
    starts2 ≡ starts1 ++ start ∷ [] → starts2 ≡ starts ++ reverse (starts_of (drop i l) (start0 - statements_size (drop i l)))
starts_step i j start0 start starts starts1 starts2 l s more room here e f =
    let rest = drop j l in
    let p = start0 - statements_size rest in
    let size = ap statements_size more in
    let next : start + stmt_size s ≡ p = omega (arith, here, room, size, statements_rest i l) in
    let made : reverse (start ∷ starts_of rest p) ≡ reverse (starts_of rest p) ++ start ∷ [] = reverse-append (start ∷ []) (starts_of rest p) in
    f ∙ ap (λ k. k ++ start ∷ []) e ∙ append_assoc starts (reverse (starts_of rest p)) (start ∷ [])
    ∙ ap (λ k. starts ++ k) (sym made) ∙ ap (λ k. starts ++ reverse (start ∷ starts_of rest k)) (sym next)
    ∙ ap (λ k. starts ++ reverse (starts_of (s ∷ rest) k)) here ∙ ap (λ k. starts ++ reverse (starts_of k (start0 - statements_size (drop i l)))) (sym more)

-- a loop, whose jump back is known when its body is there
pub built_loop :
    (library : Bool) (line n1 n2 : ℕ) (cb cn : Exits → ℕ → List Instruction) (xb xn : Exits) (s0 s1 s2 s3 s4 : PlainTail) →
    ((at : ℕ) → length (cb xb at) ≡ n1) → ((at : ℕ) → length (cn xn at) ≡ n2) → n1 + n2 + 1 ≤ s0.start →
    xb.broke ≡ s0.start → xb.continued ≡ s2.start → xn.broke ≡ s0.start → xn.continued ≡ s1.start →
    s1 ≡ before (at_line library line (Jump 0) ∷ []) s0 → s2 ≡ before (cn xn (s1.start - n2)) s1 → s3 ≡ before (cb xb (s2.start - n1)) s2 →
    s4.start ≡ s3.start → Replaces (length s0.instructions) (at_line library line (Jump s3.start)) s3.instructions s4.instructions →
    (at : ℕ) → at ≡ s0.start - (n1 + n2 + 1) →
    s4 ≡ before (loop_code library line at (cb (loop_exits (at + n1) (at + n1 + n2)) at) (cn (loop_exits (at + n1 + n2) (at + n1 + n2)) (at + n1))) s0
built_loop library line n1 n2 cb cn xb xn s0 s1 s2 s3 s4 longb longn room bb bc nb nc e1 e2 e3 same replaces at here =
    let j = λ (p : ℕ). at_line library line (Jump p) in
    let start1 : s1.start ≡ at + n1 + n2 = omega (arith, ap (λ (s : PlainTail). s.start) e1, room, here) in
    let p2 : s1.start - n2 ≡ at + n1 = omega (arith, start1) in
    let b1 = next_before (λ _. cn xn (at + n1)) (λ _. j 0 ∷ []) n2 1 s0 s1 s2 (λ _. refl) (omega (arith, room)) e1 (e2 ∙ ap (λ p. before (cn xn p) s1) p2) in
    let start2 : s2.start ≡ at + n1 = omega (arith, ap (λ (s : PlainTail). s.start) b1, length-append (cn xn (at + n1)) (j 0 ∷ []), longn (at + n1), room, here) in
    let p3 : s2.start - n1 ≡ at = omega (arith, start2) in
    let b2 = two_before (cb xb at) (cn xn (at + n1) ++ j 0 ∷ []) s0 s2 s3 b1 (e3 ∙ ap (λ p. before (cb xb p) s2) p3) in
    let count : length (cb xb at ++ (cn xn (at + n1) ++ j 0 ∷ [])) ≡ n1 + n2 + 1 =
    omega (arith, length-append (cb xb at) (cn xn (at + n1) ++ j 0 ∷ []), length-append (cn xn (at + n1)) (j 0 ∷ []), longb at, longn (at + n1)) in
    let start3 : s3.start ≡ at = omega (arith, ap (λ (s : PlainTail). s.start) b2, count, here) in
    let count4 : length (cb xb at ++ (cn xn (at + n1) ++ j at ∷ [])) ≡ n1 + n2 + 1 =
    omega (arith, length-append (cb xb at) (cn xn (at + n1) ++ j at ∷ []), length-append (cn xn (at + n1)) (j at ∷ []), longb at, longn (at + n1)) in
    let held : s3.instructions ≡ (cb xb at ++ cn xn (at + n1)) ++ j 0 ∷ s0.instructions =
    ap (λ (s : PlainTail). s.instructions) b2 ∙ append_assoc (cb xb at) (cn xn (at + n1) ++ j 0 ∷ []) s0.instructions
    ∙ ap (λ k. cb xb at ++ k) (append_assoc (cn xn (at + n1)) (j 0 ∷ []) s0.instructions)
    ∙ sym (append_assoc (cb xb at) (cn xn (at + n1)) (j 0 ∷ s0.instructions)) in
    let holds : s4.instructions ≡ (cb xb at ++ (cn xn (at + n1) ++ j at ∷ [])) ++ s0.instructions =
    replaces (cb xb at ++ cn xn (at + n1)) s0.instructions (j 0) held refl
    ∙ ap (λ p. (cb xb at ++ cn xn (at + n1)) ++ j p ∷ s0.instructions) start3
    ∙ append_assoc (cb xb at) (cn xn (at + n1)) (j at ∷ s0.instructions)
    ∙ ap (λ k. cb xb at ++ k) (sym (append_assoc (cn xn (at + n1)) (j at ∷ []) s0.instructions))
    ∙ sym (append_assoc (cb xb at) (cn xn (at + n1) ++ j at ∷ []) s0.instructions) in
    let starts : s4.start ≡ s0.start - length (cb xb at ++ (cn xn (at + n1) ++ j at ∷ [])) = omega (arith, same, start3, count4, here) in
    let exits = λ (b c : ℕ). (let x : Exits = record { broke = b; continued = c } in x) in
    let inner : xb ≡ loop_exits (at + n1) (at + n1 + n2) =
    (let broke : xb.broke ≡ at + n1 + n2 + 1 = omega (arith, bb, room, here) in
    let continued : xb.continued ≡ at + n1 = bc ∙ start2 in
    ap (λ b. exits b xb.continued) broke ∙ ap (λ c. exits (at + n1 + n2 + 1) c) continued) in
    let step : xn ≡ loop_exits (at + n1 + n2) (at + n1 + n2) =
    (let broke : xn.broke ≡ at + n1 + n2 + 1 = omega (arith, nb, room, here) in
    let continued : xn.continued ≡ at + n1 + n2 = nc ∙ start1 in
    ap (λ b. exits b xn.continued) broke ∙ ap (λ c. exits (at + n1 + n2 + 1) c) continued) in
    same_tail starts holds
    ∙ ap (λ x. before (cb x at ++ (cn xn (at + n1) ++ j at ∷ [])) s0) inner
    ∙ ap (λ x. before (cb (loop_exits (at + n1) (at + n1 + n2)) at ++ (cn x (at + n1) ++ j at ∷ [])) s0) step

-- ---- cases and locals

pub cases_step :
    (library : Bool) (line t : ℕ) (index_of : ℕ → ℕ) (i j target : ℕ) (l : List Case) (c : Case) (s0 s1 s2 : PlainTail) → drop i l ≡ c ∷ drop j l →
    target ≡ index_of c.statement → s1 ≡ before (cases_code library line t index_of (drop j l)) s0 →
    s2 ≡ before (instructions library line (case_ops c.value t target)) s1 → s2 ≡ before (cases_code library line t index_of (drop i l)) s0
cases_step library line t index_of i j target l c s0 s1 s2 more aim f g =
    two_before (instructions library line (case_ops c.value t (index_of c.statement))) (cases_code library line t index_of (drop j l)) s0 s1 s2 f
    (g ∙ ap (λ p. before (instructions library line (case_ops c.value t p)) s1) aim)
    ∙ ap (λ k. before (cases_code library line t index_of k) s0) (sym more)

pub locals_step :
    (library : Bool) (t i j : ℕ) (l : List LocalDef) (d : LocalDef) (s0 s1 s2 : PlainTail) → drop i l ≡ d ∷ drop j l →
    s1 ≡ before (locals_code library (drop j l) t) s0 → s2 ≡ before (instructions library d.line (local_ops d.kind d.local t)) s1 →
    s2 ≡ before (locals_code library (drop i l) t) s0
locals_step library t i j l d s0 s1 s2 more f g =
    two_before (instructions library d.line (local_ops d.kind d.local t)) (locals_code library (drop j l) t) s0 s1 s2 f g
    ∙ ap (λ k. before (locals_code library k t) s0) (sym more)
