-- Code that is put before a tail, part by part, is put there as a whole.
use Rattle.std.proofs.Common.{◌≡◌, ℕ, ◌+◌, ◌-◌, ◌≤◌, List, ◌++◌, length, Result, Ok, Err, sym, ap, ◌∙◌, arith, append_assoc, length-append}
use Rattle.std.specs.Result.{OnOk}
use Rattle.whole_code.specs.declared.op.Instruction.{Instruction}
use Rattle.expr_emit.specs.Tail.{PlainTail, plain_tail, before}

pub same_tail : {s1 s2 : ℕ} {i1 i2 : List Instruction} → s1 ≡ s2 → i1 ≡ i2 → plain_tail s1 i1 ≡ plain_tail s2 i2
same_tail {s1} {s2} {i1} {i2} e f = ap (λ s. plain_tail s i1) e ∙ ap (λ i. plain_tail s2 i) f

pub before_append : (a b : List Instruction) (tail : PlainTail) → before a (before b tail) ≡ before (a ++ b) tail
before_append a b tail =
    let starts : (tail.start - length b) - length a ≡ tail.start - length (a ++ b) = omega (arith, length-append a b) in
    same_tail starts (sym (append_assoc a b tail.instructions))

-- two parts
pub two_before :
    (a b : List Instruction) (s0 s1 s2 : PlainTail) → s1 ≡ before b s0 → s2 ≡ before a s1 → s2 ≡ before (a ++ b) s0
two_before a b s0 s1 s2 e f = f ∙ ap (λ s. before a s) e ∙ before_append a b s0

-- a part and what stands behind it, which is so long
pub next_before :
    (p r : ℕ → List Instruction) (n m : ℕ) (s0 s1 s2 : PlainTail) → ((at : ℕ) → length (r at) ≡ m) → n + m ≤ s0.start →
    s1 ≡ before (r (s0.start - m)) s0 → s2 ≡ before (p (s1.start - n)) s1 →
    s2 ≡ before (p (s0.start - (n + m)) ++ r (s0.start - (n + m) + n)) s0
next_before p r n m s0 s1 s2 long room e f =
    let at = s0.start - (n + m) in
    let rest : s0.start - m ≡ at + n = omega (arith, room) in
    let start : s1.start ≡ s0.start - m = ap (λ (s : PlainTail). s.start) e ∙ ap (λ k. s0.start - k) (long (s0.start - m)) in
    let here : s1.start - n ≡ at = omega (arith, start, room) in
    two_before (p at) (r (at + n)) s0 s1 s2 (e ∙ ap (λ i. before (r i) s0) rest) (f ∙ ap (λ i. before (p i) s1) here)

-- where a part begins, which is so long
pub start_after : (c : List Instruction) (n : ℕ) (s0 s1 : PlainTail) → length c ≡ n → s1 ≡ before c s0 → s1.start ≡ s0.start - n
start_after c n s0 s1 long e = ap (λ (s : PlainTail). s.start) e ∙ ap (λ k. s0.start - k) long

-- how long two parts are
pub long_two : (a b : List Instruction) (n m : ℕ) → length a ≡ n → length b ≡ m → length (a ++ b) ≡ n + m
long_two a b n m e f = omega (arith, length-append a b, e, f)

-- what follows from a fact of an outcome that is `Ok`
pub on_ok : {T F : Type 0} (r : Result T F) (P Q : Type 0) → (P → Q) → OnOk r P → OnOk r Q
on_ok (Ok x) P Q f h = f h
on_ok (Err e) P Q f h = h
