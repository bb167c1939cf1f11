-- Registers beside locals: the first ones have the locals' values, and those below a temporary stay.
use Rattle.std.proofs.Common.{◌≡◌, ◌≢◌, ◌⊎◌, inl, inr, ℕ, ◌<◌, ◌≤◌, List, refl, sym, ◌∙◌, subst, arith}
use Rattle.std.proofs.lemmas.Bool.{cases_eq}
use Rattle.ideal_machine.specs.declared.value.Value.{Value}
use Rattle.ideal_machine.specs.Values.{value_at, put_at}
use Rattle.ideal_machine.proofs.Values.{value_at-put_same, value_at-put_other}
use Rattle.expr_gen.specs.Stretch.{Agree, Matches}

pub agree_put : (k d : ℕ) (regs env : List Value) (v : Value) → k ≤ d → Agree k regs env → Agree k (put_at regs d v) env
agree_put k d regs env v le h =
    record { same = λ x a. let ne : x ≢ d = omega arith in value_at-put_other regs d x v ne ∙ h.same x a }

-- a write to a local
pub agree_both : (k n : ℕ) (regs env : List Value) (v : Value) → Agree k regs env → Agree k (put_at regs n v) (put_at env n v)
agree_both k n regs env v h = record { same = λ x a. either x a (cases_eq x n) } where
  either : (x : ℕ) → x < k → (x ≡ n) ⊎ (x ≢ n) → value_at (put_at regs n v) x ≡ value_at (put_at env n v) x
  either x a (inl e) =
      subst (λ y. value_at (put_at regs n v) y ≡ value_at (put_at env n v) y) (sym e)
      (value_at-put_same regs n v ∙ sym (value_at-put_same env n v))
  either x a (inr ne) = value_at-put_other regs n x v ne ∙ h.same x a ∙ sym (value_at-put_other env n x v ne)

-- they are the base
pub matches_self : (k t : ℕ) (regs env : List Value) → Agree k regs env → Matches k t regs regs env
matches_self k t regs env agree = record { agree = agree; kept = λ x _ _. refl }

-- a write above
pub matches_put :
    (k t d : ℕ) (base regs env : List Value) (v : Value) → k ≤ d → t ≤ d → Matches k t base regs env → Matches k t base (put_at regs d v) env
matches_put k t d base regs env v ld le h = record {
  agree = agree_put k d regs env v ld h.agree;
  kept = λ x a b. let ne : x ≢ d = omega arith in value_at-put_other regs d x v ne ∙ h.kept x a b;
}

-- a write to a local
pub matches_local : (k t n : ℕ) (base regs env : List Value) (v : Value) → n < k → Matches k t base regs env → Matches k t base (put_at regs n v) (put_at env n v)
matches_local k t n base regs env v lt h = record {
  agree = agree_both k n regs env v h.agree;
  kept = λ x a b. let ne : x ≢ n = omega arith in value_at-put_other regs n x v ne ∙ h.kept x a b;
}

-- what keeps more, from registers that match
pub matches_on :
    (k t t1 : ℕ) (base regs regs1 env env1 : List Value) → t ≤ t1 → Matches k t base regs env → Matches k t1 regs regs1 env1 → Matches k t base regs1 env1
matches_on k t t1 base regs regs1 env env1 le h h1 =
    record { agree = h1.agree; kept = λ x a b. let c : x < t1 = omega arith in h1.kept x a c ∙ h.kept x a b }

-- registers that are the same below t
pub matches_same :
    (k t : ℕ) (base regs regs1 env : List Value) → k ≤ t → ((x : ℕ) → x < t → value_at regs1 x ≡ value_at regs x) → Matches k t base regs env → Matches k t base regs1 env
matches_same k t base regs regs1 env le same h = record {
  agree = record { same = λ x a. let b : x < t = omega arith in same x b ∙ h.agree.same x a };
  kept = λ x a b. same x b ∙ h.kept x a b;
}
