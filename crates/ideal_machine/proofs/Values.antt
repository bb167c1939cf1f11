-- Reading a value after a write.
use Rattle.std.proofs.Common.{◌≡◌, ◌≢◌, ℕ, zero, suc, List, [], ◌∷◌, refl, arith}
use Rattle.ideal_machine.specs.declared.value.Value.{Value}
use Rattle.ideal_machine.specs.Values.{value_at, put_at}

pub value_at-put_same : (vs : List Value) (n : ℕ) (x : Value) → value_at (put_at vs n x) n ≡ x
value_at-put_same [] zero x = refl
value_at-put_same [] (suc n) x = value_at-put_same [] n x
value_at-put_same (v ∷ vs) zero x = refl
value_at-put_same (v ∷ vs) (suc n) x = value_at-put_same vs n x

pub value_at-put_other : (vs : List Value) (n m : ℕ) (x : Value) → m ≢ n → value_at (put_at vs n x) m ≡ value_at vs m
value_at-put_other [] zero zero x ne = absurd (ne refl)
value_at-put_other [] zero (suc m) x ne = refl
value_at-put_other [] (suc n) zero x ne = refl
value_at-put_other [] (suc n) (suc m) x ne =
    let ne' : m ≢ n = omega arith in value_at-put_other [] n m x ne'
value_at-put_other (v ∷ vs) zero zero x ne = absurd (ne refl)
value_at-put_other (v ∷ vs) zero (suc m) x ne = refl
value_at-put_other (v ∷ vs) (suc n) zero x ne = refl
value_at-put_other (v ∷ vs) (suc n) (suc m) x ne =
    let ne' : m ≢ n = omega arith in value_at-put_other vs n m x ne'
