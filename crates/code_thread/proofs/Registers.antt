-- Registers in a vector, as the definitions have them.
use Rattle.std.proofs.Common.{◌≡◌, ℕ, zero, suc, ◌<◌, List, [], ◌∷◌, length, get_or, set, refl, ap, arith}
use Rattle.ideal_machine.specs.declared.value.Value.{Value}
use Rattle.ideal_machine.specs.Values.{value_at, put_at}

-- what was read at an index within
pub value_at_read : (vs : List Value) (n : ℕ) (v : Value) → n < length vs → v ≡ get_or vs n v → v ≡ value_at vs n
value_at_read [] n v h e = absurd (omega arith)
value_at_read (x ∷ vs) zero v h e = e
value_at_read (x ∷ vs) (suc n) v h e = value_at_read vs n v (omega arith) e

-- what is there after a write within
pub put_at_set : (vs : List Value) (n : ℕ) (v : Value) → n < length vs → set vs n v ≡ put_at vs n v
put_at_set [] n v h = absurd (omega arith)
put_at_set (x ∷ vs) zero v h = refl
put_at_set (x ∷ vs) (suc n) v h = ap (λ l. x ∷ l) (put_at_set vs n v (omega arith))
