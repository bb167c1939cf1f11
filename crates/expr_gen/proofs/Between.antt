-- Code that stands between two indices of a function's.
use Rattle.std.proofs.Common.{◌≡◌, ℕ, ◌+◌, List, [], ◌∷◌, ◌++◌, length, subst, arith}
use Rattle.whole_code.specs.declared.op.Instruction.{Instruction}
use Rattle.expr_gen.specs.Stretch.{Site, Between}

pub ends : (site : Site) (pc : ℕ) (is : List Instruction) (to : ℕ) → Between site pc is to → to ≡ pc + length is
ends site pc [] to h = omega (arith, h)
ends site pc (i ∷ is) to h = omega (arith, ends site (pc + 1) is to h.1)

-- two stretches in a row
pub front : (site : Site) (pc : ℕ) (a b : List Instruction) (to : ℕ) → Between site pc (a ++ b) to → Between site pc a (pc + length a)
front site pc [] b to h = omega arith
front site pc (i ∷ a) b to h =
    let e : pc + 1 + length a ≡ pc + length (i ∷ a) = omega arith in
    (h.0, subst (λ n. Between site (pc + 1) a n) e (front site (pc + 1) a b to h.1))

pub back : (site : Site) (pc : ℕ) (a b : List Instruction) (to : ℕ) → Between site pc (a ++ b) to → Between site (pc + length a) b to
back site pc [] b to h = let e : pc ≡ pc + 0 = omega arith in subst (λ n. Between site n b to) e h
back site pc (i ∷ a) b to h =
    let e : pc + 1 + length a ≡ pc + length (i ∷ a) = omega arith in
    subst (λ n. Between site n b to) e (back site (pc + 1) a b to h.1)

-- two stretches of which the first has this length
pub front_at : (site : Site) (pc n : ℕ) (a b : List Instruction) (to : ℕ) → length a ≡ n → Between site pc (a ++ b) to → Between site pc a (pc + n)
front_at site pc n a b to e h = subst (λ n. Between site pc a (pc + n)) e (front site pc a b to h)

pub back_at : (site : Site) (pc n : ℕ) (a b : List Instruction) (to : ℕ) → length a ≡ n → Between site pc (a ++ b) to → Between site (pc + n) b to
back_at site pc n a b to e h = subst (λ n. Between site (pc + n) b to) e (back site pc a b to h)
