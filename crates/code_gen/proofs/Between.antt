-- Code that stands between two indices of a longer one.
use Rattle.std.proofs.Common.{◌≡◌, ℕ, ◌+◌, ◌<◌, List, [], ◌∷◌, ◌++◌, length, Some, ap, ◌∙◌, subst, arith, append_assoc, length-append}
use Rattle.std.proofs.Math.Seq.{get_or-append_seam}
use Rattle.std.proofs.lemmas.Option.{slice_get-get_or}
use Rattle.std.specs.Prelude.{slice_get}
use Rattle.filc_code.specs.declared.op.Instruction.{Instruction}

-- the instructions stand in the code at this index, and end at that one
abbrev pub Between : List Instruction → ℕ → List Instruction → ℕ → Type 0
Between code pc [] pc2 = pc ≡ pc2
Between code pc (i ∷ is) pc2 = (slice_get code pc ≡ Some i) × Between code (pc + 1) is pc2

pub ends : (code : List Instruction) (pc : ℕ) (is : List Instruction) (pc2 : ℕ) → Between code pc is pc2 → pc2 ≡ pc + length is
ends code pc [] pc2 h = omega (arith, h)
ends code pc (i ∷ is) pc2 h = omega (arith, ends code (pc + 1) is pc2 h.1)

-- two stretches in a row
pub front : (code : List Instruction) (pc : ℕ) (a b : List Instruction) (pc2 : ℕ) → Between code pc (a ++ b) pc2 → Between code pc a (pc + length a)
front code pc [] b pc2 h = omega arith
front code pc (i ∷ a) b pc2 h =
    let e : pc + 1 + length a ≡ pc + length (i ∷ a) = omega arith in
    (h.0, subst (λ n. Between code (pc + 1) a n) e (front code (pc + 1) a b pc2 h.1))

pub back : (code : List Instruction) (pc : ℕ) (a b : List Instruction) (pc2 : ℕ) → Between code pc (a ++ b) pc2 → Between code (pc + length a) b pc2
back code pc [] b pc2 h = let e : pc ≡ pc + 0 = omega arith in subst (λ n. Between code n b pc2) e h
back code pc (i ∷ a) b pc2 h =
    let e : pc + 1 + length a ≡ pc + length (i ∷ a) = omega arith in
    subst (λ n. Between code n b pc2) e (back code (pc + 1) a b pc2 h.1)

-- all of a code's end
pub stands_all : (is pre : List Instruction) → Between (pre ++ is) (length pre) is (length pre + length is)
stands_all [] pre = omega arith
stands_all (i ∷ is) pre =
    let within : length pre < length (pre ++ i ∷ is) = omega (arith, length-append pre (i ∷ is)) in
    let here = slice_get-get_or (pre ++ i ∷ is) (length pre) i within ∙ ap Some (get_or-append_seam pre i is i) in
    let n : length (pre ++ i ∷ []) ≡ length pre + 1 = omega (arith, length-append pre (i ∷ [])) in
    let m : length (pre ++ i ∷ []) + length is ≡ length pre + length (i ∷ is) = omega (arith, n) in
    let rest = stands_all is (pre ++ i ∷ []) in
    let rest' = subst (λ l. Between l (length (pre ++ i ∷ [])) is (length (pre ++ i ∷ []) + length is)) (append_assoc pre (i ∷ []) is) rest in
    let rest2 = subst (λ x. Between (pre ++ i ∷ is) (length (pre ++ i ∷ [])) is x) m rest' in
    (here, subst (λ x. Between (pre ++ i ∷ is) x is (length pre + length (i ∷ is))) n rest2)
