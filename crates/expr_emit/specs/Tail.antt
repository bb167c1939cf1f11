-- The last instructions of a function's code, before which more is put until the code is whole.
use Rattle.std.specs.Prelude.{◌≡◌, ℕ, ◌-◌, ◌≤◌, List, ◌∷◌, ◌++◌, length}
use Rattle.whole_code.specs.declared.op.Instruction.{Instruction}

-- the index of the first of these instructions, and the instructions
pub record PlainTail : Type 0 where
  pub start : ℕ
  pub instructions : List Instruction

abbrev pub plain_tail : ℕ → List Instruction → PlainTail
plain_tail start instructions = record { start = start; instructions = instructions }

-- a tail with code before it
abbrev pub before : List Instruction → PlainTail → PlainTail
before code tail = plain_tail (tail.start - length code) (code ++ tail.instructions)

-- where there is room for so many instructions before a tail, that is where code stands, which may hang on its index
abbrev pub PutsBefore : (size : ℕ) → (ℕ → List Instruction) → (old new : PlainTail) → Type 0
PutsBefore size code_at old new = size ≤ old.start → new ≡ before (code_at (old.start - size)) old

-- another instruction stands in place of the one that has so many behind it
abbrev pub Replaces : (behind : ℕ) → Instruction → (old new : List Instruction) → Type 0
Replaces behind i old new =
    (front back : List Instruction) (was : Instruction) → old ≡ front ++ was ∷ back → length back ≡ behind → new ≡ front ++ i ∷ back
