-- What a piece of work is: a machine that says which operation it makes next, and goes on by the
-- answer (a Mealy machine, with answers for its input and operations for its output).
use Rattle.std.specs.Prelude.{ℕ}
use Rattle.heap_words.specs.declared.op.WordOp.{WordOp}
use Rattle.heap_words.specs.declared.piece.Step.{Step}

-- what a piece is after an answer, and what it tells
pub record Next (P T : Type 0) : Type 0 where
  pub piece : P
  pub told : Step T

-- the same of the piece, where it is known of its stage
abbrev pub with_stage : {S P T : Type 0} → (S → P) → Next S T → Next P T
with_stage piece_at next = record { piece = piece_at next.piece; told = next.told }

-- the operation that a piece wants, and what becomes of it by an answer
pub record Work (P T : Type 0) : Type 0 where
  pub wants : P → WordOp
  pub takes : P → ℕ → Next P T
