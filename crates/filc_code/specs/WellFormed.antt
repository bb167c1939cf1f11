-- Well-formed code: whatever an instruction names is there.
--
-- So a thread that carries out such code needs no test of a register's number or a jump's target,
-- and never goes past a function's end: control leaves the last instruction only by a jump or
-- by the function's return.
use Rattle.std.specs.Prelude.{ℕ, ◌<◌, ◌≤◌, List, [], ◌∷◌, All, length}
use Rattle.filc_code.specs.declared.op.Instruction.{Instruction}
use Rattle.filc_code.specs.declared.op.Op.{Op}
use Rattle.filc_code.specs.declared.op.Op.TheVariants.{Const, Move, Binary, Jump, JumpZero, Return, Out, Exit}
use Rattle.filc_code.specs.Plain.{PlainFunction, PlainCode}

-- each register that the instruction names is one of the first so many
abbrev pub KeepsRegisters : ℕ → Op → Type 0
KeepsRegisters values (Const d constant) = d < values
KeepsRegisters values (Move d a) = (d < values) × (a < values)
KeepsRegisters values (Binary d a b op t) = (d < values) × (a < values) × (b < values)
KeepsRegisters values (Jump target) = Unit {0}
KeepsRegisters values (JumpZero a target) = a < values
KeepsRegisters values (Return a) = a < values
KeepsRegisters values (Out a) = a < values
KeepsRegisters values (Exit a) = a < values

-- a jump leads to one of the first so many instructions
abbrev pub KeepsTarget : ℕ → Op → Type 0
KeepsTarget length (Jump target) = target < length
KeepsTarget length (JumpZero a target) = target < length
KeepsTarget length op = Unit {0}

-- the number of an operator
abbrev pub IsOperatorNumber : ℕ → Type 0
IsOperatorNumber op = op < 16

-- the number of a type in which arithmetic is done: I32, U32, I64 or U64
abbrev pub IsArithmeticNumber : ℕ → Type 0
IsArithmeticNumber t = (5 ≤ t) × (t < 9)

-- the operator and the type of a binary instruction are numbers of such
abbrev pub KeepsNumbers : Op → Type 0
KeepsNumbers (Binary d a b op t) = IsOperatorNumber op × IsArithmeticNumber t
KeepsNumbers op = Unit {0}

-- what an instruction keeps in a function of so many registers and so many instructions
pub record IsOpWellFormed (values length : ℕ) (op : Op) : Type 0 where
  pub registers : KeepsRegisters values op
  pub target : KeepsTarget length op
  pub numbers : KeepsNumbers op

-- control doesn't go on to the next instruction
abbrev pub LeavesPlace : Op → Type 0
LeavesPlace (Jump target) = Unit {0}
LeavesPlace (Return a) = Unit {0}
LeavesPlace op = ⊥

-- the last instruction leads elsewhere; an empty list has none
abbrev pub EndsInLeaving : List Instruction → Type 0
EndsInLeaving [] = ⊥
EndsInLeaving (i ∷ []) = LeavesPlace i.op
EndsInLeaving (i ∷ j ∷ more) = EndsInLeaving (j ∷ more)

-- what each function's code keeps
pub record IsFunctionWellFormed (f : PlainFunction) : Type 0 where
  pub values : f.values ≤ 256
  pub parameters : f.parameters ≤ f.values
  pub each : All (λ (i : Instruction). IsOpWellFormed f.values (length f.instructions) i.op) f.instructions
  pub ends : EndsInLeaving f.instructions

-- what the code of a program keeps
pub record IsWellFormed (code : PlainCode) : Type 0 where
  pub functions : All IsFunctionWellFormed code.functions
  pub main : code.main < length code.functions
