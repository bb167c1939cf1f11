-- Well-formed code: whatever an instruction names is there.
--
-- So a thread that carries out such code needs no test of a register's number or a jump's target,
-- and never goes past a function's end: control leaves the last instruction only by a jump or
-- by the function's return.
use Rattle.std.specs.Prelude.{ℕ, ◌<◌, ◌≤◌, List, [], ◌∷◌, All, length}
use Rattle.filc_num.specs.declared.registers.TheConstants.{REGISTERS}
use Rattle.filc_num.specs.declared.statics.StaticDef.{StaticDef}
use Rattle.filc_num.specs.declared.statics.StaticHalf.{StaticHalf}
use Rattle.filc_num.specs.declared.statics.StaticHalf.TheVariants as half
use Rattle.whole_code.specs.declared.op.Instruction.{Instruction}
use Rattle.whole_code.specs.declared.op.Op.{Op}
use Rattle.whole_code.specs.declared.op.Op.TheVariants.{StaticAt, FunctionAt, Convert, Binary, PointerSub, PointerCompare, ToInteger, Jump, JumpZero, LoadInt, StoreInt, RmwInt, CasInt, Call, Return}
use Rattle.whole_code.specs.Plain.{PlainFunction, PlainCode}
use Rattle.whole_code.specs.Operands.{reads, writes}
use Rattle.whole_code.specs.Numbers.{IsOperatorNumber, IsComparisonNumber, IsTypeNumber, IsArithmeticNumber, IsOperation}

-- ---- instructions

-- a jump leads to one of the first so many instructions
abbrev pub KeepsTarget : ℕ → Op → Type 0
KeepsTarget length (Jump target) = target < length
KeepsTarget length (JumpZero a target) = target < length
KeepsTarget length op = Unit {0}

-- a function or a static object that is named is one of so many
abbrev pub KeepsNames : (functions statics : ℕ) → Op → Type 0
KeepsNames functions statics (StaticAt d n) = n < statics
KeepsNames functions statics (FunctionAt d f) = f < functions
KeepsNames functions statics (Call d f first count) = f < functions
KeepsNames functions statics op = Unit {0}

-- operators and types are numbers of such, and an element has bytes where it is divided by them
abbrev pub KeepsNumbers : Op → Type 0
KeepsNumbers (Convert d a t) = IsTypeNumber t
KeepsNumbers (Binary d a b op t) = IsOperatorNumber op × IsArithmeticNumber t
KeepsNumbers (PointerSub d a b bytes) = 0 < bytes
KeepsNumbers (PointerCompare d a b op) = IsComparisonNumber op
KeepsNumbers (ToInteger d a t) = IsTypeNumber t
KeepsNumbers (LoadInt d p t) = IsTypeNumber t
KeepsNumbers (StoreInt p a t) = IsTypeNumber t
KeepsNumbers (RmwInt d p a op t u) = IsTypeNumber t × IsOperation op t u
KeepsNumbers (CasInt d p e n t) = IsTypeNumber t
KeepsNumbers op = Unit {0}

-- so many functions and static objects that there are to be named
pub record Named : Type 0 where
  pub functions : ℕ
  pub statics : ℕ

-- what an instruction of a function keeps
pub record IsOpWellFormed (named : Named) (f : PlainFunction) (op : Op) : Type 0 where
  pub reads : All (λ r. r < f.values) (reads op)
  pub writes : All (λ r. r < f.values) (writes op)
  pub target : KeepsTarget (length f.instructions) op
  pub names : KeepsNames named.functions named.statics op
  pub numbers : KeepsNumbers op

-- ---- functions

-- control doesn't go on to the next instruction
abbrev pub LeavesPlace : Op → Type 0
LeavesPlace (Jump target) = Unit {0}
LeavesPlace (Return a) = Unit {0}
LeavesPlace op = ⊥

-- the last instruction leads elsewhere; an empty list has none
abbrev pub EndsInLeaving : List Instruction → Type 0
EndsInLeaving [] = ⊥
EndsInLeaving (i ∷ []) = LeavesPlace i.op
EndsInLeaving (i ∷ j ∷ more) = EndsInLeaving (j ∷ more)

-- what each function's code keeps
pub record IsFunctionWellFormed (named : Named) (f : PlainFunction) : Type 0 where
  pub values : f.values ≤ REGISTERS
  pub parameters : f.parameters ≤ f.values
  pub each : All (λ (i : Instruction). IsOpWellFormed named f i.op) f.instructions
  pub ends : EndsInLeaving f.instructions

-- ---- code

-- what a half in a static object's first contents names is there
abbrev pub KeepsHalf : Named → StaticHalf → Type 0
KeepsHalf named half.None = Unit {0}
KeepsHalf named (half.Object s) = s < named.statics
KeepsHalf named (half.Function f) = f < named.functions

abbrev pub IsStaticWellFormed : Named → StaticDef → Type 0
IsStaticWellFormed named s = All (KeepsHalf named) s.halves.items

-- what a program's code has to be named
abbrev pub named_in : PlainCode → Named
named_in code = record { functions = length code.functions; statics = length code.statics }

-- what the code of a program keeps
pub record IsWellFormed (code : PlainCode) : Type 0 where
  pub functions : All (IsFunctionWellFormed (named_in code)) code.functions
  pub statics : All (IsStaticWellFormed (named_in code)) code.statics
  pub main : code.main < length code.functions
