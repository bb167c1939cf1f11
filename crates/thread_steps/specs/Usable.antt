-- What an instruction of well-formed code may use: its registers are there, and so is what its numbers stand for.
use Rattle.std.specs.Prelude.{ℕ, ◌<◌, ◌+◌}
use Rattle.whole_code.specs.declared.op.Op.{Op}
use Rattle.whole_code.specs.declared.op.Op.TheVariants as op
use Rattle.whole_code.specs.Numbers.{IsOperatorNumber, IsComparisonNumber, IsTypeNumber, IsArithmeticNumber, IsOperation}

-- among so many registers, functions and static objects
pub record Room : Type 0 where
  pub registers : ℕ
  pub functions : ℕ
  pub statics : ℕ

-- arguments stand in registers from a first one on
abbrev pub HasArguments : Room → (first count : ℕ) → Type 0
HasArguments room first count = (i : ℕ) → i < count → first + i < room.registers

abbrev pub IsUsable : Room → Op → Type 0
IsUsable room (op.Const d constant) = d < room.registers
IsUsable room (op.Move d a) = (d < room.registers) × (a < room.registers)
IsUsable room (op.StaticAt d n) = (d < room.registers) × (n < room.statics)
IsUsable room (op.FunctionAt d f) = (d < room.registers) × (f < room.functions)
IsUsable room (op.Convert d a t) = (d < room.registers) × (a < room.registers) × IsTypeNumber t
IsUsable room (op.Binary d a b o t) =
    (d < room.registers) × (a < room.registers) × (b < room.registers) × IsOperatorNumber o × IsArithmeticNumber t
IsUsable room (op.PointerAdd d a b bytes) = (d < room.registers) × (a < room.registers) × (b < room.registers)
IsUsable room (op.PointerSub d a b bytes) = (d < room.registers) × (a < room.registers) × (b < room.registers) × (0 < bytes)
IsUsable room (op.PointerCompare d a b o) =
    (d < room.registers) × (a < room.registers) × (b < room.registers) × IsComparisonNumber o
IsUsable room (op.ToInteger d a t) = (d < room.registers) × (a < room.registers) × IsTypeNumber t
IsUsable room (op.ToPointer d a) = (d < room.registers) × (a < room.registers)
IsUsable room (op.JumpZero a target) = a < room.registers
IsUsable room (op.Home d bytes) = d < room.registers
IsUsable room (op.LoadInt d p t) = (d < room.registers) × (p < room.registers) × IsTypeNumber t
IsUsable room (op.StoreInt p a t) = (p < room.registers) × (a < room.registers) × IsTypeNumber t
IsUsable room (op.RmwInt d p a o t u) =
    (d < room.registers) × (p < room.registers) × (a < room.registers) × IsTypeNumber t × IsOperation o t u
IsUsable room (op.CasInt d p e n t) =
    (d < room.registers) × (p < room.registers) × (e < room.registers) × (n < room.registers) × IsTypeNumber t
IsUsable room (op.LoadPointer d p) = (d < room.registers) × (p < room.registers)
IsUsable room (op.StorePointer p a) = (p < room.registers) × (a < room.registers)
IsUsable room (op.BoxStore p a) = (p < room.registers) × (a < room.registers)
IsUsable room (op.BoxSwap d p a) = (d < room.registers) × (p < room.registers) × (a < room.registers)
IsUsable room (op.BoxCas d w p e n) =
    (d < room.registers) × (w < room.registers) × (p < room.registers) × (e < room.registers) × (n < room.registers)
IsUsable room (op.Call d f first count) = (d < room.registers) × (f < room.functions) × HasArguments room first count
IsUsable room (op.CallPointer d a first count kind) =
    (d < room.registers) × (a < room.registers) × HasArguments room first count
IsUsable room (op.Return a) = a < room.registers
IsUsable room (op.New d a) = (d < room.registers) × (a < room.registers)
IsUsable room (op.Free a) = a < room.registers
IsUsable room (op.Size d a) = (d < room.registers) × (a < room.registers)
IsUsable room (op.Lock p) = p < room.registers
IsUsable room (op.Out a) = a < room.registers
IsUsable room (op.Input d) = d < room.registers
IsUsable room (op.Spawn d a b) = (d < room.registers) × (a < room.registers) × (b < room.registers)
IsUsable room (op.Join d a) = (d < room.registers) × (a < room.registers)
IsUsable room (op.SelfId d) = d < room.registers
IsUsable room (op.Exit a) = a < room.registers
IsUsable room o = Unit {0}
