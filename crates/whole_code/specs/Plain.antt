-- Code as contracts see it: plain records of lists and numbers.
use Rattle.std.specs.Prelude.{ℕ, ◌<◌, List, Option, IsSomeAnd, length, map, slice_get, option_and_then}
use Rattle.filc_num.specs.declared.statics.StaticDef.{StaticDef}
use Rattle.whole_code.specs.declared.code.CodeFunction.{CodeFunction}
use Rattle.whole_code.specs.declared.op.Instruction.{Instruction}

-- a function: how many registers it has, how many of them are parameters, its type's number, and what it does
pub record PlainFunction : Type 0 where
  pub values : ℕ
  pub parameters : ℕ
  pub kind : ℕ
  pub instructions : List Instruction

-- the functions and the static objects of a program, each at its number, and the number of `main`
pub record PlainCode : Type 0 where
  pub functions : List PlainFunction
  pub statics : List StaticDef
  pub main : ℕ

-- a function's code, with its vector seen as a list
abbrev pub plain_function : CodeFunction → PlainFunction
plain_function f = record { values = f.values; parameters = f.parameters; kind = f.kind; instructions = f.instructions.items }

-- the code of these functions and statics
abbrev pub plain_code : List CodeFunction → List StaticDef → ℕ → PlainCode
plain_code functions statics main = record { functions = map plain_function functions; statics = statics; main = main }

-- the instruction at an index of a function
abbrev pub instruction_at : PlainCode → (function index : ℕ) → Option Instruction
instruction_at code function index = option_and_then (λ f. slice_get f.instructions index) (slice_get code.functions function)

-- a function has an instruction at this index
abbrev pub HasInstruction : PlainCode → (function index : ℕ) → Type 0
HasInstruction code function index = IsSomeAnd (slice_get code.functions function) (λ f. index < length f.instructions)
