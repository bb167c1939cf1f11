-- A program as contracts see it: its functions and its static objects, each at its number, and the number of
-- `main`.
use Rattle.std.specs.Prelude.{ℕ, List}
use Rattle.filc_num.specs.declared.statics.StaticDef.{StaticDef}
use Rattle.c_tree.specs.declared.program.FunctionDef.{FunctionDef}

pub record PlainProgram : Type 0 where
  pub functions : List FunctionDef
  pub statics : List StaticDef
  pub main : ℕ

abbrev pub plain_program : List FunctionDef → List StaticDef → ℕ → PlainProgram
plain_program functions statics main = record { functions = functions; statics = statics; main = main }
