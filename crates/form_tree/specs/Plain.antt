-- A program as contracts see it: a plain record of a list and a number.
use Rattle.std.specs.Prelude.{ℕ, List}
use Rattle.form_tree.specs.declared.program.FunctionDef.{FunctionDef}

-- the functions, each at its number, and the number of `main`
pub record PlainProgram : Type 0 where
  pub functions : List FunctionDef
  pub main : ℕ

-- the program of these functions
abbrev pub plain_program : List FunctionDef → ℕ → PlainProgram
plain_program functions main = record { functions = functions; main = main }
