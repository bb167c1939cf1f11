-- What follows for a program that fits.
use Rattle.std.specs.Prelude.{◌≡◌, ℕ, Contains, Some, slice_get}
use Rattle.c_tree.specs.declared.operation.Operation.TheVariants.{SetLocal, Call}
use Rattle.c_tree.specs.declared.program.FunctionDef.{FunctionDef}
use Rattle.c_tree.specs.declared.stmt.Stmt.{Break}
use Rattle.c_tree.specs.Operands.{Outline, Context, OpFits}
use Rattle.c_tree.specs.Plain.{PlainProgram}
use Rattle.c_tree.specs.Fits.{FunctionFits, outline_of}

-- a call of a program's function has an operand for each of its parameters
abbrev pub CallsHaveTheirArguments : Type 0
CallsHaveTheirArguments =
    (program : PlainProgram) (here : Context) (number n : ℕ) (f : FunctionDef) → slice_get program.functions number ≡ Some f →
    OpFits (outline_of program) here (Call number) n → n ≡ f.parameters

-- what has a home is changed in memory only
abbrev pub HomesAreNotSet : Type 0
HomesAreNotSet = (o : Outline) (here : Context) (local n : ℕ) → Contains here.homes local → OpFits o here (SetLocal local) n → ⊥

-- no function's body is a `break`
abbrev pub BreakNeedsALoop : Type 0
BreakNeedsALoop = (o : Outline) (f : FunctionDef) (line : ℕ) → f.body ≡ Break line → FunctionFits o f → ⊥
