-- What the trees of a row keep, and the registers that they need, over the list by which Rust sees the row.
use Rattle.std.specs.Prelude.{ℕ, suc, ◌-◌, ◌<◌, ◌≤◌, List, [], ◌∷◌, length, All}
use Rattle.c_tree.specs.declared.expr.Expr.{Expr}
use Rattle.c_tree.specs.declared.expr.Link.{Link}
use Rattle.c_tree.specs.Operands.{Outline, Context, OpFits}
use Rattle.c_tree.specs.Fits.{ExprFits}
use Rattle.c_tree.specs.Temps.{temps_of}

-- a link's first operand is what stands before it
abbrev pub LinkFits : Outline → Context → Link → Type 0
LinkFits o here link = OpFits o here link.op (suc (length link.operands)) × All (ExprFits o here) link.operands

-- operands have registers that follow each other, of which the first has so many from it on
abbrev pub OperandsAreBelow : ℕ → List Expr → Type 0
OperandsAreBelow room [] = Unit {0}
OperandsAreBelow room (e ∷ rest) = (temps_of e < room) × OperandsAreBelow (room - 1) rest

-- an expression needs so many registers at most
abbrev pub ExprIsWithin : ℕ → Expr → Type 0
ExprIsWithin limit e = temps_of e ≤ limit

-- a link's operands stand behind its first
abbrev pub LinkIsWithin : ℕ → Link → Type 0
LinkIsWithin limit link = OperandsAreBelow limit link.operands
