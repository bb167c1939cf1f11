-- The code of what fits is well formed.
--
-- An expression has its value in t, behind the locals, and needs so many registers from there on as its temporaries are,
-- and a few more for operations of several instructions. Its jumps go to its end at most, where another instruction
-- stands; those of a statement go to its exits too.
use Rattle.std.specs.Prelude.{◌≡◌, ℕ, ◌+◌, ◌-◌, ◌<◌, ◌≤◌, List, All, length, Bool}
use Rattle.filc_num.specs.declared.registers.TheConstants.{SPARE_REGISTERS}
use Rattle.c_tree.specs.declared.expr.Expr.{Expr}
use Rattle.c_tree.specs.declared.stmt.Stmt.{Stmt}
use Rattle.c_tree.specs.Operands.{Outline, Context}
use Rattle.c_tree.specs.Fits.{ExprFits, StmtFits, IsProgram}
use Rattle.c_tree.specs.Plain.{PlainProgram}
use Rattle.c_tree.specs.Temps.{temps_of, stmt_temps}
use Rattle.whole_code.specs.declared.op.Instruction.{Instruction}
use Rattle.whole_code.specs.Plain.{PlainFunction}
use Rattle.whole_code.specs.WellFormed.{Named, IsOpWellFormed, IsWellFormed}
use Rattle.expr_gen.specs.Code.{expr_size, expr_code}
use Rattle.stmt_gen.specs.Code.{Exits, stmt_size, stmt_code}
use Rattle.stmt_gen.specs.Programs.{program_code}

-- what code may name: what the tree may
abbrev pub named_by : Outline → Named
named_by outline = record { functions = length outline.callees; statics = outline.statics }

-- each instruction is one that may stand in this function
abbrev pub AreFormed : Named → PlainFunction → List Instruction → Type 0
AreFormed named f code = All (λ (i : Instruction). IsOpWellFormed named f i.op) code

-- a function has so many registers for temporaries, from t on
abbrev pub HasTemps : PlainFunction → (t temps : ℕ) → Type 0
HasTemps f t temps = t + temps + (SPARE_REGISTERS - 2) ≤ f.values

-- an index is that of an instruction of the function
abbrev pub IsInside : PlainFunction → ℕ → Type 0
IsInside f index = index < length f.instructions

abbrev pub ExpressionsAreFormed : Type 0
ExpressionsAreFormed =
    (outline : Outline) (here : Context) (f : PlainFunction) (library : Bool) (e : Expr) (t at : ℕ) →
    ExprFits outline here e → here.locals ≤ t → HasTemps f t (temps_of e) → IsInside f (at + expr_size e) →
    AreFormed (named_by outline) f (expr_code library e t at)

abbrev pub StatementsAreFormed : Type 0
StatementsAreFormed =
    (outline : Outline) (here : Context) (f : PlainFunction) (library : Bool) (s : Stmt) (t at : ℕ) (exits : Exits) →
    StmtFits outline here s → here.locals ≤ t → HasTemps f t (stmt_temps s) → IsInside f (at + stmt_size s) →
    IsInside f exits.broke → IsInside f exits.continued →
    AreFormed (named_by outline) f (stmt_code library s t at exits)

abbrev pub ProgramsAreFormed : Type 0
ProgramsAreFormed = (program : PlainProgram) → IsProgram program → IsWellFormed (program_code program)

abbrev pub ExpressionsHaveTheirSize : Type 0
ExpressionsHaveTheirSize = (library : Bool) (e : Expr) (t at : ℕ) → length (expr_code library e t at) ≡ expr_size e
