-- What parts of a statement, of a function and of a program keep.
use Rattle.std.specs.Prelude.{ℕ, ◌≡◌, ◌≤◌, List, [], ◌∷◌, ◌++◌, length, All, sum_by, IsSomeAnd, slice_get}
use Rattle.filc_num.specs.declared.registers.TheConstants.{REGISTERS}
use Rattle.filc_num.specs.declared.statics.StaticDef.{StaticDef}
use Rattle.c_tree.specs.declared.expr.Expr.{Expr}
use Rattle.c_tree.specs.declared.stmt.Case.{Case}
use Rattle.c_tree.specs.declared.stmt.LocalDef.{LocalDef}
use Rattle.c_tree.specs.declared.stmt.LocalKind.{LocalKind}
use Rattle.c_tree.specs.declared.stmt.LocalKind.TheVariants as kind
use Rattle.c_tree.specs.declared.stmt.Stmt.{Stmt}
use Rattle.c_tree.specs.declared.program.FunctionDef.{FunctionDef}
use Rattle.c_tree.specs.Operands.{Outline, Context}
use Rattle.c_tree.specs.Temps.{stmt_temps, needed_by}
use Rattle.c_tree.specs.Fits.{ExprFits, StmtFits, LocalsFit, in_block, StaticFits, TakesItsArgument}

abbrev pub BlockFits : Outline → Context → List LocalDef → List Stmt → Type 0
BlockFits o here locals body = LocalsFit here locals × All (StmtFits o (in_block here locals)) body

-- what stands before the statements of a switch, of which there are so many
abbrev pub HeadFits : Outline → Context → Expr → List Case → ℕ → ℕ → Type 0
HeadFits o here value cases other statements =
    ExprFits o here value × (All (λ (c : Case). c.statement ≤ statements) cases × (other ≤ statements))

abbrev pub StmtIsWithin : ℕ → Stmt → Type 0
StmtIsWithin limit s = stmt_temps s ≤ limit

-- a function's numbers, without its body
abbrev pub RegistersFit : FunctionDef → Type 0
RegistersFit f = (f.parameters ≤ f.locals) × ((needed_by f ≤ f.values) × (f.values ≤ REGISTERS))

abbrev pub StaticWordsFit : List StaticDef → Type 0
StaticWordsFit statics = sum_by (λ (s : StaticDef). length s.words.items) statics ≤ 262144

-- `main` takes nothing
abbrev pub MainFits : List FunctionDef → ℕ → Type 0
MainFits functions main = IsSomeAnd (slice_get functions main) (λ f. f.parameters ≡ 0)

-- the homes behind a local, the newest last
abbrev pub homes_with : ℕ → LocalKind → List ℕ → List ℕ
homes_with local kind.Zero homes = homes
homes_with local (kind.Home bytes) homes = homes ++ local ∷ []
homes_with local (kind.Moved bytes lies) homes = homes ++ local ∷ []

abbrev pub homes_after : LocalDef → List ℕ → List ℕ
homes_after d homes = homes_with d.local d.kind homes

-- all that a program keeps but what each function keeps
abbrev pub FrameFits : Outline → List FunctionDef → List StaticDef → ℕ → Type 0
FrameFits o functions statics main =
    (length functions ≤ 4000)
    × (MainFits functions main × (StaticWordsFit statics × (All TakesItsArgument o.callees × All (StaticFits o) statics)))
