-- The code of a statement: its expressions, and jumps between them.
--
-- How long code is depends on the tree alone, so each jump is known where it is made. A statement's expressions have their
-- values in t, the first register after the locals, and each is free again after its statement.
use Rattle.std.specs.Prelude.{ℕ, zero, suc, ◌+◌, List, [], ◌∷◌, ◌++◌, Bool, Option, Some, None}
use Rattle.filc_num.specs.declared.integer.BinOp.TheVariants.{Ne}
use Rattle.filc_num.specs.declared.integer.IntType.TheVariants.{U64}
use Rattle.c_tree.specs.declared.expr.Expr.{Expr}
use Rattle.c_tree.specs.declared.stmt.LocalDef.{LocalDef}
use Rattle.c_tree.specs.declared.stmt.LocalKind.{LocalKind}
use Rattle.c_tree.specs.declared.stmt.LocalKind.TheVariants as kind
use Rattle.c_tree.specs.declared.stmt.Case.{Case}
use Rattle.c_tree.specs.declared.stmt.Stmt.{Stmt, Run, Block', If', Loop', BreakUnless, Break, Continue, Switch', Return as ReturnStmt, Row_of-Stmt, end_of-Stmt, more_of-Stmt}
use Rattle.whole_code.specs.declared.op.Op.{Op}
use Rattle.whole_code.specs.declared.op.Op.TheVariants.{Const, Move, Home, Jump, JumpZero, Return}
use Rattle.whole_code.specs.declared.op.Instruction.{Instruction}
use Rattle.expr_gen.specs.Operations.{at_line, binary_op, store_op}
use Rattle.expr_gen.specs.Code.{instructions, branch_size, branch_code, expr_size, expr_code}

-- where a `break` and a `continue` go on: they stand after the statement that they are in
pub record Exits : Type 0 where
  pub broke : ℕ
  pub continued : ℕ

-- ---- blocks

-- what a local begins with: a parameter that has a home is stored there, and its local becomes the home's pointer
abbrev pub local_ops : LocalKind → (d t : ℕ) → List Op
local_ops kind.Zero d t = Const d 0 ∷ []
local_ops (kind.Home bytes) d t = Home d bytes ∷ []
local_ops (kind.Moved bytes lies) d t = Home t bytes ∷ store_op lies t d ∷ Move d t ∷ []

abbrev pub local_size : LocalKind → ℕ
local_size kind.Zero = 1
local_size (kind.Home bytes) = 1
local_size (kind.Moved bytes lies) = 3

abbrev pub locals_size : List LocalDef → ℕ
locals_size [] = 0
locals_size (d ∷ locals) = local_size d.kind + locals_size locals

-- a block's locals, where it is entered; a block is left without an instruction
abbrev pub locals_code : Bool → List LocalDef → (t : ℕ) → List Instruction
locals_code library [] t = []
locals_code library (d ∷ locals) t = instructions library d.line (local_ops d.kind d.local t) ++ locals_code library locals t

-- ---- switches

-- a case: the comparison of the value in t with the case's, and a jump
abbrev pub case_ops : (value t target : ℕ) → List Op
case_ops value t target = Const (t + 1) value ∷ binary_op Ne U64 (t + 1) t (t + 1) ∷ JumpZero (t + 1) target ∷ []

abbrev pub cases_size : List Case → ℕ
cases_size [] = 0
cases_size (c ∷ cases) = 3 + cases_size cases

abbrev pub cases_code : Bool → (line t : ℕ) → (index_of : ℕ → ℕ) → List Case → List Instruction
cases_code library line t index_of [] = []
cases_code library line t index_of (c ∷ cases) =
    instructions library line (case_ops c.value t (index_of c.statement)) ++ cases_code library line t index_of cases

-- the value, a jump by it, and the statements
abbrev pub switch_code :
    Bool → (line t : ℕ) → (index_of : ℕ → ℕ) → List Case → (other : ℕ) → (value body : List Instruction) → List Instruction
switch_code library line t index_of cases other value body =
    value ++ (cases_code library line t index_of cases ++ at_line library line (Jump (index_of other)) ∷ body)

-- a `break` in a switch leaves it, and a `continue` is the loop's around it
abbrev pub switch_exits : (end : ℕ) → Exits → Exits
switch_exits end exits = record { broke = end; continued = exits.continued }

-- ---- loops

abbrev pub loop_code : Bool → (line at : ℕ) → (body next : List Instruction) → List Instruction
loop_code library line at body next = body ++ (next ++ at_line library line (Jump at) ∷ [])

-- of a loop's part: a `break` goes after the jump back, and a `continue` to the part's end
abbrev pub loop_exits : (end back : ℕ) → Exits
loop_exits end back = record { broke = back + 1; continued = end }

-- ---- returns

abbrev pub return_size : Option Expr → ℕ
return_size None = 2
return_size (Some value) = expr_size value + 1

abbrev pub return_code : Bool → (line : ℕ) → Option Expr → (t at : ℕ) → List Instruction
return_code library line None t at = at_line library line (Const t 0) ∷ at_line library line (Return t) ∷ []
return_code library line (Some value) t at = expr_code library value t at ++ at_line library line (Return t) ∷ []

-- ---- statements

abbrev mutual
  pub stmt_size : Stmt → ℕ
  stmt_size (Run value) = expr_size value
  stmt_size (Block' locals z body) = locals_size locals + stmts_size body
  stmt_size (If' line test s (more_of-Stmt one end_of-Stmt) s1 (more_of-Stmt other end_of-Stmt)) =
      branch_size (expr_size test) (stmt_size one) (stmt_size other)
  stmt_size (Loop' line s (more_of-Stmt body end_of-Stmt) s1 (more_of-Stmt next end_of-Stmt)) = stmt_size body + stmt_size next + 1
  stmt_size (BreakUnless line test) = expr_size test + 1
  stmt_size (Break line) = 1
  stmt_size (Continue line) = 1
  stmt_size (Switch' line value cases other z body) = expr_size value + cases_size cases + 1 + stmts_size body
  stmt_size (ReturnStmt line value) = return_size value

  pub stmts_size : {m : _} → Row_of-Stmt m → ℕ
  stmts_size end_of-Stmt = 0
  stmts_size (more_of-Stmt s rest) = stmt_size s + stmts_size rest

-- where the statement of this number begins, in a row of statements at an index
abbrev pub index_in : {m : _} → Row_of-Stmt m → (statement at : ℕ) → ℕ
index_in row zero at = at
index_in end_of-Stmt (suc n) at = at
index_in (more_of-Stmt s rest) (suc n) at = index_in rest n (at + stmt_size s)

abbrev mutual
  -- a statement at an index, with its expressions' values in t
  pub stmt_code : Bool → Stmt → (t at : ℕ) → Exits → List Instruction
  stmt_code library (Run value) t at exits = expr_code library value t at
  stmt_code library (Block' locals z body) t at exits =
      locals_code library locals t ++ stmts_code library body t (at + locals_size locals) exits
  stmt_code library (If' line test s (more_of-Stmt one end_of-Stmt) s1 (more_of-Stmt other end_of-Stmt)) t at exits =
      branch_code library line t at (expr_size test) (stmt_size one) (stmt_size other)
      (expr_code library test t at)
      (stmt_code library one t (at + expr_size test + 1) exits)
      (stmt_code library other t (at + expr_size test + 1 + stmt_size one + 1) exits)
  stmt_code library (Loop' line s (more_of-Stmt body end_of-Stmt) s1 (more_of-Stmt next end_of-Stmt)) t at exits =
      loop_code library line at
      (stmt_code library body t at (loop_exits (at + stmt_size body) (at + stmt_size body + stmt_size next)))
      (stmt_code library next t (at + stmt_size body)
      (loop_exits (at + stmt_size body + stmt_size next) (at + stmt_size body + stmt_size next)))
  stmt_code library (BreakUnless line test) t at exits =
      expr_code library test t at ++ at_line library line (JumpZero t exits.broke) ∷ []
  stmt_code library (Break line) t at exits = at_line library line (Jump exits.broke) ∷ []
  stmt_code library (Continue line) t at exits = at_line library line (Jump exits.continued) ∷ []
  stmt_code library (Switch' line value cases other z body) t at exits =
      switch_code library line t (λ n. index_in body n (at + expr_size value + cases_size cases + 1)) cases other
      (expr_code library value t at)
      (stmts_code library body t (at + expr_size value + cases_size cases + 1)
      (switch_exits (at + expr_size value + cases_size cases + 1 + stmts_size body) exits))
  stmt_code library (ReturnStmt line value) t at exits = return_code library line value t at

  pub stmts_code : {m : _} → Bool → Row_of-Stmt m → (t at : ℕ) → Exits → List Instruction
  stmts_code library end_of-Stmt t at exits = []
  stmts_code library (more_of-Stmt s rest) t at exits =
      stmt_code library s t at exits ++ stmts_code library rest t (at + stmt_size s) exits
