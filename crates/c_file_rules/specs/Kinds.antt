-- The numbers of functions' types: 0 is that of `int(void*)`, which a thread begins with, and the others are numbered
-- from 1 in the order in which functions and then calls through pointers have them first.
use Rattle.std.specs.Prelude.{ℕ, ◌==◌, Bool, List, [], ◌∷◌, ◌++◌, map, if◌then◌else◌, Option, Some, None}
use Rattle.std.specs.List.{list_any, fold}
use Rattle.c_tree.specs.declared.operation.Operation.{Operation}
use Rattle.c_tree.specs.declared.operation.Operation.TheVariants as op
use Rattle.c_tree.specs.declared.expr.Expr.{Expr, Apply', Chain', Logic', Choose', Print', Row_of-Expr, end_of-Expr, more_of-Expr, Row_of-Link, end_of-Link, more_of-Link}
use Rattle.c_tree.specs.declared.stmt.Stmt.{Stmt, Run, Block', If', Loop', BreakUnless, Break, Continue, Switch', Return, Row_of-Stmt, end_of-Stmt, more_of-Stmt}
use Rattle.c_tree.specs.declared.program.FunctionDef.{FunctionDef}

-- ---- the calls through pointers, in the order of their text

abbrev pub operation_kinds : Operation → List ℕ
operation_kinds (op.CallPointer kind) = kind ∷ []
operation_kinds _ = []

abbrev mutual
  pub expr_kinds : Expr → List ℕ
  expr_kinds (Apply' line op z operands) = operands_kinds operands ++ operation_kinds op
  expr_kinds (Chain' line s (more_of-Expr first end_of-Expr) z links) = expr_kinds first ++ links_kinds links
  expr_kinds (Logic' line all z operands) = operands_kinds operands
  expr_kinds (Choose' line s (more_of-Expr test end_of-Expr) s1 (more_of-Expr one end_of-Expr) s2 (more_of-Expr other end_of-Expr)) =
      expr_kinds test ++ expr_kinds one ++ expr_kinds other
  expr_kinds (Print' line z operands pieces) = operands_kinds operands

  pub operands_kinds : {m : _} → Row_of-Expr m → List ℕ
  operands_kinds end_of-Expr = []
  operands_kinds (more_of-Expr e rest) = expr_kinds e ++ operands_kinds rest

  pub links_kinds : {m : _} → Row_of-Link m → List ℕ
  links_kinds end_of-Link = []
  links_kinds (more_of-Link op z operands links) = operands_kinds operands ++ operation_kinds op ++ links_kinds links

abbrev pub optional_kinds : Option Expr → List ℕ
optional_kinds None = []
optional_kinds (Some e) = expr_kinds e

abbrev mutual
  pub stmt_kinds : Stmt → List ℕ
  stmt_kinds (Run value) = expr_kinds value
  stmt_kinds (Block' locals z body) = stmts_kinds body
  stmt_kinds (If' line test s (more_of-Stmt one end_of-Stmt) s1 (more_of-Stmt other end_of-Stmt)) =
      expr_kinds test ++ stmt_kinds one ++ stmt_kinds other
  stmt_kinds (Loop' line s (more_of-Stmt body end_of-Stmt) s1 (more_of-Stmt next end_of-Stmt)) =
      stmt_kinds body ++ stmt_kinds next
  stmt_kinds (BreakUnless line test) = expr_kinds test
  stmt_kinds (Break line) = []
  stmt_kinds (Continue line) = []
  stmt_kinds (Switch' line value cases other z body) = expr_kinds value ++ stmts_kinds body
  stmt_kinds (Return line value) = optional_kinds value

  pub stmts_kinds : {m : _} → Row_of-Stmt m → List ℕ
  stmts_kinds end_of-Stmt = []
  stmts_kinds (more_of-Stmt s rest) = stmt_kinds s ++ stmts_kinds rest

abbrev pub calls_in : List FunctionDef → List ℕ
calls_in [] = []
calls_in (f ∷ functions) = stmt_kinds f.body ++ calls_in functions

-- those of the functions, and then those of the calls
abbrev pub kinds_in : List FunctionDef → List ℕ
kinds_in functions = map (λ (f : FunctionDef). f.kind) functions ++ calls_in functions

-- ---- their order

abbrev pub is_among : ℕ → List ℕ → Bool
is_among ty types = list_any (λ other. other == ty) types

-- a type that has no number yet takes the next one
abbrev pub with_kind : List ℕ → ℕ → List ℕ
with_kind types ty = if is_among ty types then types else types ++ ty ∷ []

-- the types of functions in the order of their numbers, where each of these functions has its type for its number
abbrev pub types_of_functions : (thread : ℕ) → List FunctionDef → List ℕ
types_of_functions thread functions = fold with_kind (thread ∷ []) (kinds_in functions)
