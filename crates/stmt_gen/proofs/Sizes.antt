-- Code is as long as its size says, wherever it stands and wherever it leaves to.
use Rattle.std.proofs.Common.{◌≡◌, ℕ, zero, suc, ◌+◌, ◌≤◌, List, [], ◌∷◌, ◌++◌, length, Bool, Option, Some, None, refl, arith, length-append}
use Rattle.c_tree.specs.declared.expr.Expr.{Expr}
use Rattle.c_tree.specs.declared.stmt.LocalDef.{LocalDef}
use Rattle.c_tree.specs.declared.stmt.LocalKind.{LocalKind}
use Rattle.c_tree.specs.declared.stmt.LocalKind.TheVariants as kind
use Rattle.c_tree.specs.declared.stmt.Case.{Case}
use Rattle.c_tree.specs.declared.stmt.Stmt.{Stmt, Run, Block', If', Loop', BreakUnless, Break, Continue, Switch', Return as ReturnStmt, Row_of-Stmt, end_of-Stmt, more_of-Stmt}
use Rattle.whole_code.specs.declared.op.Op.TheVariants.{Jump, JumpZero, Return}
use Rattle.expr_gen.specs.Operations.{at_line}
use Rattle.expr_gen.specs.Code.{instructions, expr_size, expr_code}
use Rattle.expr_gen.proofs.Sizes.{two, branch_length, expr_length}
use Rattle.stmt_gen.specs.Code.{Exits, local_ops, local_size, locals_size, locals_code, case_ops, cases_size, cases_code, switch_exits, loop_exits, return_size, return_code, stmt_size, stmts_size, index_in, stmt_code, stmts_code}
use Rattle.stmt_gen.specs.Correct.{CodeHasItsSize}

pub index_after : {m : _} (row : Row_of-Stmt m) (statement at : ℕ) → at ≤ index_in row statement at
index_after row zero at = omega arith
index_after end_of-Stmt (suc n) at = omega arith
index_after (more_of-Stmt s rest) (suc n) at = omega (arith, index_after rest n (at + stmt_size s))

module _ (library : Bool) where
  pub local_length : (begins : LocalKind) (d t line : ℕ) → length (instructions library line (local_ops begins d t)) ≡ local_size begins
  local_length kind.Zero d t line = refl
  local_length (kind.Home bytes) d t line = refl
  local_length (kind.Moved bytes lies) d t line = refl

  pub locals_length : (locals : List LocalDef) (t : ℕ) → length (locals_code library locals t) ≡ locals_size locals
  locals_length [] t = refl
  locals_length (d ∷ locals) t =
      two (instructions library d.line (local_ops d.kind d.local t)) (locals_code library locals t) _ _ (local_length d.kind d.local t d.line) (locals_length locals t)

  pub cases_length : (line t : ℕ) (index_of : ℕ → ℕ) (cases : List Case) → length (cases_code library line t index_of cases) ≡ cases_size cases
  cases_length line t index_of [] = refl
  cases_length line t index_of (c ∷ cases) =
      two (instructions library line (case_ops c.value t (index_of c.statement))) (cases_code library line t index_of cases) 3 _ refl (cases_length line t index_of cases)

  return_length : (line : ℕ) (value : Option Expr) (t at : ℕ) → length (return_code library line value t at) ≡ return_size value
  return_length line None t at = refl
  return_length line (Some value) t at = two (expr_code library value t at) (at_line library line (Return t) ∷ []) _ 1 (expr_length library value t at) refl

  mutual
    pub stmt_length : (s : Stmt) (t at : ℕ) (x : Exits) → length (stmt_code library s t at x) ≡ stmt_size s
    stmt_length (Run value) t at x = expr_length library value t at
    stmt_length (Block' locals z body) t at x =
        two (locals_code library locals t) (stmts_code library body t (at + locals_size locals) x) _ _ (locals_length locals t) (stmts_length body t (at + locals_size locals) x)
    stmt_length (If' line test s (more_of-Stmt one end_of-Stmt) s1 (more_of-Stmt other end_of-Stmt)) t at x =
        branch_length library line t at _ _ _ _ _ _ (expr_length library test t at) (stmt_length one t (at + expr_size test + 1) x)
        (stmt_length other t (at + expr_size test + 1 + stmt_size one + 1) x)
    stmt_length (Loop' line s (more_of-Stmt body end_of-Stmt) s1 (more_of-Stmt next end_of-Stmt)) t at x =
        let p1 = at + stmt_size body in
        let p2 = p1 + stmt_size next in
        let cb = stmt_code library body t at (loop_exits p1 p2) in
        let cn = stmt_code library next t p1 (loop_exits p2 p2) in
        let j = at_line library line (Jump at) in
        omega (arith, length-append cb (cn ++ j ∷ []), length-append cn (j ∷ []), stmt_length body t at (loop_exits p1 p2), stmt_length next t p1 (loop_exits p2 p2))
    stmt_length (BreakUnless line test) t at x = two (expr_code library test t at) (at_line library line (JumpZero t x.broke) ∷ []) _ 1 (expr_length library test t at) refl
    stmt_length (Break line) t at x = refl
    stmt_length (Continue line) t at x = refl
    stmt_length (Switch' line value cases other z body) t at x =
        let ab = at + expr_size value + cases_size cases + 1 in
        let x1 = switch_exits (ab + stmts_size body) x in
        let index_of = λ (n : ℕ). index_in body n ab in
        let cv = expr_code library value t at in
        let cc = cases_code library line t index_of cases in
        let jo = at_line library line (Jump (index_of other)) in
        let cs = stmts_code library body t ab x1 in
        omega (arith, length-append cv (cc ++ (jo ∷ cs)), length-append cc (jo ∷ cs), expr_length library value t at, cases_length line t index_of cases, stmts_length body t ab x1)
    stmt_length (ReturnStmt line value) t at x = return_length line value t at

    pub stmts_length : {m : _} (row : Row_of-Stmt m) (t at : ℕ) (x : Exits) → length (stmts_code library row t at x) ≡ stmts_size row
    stmts_length end_of-Stmt t at x = refl
    stmts_length (more_of-Stmt s rest) t at x =
        two (stmt_code library s t at x) (stmts_code library rest t (at + stmt_size s) x) _ _ (stmt_length s t at x) (stmts_length rest t (at + stmt_size s) x)

pub code_has_its_size : CodeHasItsSize
code_has_its_size library s t at x = stmt_length library s t at x
