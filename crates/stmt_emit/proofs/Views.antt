-- Sizes and code at the constructors by which Rust sees a statement: rows as lists.
use Rattle.std.proofs.Common.{◌≡◌, ℕ, zero, suc, ◌+◌, List, ◌++◌, Bool, refl, sym, ap, ◌∙◌, arith}
use Rattle.std.specs.Prelude.{slice_index_or}
use Rattle.c_tree.specs.declared.expr.Expr.{Expr}
use Rattle.c_tree.specs.declared.stmt.LocalDef.{LocalDef}
use Rattle.c_tree.specs.declared.stmt.Case.{Case}
use Rattle.c_tree.specs.declared.stmt.Stmt.{Stmt, Block, If, Loop, Switch, Row_of-Stmt, end_of-Stmt, more_of-Stmt, items-the_row-Stmt}
use Rattle.c_tree.specs.declared.stmt.Stmt.TheBlock as b
use denote.Hole.Carrier
use Rattle.whole_code.specs.declared.op.Instruction.{Instruction}
use Rattle.expr_gen.specs.Code.{branch_size, branch_code, expr_size, expr_code}
use Rattle.stmt_gen.specs.Code.{Exits, locals_size, locals_code, cases_size, switch_code, switch_exits, loop_code, loop_exits, stmt_size, stmts_size, index_in, stmt_code, stmts_code}
use Rattle.stmt_emit.specs.Lists.{statements_size, statements_code, starts_of}

-- ---- rows

statements_list : {m : _} (k : Row_of-Stmt m) → stmts_size k ≡ statements_size (items-the_row-Stmt _ k)
statements_list end_of-Stmt = refl
statements_list (more_of-Stmt s rest) = ap (λ n. stmt_size s + n) (statements_list rest)

statements_code_list :
    {m : _} (library : Bool) (k : Row_of-Stmt m) (t at : ℕ) (x : Exits) → stmts_code library k t at x ≡ statements_code library (items-the_row-Stmt _ k) t at x
statements_code_list library end_of-Stmt t at x = refl
statements_code_list library (more_of-Stmt s rest) t at x = ap (λ c. stmt_code library s t at x ++ c) (statements_code_list library rest t (at + stmt_size s) x)

index_list :
    {m : _} (k : Row_of-Stmt m) (n at end : ℕ) → end ≡ at + statements_size (items-the_row-Stmt _ k) →
    slice_index_or (starts_of (items-the_row-Stmt _ k) at) n end ≡ index_in k n at
index_list end_of-Stmt zero at end e = refl
index_list (more_of-Stmt s rest) zero at end e = refl
index_list end_of-Stmt (suc n) at end e = omega (arith, e)
index_list (more_of-Stmt s rest) (suc n) at end e = index_list rest n (at + stmt_size s) end (omega (arith, e))

-- ---- statements

pub block_size : (locals : List LocalDef) (body : List Stmt) → stmt_size (Block locals body) ≡ locals_size locals + statements_size body
block_size locals body = ap (λ n. locals_size locals + n) (statements_list (b.hidden-the_row-Stmt-0 body) ∙ ap statements_size (b.items_hidden-the_row-Stmt-0 body))

pub block_code :
    (library : Bool) (locals : List LocalDef) (body : List Stmt) (t at : ℕ) (x : Exits) →
    stmt_code library (Block locals body) t at x ≡ locals_code library locals t ++ statements_code library body t (at + locals_size locals) x
block_code library locals body t at x =
    ap (λ c. locals_code library locals t ++ c)
    (statements_code_list library (b.hidden-the_row-Stmt-0 body) t (at + locals_size locals) x
    ∙ ap (λ l. statements_code library l t (at + locals_size locals) x) (b.items_hidden-the_row-Stmt-0 body))

pub if_size : (line : ℕ) (test : Expr) (one other : Stmt) → stmt_size (If line test one other) ≡ branch_size (expr_size test) (stmt_size one) (stmt_size other)
unfolding b.hidden-the_row-Stmt-1 b.shape-the_row-Stmt-1 Carrier.hidden
if_size line test one other = refl

pub if_code :
    (library : Bool) (line : ℕ) (test : Expr) (one other : Stmt) (t at : ℕ) (x : Exits) →
    stmt_code library (If line test one other) t at x
    ≡ branch_code library line t at (expr_size test) (stmt_size one) (stmt_size other) (expr_code library test t at)
    (stmt_code library one t (at + expr_size test + 1) x) (stmt_code library other t (at + expr_size test + 1 + stmt_size one + 1) x)
unfolding b.hidden-the_row-Stmt-1 b.shape-the_row-Stmt-1 Carrier.hidden
if_code library line test one other t at x = refl

pub loop_size : (line : ℕ) (body next : Stmt) → stmt_size (Loop line body next) ≡ stmt_size body + stmt_size next + 1
unfolding b.hidden-the_row-Stmt-1 b.shape-the_row-Stmt-1 Carrier.hidden
loop_size line body next = refl

pub loop_view_code :
    (library : Bool) (line : ℕ) (body next : Stmt) (t at : ℕ) (x : Exits) →
    stmt_code library (Loop line body next) t at x
    ≡ loop_code library line at
    (stmt_code library body t at (loop_exits (at + stmt_size body) (at + stmt_size body + stmt_size next)))
    (stmt_code library next t (at + stmt_size body) (loop_exits (at + stmt_size body + stmt_size next) (at + stmt_size body + stmt_size next)))
unfolding b.hidden-the_row-Stmt-1 b.shape-the_row-Stmt-1 Carrier.hidden
loop_view_code library line body next t at x = refl

pub switch_size :
    (line : ℕ) (value : Expr) (cases : List Case) (other : ℕ) (body : List Stmt) →
    stmt_size (Switch line value cases other body) ≡ expr_size value + cases_size cases + 1 + statements_size body
switch_size line value cases other body =
    ap (λ n. expr_size value + cases_size cases + 1 + n) (statements_list (b.hidden-the_row-Stmt-0 body) ∙ ap statements_size (b.items_hidden-the_row-Stmt-0 body))

-- each case goes where its statement begins
pub switch_view_code :
    (library : Bool) (line : ℕ) (value : Expr) (cases : List Case) (other : ℕ) (body : List Stmt) (t at p end : ℕ) (x : Exits) →
    p ≡ at + expr_size value + cases_size cases + 1 → end ≡ p + statements_size body →
    stmt_code library (Switch line value cases other body) t at x
    ≡ switch_code library line t (λ n. slice_index_or (starts_of body p) n end) cases other (expr_code library value t at)
    (statements_code library body t p (switch_exits end x))
switch_view_code library line value cases other body t at p end x here there =
    let k = b.hidden-the_row-Stmt-0 body in
    let same = b.items_hidden-the_row-Stmt-0 body in
    let p0 = at + expr_size value + cases_size cases + 1 in
    let made = λ (index_of : ℕ → ℕ) (c : List Instruction). switch_code library line t index_of cases other (expr_code library value t at) c in
    let size : stmts_size k ≡ statements_size body = statements_list k ∙ ap statements_size same in
    let last : end ≡ p0 + stmts_size k = omega (arith, here, there, size) in
    let last2 : end ≡ p0 + statements_size (items-the_row-Stmt _ k) = omega (arith, last, statements_list k) in
    let starts : (λ (n : ℕ). index_in k n p0) ≡ (λ (n : ℕ). slice_index_or (starts_of body p0) n end) =
    (λ i n. (sym (index_list k n p0 end last2) ∙ ap (λ l. slice_index_or (starts_of l p0) n end) same) i) in
    ap (λ f. made f (stmts_code library k t p0 (switch_exits (p0 + stmts_size k) x))) starts
    ∙ ap (λ c. made (λ n. slice_index_or (starts_of body p0) n end) c)
    (statements_code_list library k t p0 (switch_exits (p0 + stmts_size k) x)
    ∙ ap (λ l. statements_code library l t p0 (switch_exits (p0 + stmts_size k) x)) same
    ∙ ap (λ e. statements_code library body t p0 (switch_exits e x)) (sym last))
    ∙ ap (λ p. made (λ n. slice_index_or (starts_of body p) n end) (statements_code library body t p (switch_exits end x))) (sym here)
