-- The code of a tree, at the constructors by which Rust sees it.
use Rattle.std.proofs.Common.{◌≡◌, ℕ, ◌+◌, List, [], ◌∷◌, ◌++◌, length, refl, ap, ◌∙◌}
use Rattle.filc_num.specs.declared.integer.BinOp.TheVariants.{Sub}
use Rattle.filc_num.specs.declared.integer.IntType.{IntType}
use Rattle.form_tree.specs.declared.expr.Expr.{Expr, Negate, Chain, Row_of-Link, end_of-Link, more_of-Link, items-the_row-Link}
use Rattle.form_tree.specs.declared.expr.Expr.TheBlock.{hidden-the_row-Expr-0, shape-the_row-Expr-0, hidden-the_row-Link-1, items_hidden-the_row-Link-1}
use Rattle.form_tree.specs.declared.expr.Link.{Link}
use Rattle.form_tree.specs.declared.stmt.LocalDef.{LocalDef}
use Rattle.form_tree.specs.declared.stmt.Stmt.{Stmt, While, Block, Row_of-Stmt, end_of-Stmt, more_of-Stmt, items-the_row-Stmt}
use Rattle.form_tree.specs.declared.stmt.Stmt.TheBlock.{hidden-the_row-Stmt-0, shape-the_row-Stmt-0, hidden-the_row-Stmt-1, items_hidden-the_row-Stmt-1}
use denote.Hole.Carrier
use Rattle.filc_code.specs.declared.op.Op.TheVariants.{Const, Binary}
use Rattle.filc_code.specs.Numbers.{operator_number, type_number}
use Rattle.code_gen.specs.Code.{at_line, expr_code, links_code, zeros_code, while_code, stmt_code, stmts_code}
use Rattle.code_gen.specs.Lists.{list_code, stmt_list_code}

links_code_list : {m : _} (line : ℕ) (k : Row_of-Link m) (t : ℕ) → links_code line k t ≡ list_code line (items-the_row-Link _ k) t
links_code_list line end_of-Link t = refl
links_code_list line (more_of-Link op ty operand rest) t =
    ap (λ c. expr_code operand (t + 1) ++ (at_line line (Binary t t (t + 1) (operator_number op) (type_number ty)) ∷ c)) (links_code_list line rest t)

stmts_code_list : {m : _} (k : Row_of-Stmt m) (t at : ℕ) → stmts_code k t at ≡ stmt_list_code (items-the_row-Stmt _ k) t at
stmts_code_list end_of-Stmt t at = refl
stmts_code_list (more_of-Stmt s rest) t at =
    ap (λ c. stmt_code s t at ++ c) (stmts_code_list rest t (at + length (stmt_code s t at)))

pub negate_code :
    (line : ℕ) (ty : IntType) (e : Expr) (t : ℕ) →
    expr_code (Negate line ty e) t ≡ expr_code e t ++ (at_line line (Const (t + 1) 0) ∷ (at_line line (Binary t (t + 1) t (operator_number Sub) (type_number ty)) ∷ []))
unfolding hidden-the_row-Expr-0 shape-the_row-Expr-0 Carrier.hidden
negate_code line ty e t = refl

pub chain_code : (line : ℕ) (e : Expr) (links : List Link) (t : ℕ) → expr_code (Chain line e links) t ≡ expr_code e t ++ list_code line links t
unfolding hidden-the_row-Expr-0 shape-the_row-Expr-0 Carrier.hidden
chain_code line e links t =
    ap (λ c. expr_code e t ++ c)
    (links_code_list line (hidden-the_row-Link-1 links) t ∙ ap (λ l. list_code line l t) (items_hidden-the_row-Link-1 links))

pub loop_code : (line : ℕ) (test : Expr) (s : Stmt) (t at : ℕ) → stmt_code (While line test s) t at ≡ while_code line t at (expr_code test t) (stmt_code s t (at + length (expr_code test t) + 1))
unfolding hidden-the_row-Stmt-0 shape-the_row-Stmt-0 Carrier.hidden
loop_code line test s t at = refl

pub block_code : (locals : List LocalDef) (body : List Stmt) (t at : ℕ) → stmt_code (Block locals body) t at ≡ zeros_code locals ++ stmt_list_code body t (at + length (zeros_code locals))
block_code locals body t at =
    ap (λ c. zeros_code locals ++ c)
    (stmts_code_list (hidden-the_row-Stmt-1 body) t (at + length (zeros_code locals))
    ∙ ap (λ l. stmt_list_code l t (at + length (zeros_code locals))) (items_hidden-the_row-Stmt-1 body))
