-- The definitions on a tree, at the constructors by which Rust sees it.
use Rattle.std.proofs.Common.{◌≡◌, ℕ, ◌+◌, List, max, refl, ap, ◌∙◌}
use Rattle.filc_num.specs.declared.integer.IntType.{IntType}
use Rattle.form_tree.specs.declared.expr.Expr.{Expr, Negate, Chain, Row_of-Link, end_of-Link, more_of-Link, items-the_row-Link}
use Rattle.form_tree.specs.declared.expr.Expr.TheBlock.{hidden-the_row-Expr-0, shape-the_row-Expr-0, hidden-the_row-Link-1, items_hidden-the_row-Link-1}
use Rattle.form_tree.specs.declared.expr.Link.{Link}
use Rattle.form_tree.specs.declared.stmt.LocalDef.{LocalDef}
use Rattle.form_tree.specs.declared.stmt.Stmt.{Stmt, While, Block, Row_of-Stmt, end_of-Stmt, more_of-Stmt, items-the_row-Stmt}
use Rattle.form_tree.specs.declared.stmt.Stmt.TheBlock.{hidden-the_row-Stmt-0, shape-the_row-Stmt-0, hidden-the_row-Stmt-1, items_hidden-the_row-Stmt-1}
use denote.Hole.Carrier
use Rattle.form_tree.specs.Temps.{temps_of, links_temps, stmt_temps, stmts_temps}
use Rattle.form_tree.specs.Lists.{list_temps, stmt_list_temps}

-- ---- temporaries

links_temps_list : {m : _} (k : Row_of-Link m) → links_temps k ≡ list_temps (items-the_row-Link _ k)
links_temps_list end_of-Link = refl
links_temps_list (more_of-Link op ty operand rest) = ap (λ n. max (1 + temps_of operand) n) (links_temps_list rest)

stmts_temps_list : {m : _} (k : Row_of-Stmt m) → stmts_temps k ≡ stmt_list_temps (items-the_row-Stmt _ k)
stmts_temps_list end_of-Stmt = refl
stmts_temps_list (more_of-Stmt s rest) = ap (λ n. max (stmt_temps s) n) (stmts_temps_list rest)

pub negate_temps : (line : ℕ) (ty : IntType) (e : Expr) → temps_of (Negate line ty e) ≡ temps_of e
unfolding hidden-the_row-Expr-0 shape-the_row-Expr-0 Carrier.hidden
negate_temps line ty e = refl

pub chain_temps : (line : ℕ) (e : Expr) (links : List Link) → temps_of (Chain line e links) ≡ max (temps_of e) (list_temps links)
unfolding hidden-the_row-Expr-0 shape-the_row-Expr-0 Carrier.hidden
chain_temps line e links = ap (λ n. max (temps_of e) n) (links_temps_list (hidden-the_row-Link-1 links) ∙ ap list_temps (items_hidden-the_row-Link-1 links))

pub while_temps : (line : ℕ) (test : Expr) (s : Stmt) → stmt_temps (While line test s) ≡ max (temps_of test) (stmt_temps s)
unfolding hidden-the_row-Stmt-0 shape-the_row-Stmt-0 Carrier.hidden
while_temps line test s = refl

pub block_temps : (locals : List LocalDef) (body : List Stmt) → stmt_temps (Block locals body) ≡ stmt_list_temps body
block_temps locals body = stmts_temps_list (hidden-the_row-Stmt-1 body) ∙ ap stmt_list_temps (items_hidden-the_row-Stmt-1 body)
