-- The calls through pointers at the constructors by which Rust sees a tree: rows as lists.
use Rattle.std.proofs.Common.{◌≡◌, ℕ, List, [], ◌∷◌, ◌++◌, Bool, map, refl, sym, ap, ◌∙◌}
use Rattle.std.specs.Prelude.{fold}
use Rattle.c_tree.specs.declared.operation.Operation.{Operation}
use Rattle.c_tree.specs.declared.operation.Piece.{Piece}
use Rattle.c_tree.specs.declared.expr.Expr.{Expr, Apply, Chain, Logic, Choose, Print, Row_of-Expr, end_of-Expr, more_of-Expr, Row_of-Link, end_of-Link, more_of-Link, items-the_row-Expr, items-the_row-Link}
use Rattle.c_tree.specs.declared.expr.Link.{Link}
use Rattle.c_tree.specs.declared.expr.Expr.TheBlock as b
use Rattle.c_tree.specs.declared.program.FunctionDef.{FunctionDef}
use Rattle.c_tree.specs.declared.stmt.Case.{Case}
use Rattle.c_tree.specs.declared.stmt.LocalDef.{LocalDef}
use Rattle.c_tree.specs.declared.stmt.Stmt.{Stmt, Block, If, Loop, Switch, Row_of-Stmt, end_of-Stmt, more_of-Stmt, items-the_row-Stmt}
use Rattle.c_tree.specs.declared.stmt.Stmt.TheBlock as s
use denote.Hole.Carrier
use Rattle.c_objects.specs.Calls.{operand_kinds, link_kinds, statement_kinds, own_kinds, called_kinds}
use Rattle.c_file_rules.specs.Files.{functions_in}
use Rattle.c_file_rules.specs.declared.made.Made.{Made}
use Rattle.c_file_rules.specs.Kinds.{operation_kinds, operands_kinds, links_kinds, expr_kinds, stmts_kinds, stmt_kinds, calls_in}

-- ---- rows

operands_list : {m : _} (k : Row_of-Expr m) → operands_kinds k ≡ operand_kinds (items-the_row-Expr _ k)
operands_list end_of-Expr = refl
operands_list (more_of-Expr e rest) = ap (λ ks. expr_kinds e ++ ks) (operands_list rest)

links_list : {m : _} (k : Row_of-Link m) → links_kinds k ≡ link_kinds (items-the_row-Link _ k)
links_list end_of-Link = refl
links_list (more_of-Link op z operands rest) =
    ap (λ ks. ks ++ operation_kinds op ++ links_kinds rest) (operands_list operands ∙ ap operand_kinds (sym (b.items_shown-the_row-Expr-0 z operands)))
    ∙ ap (λ ks. operand_kinds (b.shown-the_row-Expr-0 z operands) ++ operation_kinds op ++ ks) (links_list rest)

statements_list : {m : _} (k : Row_of-Stmt m) → stmts_kinds k ≡ statement_kinds (items-the_row-Stmt _ k)
statements_list end_of-Stmt = refl
statements_list (more_of-Stmt x rest) = ap (λ ks. stmt_kinds x ++ ks) (statements_list rest)

-- ---- expressions

pub apply_kinds : (line : ℕ) (o : Operation) (operands : List Expr) → expr_kinds (Apply line o operands) ≡ operand_kinds operands ++ operation_kinds o
apply_kinds line o operands =
    ap (λ ks. ks ++ operation_kinds o) (operands_list (b.hidden-the_row-Expr-0 operands) ∙ ap operand_kinds (b.items_hidden-the_row-Expr-0 operands))

pub chain_kinds : (line : ℕ) (first : Expr) (links : List Link) → expr_kinds (Chain line first links) ≡ expr_kinds first ++ link_kinds links
unfolding b.hidden-the_row-Expr-1 b.shape-the_row-Expr-1 Carrier.hidden
chain_kinds line first links =
    ap (λ ks. expr_kinds first ++ ks) (links_list (b.hidden-the_row-Link-2 links) ∙ ap link_kinds (b.items_hidden-the_row-Link-2 links))

pub logic_kinds : (line : ℕ) (all : Bool) (operands : List Expr) → expr_kinds (Logic line all operands) ≡ operand_kinds operands
logic_kinds line all operands =
    operands_list (b.hidden-the_row-Expr-0 operands) ∙ ap operand_kinds (b.items_hidden-the_row-Expr-0 operands)

pub choose_kinds : (line : ℕ) (test one other : Expr) → expr_kinds (Choose line test one other) ≡ expr_kinds test ++ expr_kinds one ++ expr_kinds other
unfolding b.hidden-the_row-Expr-1 b.shape-the_row-Expr-1 Carrier.hidden
choose_kinds line test one other = refl

pub print_kinds : (line : ℕ) (operands : List Expr) (pieces : List Piece) → expr_kinds (Print line operands pieces) ≡ operand_kinds operands
print_kinds line operands pieces =
    operands_list (b.hidden-the_row-Expr-0 operands) ∙ ap operand_kinds (b.items_hidden-the_row-Expr-0 operands)

-- ---- statements

pub block_kinds : (locals : List LocalDef) (body : List Stmt) → stmt_kinds (Block locals body) ≡ statement_kinds body
block_kinds locals body = statements_list (s.hidden-the_row-Stmt-0 body) ∙ ap statement_kinds (s.items_hidden-the_row-Stmt-0 body)

pub if_kinds : (line : ℕ) (test : Expr) (one other : Stmt) → stmt_kinds (If line test one other) ≡ expr_kinds test ++ stmt_kinds one ++ stmt_kinds other
unfolding s.hidden-the_row-Stmt-1 s.shape-the_row-Stmt-1 Carrier.hidden
if_kinds line test one other = refl

pub loop_kinds : (line : ℕ) (body next : Stmt) → stmt_kinds (Loop line body next) ≡ stmt_kinds body ++ stmt_kinds next
unfolding s.hidden-the_row-Stmt-1 s.shape-the_row-Stmt-1 Carrier.hidden
loop_kinds line body next = refl

pub switch_kinds : (line : ℕ) (value : Expr) (cases : List Case) (other : ℕ) (body : List Stmt)
    → stmt_kinds (Switch line value cases other body) ≡ expr_kinds value ++ statement_kinds body
switch_kinds line value cases other body =
    ap (λ ks. expr_kinds value ++ ks) (statements_list (s.hidden-the_row-Stmt-0 body) ∙ ap statement_kinds (s.items_hidden-the_row-Stmt-0 body))

-- ---- functions

pub own_list : (functions : List Made) → own_kinds functions ≡ map (λ (f : FunctionDef). f.kind) (functions_in functions)
own_list [] = refl
own_list (m ∷ rest) = ap (λ ks. m.function.kind ∷ ks) (own_list rest)

pub called_list : (functions : List Made) → called_kinds functions ≡ calls_in (functions_in functions)
called_list [] = refl
called_list (m ∷ rest) = ap (λ ks. stmt_kinds m.function.body ++ ks) (called_list rest)

-- ---- one list of types behind another

module _ {A B : Type 0} (f : A → B → A) where
  pub fold_on : (a : A) (xs ys : List B) → fold f a (xs ++ ys) ≡ fold f (fold f a xs) ys
  fold_on a [] ys = refl
  fold_on a (x ∷ xs) ys = fold_on (f a x) xs ys

  pub two_on : (a b c : A) (xs ys all : List B) → all ≡ xs ++ ys → b ≡ fold f a xs → c ≡ fold f b ys → c ≡ fold f a all
  two_on a b c xs ys all e g h = h ∙ ap (λ x. fold f x ys) g ∙ sym (fold_on a xs ys) ∙ sym (ap (fold f a) e)

  pub three_on : (a b c d : A) (xs ys zs all : List B) → all ≡ xs ++ ys ++ zs → b ≡ fold f a xs → c ≡ fold f b ys → d ≡ fold f c zs → d ≡ fold f a all
  three_on a b c d xs ys zs all e g h i = two_on a c d (xs ++ ys) zs all e (two_on a b c xs ys (xs ++ ys) refl g h) i
