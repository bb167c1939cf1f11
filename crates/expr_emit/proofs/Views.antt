-- Sizes and code at the constructors by which Rust sees an expression: rows as lists.
use Rattle.std.proofs.Common.{◌≡◌, ℕ, suc, ◌+◌, List, [], ◌∷◌, ◌++◌, length, Bool, true, false, refl, sym, ap, ◌∙◌, arith, append_assoc}
use Rattle.c_tree.specs.declared.operation.Operation.{Operation}
use Rattle.c_tree.specs.declared.operation.Piece.{Piece}
use Rattle.c_tree.specs.declared.expr.Expr.{Expr, Apply, Chain, Logic, Choose, Print, Row_of-Expr, end_of-Expr, more_of-Expr, Row_of-Link, end_of-Link, more_of-Link, items-the_row-Expr, items-the_row-Link}
use Rattle.c_tree.specs.declared.expr.Link.{Link}
use Rattle.c_tree.specs.declared.expr.Expr.TheBlock as b
use Rattle.c_tree.specs.Fits.{count_of}
use denote.Hole.Carrier
use Rattle.whole_code.specs.declared.op.Op.TheVariants.{Const, Jump, JumpZero}
use Rattle.expr_gen.specs.Operations.{at_line}
use Rattle.expr_gen.specs.Code.{op_code, op_size, print_code, print_size, branch_size, branch_code, expr_size, expr_code, operands_size, operands_code, links_size, links_code, tests_size, logic_size, logic_code}
use Rattle.expr_emit.specs.Lists.{exprs_size, exprs_code, link_list_size, link_list_code, test_list_size, and_list_code, or_list_code, logic_list_size, logic_list_code}

-- ---- rows

operands_list : {m : _} (k : Row_of-Expr m) → operands_size k ≡ exprs_size (items-the_row-Expr _ k)
operands_list end_of-Expr = refl
operands_list (more_of-Expr e rest) = ap (λ n. expr_size e + n) (operands_list rest)

count_list : {m : _} (k : Row_of-Expr m) → count_of k ≡ length (items-the_row-Expr _ k)
count_list end_of-Expr = refl
count_list (more_of-Expr e rest) = ap suc (count_list rest)

operands_code_list : {m : _} (library : Bool) (k : Row_of-Expr m) (t at : ℕ) → operands_code library k t at ≡ exprs_code library (items-the_row-Expr _ k) t at
operands_code_list library end_of-Expr t at = refl
operands_code_list library (more_of-Expr e rest) t at = ap (λ c. expr_code library e t at ++ c) (operands_code_list library rest (t + 1) (at + expr_size e))

links_list : {m : _} (k : Row_of-Link m) → links_size k ≡ link_list_size (items-the_row-Link _ k)
links_list end_of-Link = refl
links_list (more_of-Link o z operands rest) =
    ap (λ n. n + op_size o + links_size rest) (operands_list operands ∙ ap exprs_size (sym (b.items_shown-the_row-Expr-0 z operands)))
    ∙ ap (λ n. exprs_size (b.shown-the_row-Expr-0 z operands) + op_size o + n) (links_list rest)

links_code_list : {m : _} (library : Bool) (line : ℕ) (k : Row_of-Link m) (t at : ℕ) → links_code library line k t at ≡ link_list_code library line (items-the_row-Link _ k) t at
links_code_list library line end_of-Link t at = refl
links_code_list library line (more_of-Link o z operands rest) t at =
    let same = sym (b.items_shown-the_row-Expr-0 z operands) in
    let l = b.shown-the_row-Expr-0 z operands in
    let n0 = operands_size operands in
    let code = λ (n i : ℕ). op_code library o line t (suc n) (at + i) ++ links_code library line rest t (at + i + op_size o) in
    let codes : operands_code library operands (t + 1) at ≡ exprs_code library l (t + 1) at = operands_code_list library operands (t + 1) at ∙ ap (λ l. exprs_code library l (t + 1) at) same in
    let counts : count_of operands ≡ length l = count_list operands ∙ ap length same in
    let sizes : n0 ≡ exprs_size l = operands_list operands ∙ ap exprs_size same in
    ap (λ c. c ++ code (count_of operands) n0) codes
    ∙ ap (λ n. exprs_code library l (t + 1) at ++ code n n0) counts
    ∙ ap (λ i. exprs_code library l (t + 1) at ++ code (length l) i) sizes
    ∙ ap (λ c. exprs_code library l (t + 1) at ++ (op_code library o line t (suc (length l)) (at + exprs_size l) ++ c)) (links_code_list library line rest t (at + exprs_size l + op_size o))

-- ---- expressions

pub apply_size : (line : ℕ) (o : Operation) (operands : List Expr) → expr_size (Apply line o operands) ≡ exprs_size operands + op_size o
apply_size line o operands = ap (λ n. n + op_size o) (operands_list (b.hidden-the_row-Expr-0 operands) ∙ ap exprs_size (b.items_hidden-the_row-Expr-0 operands))

pub apply_code :
    (library : Bool) (line : ℕ) (o : Operation) (operands : List Expr) (t at : ℕ) →
    expr_code library (Apply line o operands) t at ≡ exprs_code library operands t at ++ op_code library o line t (length operands) (at + exprs_size operands)
apply_code library line o operands t at =
    let k = b.hidden-the_row-Expr-0 operands in
    let same = b.items_hidden-the_row-Expr-0 operands in
    ap (λ c. c ++ op_code library o line t (count_of k) (at + operands_size k)) (operands_code_list library k t at ∙ ap (λ l. exprs_code library l t at) same)
    ∙ ap (λ n. exprs_code library operands t at ++ op_code library o line t n (at + operands_size k)) (count_list k ∙ ap length same)
    ∙ ap (λ i. exprs_code library operands t at ++ op_code library o line t (length operands) (at + i)) (operands_list k ∙ ap exprs_size same)

pub chain_size : (line : ℕ) (first : Expr) (links : List Link) → expr_size (Chain line first links) ≡ expr_size first + link_list_size links
unfolding b.hidden-the_row-Expr-1 b.shape-the_row-Expr-1 Carrier.hidden
chain_size line first links = ap (λ n. expr_size first + n) (links_list (b.hidden-the_row-Link-2 links) ∙ ap link_list_size (b.items_hidden-the_row-Link-2 links))

pub chain_code :
    (library : Bool) (line : ℕ) (first : Expr) (links : List Link) (t at : ℕ) →
    expr_code library (Chain line first links) t at ≡ expr_code library first t at ++ link_list_code library line links t (at + expr_size first)
unfolding b.hidden-the_row-Expr-1 b.shape-the_row-Expr-1 Carrier.hidden
chain_code library line first links t at =
    ap (λ c. expr_code library first t at ++ c)
    (links_code_list library line (b.hidden-the_row-Link-2 links) t (at + expr_size first) ∙ ap (λ l. link_list_code library line l t (at + expr_size first)) (b.items_hidden-the_row-Link-2 links))

pub choose_code :
    (library : Bool) (line : ℕ) (test one other : Expr) (t at : ℕ) →
    expr_code library (Choose line test one other) t at
    ≡ branch_code library line t at (expr_size test) (expr_size one) (expr_size other) (expr_code library test t at) (expr_code library one t (at + expr_size test + 1))
    (expr_code library other t (at + expr_size test + 1 + expr_size one + 1))
unfolding b.hidden-the_row-Expr-1 b.shape-the_row-Expr-1 Carrier.hidden
choose_code library line test one other t at = refl

pub choose_size :
    (line : ℕ) (test one other : Expr) → expr_size (Choose line test one other) ≡ branch_size (expr_size test) (expr_size one) (expr_size other)
unfolding b.hidden-the_row-Expr-1 b.shape-the_row-Expr-1 Carrier.hidden
choose_size line test one other = refl

pub print_view_size : (line : ℕ) (operands : List Expr) (pieces : List Piece) → expr_size (Print line operands pieces) ≡ exprs_size operands + print_size pieces
print_view_size line operands pieces =
    ap (λ n. n + print_size pieces) (operands_list (b.hidden-the_row-Expr-0 operands) ∙ ap exprs_size (b.items_hidden-the_row-Expr-0 operands))

pub print_view_code :
    (library : Bool) (line : ℕ) (operands : List Expr) (pieces : List Piece) (t at : ℕ) →
    expr_code library (Print line operands pieces) t at ≡ exprs_code library operands t at ++ print_code library pieces line t (length operands)
print_view_code library line operands pieces t at =
    let k = b.hidden-the_row-Expr-0 operands in
    let same = b.items_hidden-the_row-Expr-0 operands in
    ap (λ c. c ++ print_code library pieces line t (count_of k)) (operands_code_list library k t at ∙ ap (λ l. exprs_code library l t at) same)
    ∙ ap (λ n. exprs_code library operands t at ++ print_code library pieces line t n) (count_list k ∙ ap length same)

-- ---- `&&` and `||`

tests_list : {m : _} (k : Row_of-Expr m) → tests_size k ≡ test_list_size 1 (items-the_row-Expr _ k)
tests_list end_of-Expr = refl
tests_list (more_of-Expr e rest) = ap (λ n. expr_size e + 1 + n) (tests_list rest)

all_list : {m : _} (k : Row_of-Expr m) → logic_size true k ≡ test_list_size 1 (items-the_row-Expr _ k) + 3
all_list end_of-Expr = refl
all_list (more_of-Expr e rest) = omega (arith, all_list rest)

any_list : {m : _} (k : Row_of-Expr m) → logic_size false k ≡ test_list_size 3 (items-the_row-Expr _ k) + 1
any_list end_of-Expr = refl
any_list (more_of-Expr e rest) = omega (arith, any_list rest)

all_code_list :
    {m : _} (library : Bool) (line : ℕ) (k : Row_of-Expr m) (t at none_at : ℕ) → none_at ≡ at + test_list_size 1 (items-the_row-Expr _ k) + 2 →
    logic_code library line true k t at
    ≡ and_list_code library line (items-the_row-Expr _ k) t at none_at
    ++ at_line library line (Const t 1) ∷ at_line library line (Jump (none_at + 1)) ∷ at_line library line (Const t 0) ∷ []
all_code_list library line end_of-Expr t at none_at e =
    let j : at + 3 ≡ none_at + 1 = omega (arith, e) in
    ap (λ p. at_line library line (Const t 1) ∷ at_line library line (Jump p) ∷ at_line library line (Const t 0) ∷ []) j
all_code_list library line (more_of-Expr e rest) t at none_at z =
    let target : at + expr_size e + 1 + tests_size rest + 2 ≡ none_at = omega (arith, z, tests_list rest) in
    let there : none_at ≡ at + expr_size e + 1 + test_list_size 1 (items-the_row-Expr _ rest) + 2 = omega (arith, z) in
    let last = at_line library line (Const t 1) ∷ at_line library line (Jump (none_at + 1)) ∷ at_line library line (Const t 0) ∷ [] in
    let more = and_list_code library line (items-the_row-Expr _ rest) t (at + expr_size e + 1) none_at in
    ap (λ p. expr_code library e t at ++ (at_line library line (JumpZero t p) ∷ logic_code library line true rest t (at + expr_size e + 1))) target
    ∙ ap (λ c. expr_code library e t at ++ (at_line library line (JumpZero t none_at) ∷ c)) (all_code_list library line rest t (at + expr_size e + 1) none_at there)
    ∙ sym (append_assoc (expr_code library e t at) (at_line library line (JumpZero t none_at) ∷ more) last)

any_code_list :
    {m : _} (library : Bool) (line : ℕ) (k : Row_of-Expr m) (t at end : ℕ) → end ≡ at + test_list_size 3 (items-the_row-Expr _ k) + 1 →
    logic_code library line false k t at ≡ or_list_code library line (items-the_row-Expr _ k) t at end ++ at_line library line (Const t 0) ∷ []
any_code_list library line end_of-Expr t at end e = refl
any_code_list library line (more_of-Expr e rest) t at end z =
    let next : at + expr_size e + 1 + 1 + 1 ≡ at + expr_size e + 3 = omega arith in
    let target : at + expr_size e + 1 + 1 + 1 + logic_size false rest ≡ end = omega (arith, z, any_list rest) in
    let there : end ≡ at + expr_size e + 3 + test_list_size 3 (items-the_row-Expr _ rest) + 1 = omega (arith, z) in
    let jz = λ (p : ℕ). at_line library line (JumpZero t p) in
    let one = at_line library line (Const t 1) in
    let j = λ (p : ℕ). at_line library line (Jump p) in
    let last = at_line library line (Const t 0) ∷ [] in
    let more = or_list_code library line (items-the_row-Expr _ rest) t (at + expr_size e + 3) end in
    ap (λ p. expr_code library e t at ++ (jz (at + expr_size e + 1 + 1 + 1) ∷ (one ∷ (j p ∷ logic_code library line false rest t (at + expr_size e + 1 + 1 + 1))))) target
    ∙ ap (λ p. expr_code library e t at ++ (jz p ∷ (one ∷ (j end ∷ logic_code library line false rest t p)))) next
    ∙ ap (λ c. expr_code library e t at ++ (jz (at + expr_size e + 3) ∷ (one ∷ (j end ∷ c)))) (any_code_list library line rest t (at + expr_size e + 3) end there)
    ∙ sym (append_assoc (expr_code library e t at) (jz (at + expr_size e + 3) ∷ one ∷ j end ∷ more) last)

logic_list : {m : _} (all : Bool) (k : Row_of-Expr m) → logic_size all k ≡ logic_list_size all (items-the_row-Expr _ k)
logic_list true k = all_list k
logic_list false k = any_list k

logic_code_list :
    {m : _} (library : Bool) (line : ℕ) (all : Bool) (k : Row_of-Expr m) (t at : ℕ) →
    logic_code library line all k t at ≡ logic_list_code library line all (items-the_row-Expr _ k) t at
logic_code_list library line true k t at =
    let n = test_list_size 1 (items-the_row-Expr _ k) in
    let next : at + n + 2 + 1 ≡ at + n + 3 = omega arith in
    all_code_list library line k t at (at + n + 2) refl
    ∙ ap (λ p. and_list_code library line (items-the_row-Expr _ k) t at (at + n + 2) ++ at_line library line (Const t 1) ∷ at_line library line (Jump p) ∷ at_line library line (Const t 0) ∷ []) next
logic_code_list library line false k t at = any_code_list library line k t at (at + test_list_size 3 (items-the_row-Expr _ k) + 1) refl

pub logic_view_size : (line : ℕ) (all : Bool) (operands : List Expr) → expr_size (Logic line all operands) ≡ logic_list_size all operands
logic_view_size line all operands = logic_list all (b.hidden-the_row-Expr-0 operands) ∙ ap (logic_list_size all) (b.items_hidden-the_row-Expr-0 operands)

pub logic_view_code :
    (library : Bool) (line : ℕ) (all : Bool) (operands : List Expr) (t at : ℕ) →
    expr_code library (Logic line all operands) t at ≡ logic_list_code library line all operands t at
logic_view_code library line all operands t at =
    logic_code_list library line all (b.hidden-the_row-Expr-0 operands) t at
    ∙ ap (λ l. logic_list_code library line all l t at) (b.items_hidden-the_row-Expr-0 operands)
