-- Code and sizes over the lists that Rust sees of a tree.
use Rattle.std.specs.Prelude.{ℕ, suc, ◌+◌, List, [], ◌∷◌, ◌++◌, length, Bool, true, false}
use Rattle.c_tree.specs.declared.expr.Expr.{Expr}
use Rattle.c_tree.specs.declared.expr.Link.{Link}
use Rattle.whole_code.specs.declared.op.Op.TheVariants.{Const, Jump, JumpZero}
use Rattle.whole_code.specs.declared.op.Instruction.{Instruction}
use Rattle.expr_gen.specs.Operations.{at_line}
use Rattle.expr_gen.specs.Code.{op_size, op_code, expr_size, expr_code}

-- ---- sizes

abbrev pub exprs_size : List Expr → ℕ
exprs_size [] = 0
exprs_size (e ∷ rest) = expr_size e + exprs_size rest

abbrev pub link_list_size : List Link → ℕ
link_list_size [] = 0
link_list_size (l ∷ rest) = exprs_size l.operands + op_size l.op + link_list_size rest

-- operands that are tested, with so many instructions after each
abbrev pub test_list_size : ℕ → List Expr → ℕ
test_list_size more [] = 0
test_list_size more (e ∷ rest) = expr_size e + more + test_list_size more rest

-- ---- code

abbrev pub exprs_code : Bool → List Expr → (t at : ℕ) → List Instruction
exprs_code library [] t at = []
exprs_code library (e ∷ rest) t at = expr_code library e t at ++ exprs_code library rest (t + 1) (at + expr_size e)

abbrev pub link_list_code : Bool → (line : ℕ) → List Link → (t at : ℕ) → List Instruction
link_list_code library line [] t at = []
link_list_code library line (l ∷ rest) t at =
    exprs_code library l.operands (t + 1) at
    ++ (op_code library l.op line t (suc (length l.operands)) (at + exprs_size l.operands)
    ++ link_list_code library line rest t (at + exprs_size l.operands + op_size l.op))

-- the operands of `&&`, which go to the index of a 0
abbrev pub and_list_code : Bool → (line : ℕ) → List Expr → (t at false_at : ℕ) → List Instruction
and_list_code library line [] t at false_at = []
and_list_code library line (e ∷ rest) t at false_at =
    expr_code library e t at ++ (at_line library line (JumpZero t false_at) ∷ and_list_code library line rest t (at + expr_size e + 1) false_at)

-- those of `||`, of which one that isn't 0 goes to the end
abbrev pub or_list_code : Bool → (line : ℕ) → List Expr → (t at end : ℕ) → List Instruction
or_list_code library line [] t at end = []
or_list_code library line (e ∷ rest) t at end =
    expr_code library e t at
    ++ (at_line library line (JumpZero t (at + expr_size e + 3)) ∷ at_line library line (Const t 1) ∷ at_line library line (Jump end)
    ∷ or_list_code library line rest t (at + expr_size e + 3) end)

-- ---- `&&` and `||`, of operands that are tested

abbrev pub logic_list_size : Bool → List Expr → ℕ
logic_list_size true l = test_list_size 1 l + 3
logic_list_size false l = test_list_size 3 l + 1

abbrev pub logic_list_code : Bool → (line : ℕ) → (all : Bool) → List Expr → (t at : ℕ) → List Instruction
logic_list_code library line true l t at =
    and_list_code library line l t at (at + test_list_size 1 l + 2)
    ++ at_line library line (Const t 1) ∷ at_line library line (Jump (at + test_list_size 1 l + 3)) ∷ at_line library line (Const t 0) ∷ []
logic_list_code library line false l t at =
    or_list_code library line l t at (at + test_list_size 3 l + 1) ++ at_line library line (Const t 0) ∷ []
