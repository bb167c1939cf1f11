-- The same code over the lists that a tree keeps, as the compiler meets their elements.
use Rattle.std.specs.Prelude.{ℕ, ◌+◌, List, [], ◌∷◌, ◌++◌, length}
use Rattle.form_tree.specs.declared.expr.Link.{Link}
use Rattle.form_tree.specs.declared.stmt.Stmt.{Stmt}
use Rattle.filc_code.specs.declared.op.Instruction.{Instruction}
use Rattle.filc_code.specs.declared.op.Op.TheVariants.{Binary}
use Rattle.filc_code.specs.Numbers.{operator_number, type_number}
use Rattle.code_gen.specs.Code.{at_line, expr_code, stmt_code}

-- the links of a chain
abbrev pub list_code : ℕ → List Link → ℕ → List Instruction
list_code line [] t = []
list_code line (l ∷ links) t =
    expr_code l.operand (t + 1) ++ (at_line line (Binary t t (t + 1) (operator_number l.op) (type_number l.ty)) ∷ list_code line links t)

-- the statements of a block, from a place on
abbrev pub stmt_list_code : List Stmt → ℕ → ℕ → List Instruction
stmt_list_code [] t at = []
stmt_list_code (s ∷ rest) t at = stmt_code s t at ++ stmt_list_code rest t (at + length (stmt_code s t at))
