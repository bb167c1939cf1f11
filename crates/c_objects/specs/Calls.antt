-- The calls through pointers over the lists that the code sees of a tree.
use Rattle.std.specs.Prelude.{ℕ, List, [], ◌∷◌, ◌++◌}
use Rattle.c_tree.specs.declared.expr.Expr.{Expr}
use Rattle.c_tree.specs.declared.expr.Link.{Link}
use Rattle.c_tree.specs.declared.stmt.Stmt.{Stmt}
use Rattle.c_file_rules.specs.declared.made.Made.{Made}
use Rattle.c_file_rules.specs.Kinds.{operation_kinds, expr_kinds, stmt_kinds}

abbrev pub operand_kinds : List Expr → List ℕ
operand_kinds [] = []
operand_kinds (e ∷ rest) = expr_kinds e ++ operand_kinds rest

abbrev pub link_kinds : List Link → List ℕ
link_kinds [] = []
link_kinds (l ∷ rest) = operand_kinds l.operands ++ operation_kinds l.op ++ link_kinds rest

abbrev pub statement_kinds : List Stmt → List ℕ
statement_kinds [] = []
statement_kinds (s ∷ rest) = stmt_kinds s ++ statement_kinds rest

-- of functions with the locals whose address is taken

abbrev pub own_kinds : List Made → List ℕ
own_kinds [] = []
own_kinds (m ∷ rest) = m.function.kind ∷ own_kinds rest

abbrev pub called_kinds : List Made → List ℕ
called_kinds [] = []
called_kinds (m ∷ rest) = stmt_kinds m.function.body ++ called_kinds rest
