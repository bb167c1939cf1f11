-- The same over the lists that a tree keeps, as a walk of them meets the elements.
use Rattle.std.specs.Prelude.{ℕ, ◌+◌, List, [], ◌∷◌, max}
use Rattle.form_tree.specs.declared.expr.Link.{Link}
use Rattle.form_tree.specs.declared.stmt.Stmt.{Stmt}
use Rattle.form_tree.specs.Temps.{temps_of, stmt_temps}

-- the greatest need of the operands of these links
abbrev pub list_temps : List Link → ℕ
list_temps [] = 0
list_temps (l ∷ links) = max (1 + temps_of l.operand) (list_temps links)

-- the greatest need of these statements
abbrev pub stmt_list_temps : List Stmt → ℕ
stmt_list_temps [] = 0
stmt_list_temps (s ∷ rest) = max (stmt_temps s) (stmt_list_temps rest)
