-- Statements over the lists that the code sees of a tree, and kinds of statements that functions of their own check.
use Rattle.std.specs.Prelude.{List, [], ◌∷◌}
use Rattle.filc_num.specs.declared.c_int_type.CIntType.{CIntType}
use Rattle.c_syntax.specs.declared.file.BlockItem.{BlockItem}
use Rattle.c_syntax.specs.declared.file.Statement.{Statement, out-Statement}
use Rattle.c_syntax.specs.declared.file.StatementKind.{StatementKind, items-the_row-SwitchItem, If', While', Do', For', Switch'}
use Rattle.c_syntax.specs.declared.file.SwitchItem.{SwitchItem}
use Rattle.c_tree.specs.declared.stmt.Stmt.{Stmt}
use Rattle.c_expr_rules.specs.Outcomes.{State, Checked, Fine, next}
use Rattle.c_file_rules.specs.Statements.{statement_checked, item_checked, switched}
use Rattle.c_file_rules.specs.declared.jumps.Inside.{Inside}
use Rattle.c_file_rules.specs.declared.switches.Switched.{Switched}
use Rattle.c_file_rules.specs.Naming.{scoped}
use Rattle.c_file_rules.specs.Constructs.{Here, in_order}

abbrev pub item_list : Here → Inside → State → List BlockItem → Checked (List Stmt)
item_list here i s items = in_order (item_checked here i) s items

abbrev pub switch_list : Here → Inside → CIntType → State → Switched → List SwitchItem → Checked Switched
switch_list here i k s w [] = Fine s w
switch_list here i k s w (x ∷ rest) = next (switched here i k s w x) (λ s w. switch_list here i k s w rest)

abbrev pub one_statement : Here → Inside → State → Statement → Checked Stmt
one_statement here i s x = let y = out-Statement x in statement_checked here i s y.span y.kind

-- a statement under another, which is a scope
abbrev pub statement_under : Here → Inside → State → Statement → Checked Stmt
statement_under here i s x = scoped s (λ s. one_statement here i s x)

-- ---- kinds of statements that functions of their own check

abbrev pub kind_of : Statement → StatementKind
kind_of x = (out-Statement x).kind

abbrev pub IsChoice : StatementKind → Type 0
IsChoice (If' e p one other) = Unit {0}
IsChoice k = ⊥

abbrev pub IsWhile : StatementKind → Type 0
IsWhile (While' e p body) = Unit {0}
IsWhile k = ⊥

abbrev pub IsDo : StatementKind → Type 0
IsDo (Do' p body e) = Unit {0}
IsDo k = ⊥

abbrev pub IsFor : StatementKind → Type 0
IsFor (For' start test step p body) = Unit {0}
IsFor k = ⊥

abbrev pub IsSwitch : StatementKind → Type 0
IsSwitch (Switch' e z items) = Unit {0}
IsSwitch k = ⊥

-- what stands in a switch
abbrev pub items_in : StatementKind → List SwitchItem
items_in (Switch' e z items) = items-the_row-SwitchItem _ items
items_in k = []
