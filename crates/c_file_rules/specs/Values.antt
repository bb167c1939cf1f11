-- How many temporaries a function's expressions need, by its text: the greatest need of all expressions in its
-- specifiers, its declarator and its body, those in initialisers, array sizes and constants too (rule 36).
use Rattle.std.specs.Prelude.{ℕ, max, List, [], ◌∷◌, Option, Some, None}
use Rattle.c_syntax.specs.declared.expr.Expr.{Expr}
use Rattle.c_syntax.specs.declared.file.Initialiser.{Initialiser, Expression as Value, List', Row_of-Initialiser, end_of-Initialiser, more_of-Initialiser}
use Rattle.c_syntax.specs.declared.file.InitDeclarator.{InitDeclarator}
use Rattle.c_syntax.specs.declared.file.Declaration.{Declaration}
use Rattle.c_syntax.specs.declared.file.Block.{Row_of-BlockItem, end_of-BlockItem, more_of-BlockItem}
use Rattle.c_syntax.specs.declared.file.BlockItem.{BlockItem, Declaration as ItemDeclaration, Assertion as ItemAssertion, Statement' as ItemStatement'}
use Rattle.c_syntax.specs.declared.file.StatementKind.{StatementKind, Block' as InBlock', Empty, Expression, If', While', Do', For', Switch', Break, Continue, Return, None' as NoElse, Some' as Else', end_of-Statement, more_of-Statement, Row_of-SwitchItem, end_of-SwitchItem, more_of-SwitchItem}
use Rattle.c_syntax.specs.declared.file.SwitchItem.{SwitchItem, Case, Default, Declaration as SwitchDeclaration, Assertion as SwitchAssertion, Statement' as SwitchStatement'}
use Rattle.c_syntax.specs.declared.file.ForStart.{ForStart}
use Rattle.c_syntax.specs.declared.file.Function.{Function}
use Rattle.c_syntax.specs.declared.file.ForStart.TheVariants.{Declaration as StartDeclaration, Expression as StartExpression}
use Rattle.c_expr_rules.specs.Temporaries.{temporaries_of, specifiers_temporaries, declarator_temporaries}

abbrev pub optional_temporaries : Option Expr → ℕ
optional_temporaries None = 0
optional_temporaries (Some e) = temporaries_of e

abbrev mutual
  pub initialiser_temporaries : Initialiser → ℕ
  initialiser_temporaries (Value e) = temporaries_of e
  initialiser_temporaries (List' span z items) = initialisers_temporaries items

  pub initialisers_temporaries : {m : _} → Row_of-Initialiser m → ℕ
  initialisers_temporaries end_of-Initialiser = 0
  initialisers_temporaries (more_of-Initialiser item rest) =
      max (initialiser_temporaries item) (initialisers_temporaries rest)

abbrev pub optional_initialiser : Option Initialiser → ℕ
optional_initialiser None = 0
optional_initialiser (Some i) = initialiser_temporaries i

-- the greatest of what each gives
abbrev pub greatest : {A : Type 0} → (A → ℕ) → List A → ℕ
greatest f [] = 0
greatest f (x ∷ xs) = max (f x) (greatest f xs)

abbrev pub init_temporaries : InitDeclarator → ℕ
init_temporaries d = max (declarator_temporaries d.declarator) (optional_initialiser d.initialiser)

abbrev pub declaration_temporaries : Declaration → ℕ
declaration_temporaries d = max (specifiers_temporaries d.specifiers) (greatest init_temporaries d.declarators)

abbrev pub start_temporaries : ForStart → ℕ
start_temporaries (StartDeclaration d) = declaration_temporaries d
start_temporaries (StartExpression e) = optional_temporaries e

abbrev mutual
  pub kind_temporaries : StatementKind → ℕ
  kind_temporaries (InBlock' s1 z items) = items_temporaries items
  kind_temporaries Empty = 0
  kind_temporaries (Expression e) = temporaries_of e
  kind_temporaries (If' e p (more_of-Statement s1 k1 end_of-Statement) NoElse) =
      max (temporaries_of e) (kind_temporaries k1)
  kind_temporaries (If' e p (more_of-Statement s1 k1 end_of-Statement) (Else' q
      (more_of-Statement s2 k2 end_of-Statement))) =
      max (temporaries_of e) (max (kind_temporaries k1) (kind_temporaries k2))
  kind_temporaries (While' e p (more_of-Statement s1 k1 end_of-Statement)) =
      max (temporaries_of e) (kind_temporaries k1)
  kind_temporaries (Do' p (more_of-Statement s1 k1 end_of-Statement) e) = max (temporaries_of e) (kind_temporaries k1)
  kind_temporaries (For' start test step p (more_of-Statement s1 k1 end_of-Statement)) =
      max (start_temporaries start) (max (optional_temporaries test) (max (optional_temporaries step)
      (kind_temporaries k1)))
  kind_temporaries (Switch' e z items) = max (temporaries_of e) (switch_temporaries items)
  kind_temporaries Break = 0
  kind_temporaries Continue = 0
  kind_temporaries (Return e) = optional_temporaries e

  pub items_temporaries : {m : _} → Row_of-BlockItem m → ℕ
  items_temporaries end_of-BlockItem = 0
  items_temporaries (more_of-BlockItem item rest) = max (item_temporaries item) (items_temporaries rest)

  pub item_temporaries : BlockItem → ℕ
  item_temporaries (ItemDeclaration d) = declaration_temporaries d
  item_temporaries (ItemAssertion a) = temporaries_of a.condition
  item_temporaries (ItemStatement' span k) = kind_temporaries k

  pub switch_temporaries : {m : _} → Row_of-SwitchItem m → ℕ
  switch_temporaries end_of-SwitchItem = 0
  switch_temporaries (more_of-SwitchItem item rest) = max (switch_item_temporaries item) (switch_temporaries rest)

  pub switch_item_temporaries : SwitchItem → ℕ
  switch_item_temporaries (Case span e) = temporaries_of e
  switch_item_temporaries (Default span) = 0
  switch_item_temporaries (SwitchDeclaration d) = declaration_temporaries d
  switch_item_temporaries (SwitchAssertion a) = temporaries_of a.condition
  switch_item_temporaries (SwitchStatement' span k) = kind_temporaries k

abbrev pub function_temporaries : Function → ℕ
function_temporaries f =
    max (specifiers_temporaries f.specifiers) (max (declarator_temporaries f.declarator)
    (greatest item_temporaries f.body.items))
