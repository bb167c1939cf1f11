-- The grammar of C from initialisers on: declarations, statements and files, in the order of C11's annex A.2.
use Rattle.std.specs.Prelude.{ℕ, zero, suc, true, List, [], ◌∷◌, Option, Some, None}
use Rattle.c_parts.specs.declared.terminal.Terminal.TheVariants as t
use Rattle.c_parts.specs.declared.span.Span.{Span}
use Rattle.c_parts.specs.Scopes.{Scope}
use Rattle.c_parts.specs.Kinds.{Kinds}
use Rattle.c_parts.specs.Production.{Shape, Production, sign, ◌&◌, ◌or◌, made, spanned, many, optional, declares, scoped, scoped_with, specified, Nested, nested, opened, outside}
use Rattle.c_parts.specs.Following.{followed, ◌>&◌}
use Rattle.c_syntax.specs.declared.expr.Expr.{Expr}
use Rattle.c_syntax.specs.declared.expr.Declarator.{Declarator, out-Declarator}
use Rattle.c_syntax.specs.declared.expr.Specifiers.{Specifiers}
use Rattle.c_syntax.specs.declared.file.Initialiser.{Initialiser, Expression, List'}
use Rattle.c_syntax.specs.declared.file.Initialiser.TheVariants as initialiser
use Rattle.c_syntax.specs.declared.file.InitDeclarator.{InitDeclarator}
use Rattle.c_syntax.specs.declared.file.Declaration.{Declaration}
use Rattle.c_syntax.specs.declared.file.Block.{Block, roll-Block}
use Rattle.c_syntax.specs.declared.file.BlockItem.{BlockItem}
use Rattle.c_syntax.specs.declared.file.BlockItem.TheVariants as item
use Rattle.c_syntax.specs.declared.file.Statement.{Statement, roll-Statement}
use Rattle.c_syntax.specs.declared.file.StatementKind.{StatementKind}
use Rattle.c_syntax.specs.declared.file.StatementKind.TheVariants as s
use Rattle.c_syntax.specs.declared.file.SwitchItem.{SwitchItem}
use Rattle.c_syntax.specs.declared.file.SwitchItem.TheVariants as switch
use Rattle.c_syntax.specs.declared.file.ForStart.{ForStart}
use Rattle.c_syntax.specs.declared.file.ForStart.TheVariants as for
use Rattle.c_syntax.specs.declared.file.Tail.{Tail}
use Rattle.c_syntax.specs.declared.file.Tail.TheVariants as tail
use Rattle.c_syntax.specs.declared.file.External.{External}
use Rattle.c_syntax.specs.declared.file.External.TheVariants as e
use Rattle.c_syntax.specs.declared.file.File.{File}
use Rattle.c_syntax.specs.Bodies.{body_scope}
use Rattle.c_syntax.specs.Values.{after, around, middle, listed, all_listed, present, declarator_scope}
use Rattle.c_syntax.specs.Grammar.{Inner, inner, expression_starts, paren, assignment, expression, conditional, commas, assertion, specifiers, declarator, in_parens, in_braces}

-- ---- what stands one deeper

abbrev pub brace : Kinds
brace = t.LeftBrace ∷ []

-- what a statement begins with
abbrev pub statement_starts : Kinds
statement_starts = t.LeftBrace ∷ t.Semicolon ∷ t.If ∷ t.While ∷ t.Do ∷ t.For ∷ t.Switch ∷ t.Break ∷ t.Continue ∷ t.Return ∷ expression_starts

-- how a "for" begins: a declaration or an expression, a condition and a step
abbrev pub Header : Type 0
Header = ForStart × (Option Expr × Option Expr)

pub record Bodies : Type 1 where
  pub initialisers : Nested (List Initialiser)  -- "{" initialiser { "," initialiser } [ "," ] "}"
  pub body : Scope → Nested (List BlockItem)  -- "{" { declaration | assertion | statement } "}", where so much is declared
  pub switch_body : Nested (List SwitchItem)  -- the same with labels
  pub header : Nested Header  -- "(" ( declaration | [ expression ] ";" ) [ expression ] ";" [ expression ] ")"
  pub under : Nested Statement  -- the statement under "if", "else", "while", "do" or "for"

-- ---- A.2.2 declarations

abbrev pub braced_of : Span × List Initialiser → Initialiser
braced_of x = initialiser.List x.0 x.1

-- initialiser = assignment | "{" initialiser { "," initialiser } [ "," ] "}"
abbrev pub initialiser_part : Inner → Bodies → Production Initialiser
initialiser_part i b = made initialiser.Expression (assignment i) or made braced_of (spanned (opened brace [] b.initialisers))

abbrev pub init_of : Span × (Declarator × Option Initialiser) → InitDeclarator
init_of x = record { span = x.0; declarator = x.1.0; initialiser = x.1.1 }

-- a declarator, whose name is in scope behind it
abbrev pub declared : Inner → Production Declarator
declared i = declares declarator_scope (declarator i)

-- [ "=" initialiser ]
abbrev pub optional_initialiser : Inner → Bodies → Production (Option Initialiser)
optional_initialiser i b = optional (made after (sign t.Equal & initialiser_part i b))

-- init = declarator [ "=" initialiser ]
abbrev pub init : Inner → Bodies → Production InitDeclarator
init i b = made init_of (spanned (declared i & optional_initialiser i b))

-- [ init { "," init } ]
abbrev pub optional_inits : Inner → Bodies → Production (List InitDeclarator)
optional_inits i b = made all_listed (optional (made listed (init i b & commas (init i b))))

abbrev pub declaration_of : Span × (Specifiers × (List InitDeclarator × Unit {0})) → Declaration
declaration_of x = record { span = x.0; specifiers = x.1.0; declarators = x.1.1.0 }

-- declaration = specifiers [ init { "," init } ] ";"
abbrev pub declaration : Inner → Bodies → Production Declaration
declaration i b = made declaration_of (spanned (specified (specifiers i & (optional_inits i b & sign t.Semicolon))))

-- ---- A.2.3 statements. Each "if", "while", "do", "for" and "switch" is a scope, and so is each statement under one.

abbrev pub statement_of : Span × StatementKind → Statement
statement_of x = roll-Statement (record { span = x.0; kind = x.1 })

abbrev pub block_of : Span × List BlockItem → Block
block_of x = roll-Block (record { span = x.0; items = x.1 })

-- block = "{" { declaration | assertion | statement } "}", where so much is declared
abbrev pub block_with : Bodies → Scope → Production Block
block_with b scope = made block_of (spanned (opened brace [] (b.body scope)))

abbrev pub block : Bodies → Production Block
block b = block_with b []

-- "(" expression ")"
abbrev pub condition : Inner → Production Expr
condition i = opened paren [] i.parens

abbrev pub under : Bodies → Production Statement
under b = opened statement_starts (t.Else ∷ []) b.under

abbrev pub if_of : Unit {0} × (Expr × (Statement × Option Statement)) → StatementKind
if_of x = s.If x.1.0 x.1.1.0 x.1.1.1

-- "if" "(" expression ")" statement [ "else" statement ]: the else belongs to the nearest "if"
abbrev pub if_statement : Inner → Bodies → Production StatementKind
if_statement i b = scoped (made if_of (sign t.If & (condition i & (under b >& optional (made after (sign t.Else & under b))))))

abbrev pub while_of : Unit {0} × (Expr × Statement) → StatementKind
while_of x = s.While x.1.0 x.1.1

-- "while" "(" expression ")" statement
abbrev pub while_statement : Inner → Bodies → Production StatementKind
while_statement i b = scoped (made while_of (sign t.While & (condition i & under b)))

abbrev pub do_of : Unit {0} × (Statement × (Unit {0} × (Expr × Unit {0}))) → StatementKind
do_of x = s.Do x.1.0 x.1.1.1.0

-- "do" statement "while" "(" expression ")" ";"
abbrev pub do_statement : Inner → Bodies → Production StatementKind
do_statement i b = scoped (made do_of (sign t.Do & (under b & (sign t.While & (condition i & sign t.Semicolon)))))

abbrev pub for_of : Unit {0} × (Header × Statement) → StatementKind
for_of x = s.For x.1.0.0 x.1.0.1.0 x.1.0.1.1 x.1.1

-- "for" "(" ( declaration | [ expression ] ";" ) [ expression ] ";" [ expression ] ")" statement
abbrev pub for_statement : Inner → Bodies → Production StatementKind
for_statement i b = scoped (made for_of (sign t.For & (opened paren [] b.header & under b)))

abbrev pub switch_of : Unit {0} × (Expr × List SwitchItem) → StatementKind
switch_of x = s.Switch x.1.0 x.1.1

-- "switch" "(" expression ")" "{" .. "}"
abbrev pub switch_statement : Inner → Bodies → Production StatementKind
switch_statement i b = scoped (made switch_of (sign t.Switch & (condition i & opened brace [] b.switch_body)))

abbrev pub return_of : Unit {0} × (Option Expr × Unit {0}) → StatementKind
return_of x = s.Return x.1.0

-- [ expression ]
abbrev pub optional_expression : Inner → Production (Option Expr)
optional_expression i = optional (expression i)

-- statement = block | [ expression ] ";" | "if" .. | "while" .. | "do" .. | "for" .. | "switch" .. | "break" ";" | "continue" ";"
-- | "return" [ expression ] ";"
abbrev pub statement_kind : Inner → Bodies → Production StatementKind
statement_kind i b =
    made s.Block (block b)
    or made (λ x. s.Empty) (sign t.Semicolon)
    or if_statement i b
    or while_statement i b
    or do_statement i b
    or for_statement i b
    or switch_statement i b
    or made (λ x. s.Break) (sign t.Break & sign t.Semicolon)
    or made (λ x. s.Continue) (sign t.Continue & sign t.Semicolon)
    or made return_of (sign t.Return & (optional_expression i & sign t.Semicolon))
    or made (λ x. s.Expression x.0) (expression i & sign t.Semicolon)

abbrev pub statement : Inner → Bodies → Production Statement
statement i b = made statement_of (spanned (statement_kind i b))

-- declaration | assertion | statement
abbrev pub block_item : Inner → Bodies → Production BlockItem
block_item i b = made item.Declaration (declaration i b) or made item.Assertion (assertion i) or made item.Statement (statement i b)

abbrev pub case_of : Span × (Unit {0} × (Expr × Unit {0})) → SwitchItem
case_of x = switch.Case x.0 x.1.1.0

abbrev pub default_of : Span × (Unit {0} × Unit {0}) → SwitchItem
default_of x = switch.Default x.0

-- "case" conditional ":" | "default" ":" | declaration | assertion | statement
abbrev pub switch_item : Inner → Bodies → Production SwitchItem
switch_item i b =
    made case_of (spanned (sign t.Case & (conditional i & sign t.Colon)))
    or made default_of (spanned (sign t.Default & sign t.Colon))
    or made switch.Declaration (declaration i b)
    or made switch.Assertion (assertion i)
    or made switch.Statement (statement i b)

abbrev pub first_of : {A : Type 0} → A × Unit {0} → A
first_of x = x.0

-- declaration | [ expression ] ";"
abbrev pub for_start : Inner → Bodies → Production ForStart
for_start i b = made for.Declaration (declaration i b) or made for.Expression (made first_of (optional_expression i & sign t.Semicolon))

-- ---- A.2.4 files

-- a function is a declarator with its body; in the body its parameters are in scope
abbrev pub function_tail : Bodies → Declarator → Production Tail
function_tail b d = made (tail.Function d) (block_with b (body_scope d))

-- an initialiser's span
abbrev pub initialiser_span : Initialiser → Span
initialiser_span (Expression x) = x.span
initialiser_span (List' span k list) = span

-- a declarator with the initialiser behind it, or none
abbrev pub init_with : Declarator → Option Initialiser → InitDeclarator
init_with d None = record { span = (out-Declarator d).span; declarator = d; initialiser = None }
init_with d (Some x) = record { span = around (out-Declarator d).span (initialiser_span x); declarator = d; initialiser = Some x }

abbrev pub inits_of : Declarator → Option Initialiser × (List InitDeclarator × Unit {0}) → Tail
inits_of d x = tail.Declaration (init_with d x.0 ∷ x.1.0)

-- behind a declarator: [ "=" initialiser ] { "," init } ";"
abbrev pub declaration_tail : Inner → Bodies → Declarator → Production Tail
declaration_tail i b d = made (inits_of d) (optional_initialiser i b & (commas (init i b) & sign t.Semicolon))

-- behind the first declarator: a body, or the rest of a declaration
abbrev pub behind_declarator : Inner → Bodies → Declarator → Production Tail
behind_declarator i b d = function_tail b d or declaration_tail i b d

-- its shape, whatever the declarator is
abbrev pub behind_shape : Shape
behind_shape = record { starts = t.LeftBrace ∷ t.Equal ∷ t.Comma ∷ t.Semicolon ∷ []; goes_on = []; solid = true }

abbrev pub second_of : {A B : Type 0} → A × B → B
second_of x = x.1

-- ";" | declarator ( block | [ "=" initialiser ] { "," init } ";" )
abbrev pub tail_part : Inner → Bodies → Production Tail
tail_part i b = made (λ x. tail.Declaration []) (sign t.Semicolon) or made second_of (followed (declared i) behind_shape (behind_declarator i b))

abbrev pub external_of : Span × (Specifiers × Tail) → External
external_of (span, (specifiers, tail.Function declarator body)) = e.Function (record { span = span; specifiers = specifiers; declarator = declarator; body = body })
external_of (span, (specifiers, tail.Declaration declarators)) = e.Declaration (record { span = span; specifiers = specifiers; declarators = declarators })

-- function = specifiers declarator block
-- declaration = specifiers [ init { "," init } ] ";"
-- Both begin alike, and part behind the first declarator.
abbrev pub external : Inner → Bodies → Production External
external i b = made external_of (spanned (specified (specifiers i & tail_part i b))) or made e.Assertion (assertion i)

abbrev pub file_of : List External × Unit {0} → File
file_of x = record { items = x.0 }

-- file = { function | declaration | assertion } End
abbrev pub file : Inner → Bodies → Production File
file i b = made file_of (many (external i b) & sign t.End)

-- ---- nesting

-- what stands inside where one more is open
abbrev pub deeper_bodies : Inner → Bodies → Bodies
deeper_bodies i b = record {
  initialisers = in_braces (made listed (initialiser_part i b & made present (commas (optional (initialiser_part i b)))));
  body = λ scope. nested (scoped_with scope (made middle (sign t.LeftBrace & (many (block_item i b) & sign t.RightBrace))));
  switch_body = nested (scoped (made middle (sign t.LeftBrace & (many (switch_item i b) & sign t.RightBrace))));
  header = in_parens (for_start i b & (made first_of (optional_expression i & sign t.Semicolon) & optional_expression i));
  under = nested (scoped (statement i b));
}

-- where nothing may be open
abbrev pub no_bodies : Bodies
no_bodies = record {
  initialisers = outside brace;
  body = λ scope. outside brace;
  switch_body = outside brace;
  header = outside paren;
  under = outside statement_starts;
}

-- what stands inside where so many more may be open
unfoldable pub bodies : ℕ → Bodies
bodies zero = no_bodies
bodies (suc d) = deeper_bodies (inner d) (bodies d)
