-- What is read of each construct of statements and initialisers that counts as nesting, and the statements that are a
-- scope of their own.
use Rattle.std.specs.Prelude.{List, [], Option}
use Rattle.c_parts.specs.declared.terminal.Terminal.TheVariants as t
use Rattle.c_parts.specs.Kinds.{Kinds}
use Rattle.c_parts.specs.Reading.{Reader, change}
use Rattle.c_parts.specs.Production.{Production, sign, ◌&◌, ◌or◌, made, spanned, many, optional, opened}
use Rattle.c_parts.specs.Following.{◌>&◌}
use Rattle.c_syntax.specs.declared.file.Statement.{Statement}
use Rattle.c_syntax.specs.declared.file.StatementKind.{StatementKind}
use Rattle.c_syntax.specs.declared.file.StatementKind.TheVariants as s
use Rattle.c_syntax.specs.declared.file.BlockItem.{BlockItem}
use Rattle.c_syntax.specs.declared.file.SwitchItem.{SwitchItem}
use Rattle.c_syntax.specs.Values.{after, middle}
use Rattle.c_syntax.specs.Grammar.{Inner, paren, expression, conditional}
use Rattle.c_syntax.specs.Files.{Bodies, Header, brace, statement_starts, condition, under, if_of, while_of, do_of, for_of, switch_of, return_of, optional_expression, block_item, switch_item, case_of, default_of, first_of, for_start}
use Rattle.c_file_parser.specs.declared.constructs.Construct.{Construct}
use Rattle.c_file_parser.specs.declared.constructs.Construct.TheVariants as c
use Rattle.c_file_parser.specs.declared.constructs.Opened.{Opened}
use Rattle.c_file_parser.specs.declared.constructs.Opened.TheVariants as o
use Rattle.c_file_parser.specs.declared.constructs.Compound.{Compound}
use Rattle.c_file_parser.specs.declared.constructs.Compound.TheVariants as w

abbrev pub construct_read : Construct → Bodies → Reader Opened
construct_read c.Initialisers b = change o.Initialisers b.initialisers.read
construct_read c.Block b = change o.BlockItems (b.body []).read
construct_read c.SwitchBody b = change o.SwitchItems b.switch_body.read
construct_read c.Header b = change (λ x. o.Header x.0 x.1.0 x.1.1) b.header.read
construct_read c.Under b = change o.Statement b.under.read

-- what a construct begins with
abbrev pub starts_of : Construct → Kinds
starts_of c.Initialisers = brace
starts_of c.Block = brace
starts_of c.SwitchBody = brace
starts_of c.Header = paren
starts_of c.Under = statement_starts

-- [ "else" statement ]
abbrev pub optional_else : Bodies → Production (Option Statement)
optional_else b = optional (made after (sign t.Else & under b))

-- the statements that are a scope, but for their scope
abbrev pub if_part : Inner → Bodies → Production StatementKind
if_part i b = made if_of (sign t.If & (condition i & (under b >& optional_else b)))

abbrev pub while_part : Inner → Bodies → Production StatementKind
while_part i b = made while_of (sign t.While & (condition i & under b))

abbrev pub do_part : Inner → Bodies → Production StatementKind
do_part i b = made do_of (sign t.Do & (under b & (sign t.While & (condition i & sign t.Semicolon))))

abbrev pub for_part : Bodies → Production StatementKind
for_part b = made for_of (sign t.For & (opened paren [] b.header & under b))

abbrev pub switch_part : Inner → Bodies → Production StatementKind
switch_part i b = made switch_of (sign t.Switch & (condition i & opened brace [] b.switch_body))

abbrev pub compound : Compound → Inner → Bodies → Production StatementKind
compound w.If i b = if_part i b
compound w.While i b = while_part i b
compound w.Do i b = do_part i b
compound w.For i b = for_part b
compound w.Switch i b = switch_part i b

-- "break" ";" | "continue" ";" | "return" [ expression ] ";" | expression ";"
abbrev pub simple : Inner → Production StatementKind
simple i =
    made (λ x. s.Break) (sign t.Break & sign t.Semicolon)
    or made (λ x. s.Continue) (sign t.Continue & sign t.Semicolon)
    or made return_of (sign t.Return & (optional_expression i & sign t.Semicolon))
    or made (λ x. s.Expression x.0) (expression i & sign t.Semicolon)

-- "{" { declaration | assertion | statement } "}", but for its scope
abbrev pub block_braces : Inner → Bodies → Production (List BlockItem)
block_braces i b = made middle (sign t.LeftBrace & (many (block_item i b) & sign t.RightBrace))

abbrev pub switch_braces : Inner → Bodies → Production (List SwitchItem)
switch_braces i b = made middle (sign t.LeftBrace & (many (switch_item i b) & sign t.RightBrace))

-- "case" conditional ":" and "default" ":"
abbrev pub case_label : Inner → Production SwitchItem
case_label i = made case_of (spanned (sign t.Case & (conditional i & sign t.Colon)))

abbrev pub default_label : Production SwitchItem
default_label = made default_of (spanned (sign t.Default & sign t.Colon))

-- what stands in the parentheses of a "for"
abbrev pub for_parts : Inner → Bodies → Production Header
for_parts i b = for_start i b & (made first_of (optional_expression i & sign t.Semicolon) & optional_expression i)
