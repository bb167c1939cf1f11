-- What is read of each construct that counts as nesting.
use Rattle.c_parts.specs.Reading.{Reader, change}
use Rattle.std.specs.Prelude.{[], ◌∷◌}
use Rattle.c_parts.specs.declared.terminal.Terminal.TheVariants as t
use Rattle.c_parts.specs.Kinds.{Kinds}
use Rattle.c_syntax.specs.Grammar.{Inner, paren, prefixes, expression_starts}
use Rattle.c_expr_parser.specs.declared.opened.What.{What}
use Rattle.c_expr_parser.specs.declared.opened.What.TheVariants as w
use Rattle.c_expr_parser.specs.declared.opened.Opened.{Opened}
use Rattle.c_expr_parser.specs.declared.opened.Opened.TheVariants as o

abbrev pub opened_read : What → Inner → Reader Opened
opened_read w.Parens i = change o.Expr i.parens.read
opened_read w.TypeParens i = change o.TypeName i.type_parens.read
opened_read w.AtomicParens i = change o.TypeName i.atomic_parens.read
opened_read w.Index i = change o.Expr i.index.read
opened_read w.Call i = change o.Exprs i.call.read
opened_read w.Prefixed i = change o.Kind i.prefixed.read
opened_read w.Converted i = change o.Expr i.converted.read
opened_read w.Right i = change o.Expr i.right.read
opened_read w.Choice i = change (λ x. o.Choice x.0 x.1) i.choice.read
opened_read w.Members i = change o.Members i.members.read
opened_read w.Constants i = change o.Constants i.constants.read
opened_read w.Declarator i = change o.Declarator i.declarator.read
opened_read w.Abstract i = change o.Declarator i.abstract.read
opened_read w.Parameter i = change o.Declarator i.parameter.read
opened_read w.Array i = change o.Size i.array.read
opened_read w.Function i = change (λ x. o.Parameters x.0 x.1) i.function.read
opened_read w.Asserted i = change (λ x. o.Asserted x.0 x.1) i.asserted.read

-- what a construct begins with
abbrev pub starts_of : What → Kinds
starts_of w.Parens = paren
starts_of w.TypeParens = paren
starts_of w.AtomicParens = t.AtomicParen ∷ []
starts_of w.Index = t.LeftBracket ∷ []
starts_of w.Call = paren
starts_of w.Prefixed = prefixes
starts_of w.Converted = expression_starts
starts_of w.Right = expression_starts
starts_of w.Choice = t.Question ∷ []
starts_of w.Members = t.LeftBrace ∷ []
starts_of w.Constants = t.LeftBrace ∷ []
starts_of w.Declarator = paren
starts_of w.Abstract = paren
starts_of w.Parameter = paren
starts_of w.Array = t.LeftBracket ∷ []
starts_of w.Function = paren
starts_of w.Asserted = paren
