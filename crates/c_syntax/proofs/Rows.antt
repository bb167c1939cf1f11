-- Lists whose trees were worked out by hand, which the checker computes. Each token stands on line 1, and names are letters.
use Rattle.std.proofs.Common.{◌≡◌, ℕ, zero, suc, Bool, true, false, List, [], ◌∷◌, ◌++◌, refl}
use Rattle.std.specs.Prelude.{None}
use Rattle.filc_num.specs.declared.integer.BinOp.TheVariants as b
use Rattle.c_parts.specs.declared.terminal.Terminal.{Terminal}
use Rattle.c_parts.specs.declared.terminal.Terminal.TheVariants as t
use Rattle.c_parts.specs.declared.lexeme.Lexeme.{Lexeme}
use Rattle.c_parts.specs.declared.span.Span.{Span}
use Rattle.c_parts.specs.Scopes.{State, Scope}
use Rattle.c_parts.specs.Kinds.{kind}
use Rattle.c_parts.specs.Reading.{Why, Answer, Took, Refused, Syntax, Deep}
use Rattle.c_syntax.specs.declared.words.Operator.{Operator}
use Rattle.c_syntax.specs.declared.words.Operator.TheVariants as o
use Rattle.c_syntax.specs.declared.words.Prefix.TheVariants as p
use Rattle.c_syntax.specs.declared.expr.Expr.{Expr}
use Rattle.c_syntax.specs.declared.expr.ExprKind.TheVariants as e
use Rattle.c_syntax.specs.declared.expr.Link.{Link}
use Rattle.c_syntax.specs.declared.words.BasicType.TheVariants as y
use Rattle.c_syntax.specs.declared.expr.PostfixKind.TheVariants as postfix
use Rattle.c_syntax.specs.declared.expr.SpecifierKind.{SpecifierKind}
use Rattle.c_syntax.specs.declared.expr.SpecifierKind.TheVariants as k
use Rattle.c_syntax.specs.declared.expr.TypeName.{TypeName}
use Rattle.c_syntax.specs.declared.expr.Core.TheVariants as core
use Rattle.c_syntax.specs.Values.{expr_of, link_of, postfix_operator_of, type_name_of, specifiers_of, specifier_of, declarator_of}
use Rattle.c_syntax.specs.Grammar.{inner}
use Rattle.c_syntax.specs.Spelling.{whole_expressions, most_nesting}

-- a token
abbrev pub sign : Terminal → Lexeme
sign terminal = record { terminal = terminal; name = 0; line = 1 }

abbrev pub word : ℕ → Lexeme
word x = record { terminal = t.Name; name = x; line = 1 }

-- before the list, with these typedefs in scope
abbrev pub start : Scope → State
start scope = record { scopes = scope ∷ []; typed = false; typedef = false; behind = t.End; place = 0; lines = 1 ∷ 1 ∷ 1 ∷ 1 ∷ 1 ∷ 1 ∷ 1 ∷ 1 ∷ 1 ∷ 1 ∷ 1 ∷ 1 ∷ [] }

abbrev answer : Scope → List Lexeme → Answer Expr
answer scope tokens = (whole_expressions 4).read (start scope) (tokens ++ sign t.End ∷ [])

-- the tree of an answer, and what is refused where: so many tokens are left, without the End
data Seen : Type 0 where
  Tree : Expr → Seen
  Stops : Why → ℕ → Seen

abbrev pub left : List Lexeme → ℕ
left [] = 0
left (x ∷ []) = 0
left (x ∷ y ∷ rest) = suc (left (y ∷ rest))

abbrev seen_of : Answer Expr → Seen
seen_of (Took x rest m) = Tree x
seen_of (Refused why rest) = Stops why (left rest)

abbrev seen : Scope → List Lexeme → Seen
seen scope tokens = seen_of (answer scope tokens)

abbrev pub from_to : ℕ → ℕ → Span
from_to first last = record { line = 1; first = first; last = last }

abbrev pub name : ℕ → ℕ → Expr
name at x = expr_of (from_to at at, e.Name x)

abbrev chain : ℕ → ℕ → Expr → List Link → Expr
chain first last x links = expr_of (from_to first last, e.Chain x links)

abbrev link : ℕ → ℕ → Operator → Expr → Link
link first last op x = link_of (from_to first last, (op, x))

abbrev minus : Operator
minus = o.Binary b.Sub

-- ---- precedence: of two operators side by side, the tighter one binds its operands, wherever it stands

record Tighter (loose : Terminal) (looser : Operator) (tight : Terminal) (tighter : Operator) : Type 0 where
  behind : seen [] (word 1 ∷ sign loose ∷ word 2 ∷ sign tight ∷ word 3 ∷ []) ≡ Tree (chain 0 4 (name 0 1) (link 1 4 looser (chain 2 4 (name 2 2) (link 3 4 tighter (name 4 3) ∷ [])) ∷ []))
  before : seen [] (word 1 ∷ sign tight ∷ word 2 ∷ sign loose ∷ word 3 ∷ []) ≡ Tree (chain 0 4 (chain 0 2 (name 0 1) (link 1 2 tighter (name 2 2) ∷ [])) (link 3 4 looser (name 4 3) ∷ []))

or_and : Tighter t.BarBar o.LogicalOr t.AndAnd o.LogicalAnd
unfolding inner kind
or_and = record { behind = refl; before = refl }

and_bits : Tighter t.AndAnd o.LogicalAnd t.Bar (o.Binary b.Or)
unfolding inner kind
and_bits = record { behind = refl; before = refl }

bits_xor : Tighter t.Bar (o.Binary b.Or) t.Caret (o.Binary b.Xor)
unfolding inner kind
bits_xor = record { behind = refl; before = refl }

xor_and_bits : Tighter t.Caret (o.Binary b.Xor) t.Ampersand (o.Binary b.And)
unfolding inner kind
xor_and_bits = record { behind = refl; before = refl }

and_bits_equal : Tighter t.Ampersand (o.Binary b.And) t.EqualEqual (o.Binary b.Eq)
unfolding inner kind
and_bits_equal = record { behind = refl; before = refl }

equal_less : Tighter t.EqualEqual (o.Binary b.Eq) t.Less (o.Binary b.Lt)
unfolding inner kind
equal_less = record { behind = refl; before = refl }

less_shift : Tighter t.Less (o.Binary b.Lt) t.ShiftLeft (o.Binary b.Shl)
unfolding inner kind
less_shift = record { behind = refl; before = refl }

shift_sum : Tighter t.ShiftLeft (o.Binary b.Shl) t.Plus (o.Binary b.Add)
unfolding inner kind
shift_sum = record { behind = refl; before = refl }

sum_product : Tighter t.Plus (o.Binary b.Add) t.Star (o.Binary b.Mul)
unfolding inner kind
sum_product = record { behind = refl; before = refl }

-- ---- grouping

-- a - b - c, to the left
differences : seen [] (word 1 ∷ sign t.Minus ∷ word 2 ∷ sign t.Minus ∷ word 3 ∷ []) ≡ Tree (chain 0 4 (name 0 1) (link 1 2 minus (name 2 2) ∷ link 3 4 minus (name 4 3) ∷ []))
unfolding inner kind
differences = refl

abbrev choice : ℕ → ℕ → Expr → Expr → Expr → Expr
choice first last x y z = expr_of (from_to first last, e.Conditional x y z)

-- a ? b : c ? d : e, to the right
choices : seen [] (word 1 ∷ sign t.Question ∷ word 2 ∷ sign t.Colon ∷ word 3 ∷ sign t.Question ∷ word 4 ∷ sign t.Colon ∷ word 5 ∷ [])
    ≡ Tree (choice 0 8 (name 0 1) (name 2 2) (choice 4 8 (name 4 3) (name 6 4) (name 8 5)))
unfolding inner kind
choices = refl

abbrev assign : ℕ → ℕ → Expr → Expr → Expr
assign first last x y = expr_of (from_to first last, e.Assign None x y)

-- x = y = z, to the right
assignments : seen [] (word 1 ∷ sign t.Equal ∷ word 2 ∷ sign t.Equal ∷ word 3 ∷ []) ≡ Tree (assign 0 4 (name 0 1) (assign 2 4 (name 2 2) (name 4 3)))
unfolding inner kind
assignments = refl

-- a + b = c, refused at =
sum_assigned : seen [] (word 1 ∷ sign t.Plus ∷ word 2 ∷ sign t.Equal ∷ word 3 ∷ []) ≡ Stops Syntax 2
unfolding inner kind
sum_assigned = refl

-- x, y, z
commas : seen [] (word 1 ∷ sign t.Comma ∷ word 2 ∷ sign t.Comma ∷ word 3 ∷ []) ≡ Tree (expr_of (from_to 0 4, e.Comma (name 0 1) (name 2 2 ∷ name 4 3 ∷ [])))
unfolding inner kind
commas = refl

-- - p ++: what is behind binds tighter
negated_step : seen [] (sign t.Minus ∷ word 1 ∷ sign t.Increment ∷ [])
    ≡ Tree (expr_of (from_to 0 2, e.Prefix p.Minus (expr_of (from_to 1 2, e.Postfix (name 1 1) (postfix_operator_of (from_to 2 2, postfix.Increment) ∷ [])))))
unfolding inner kind
negated_step = refl

-- "a" "b", one text
texts_side_by_side : seen [] (sign t.Text ∷ sign t.Text ∷ []) ≡ Tree (expr_of (from_to 0 1, e.Text))
unfolding inner kind
texts_side_by_side = refl

-- ---- a parenthesis before a type, and before an expression

abbrev parens : ℕ → ℕ → Expr → Expr
parens first last x = expr_of (from_to first last, e.Parens x)

-- a type name of one specifier, with nothing behind it
abbrev type_name : ℕ → SpecifierKind → TypeName
type_name at specifier = type_name_of (
  from_to at at,
  (
    specifiers_of (from_to at at, (specifier_of (from_to at at, specifier), [])),
    declarator_of (record { line = 1; first = suc at; last = at }, ([], (core.Nothing, []))),
  ),
)

abbrev a_typedef : Scope
a_typedef = record { name = 9; is_typedef = true } ∷ []

-- ( T ) ( x ), with T a typedef: a cast
cast_of_parens : seen a_typedef (sign t.LeftParen ∷ word 9 ∷ sign t.RightParen ∷ sign t.LeftParen ∷ word 1 ∷ sign t.RightParen ∷ [])
    ≡ Tree (expr_of (from_to 0 5, e.Cast (type_name 1 (k.TypedefName 9)) (parens 3 5 (name 4 1))))
unfolding inner kind
cast_of_parens = refl

-- and without: a call
call_of_parens : seen [] (sign t.LeftParen ∷ word 9 ∷ sign t.RightParen ∷ sign t.LeftParen ∷ word 1 ∷ sign t.RightParen ∷ [])
    ≡ Tree (expr_of (from_to 0 5, e.Postfix (parens 0 2 (name 1 9)) (postfix_operator_of (from_to 3 5, postfix.Call (name 4 1 ∷ [])) ∷ [])))
unfolding inner kind
call_of_parens = refl

-- ( T ) alone is refused at the End where T is a typedef, and is T in parentheses where it isn't
cast_of_nothing : seen a_typedef (sign t.LeftParen ∷ word 9 ∷ sign t.RightParen ∷ []) ≡ Stops Syntax 0
unfolding inner kind
cast_of_nothing = refl

name_in_parens : seen [] (sign t.LeftParen ∷ word 9 ∷ sign t.RightParen ∷ []) ≡ Tree (parens 0 2 (name 1 9))
unfolding inner kind
name_in_parens = refl

-- sizeof ( int ) * p, a product
size_of_type : seen [] (sign t.Sizeof ∷ sign t.LeftParen ∷ sign t.Int ∷ sign t.RightParen ∷ sign t.Star ∷ word 1 ∷ [])
    ≡ Tree (chain 0 5 (expr_of (from_to 0 3, e.SizeofType (type_name 2 (k.Basic y.Int)))) (link 4 5 (o.Binary b.Mul) (name 5 1) ∷ []))
unfolding inner kind
size_of_type = refl

-- ( int ) x = 3, refused at =
cast_assigned : seen [] (sign t.LeftParen ∷ sign t.Int ∷ sign t.RightParen ∷ word 1 ∷ sign t.Equal ∷ sign t.Number ∷ []) ≡ Stops Syntax 2
unfolding inner kind
cast_assigned = refl

-- ---- nesting

-- parentheses round an expression
abbrev round : ℕ → List Lexeme → List Lexeme
round zero tokens = tokens
round (suc d) tokens = sign t.LeftParen ∷ (round d tokens ++ sign t.RightParen ∷ [])

abbrev is_tree : Seen → Bool
is_tree (Tree x) = true
is_tree (Stops why n) = false

-- four where four may be open, and five, refused at the fifth
four_open : is_tree (seen [] (round 4 (word 1 ∷ []))) ≡ true
unfolding inner kind
four_open = refl

five_open : seen [] (round 5 (word 1 ∷ [])) ≡ Stops Deep 7
unfolding inner kind
five_open = refl

-- sizeof ( counts two: with three more it is too deep at the last
size_counts_two : seen [] (round 3 (sign t.Sizeof ∷ sign t.LeftParen ∷ sign t.Int ∷ sign t.RightParen ∷ [])) ≡ Stops Deep 6
unfolding inner kind
size_counts_two = refl

-- two hundred where two hundred may be open, and one more
abbrev seen_whole : List Lexeme → Seen
seen_whole tokens = seen_of ((whole_expressions most_nesting).read (start []) (tokens ++ sign t.End ∷ []))

two_hundred_open : is_tree (seen_whole (round 200 (word 1 ∷ []))) ≡ true
unfolding inner kind
two_hundred_open = refl

one_more_open : seen_whole (round 201 (word 1 ∷ [])) ≡ Stops Deep 203
unfolding inner kind
one_more_open = refl
