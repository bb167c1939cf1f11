-- Files whose trees or refusals were worked out by hand, which the checker computes.
use Rattle.std.proofs.Common.{◌≡◌, ℕ, Bool, true, false, List, [], ◌∷◌, ◌++◌, length, refl}
use Rattle.std.specs.Prelude.{Option, Some, None}
use Rattle.c_parts.specs.declared.terminal.Terminal.TheVariants as t
use Rattle.c_parts.specs.declared.lexeme.Lexeme.{Lexeme}
use Rattle.c_parts.specs.Kinds.{kind}
use Rattle.c_parts.specs.Reading.{Why, Answer, Took, Refused, Syntax, Deep}
use Rattle.c_syntax.specs.declared.file.File.{File}
use Rattle.c_syntax.specs.declared.file.Statement.{Statement}
use Rattle.c_syntax.specs.declared.file.StatementKind.TheVariants as s
use Rattle.c_syntax.specs.declared.expr.Core.TheViews.{out-Declarator, roll-Declarator}
use Rattle.c_syntax.specs.declared.expr.Core.TheBlock.{hidden-the_row-Declarator-0, hidden-the_row-Suffix-10}
use denote.Hole.Carrier.{out, roll, hidden}
use Rattle.c_syntax.specs.Grammar.{inner}
use Rattle.c_syntax.specs.Files.{bodies, statement, statement_of}
use Rattle.c_syntax.specs.Spelling.{files}
use Rattle.c_syntax.proofs.Rows.{sign, word, start, left, from_to, name}

-- a file of so many declarations and functions, or what is refused where: so many tokens are left, without the End
data Seen : Type 0 where
  Holds : ℕ → Seen
  Stops : Why → ℕ → Seen

abbrev seen_of : Answer File → Seen
seen_of (Took x rest m) = Holds (length x.items)
seen_of (Refused why rest) = Stops why (left rest)

abbrev seen : List Lexeme → Seen
seen tokens = seen_of ((files 6).read (start []) (tokens ++ sign t.End ∷ []))

-- the words of the rows: T is 1, the others are names
abbrev typedef_t : List Lexeme
typedef_t = sign t.Typedef ∷ sign t.Int ∷ word 1 ∷ sign t.Semicolon ∷ []

empty : seen [] ≡ Holds 0
unfolding inner bodies kind
empty = refl

-- typedef int T; T x;
typedef_in_scope : seen (typedef_t ++ word 1 ∷ word 2 ∷ sign t.Semicolon ∷ []) ≡ Holds 2
unfolding inner bodies kind out-Declarator roll-Declarator out roll
typedef_in_scope = refl

-- T x;
no_typedef : seen (word 1 ∷ word 2 ∷ sign t.Semicolon ∷ []) ≡ Stops Syntax 3
unfolding inner bodies kind
no_typedef = refl

-- int x = 1 2;
two_values : seen (sign t.Int ∷ word 2 ∷ sign t.Equal ∷ sign t.Number ∷ sign t.Number ∷ sign t.Semicolon ∷ []) ≡ Stops Syntax 2
unfolding inner bodies kind
two_values = refl

-- int x = { 1, }, y;
braces : seen (sign t.Int ∷ word 2 ∷ sign t.Equal ∷ sign t.LeftBrace ∷ sign t.Number ∷ sign t.Comma ∷ sign t.RightBrace ∷ sign t.Comma ∷ word 3 ∷ sign t.Semicolon ∷ []) ≡ Holds 1
unfolding inner bodies kind out-Declarator roll-Declarator out roll
braces = refl

-- { T x; } and { T; }
abbrev declaring : List Lexeme
declaring = sign t.LeftBrace ∷ word 1 ∷ word 2 ∷ sign t.Semicolon ∷ sign t.RightBrace ∷ []

abbrev naming : List Lexeme
naming = sign t.LeftBrace ∷ word 1 ∷ sign t.Semicolon ∷ sign t.RightBrace ∷ []

-- ( int T )
abbrev parameter_t : List Lexeme
parameter_t = sign t.LeftParen ∷ sign t.Int ∷ word 1 ∷ sign t.RightParen ∷ []

-- typedef int T; int f(int T) { T; } and the same with { T x; }
parameter_hides : seen (typedef_t ++ (sign t.Int ∷ word 3 ∷ (parameter_t ++ naming))) ≡ Holds 2
unfolding inner bodies kind out-Declarator roll-Declarator out roll hidden hidden-the_row-Declarator-0 hidden-the_row-Suffix-10
parameter_hides = refl

parameter_is_no_type : seen (typedef_t ++ (sign t.Int ∷ word 3 ∷ (parameter_t ++ declaring))) ≡ Stops Syntax 3
unfolding inner bodies kind out-Declarator roll-Declarator out roll hidden hidden-the_row-Declarator-0 hidden-the_row-Suffix-10
parameter_is_no_type = refl

-- typedef int T; int (f)(int T) { T; }
parameter_behind_parentheses : seen (typedef_t ++ (sign t.Int ∷ sign t.LeftParen ∷ word 3 ∷ sign t.RightParen ∷ (parameter_t ++ naming))) ≡ Holds 2
unfolding inner bodies kind out-Declarator roll-Declarator out roll hidden hidden-the_row-Declarator-0 hidden-the_row-Suffix-10
parameter_behind_parentheses = refl

-- typedef int T; int (*f)(int T) { T x; }
parameter_of_a_pointer : seen (typedef_t ++ (sign t.Int ∷ sign t.LeftParen ∷ sign t.Star ∷ word 3 ∷ sign t.RightParen ∷ (parameter_t ++ declaring))) ≡ Holds 2
unfolding inner bodies kind out-Declarator roll-Declarator out roll hidden hidden-the_row-Declarator-0 hidden-the_row-Suffix-10
parameter_of_a_pointer = refl

-- typedef int T; int (*f(int T))(int) { T; }
nearest_list : seen (typedef_t ++ (sign t.Int ∷ sign t.LeftParen ∷ sign t.Star ∷ word 3 ∷ (parameter_t ++ (sign t.RightParen ∷ sign t.LeftParen ∷ sign t.Int ∷ sign t.RightParen ∷ naming)))) ≡ Holds 2
unfolding inner bodies kind out-Declarator roll-Declarator out roll hidden hidden-the_row-Declarator-0 hidden-the_row-Suffix-10
nearest_list = refl

-- typedef int T; int f(int T); T x;
scope_ends : seen (typedef_t ++ (sign t.Int ∷ word 3 ∷ (parameter_t ++ (sign t.Semicolon ∷ word 1 ∷ word 2 ∷ sign t.Semicolon ∷ [])))) ≡ Holds 3
unfolding inner bodies kind out-Declarator roll-Declarator out roll
scope_ends = refl

-- int f() { if (a) int x; }: a declaration is no statement
no_statement : seen (sign t.Int ∷ word 3 ∷ sign t.LeftParen ∷ sign t.RightParen ∷ sign t.LeftBrace ∷ sign t.If ∷ sign t.LeftParen ∷ word 4 ∷ sign t.RightParen ∷ sign t.Int ∷ word 2 ∷ sign t.Semicolon ∷ sign t.RightBrace ∷ []) ≡ Stops Syntax 4
unfolding inner bodies kind out-Declarator roll-Declarator out roll hidden hidden-the_row-Declarator-0 hidden-the_row-Suffix-10
no_statement = refl

-- int f() { case 1: ; }: a label stands in a switch alone
no_label : seen (sign t.Int ∷ word 3 ∷ sign t.LeftParen ∷ sign t.RightParen ∷ sign t.LeftBrace ∷ sign t.Case ∷ sign t.Number ∷ sign t.Colon ∷ sign t.Semicolon ∷ sign t.RightBrace ∷ []) ≡ Stops Syntax 5
unfolding inner bodies kind
no_label = refl

-- ---- statements

abbrev tree_of : Answer Statement → Option Statement
tree_of (Took x rest m) = Some x
tree_of (Refused why rest) = None

abbrev tree : List Lexeme → Option Statement
tree tokens = tree_of ((statement (inner 4) (bodies 4)).read (start []) (tokens ++ sign t.End ∷ []))

abbrev nothing_at : ℕ → Statement
nothing_at at = statement_of (from_to at at, s.Empty)

-- if (a) if (b) ; else ;
nearest_if :
    tree (sign t.If ∷ sign t.LeftParen ∷ word 1 ∷ sign t.RightParen ∷ sign t.If ∷ sign t.LeftParen ∷ word 2 ∷ sign t.RightParen ∷ sign t.Semicolon ∷ sign t.Else ∷ sign t.Semicolon ∷ [])
    ≡ Some (statement_of (from_to 0 10, s.If (name 2 1) (statement_of (from_to 4 10, s.If (name 6 2) (nothing_at 8) (Some (nothing_at 10)))) None))
unfolding inner bodies kind
nearest_if = refl
