-- Files and their expansions, worked out by hand from the rules: the definition gives them by computation.
use Rattle.std.specs.Prelude.{codes, ◌≡◌, ℕ, List, [], ◌∷◌, map, Result, Ok, Err, refl}
use Rattle.c_lexer.specs.declared.token.Token.{Token}
use Rattle.c_lexer.specs.declared.fault.LexFault.{LexFault}
use Rattle.c_lexer.specs.Tokens.{tokens_of, tokens_from}
use Rattle.c_lexer.specs.Source.{without_splices, lines_of}
use Rattle.c_lexer.specs.Front.{front_of, comment_rest}
use Rattle.c_lexer.specs.Number.{number_of}
use Rattle.c_lexer.specs.Quoted.{closing, values_of, element_of}
use Rattle.filc_num.specs.Integers.{binary_of, convert_of}
use Rattle.c_preproc.specs.declared.fault.PreFault.{PreFault}
use Rattle.c_preproc.specs.declared.fault.PreFault.TheVariants as fault
use Rattle.c_preproc.specs.Texts.{text_of}
use Rattle.c_preproc.specs.Directives.{blocks_of}
use Rattle.c_preproc.specs.Macros.{replacement}
use Rattle.c_preproc.specs.Condition.{read_tree, value_of}
use Rattle.c_preproc.specs.Groups.{unbalanced_line}
use Rattle.c_preproc.specs.Expansion.{after_blocks, decided_of, expansion_of, with_digits, with_expansions}

abbrev answer_of : List ℕ → Result (List Token) LexFault → Result (List (List ℕ)) PreFault
answer_of file (Err f) = Err fault.NoMemory
answer_of file (Ok tokens) = texts (expansion_of (without_splices file) tokens)
  where
    texts : Result (List Token) PreFault → Result (List (List ℕ)) PreFault
    texts (Ok ts) = Ok (map (text_of (with_digits (without_splices file))) ts)
    texts (Err f) = Err f

abbrev answer : List ℕ → Result (List (List ℕ)) PreFault
answer file = answer_of file (tokens_of file)

-- a file, and the texts of its expansion or its first fault
abbrev Row : Type 0
Row = List ℕ × Result (List (List ℕ)) PreFault

abbrev Hold : List Row → Type 0
Hold rows = map (λ row. answer row.0) rows ≡ map (λ row. row.1) rows

abbrev rows_1 : List Row
rows_1 =
    -- unclosed if before a later fault
    (codes "#if 1\n#include <math.h>\n", Err (fault.Unbalanced 1))
    -- part after else in inactive
    ∷ (codes "#if 0\n#if 1\n#else\n#else\n#endif\n#endif\nx", Err (fault.Unbalanced 4))
    -- pragma, elif not evaluated
    ∷ (codes "#pragma a # b\n#if 1\n#elif #\n#endif\nx", Ok (codes "x" ∷ [] ∷ []))
    -- include
    ∷ (codes "#include < stddef.h >\nx", Err (fault.Header 1))
    -- defined without name
    ∷ (codes "#if defined\n#endif\n", Err (fault.Directive 1))
    -- comma
    ∷ (codes "#if 1||(1,2)\n#endif\n", Err (fault.Directive 1))
    -- least by -1
    ∷ (codes "#if (-9223372036854775807-1)/-1\n#endif\n", Err (fault.Directive 1))
    -- short circuit
    ∷ (codes "#if 0&&1/0\n#endif\nx", Ok (codes "x" ∷ [] ∷ []))
    -- shift of line
    ∷ (codes "#if 1+\\\n2 3\n#endif\n", Err (fault.Directive 1))
    -- same again
    ∷ (codes "#define A 1+2\n#define A 1 + 2\n#undef __FILC__\n#define defined 3\nA", Ok (codes "1" ∷ codes "+" ∷ codes "2" ∷ [] ∷ []))
    -- redefinition
    ∷ (codes "#define A 1\n#define A 2\n", Err (fault.Directive 2))
    -- FILC again
    ∷ (codes "#define __FILC__ 2\n", Err (fault.Directive 1))
    -- self
    ∷ (codes "#define A A B\n#define B A C\nA B", Ok (codes "A" ∷ codes "A" ∷ codes "C" ∷ codes "A" ∷ codes "B" ∷ codes "C" ∷ [] ∷ []))
    -- parameters
    ∷ (codes "#define A(x) 1\n", Err (fault.Directive 1))
    ∷ []

pub rows_1-hold : Hold rows_1
unfolding tokens_from without_splices lines_of front_of comment_rest number_of closing values_of element_of binary_of convert_of blocks_of replacement read_tree value_of unbalanced_line decided_of with_expansions after_blocks
rows_1-hold = refl

abbrev rows_2 : List Row
rows_2 =
    -- a parenthesis behind
    (codes "#define A (x)\nA", Ok (codes "(" ∷ codes "x" ∷ codes ")" ∷ [] ∷ []))
    -- hash elsewhere
    ∷ (codes "a # b\n", Err (fault.Directive 1))
    -- error in active
    ∷ (codes "#error\n", Err (fault.Directive 1))
    -- error in inactive
    ∷ (codes "#if 0\n#error\n#foo\n#endif\nx", Ok (codes "x" ∷ [] ∷ []))
    -- else
    ∷ (codes "#if 0\na\n#elif 1\nb\n#elif 1\nc\n#else\nd\n#endif\n", Ok (codes "b" ∷ [] ∷ []))
    -- stray endif
    ∷ (codes "#endif\n", Err (fault.Unbalanced 1))
    -- else with more
    ∷ (codes "#if 1\n#else x\n#endif\n", Err (fault.Directive 2))
    -- inactive else with more
    ∷ (codes "#if 0\n#if 1\n#else x\n#endif x\n#endif\ny", Ok (codes "y" ∷ [] ∷ []))
    -- ifdef two
    ∷ (codes "#ifdef A B\n#endif\n", Err (fault.Directive 1))
    -- ifndef
    ∷ (codes "#ifndef A\nx\n#endif\n", Ok (codes "x" ∷ [] ∷ []))
    -- defined forms
    ∷ (codes "#define A\n#if defined A && defined(A) && !defined B\nx\n#endif\n", Ok (codes "x" ∷ [] ∷ []))
    -- names are 0
    ∷ (codes "#if A == 0 && 'a' == 97 && '\\377' < 0\nx\n#endif\n", Ok (codes "x" ∷ [] ∷ []))
    -- choice
    ∷ (codes "#if 0 ? 1/0 : 2 ? 3 : 4\nx\n#endif\n", Ok (codes "x" ∷ [] ∷ []))
    -- levels
    ∷ (codes "#if 1+2*3==7 && (1+2)*3==9 && 10-3-4==3 && 1<<2+1==8 && (6&3|8^1)==11\nx\n#endif\n", Ok (codes "x" ∷ [] ∷ []))
    ∷ []

pub rows_2-hold : Hold rows_2
unfolding tokens_from without_splices lines_of front_of comment_rest number_of closing values_of element_of binary_of convert_of blocks_of replacement read_tree value_of unbalanced_line decided_of with_expansions after_blocks
rows_2-hold = refl

abbrev rows_3 : List Row
rows_3 =
    -- unsigned kind
    (codes "#if -1 > 0u && (1 ? -1 : 0u) > 0 && -1 < 0\nx\n#endif\n", Ok (codes "x" ∷ [] ∷ []))
    -- hash alone
    ∷ (codes "#\nx", Ok (codes "x" ∷ [] ∷ []))
    -- number word
    ∷ (codes "# 3\n", Err (fault.Directive 1))
    -- signs
    ∷ (codes "#if -(-3) == +3 && ~0 == -1 && !0 == 1 && -7/2 == -3 && -7%2 == -1 && -1>>1 == -1\nx\n#endif\n", Ok (codes "x" ∷ [] ∷ []))
    -- bad shift
    ∷ (codes "#if 1 << 64\n#endif\n", Err (fault.Directive 1))
    -- negative shift
    ∷ (codes "#if 1 << -1\n#endif\n", Err (fault.Directive 1))
    -- no condition
    ∷ (codes "#if\n#endif\n", Err (fault.Directive 1))
    -- macros in a condition
    ∷ (codes "#define N 3\n#define M N*N\n#if M == 9\nx\n#endif\n", Ok (codes "x" ∷ [] ∷ []))
    -- a line feed in a comment ends no line
    ∷ (codes "int x;/*\n*/#define A 0\n", Err (fault.Directive 2))
    -- empty macros
    ∷ (codes "#define e0\n#define e1 e0 e0\ne1 x", Ok (codes "x" ∷ [] ∷ []))
    -- elif after else
    ∷ (codes "#if 1\n#else\n#elif 1\n#endif\n", Err (fault.Unbalanced 3))
    -- more behind an end
    ∷ (codes "#if 1\n#endif x\n", Err (fault.Directive 2))
    -- undef of two
    ∷ (codes "#undef A B\n", Err (fault.Directive 1))
    -- define of a number
    ∷ (codes "#define 3\n", Err (fault.Directive 1))
    ∷ []

pub rows_3-hold : Hold rows_3
unfolding tokens_from without_splices lines_of front_of comment_rest number_of closing values_of element_of binary_of convert_of blocks_of replacement read_tree value_of unbalanced_line decided_of with_expansions after_blocks
rows_3-hold = refl

abbrev rows_4 : List Row
rows_4 =
    -- define of nothing
    (codes "#define\n", Err (fault.Directive 1))
    -- ifdef of nothing
    ∷ (codes "#ifdef\n#endif\n", Err (fault.Directive 1))
    -- half a choice
    ∷ (codes "#if 1 ? 2\n#endif\n", Err (fault.Directive 1))
    -- an open parenthesis
    ∷ (codes "#if (1\n#endif\n", Err (fault.Directive 1))
    -- a closing parenthesis
    ∷ (codes "#if 1)\n#endif\n", Err (fault.Directive 1))
    -- a text
    ∷ (codes "#if \"a\"\n#endif\n", Err (fault.Directive 1))
    -- half a defined
    ∷ (codes "#if defined(A\n#endif\n", Err (fault.Directive 1))
    -- defined from a macro
    ∷ (codes "#define D defined A\n#if D\n#endif\n", Err (fault.Directive 2))
    -- an unsigned difference
    ∷ (codes "#if 5u - 6 > 0 && 5 - 6 < 0\nx\n#endif\n", Ok (codes "x" ∷ [] ∷ []))
    -- unbalanced before a directive of the line
    ∷ (codes "#endif x\n", Err (fault.Unbalanced 1))
    -- the first fault is earlier than the open if
    ∷ (codes "#error\n#if 1\n", Err (fault.Directive 1))
    -- a macro in other directives
    ∷ (codes "#define A B\n#ifdef A\n#undef A\n#endif\nA", Ok (codes "A" ∷ [] ∷ []))
    -- the lines of a macro's tokens are unchanged text
    ∷ (codes "#define A 1 + \\\n2\nA;", Ok (codes "1" ∷ codes "+" ∷ codes "2" ∷ codes ";" ∷ [] ∷ []))
    -- nested ifs that aren't active
    ∷ (codes "#if 0\n#ifdef 3\n#else\n#endif\n#elif 1\nx\n#endif\n", Ok (codes "x" ∷ [] ∷ []))
    ∷ []

pub rows_4-hold : Hold rows_4
unfolding tokens_from without_splices lines_of front_of comment_rest number_of closing values_of element_of binary_of convert_of blocks_of replacement read_tree value_of unbalanced_line decided_of with_expansions after_blocks
rows_4-hold = refl

-- ---- with lines

abbrev lines_in : List ℕ → Result (List Token) LexFault → Result (List (ℕ × List ℕ)) PreFault
lines_in file (Err f) = Err fault.NoMemory
lines_in file (Ok tokens) = shown (expansion_of (without_splices file) tokens)
  where
    shown : Result (List Token) PreFault → Result (List (ℕ × List ℕ)) PreFault
    shown (Ok ts) = Ok (map (λ t. (t.line, text_of (with_digits (without_splices file)) t)) ts)
    shown (Err f) = Err f

abbrev lines_of_answer : List ℕ → Result (List (ℕ × List ℕ)) PreFault
lines_of_answer file = lines_in file (tokens_of file)

-- a macro's tokens take the line of each use
pub uses-have-lines : lines_of_answer (codes "#define A x\n\nA\ny A") ≡ Ok ((3, codes "x") ∷ (4, codes "y") ∷ (4, codes "x") ∷ (4, []) ∷ [])
unfolding tokens_from without_splices lines_of front_of comment_rest number_of closing values_of element_of binary_of convert_of blocks_of replacement read_tree value_of unbalanced_line decided_of with_expansions after_blocks
uses-have-lines = refl

-- a splice ends no directive, and counts as a line
pub splices-count : lines_of_answer (codes "#define A \\\n1\nA\\\n B\n") ≡ Ok ((3, codes "1") ∷ (4, codes "B") ∷ (4, []) ∷ [])
unfolding tokens_from without_splices lines_of front_of comment_rest number_of closing values_of element_of binary_of convert_of blocks_of replacement read_tree value_of unbalanced_line decided_of with_expansions after_blocks
splices-count = refl
