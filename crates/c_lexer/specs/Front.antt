-- What stands at the front of the bytes: white space, a comment, the longest token, or a fault.
use Rattle.std.specs.Prelude.{codes, ℕ, ◌+◌, ◌-◌, Bool, false, cond, not, ◌==◌, ◌&&◌, ◌||◌, nat_eq, List, [], ◌∷◌, length, take, Option, Some, None, is_some}
use Rattle.std.specs.List.{starts_with, prefix_len, position_or_len}
use Rattle.std.specs.Option.{option_map, option_and_then}
use Rattle.std.specs.Char.{is_ascii_digit}
use Rattle.c_lexer.specs.declared.token.TokenKind.{TokenKind}
use Rattle.c_lexer.specs.declared.token.TokenKind.TheVariants.{Name, Number, Character, Text, Punct}
use Rattle.c_lexer.specs.declared.front.Front.{Front}
use Rattle.c_lexer.specs.declared.front.Front.TheVariants.{LineEnd, Blank, Token, Bad, Unclosed, Literal}
use Rattle.c_lexer.specs.Classes.{line_feed, double_quote, single_quote, star, slash, is_blank, is_letter, is_word, is_number_byte}
use Rattle.c_lexer.specs.List.{is_end}
use Rattle.c_lexer.specs.Number.{number_of}
use Rattle.c_lexer.specs.Quoted.{closing, values_of}
use Rattle.c_lexer.specs.Punct.{punct_length}

-- A front says how many bytes it takes behind its first.

-- a letter and the longest run of letters and digits behind it; some names are the library's own
abbrev pub name_front : Bool → List ℕ → List ℕ → Front
name_front library text rest =
    cond (not library && starts_with nat_eq text (codes "__filc_")) Bad (Token Name (prefix_len is_word rest))

-- a digit and the longest run of letters, digits and points behind it
abbrev pub number_front : List ℕ → List ℕ → Front
number_front text rest =
    let more = prefix_len is_number_byte rest in
    cond (is_some (number_of (take (more + 1) text))) (Token Number more) Literal

-- a text has any number of values, a character constant one
abbrev pub quoted_kind : ℕ → ℕ → Option TokenKind
quoted_kind quote count = cond (quote == double_quote) (Some Text) (cond (count == 1) (Some Character) None)

-- a text or a character constant, unless it is none
abbrev pub quoted_token : ℕ → Option TokenKind → Front
quoted_token more None = Literal
quoted_token more (Some kind) = Token kind more

-- a quote, the bytes before the next on its line, which are good escapes and other bytes, and that quote
abbrev pub quoted_front : ℕ → List ℕ → Option ℕ → Front
quoted_front quote rest None = Unclosed
quoted_front quote rest (Some before) =
    quoted_token (before + 1) (option_and_then (quoted_kind quote) (option_map length (values_of 0 (take before rest))))

-- the byte is the slash of a comment's end
abbrev pub ends_comment : Bool → ℕ → Bool
ends_comment starred b = starred && b == slash

-- how many bytes a comment goes on, up to and with its end; `starred` says that a star stands before them
unfoldable pub comment_rest : Bool → List ℕ → Option ℕ
comment_rest starred [] = None
comment_rest starred (b ∷ rest) =
    cond (ends_comment starred b) (Some 1) (option_map (λ n. n + 1) (comment_rest (b == star) rest))

-- a slash, a star, and the bytes to the comment's end
abbrev pub comment_front : Option ℕ → Front
comment_front None = Unclosed
comment_front (Some more) = Blank (more + 1)

-- an operator or a separator of this size
abbrev pub punct_front : ℕ → Front
punct_front size = cond (size == 0) Bad (Token Punct (size - 1))

-- a comment, or an operator that begins with a slash
abbrev pub slash_front : List ℕ → Front
slash_front [] = punct_front (punct_length slash [])
slash_front (second ∷ rest) =
    cond (second == star) (comment_front (comment_rest false rest))
    (cond (second == slash) (Blank (position_or_len (λ b. b == line_feed) rest + 1))
    (punct_front (punct_length slash (second ∷ rest))))

-- what begins with the first byte, before the rest
unfoldable pub front_of : Bool → ℕ → List ℕ → Front
front_of library first rest =
    cond (first == line_feed) LineEnd
    (cond (is_blank first) (Blank 0)
    (cond (is_letter first) (name_front library (first ∷ rest) rest)
    (cond (is_ascii_digit first) (number_front (first ∷ rest) rest)
    (cond (first == slash) (slash_front rest)
    (cond (first == double_quote || first == single_quote) (quoted_front first rest (closing false first rest))
    (punct_front (punct_length first rest)))))))

-- how many bytes it takes behind its first
abbrev pub more_of : Front → ℕ
more_of LineEnd = 0
more_of (Blank more) = more
more_of (Token kind more) = more
more_of Bad = 0
more_of Unclosed = 0
more_of Literal = 0

-- it is an End
abbrev pub gives_end : Front → Bool
gives_end LineEnd = false
gives_end (Blank more) = false
gives_end (Token kind more) = is_end kind
gives_end Bad = false
gives_end Unclosed = false
gives_end Literal = false
