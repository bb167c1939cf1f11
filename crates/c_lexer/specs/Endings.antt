-- Laws of comments, of quotes and of what begins nothing, in other words than the machines that read them.
use Rattle.std.specs.Prelude.{codes, ◌≡◌, ◌≢◌, ℕ, ◌+◌, ◌<◌, ◌≤◌, ◌%◌, ◌==◌, ◌&&◌, ◌||◌, Bool, false, cond, IsTrue, List, [], ◌∷◌, ◌⊎◌, length, reverse, take, nat_eq, slice_index, Option, Some, None}
use Rattle.std.specs.List.{prefix_len, starts_with}
use Rattle.std.specs.Option.{option_map}
use Rattle.std.specs.Char.{is_ascii_digit}
use Rattle.c_lexer.specs.declared.front.Front.TheVariants.{Bad}
use Rattle.c_lexer.specs.Classes.{backslash, double_quote, is_blank, is_letter, line_feed, single_quote, slash, star}
use Rattle.c_lexer.specs.Front.{comment_rest, front_of}
use Rattle.c_lexer.specs.Punct.{is_punct_of_one}
use Rattle.c_lexer.specs.Quoted.{closing}

-- the first place where two bytes stand side by side
abbrev pub first_pair : ℕ → ℕ → List ℕ → Option ℕ
first_pair a b [] = None
first_pair a b (x ∷ []) = None
first_pair a b (x ∷ y ∷ rest) = cond (x == a && y == b) (Some 0) (option_map (λ n. n + 1) (first_pair a b (y ∷ rest)))

-- a comment ends behind the first star and slash in it, and has no end without them
abbrev pub CommentsEndAtStarSlash : Type 0
CommentsEndAtStarSlash = (body : List ℕ) → comment_rest false body ≡ option_map (λ n. n + 2) (first_pair star slash body)

-- how many backslashes stand directly before a place
abbrev pub backslashes_before : ℕ → List ℕ → ℕ
backslashes_before n text = prefix_len (λ b. b == backslash) (reverse (take n text))

-- a quote that an even number of backslashes stands before
abbrev pub closes_at : ℕ → List ℕ → ℕ → Bool
closes_at quote text n = slice_index text n == quote && backslashes_before n text % 2 == 0

-- the first such quote on its line
pub record IsFirstClose (quote : ℕ) (text : List ℕ) (n : ℕ) : Type 0 where
  pub within : n < length text
  pub closes : IsTrue (closes_at quote text n)
  pub first : (i : ℕ) → i < n → closes_at quote text i ≡ false
  pub on_line : (i : ℕ) → i < n → slice_index text i ≢ line_feed

-- a text or a character constant closes there
abbrev pub QuotesCloseUnescaped : Type 0
QuotesCloseUnescaped = (quote : ℕ) (text : List ℕ) (n : ℕ) → closing false quote text ≡ Some n → IsFirstClose quote text n

-- and where none closes, no such quote stands on the line
abbrev pub UnescapedQuotesClose : Type 0
UnescapedQuotesClose =
    (quote : ℕ) (text : List ℕ) → closing false quote text ≡ None
    → (n : ℕ) → n < length text → ((i : ℕ) → i ≤ n → slice_index text i ≢ line_feed) → closes_at quote text n ≡ false

-- the byte begins white space, a comment or a token, good or not
abbrev pub begins_something : ℕ → Bool
begins_something b = b == line_feed || is_blank b || is_letter b || is_ascii_digit b || b == double_quote || b == single_quote || is_punct_of_one b

-- only a byte that begins nothing is bad, and in a user's file a name of the library
abbrev pub OnlyTheseAreBad : Type 0
OnlyTheseAreBad =
    (library : Bool) (first : ℕ) (rest : List ℕ) → front_of library first rest ≡ Bad
    → (begins_something first ≡ false) ⊎ ((library ≡ false) × IsTrue (starts_with nat_eq (first ∷ rest) (codes "__filc_")))
