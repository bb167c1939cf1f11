-- Character constants and texts: where they end, and the bytes that they write.
use Rattle.std.specs.Prelude.{ℕ, zero, suc, ◌+◌, ◌-◌, ◌^◌, Bool, cond, not, ◌==◌, ◌&&◌, ◌||◌, nat_lt, List, [], ◌∷◌, length, take, drop, Option, Some, None}
use Rattle.std.specs.List.{prefix_len}
use Rattle.std.specs.Option.{option_map, option_and_then}
use Rattle.std.specs.Char.{is_digit}
use Rattle.c_lexer.specs.declared.quoted.Element.{Element}
use Rattle.c_lexer.specs.Classes.{line_feed, backslash}
use Rattle.c_lexer.specs.Number.{value_of, digits_of}

-- the byte is the closing quote; a byte behind a backslash closes nothing
abbrev pub closes : Bool → ℕ → ℕ → Bool
closes escaped quote b = not escaped && b == quote

-- the byte is a backslash that makes an escape of the byte behind it
abbrev pub escapes : Bool → ℕ → Bool
escapes escaped b = not escaped && b == backslash

-- how many bytes stand before the closing quote, on one line; `escaped` says that a backslash stands before them
unfoldable pub closing : Bool → ℕ → List ℕ → Option ℕ
closing escaped quote [] = None
closing escaped quote (b ∷ rest) =
    cond (b == line_feed) None
    (cond (closes escaped quote b) (Some 0) (option_map (λ n. n + 1) (closing (escapes escaped b) quote rest)))

-- what one byte behind a backslash writes, but for digits and x
abbrev pub simple_escape : ℕ → Option ℕ
simple_escape b =
    cond (b == 39 || b == 34 || b == 63 || b == 92) (Some b)
    (cond (b == 97) (Some 7)
    (cond (b == 98) (Some 8)
    (cond (b == 116) (Some 9)
    (cond (b == 110) (Some 10)
    (cond (b == 118) (Some 11)
    (cond (b == 102) (Some 12)
    (cond (b == 114) (Some 13) None)))))))

-- a byte of this value, written by so many bytes
abbrev pub element : ℕ → ℕ → Option Element
element value size = cond (nat_lt value 256) (Some (record { value = value; size = size })) None

-- the digits of this base at the front, one at least, behind so many bytes
abbrev pub element_with_code : ℕ → ℕ → List ℕ → Option Element
element_with_code base before text =
    let count = prefix_len (λ b. is_digit b base) text in
    cond (count == 0) None (element (value_of base 0 (digits_of base text)) (before + count))

-- the escape whose backslash stands before these bytes: x and hexadecimal digits, one to three octal digits, or a letter
abbrev pub escape_of : List ℕ → Option Element
escape_of [] = None
escape_of (b ∷ rest) =
    cond (b == 120) (element_with_code 16 2 rest)
    (cond (is_digit b 8) (element_with_code 8 1 (take 3 (b ∷ rest)))
    (option_map (λ value. record { value = value; size = 2 }) (simple_escape b)))

-- the byte or escape at the front
unfoldable pub element_of : ℕ → List ℕ → Option Element
element_of b rest = cond (b == backslash) (escape_of rest) (Some (record { value = b; size = 1 }))

-- the values of the bytes and escapes, one after another, of which the first `inside` bytes are part of one before them
unfoldable pub values_of : ℕ → List ℕ → Option (List ℕ)
values_of inside [] = Some []
values_of zero (b ∷ rest) =
    option_and_then (λ e. option_map (λ values. e.value ∷ values) (values_of (e.size - 1) rest)) (element_of b rest)
values_of (suc inside) (b ∷ rest) = values_of inside rest

-- what stands between the quotes
abbrev pub body_of : List ℕ → List ℕ
body_of text = take (length text - 2) (drop 1 text)

-- the bytes of a text token, without the zero byte that C adds
abbrev pub text_of : List ℕ → Option (List ℕ)
text_of text = values_of 0 (body_of text)

-- an int that a signed char of this byte has, sign-extended to 64 bits
abbrev pub signed_char : ℕ → ℕ
signed_char b = cond (nat_lt b 128) b (2 ^ 64 - 256 + b)

-- the only value of a list
abbrev pub only_value : List ℕ → Option ℕ
only_value [] = None
only_value (b ∷ []) = Some (signed_char b)
only_value (a ∷ b ∷ rest) = None

-- the value of a character token
abbrev pub character_of : List ℕ → Option ℕ
character_of text = option_and_then only_value (text_of text)
