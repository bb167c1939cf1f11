-- What a word and what a punctuator is to the grammar.
use Rattle.std.specs.Prelude.{codes, ℕ, if◌then◌else◌, List, [], ◌∷◌}
use Rattle.std.specs.Str.{bytes_eq}
use Rattle.c_parts.specs.declared.terminal.Terminal.{Terminal}
use Rattle.c_parts.specs.declared.terminal.Terminal.TheVariants as t

-- texts, and the terminal of each
abbrev pub Table : Type 0
Table = List (List ℕ × Terminal)

-- the keywords, in the order of C11 6.4.1; those that no production has are Other
abbrev pub keywords : Table
keywords =
    (codes "auto", t.Auto)
    ∷ (codes "break", t.Break)
    ∷ (codes "case", t.Case)
    ∷ (codes "char", t.Char)
    ∷ (codes "const", t.Const)
    ∷ (codes "continue", t.Continue)
    ∷ (codes "default", t.Default)
    ∷ (codes "do", t.Do)
    ∷ (codes "double", t.Other)
    ∷ (codes "else", t.Else)
    ∷ (codes "enum", t.Enum)
    ∷ (codes "extern", t.Extern)
    ∷ (codes "float", t.Other)
    ∷ (codes "for", t.For)
    ∷ (codes "goto", t.Other)
    ∷ (codes "if", t.If)
    ∷ (codes "inline", t.Inline)
    ∷ (codes "int", t.Int)
    ∷ (codes "long", t.Long)
    ∷ (codes "register", t.Register)
    ∷ (codes "restrict", t.Restrict)
    ∷ (codes "return", t.Return)
    ∷ (codes "short", t.Short)
    ∷ (codes "signed", t.Signed)
    ∷ (codes "sizeof", t.Sizeof)
    ∷ (codes "static", t.Static)
    ∷ (codes "struct", t.Struct)
    ∷ (codes "switch", t.Switch)
    ∷ (codes "typedef", t.Typedef)
    ∷ (codes "union", t.Union)
    ∷ (codes "unsigned", t.Unsigned)
    ∷ (codes "void", t.Void)
    ∷ (codes "volatile", t.Volatile)
    ∷ (codes "while", t.While)
    ∷ (codes "_Alignas", t.Other)
    ∷ (codes "_Alignof", t.Alignof)
    ∷ (codes "_Atomic", t.Atomic)
    ∷ (codes "_Bool", t.Bool)
    ∷ (codes "_Complex", t.Other)
    ∷ (codes "_Generic", t.Other)
    ∷ (codes "_Imaginary", t.Other)
    ∷ (codes "_Noreturn", t.NoReturn)
    ∷ (codes "_Static_assert", t.StaticAssert)
    ∷ (codes "_Thread_local", t.Other)
    ∷ []

-- the punctuators, in the order of C11 6.4.6, without the digraphs and `##`; those that no production has are Other
abbrev pub punctuators : Table
punctuators =
    (codes "[", t.LeftBracket)
    ∷ (codes "]", t.RightBracket)
    ∷ (codes "(", t.LeftParen)
    ∷ (codes ")", t.RightParen)
    ∷ (codes "{", t.LeftBrace)
    ∷ (codes "}", t.RightBrace)
    ∷ (codes ".", t.Dot)
    ∷ (codes "->", t.Arrow)
    ∷ (codes "++", t.Increment)
    ∷ (codes "--", t.Decrement)
    ∷ (codes "&", t.Ampersand)
    ∷ (codes "*", t.Star)
    ∷ (codes "+", t.Plus)
    ∷ (codes "-", t.Minus)
    ∷ (codes "~", t.Tilde)
    ∷ (codes "!", t.Exclamation)
    ∷ (codes "/", t.Slash)
    ∷ (codes "%", t.Percent)
    ∷ (codes "<<", t.ShiftLeft)
    ∷ (codes ">>", t.ShiftRight)
    ∷ (codes "<", t.Less)
    ∷ (codes ">", t.Greater)
    ∷ (codes "<=", t.LessEqual)
    ∷ (codes ">=", t.GreaterEqual)
    ∷ (codes "==", t.EqualEqual)
    ∷ (codes "!=", t.NotEqual)
    ∷ (codes "^", t.Caret)
    ∷ (codes "|", t.Bar)
    ∷ (codes "&&", t.AndAnd)
    ∷ (codes "||", t.BarBar)
    ∷ (codes "?", t.Question)
    ∷ (codes ":", t.Colon)
    ∷ (codes ";", t.Semicolon)
    ∷ (codes "...", t.Other)
    ∷ (codes "=", t.Equal)
    ∷ (codes "*=", t.StarEqual)
    ∷ (codes "/=", t.SlashEqual)
    ∷ (codes "%=", t.PercentEqual)
    ∷ (codes "+=", t.PlusEqual)
    ∷ (codes "-=", t.MinusEqual)
    ∷ (codes "<<=", t.ShiftLeftEqual)
    ∷ (codes ">>=", t.ShiftRightEqual)
    ∷ (codes "&=", t.AmpersandEqual)
    ∷ (codes "^=", t.CaretEqual)
    ∷ (codes "|=", t.BarEqual)
    ∷ (codes ",", t.Comma)
    ∷ (codes "#", t.Other)
    ∷ []

-- the terminal of a text in a table, or this one where it is not there
abbrev pub look_up : Table → Terminal → List ℕ → Terminal
look_up [] otherwise text = otherwise
look_up (entry ∷ table) otherwise text =
    if bytes_eq entry.0 text then entry.1 else look_up table otherwise text

-- a word that is no keyword is a name
unfoldable pub of_word : List ℕ → Terminal
of_word = look_up keywords t.Name

unfoldable pub of_punctuator : List ℕ → Terminal
of_punctuator = look_up punctuators t.Other
