-- Which type a list of type specifiers names (C11 6.7.2p2).
--
-- The table says which words name which type. They may stand in any order, so a list names the type of the
-- row that has each word as often as the list has it.
use Rattle.std.specs.Prelude.{Bool, true, false, not, ◌&&◌, ◌++◌, ◌==◌, List, [], ◌∷◌, count_by, if◌then◌else◌, Option, Some, None}
use Rattle.std.specs.Option.{option_or}
use Rattle.filc_num.specs.declared.c_int_type.CIntType.TheVariants as kind
use Rattle.c_types.specs.declared.ctype.CType.{CType}
use Rattle.c_types.specs.declared.ctype.CType.TheVariants.{Void, Integer}
use Rattle.c_syntax.specs.declared.words.BasicType.{BasicType}
use Rattle.c_syntax.specs.declared.words.BasicType.TheVariants as word

-- words, and the type that they name
pub record Row : Type 0 where
  pub words : List BasicType
  pub ty : CType

abbrev pub row : List BasicType → CType → Row
row words ty = record { words = words; ty = ty }

abbrev pub character_rows : List Row
character_rows =
    row (word.Void ∷ []) Void ∷
    row (word.Bool ∷ []) (Integer kind.Bool) ∷
    row (word.Char ∷ []) (Integer kind.Char) ∷
    row (word.Signed ∷ word.Char ∷ []) (Integer kind.SignedChar) ∷
    row (word.Unsigned ∷ word.Char ∷ []) (Integer kind.UnsignedChar) ∷
    []

abbrev pub short_rows : List Row
short_rows =
    row (word.Short ∷ []) (Integer kind.Short) ∷
    row (word.Signed ∷ word.Short ∷ []) (Integer kind.Short) ∷
    row (word.Short ∷ word.Int ∷ []) (Integer kind.Short) ∷
    row (word.Signed ∷ word.Short ∷ word.Int ∷ []) (Integer kind.Short) ∷
    row (word.Unsigned ∷ word.Short ∷ []) (Integer kind.UnsignedShort) ∷
    row (word.Unsigned ∷ word.Short ∷ word.Int ∷ []) (Integer kind.UnsignedShort) ∷
    []

abbrev pub int_rows : List Row
int_rows =
    row (word.Int ∷ []) (Integer kind.Int) ∷
    row (word.Signed ∷ []) (Integer kind.Int) ∷
    row (word.Signed ∷ word.Int ∷ []) (Integer kind.Int) ∷
    row (word.Unsigned ∷ []) (Integer kind.UnsignedInt) ∷
    row (word.Unsigned ∷ word.Int ∷ []) (Integer kind.UnsignedInt) ∷
    []

abbrev pub long_rows : List Row
long_rows =
    row (word.Long ∷ []) (Integer kind.Long) ∷
    row (word.Signed ∷ word.Long ∷ []) (Integer kind.Long) ∷
    row (word.Long ∷ word.Int ∷ []) (Integer kind.Long) ∷
    row (word.Signed ∷ word.Long ∷ word.Int ∷ []) (Integer kind.Long) ∷
    row (word.Unsigned ∷ word.Long ∷ []) (Integer kind.UnsignedLong) ∷
    row (word.Unsigned ∷ word.Long ∷ word.Int ∷ []) (Integer kind.UnsignedLong) ∷
    []

abbrev pub long_long_rows : List Row
long_long_rows =
    row (word.Long ∷ word.Long ∷ []) (Integer kind.LongLong) ∷
    row (word.Signed ∷ word.Long ∷ word.Long ∷ []) (Integer kind.LongLong) ∷
    row (word.Long ∷ word.Long ∷ word.Int ∷ []) (Integer kind.LongLong) ∷
    row (word.Signed ∷ word.Long ∷ word.Long ∷ word.Int ∷ []) (Integer kind.LongLong) ∷
    row (word.Unsigned ∷ word.Long ∷ word.Long ∷ []) (Integer kind.UnsignedLongLong) ∷
    row (word.Unsigned ∷ word.Long ∷ word.Long ∷ word.Int ∷ []) (Integer kind.UnsignedLongLong) ∷
    []

abbrev pub is_word : BasicType → BasicType → Bool
is_word word.Void word.Void = true
is_word word.Char word.Char = true
is_word word.Short word.Short = true
is_word word.Int word.Int = true
is_word word.Long word.Long = true
is_word word.Signed word.Signed = true
is_word word.Unsigned word.Unsigned = true
is_word word.Bool word.Bool = true
is_word _ _ = false

-- both lists have this word as often
abbrev pub as_often : BasicType → List BasicType → List BasicType → Bool
as_often w a b = count_by (is_word w) a == count_by (is_word w) b

-- the lists have the same words, in any order
unfoldable pub same_words : List BasicType → List BasicType → Bool
same_words a b =
    as_often word.Void a b && as_often word.Char a b && as_often word.Short a b && as_often word.Int a b && as_often word.Long a b && as_often word.Signed a b && as_often word.Unsigned a b && as_often word.Bool a b

-- none of these rows has the words
abbrev pub in_no_row : List BasicType → List Row → Bool
in_no_row words [] = true
in_no_row words (r ∷ rows) = not (same_words r.words words) && in_no_row words rows

-- no two of these rows have the same words
abbrev pub are_apart : List Row → Bool
are_apart [] = true
are_apart (r ∷ rows) = in_no_row r.words rows && are_apart rows

abbrev pub all_rows : List Row
all_rows = character_rows ++ short_rows ++ int_rows ++ long_rows ++ long_long_rows

-- the type of the first of these rows that has the words
abbrev pub type_in_rows : List Row → List BasicType → Option CType
type_in_rows [] words = None
type_in_rows (r ∷ rows) words = if same_words r.words words then Some r.ty else type_in_rows rows words

-- the type that the words name, by the table
abbrev pub type_of_words : List BasicType → Option CType
type_of_words words =
    let characters = option_or (type_in_rows character_rows words) (type_in_rows short_rows words) in
    let integers = option_or characters (type_in_rows int_rows words) in
    option_or (option_or integers (type_in_rows long_rows words)) (type_in_rows long_long_rows words)
