-- The types that words name are void and the integer types.
use Rattle.std.proofs.Common.{ℕ, Bool, true, false, cond, List, [], ◌∷◌, Some, None}
use Rattle.std.specs.Prelude.{Option, ◌==◌, ◌&&◌, count_by}
use Rattle.std.specs.List.{filter_map, find}
use Rattle.std.specs.Option.{option_or, option_map}
use Rattle.c_syntax.specs.declared.expr.Specifier.{Specifier}
use Rattle.c_syntax.specs.declared.words.BasicType.{BasicType}
use Rattle.c_types.specs.declared.ctype.CType.{CType}
use Rattle.c_specifiers.specs.Lists.{NamedType, Basic, Whole, basic_word, is_whole, has_no_word, named_type}
use Rattle.c_specifiers.specs.Specifiers.{Row, same_words, type_in_rows, character_rows, short_rows, int_rows, long_rows, long_long_rows, type_of_words}
use Rattle.c_declarations.specs.Specified.{kind_of_named, named_in_list}
use Rattle.c_type_parts.specs.Lists.{AreOfTypes}
use Rattle.c_names.specs.Plain.{IsPlainType}

abbrev IsPlain : Option CType → Type 0
IsPlain None = Unit {0}
IsPlain (Some ty) = IsPlainType ty

abbrev ArePlain : List Row → Type 0
ArePlain [] = Unit {0}
ArePlain (r ∷ rows) = IsPlainType r.ty × ArePlain rows

either_plain : (b : Bool) (x y : Option CType) → IsPlain x → IsPlain y → IsPlain (cond b x y)
either_plain true x y p q = p
either_plain false x y p q = q

in_rows : (rows : List Row) (words : List BasicType) → ArePlain rows → IsPlain (type_in_rows rows words)
in_rows [] words p = tt
in_rows (r ∷ rows) words p = either_plain (same_words r.words words) (Some r.ty) (type_in_rows rows words) p.0 (in_rows rows words p.1)

or_plain : (x y : Option CType) → IsPlain x → IsPlain y → IsPlain (option_or x y)
or_plain None y p q = q
or_plain (Some ty) y p q = p

of_words : (words : List BasicType) → IsPlain (type_of_words words)
of_words words =
    let characters = type_in_rows character_rows words in
    let shorts = type_in_rows short_rows words in
    let ints = type_in_rows int_rows words in
    let longs = type_in_rows long_rows words in
    let longest = type_in_rows long_long_rows words in
    or_plain (option_or (option_or (option_or characters shorts) ints) longs) longest
    (or_plain (option_or (option_or characters shorts) ints) longs
    (or_plain (option_or characters shorts) ints
    (or_plain characters shorts (in_rows character_rows words (tt, (tt, (tt, (tt, (tt, tt)))))) (in_rows short_rows words (tt, (tt, (tt, (tt, (tt, (tt, tt))))))))
    (in_rows int_rows words (tt, (tt, (tt, (tt, (tt, tt)))))))
    (in_rows long_rows words (tt, (tt, (tt, (tt, (tt, (tt, tt))))))))
    (in_rows long_long_rows words (tt, (tt, (tt, (tt, (tt, (tt, tt)))))))

of_named : (is_basic is_whole : Bool) (basic : Option CType) (whole : Option Specifier) → IsPlain basic
    → AreOfTypes (option_map kind_of_named (cond is_basic (option_map Basic basic) (cond is_whole (option_map Whole whole) None)))
of_named true is_whole None whole p = tt
of_named true is_whole (Some ty) whole p = p
of_named false true basic None p = tt
of_named false true basic (Some s) p = tt
of_named false false basic whole p = tt

pub words_name_plain : (list : List Specifier) → AreOfTypes (named_in_list list)
unfolding named_type
words_name_plain list =
    let words = filter_map basic_word list in
    let wholes = count_by is_whole list in
    of_named (wholes == 0) (wholes == 1 && has_no_word words) (type_of_words words) (find is_whole list) (of_words words)
