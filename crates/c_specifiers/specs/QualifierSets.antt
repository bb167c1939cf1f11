-- Sets of qualifiers (C11 6.7.3).
use Rattle.std.specs.Prelude.{ℕ, List, [], ◌∷◌, bit_or}
use Rattle.c_syntax.specs.declared.words.Qualifier.{Qualifier}
use Rattle.c_syntax.specs.declared.words.Qualifier.TheVariants as word
use Rattle.c_types.specs.declared.qualifier_set.Qualifiers.{Qualifiers}

-- the set of one qualifier
abbrev pub bit_of : Qualifier → ℕ
bit_of word.Const = 1
bit_of word.Volatile = 2
bit_of word.Restrict = 4
bit_of word.Atomic = 8

-- a set with these qualifiers; one that stands twice counts once (C11 6.7.3p5)
unfoldable pub with_qualifiers : ℕ → List Qualifier → ℕ
with_qualifiers set [] = set
with_qualifiers set (q ∷ qs) = with_qualifiers (bit_or set (bit_of q)) qs

abbrev pub qualifiers_of : List Qualifier → Qualifiers
qualifiers_of qs = record { 0 = with_qualifiers 0 qs }
