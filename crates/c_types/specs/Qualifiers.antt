-- Sets of qualifiers.
use Rattle.std.specs.Prelude.{Bool, ◌==◌, bit_and}
use Rattle.c_types.specs.declared.qualifier_set.Qualifiers.{Qualifiers}

-- the first set has all of the second
abbrev pub has_all : Qualifiers → Qualifiers → Bool
has_all p q = bit_and p.0 q.0 == q.0
