-- Types that are made of nothing.
use Rattle.c_types.specs.declared.ctype.CType.{CType}
use Rattle.c_types.specs.declared.ctype.CType.TheVariants.{Void, Integer}

abbrev pub IsPlainType : CType → Type 0
IsPlainType Void = Unit {0}
IsPlainType (Integer kind) = Unit {0}
IsPlainType ty = ⊥
