-- What `_Atomic` may stand on (C11 6.7.2.4p3, 6.7.3p3): an integer, an enumeration or a pointer, and here no structure
-- or union.
use Rattle.std.specs.Prelude.{Bool, true, false, ◌==◌, bit_and, bit_or, if◌then◌else◌, Option, Some, None, Result, Ok, Err}
use Rattle.c_types.specs.declared.ctype.CType.{CType}
use Rattle.c_types.specs.declared.ctype.CType.TheVariants.{Void, Integer, Enumeration, Pointer, ArrayOf, Function, Structure, Union}
use Rattle.c_types.specs.declared.ctype.Part.{Part}
use Rattle.c_types.specs.declared.qualifier_set.Qualifiers.{Qualifiers}
use Rattle.c_rules.specs.declared.rule.Rule.{Rule}
use Rattle.c_rules.specs.declared.rule.Rule.TheVariants as rule

abbrev pub may_be_atomic : CType → Bool
may_be_atomic Void = false
may_be_atomic (Integer kind) = true
may_be_atomic (Enumeration tag) = true
may_be_atomic (Pointer to) = true
may_be_atomic (ArrayOf a) = false
may_be_atomic (Function signature) = false
may_be_atomic (Structure tag contents) = false
may_be_atomic (Union tag contents) = false

abbrev pub is_atomic : Qualifiers → Bool
is_atomic set = bit_and set.0 8 == 8

abbrev pub rule_of_atomic : CType → Option Rule
rule_of_atomic ty = if may_be_atomic ty then None else Some rule.BadAtomic

-- the rule that qualifiers break beside a type
abbrev pub rule_of_set : CType → Qualifiers → Option Rule
rule_of_set ty set = if is_atomic set then rule_of_atomic ty else None

-- `_Atomic` round the name of a type: the type with that qualifier
abbrev pub atomic_part : Part → Part
atomic_part p = record { number = p.number; qualifiers = record { 0 = bit_or p.qualifiers.0 8 } }

abbrev pub atomic_type : Option CType → Part → Result Part Rule
atomic_type None p = Err rule.BadAtomic
atomic_type (Some ty) p = if may_be_atomic ty then Ok (atomic_part p) else Err rule.BadAtomic
