-- What a declarator makes of a type (C11 6.7.6).
--
-- A declarator's `*`, `[n]` and `(..)` are derivations. The first makes a pointer, an array or a function of
-- the base type, the next one of what came out, and so on: the type of a declarator is a fold over them.
use Rattle.std.specs.Prelude.{◌≡◌, ℕ, ◌*◌, nat_lt, Bool, true, false, if◌then◌else◌, List, [], ◌∷◌, Option, Some, None, Result, Ok, Err}
use Rattle.c_types.specs.declared.ctype.CType.{CType}
use Rattle.c_types.specs.declared.ctype.CType.TheVariants.{Void, Integer, Enumeration, Pointer, ArrayOf, Function, Structure, Union}
use Rattle.c_types.specs.declared.ctype.TypeFault.{TypeFault}
use Rattle.c_types.specs.declared.ctype.TypeFault.TheVariants.{Incomplete, TooLarge}
use Rattle.c_types.specs.declared.derivation.Derivation.{Derivation}
use Rattle.c_types.specs.declared.derivation.Derivation.TheVariants.{Pointer as PointerTo, Array as ArrayOfSo, OpenArray, BadArray, Function as FunctionOf, BadFunction}
use Rattle.c_types.specs.declared.rule.TypeRule.{TypeRule}
use Rattle.c_types.specs.declared.rule.TypeRule.TheVariants as rule
use Rattle.c_types.specs.declared.ctype.Extent.{Extent}
use Rattle.c_types.specs.declared.rule.DeriveFault.{DeriveFault}
use Rattle.c_types.specs.declared.rule.DeriveFault.TheVariants as fault
use Rattle.c_types.specs.declared.derivation.Shape.{Shape as KnownShape}
use Rattle.c_types.specs.Sizes.{Room, scalar_room, room_of, room_in}

-- ---- which derivations may follow one another

-- what decides of a type whether a derivation may follow it: its size and alignment, and whether a function
-- may give it. An array whose own size is bad has none that is known
pub record Shape : Type 0 where
  pub room : Option (Result Room TypeFault)
  pub may_be_result : Bool

-- a result is no function, array, structure or union
abbrev pub may_be_result : CType → Bool
may_be_result Void = true
may_be_result (Integer kind) = true
may_be_result (Enumeration tag) = true
may_be_result (Pointer to) = true
may_be_result (ArrayOf a) = false
may_be_result (Function signature) = false
may_be_result (Structure tag contents) = false
may_be_result (Union tag contents) = false

abbrev pub shape_of : CType → Shape
shape_of ty = record { room = Some (room_of ty); may_be_result = may_be_result ty }

-- the room of so many elements together
abbrev pub room_of_elements : ℕ → Result Room TypeFault → Result Room TypeFault
room_of_elements count (Ok r) = if nat_lt 131072 (count * r.size) then Err TooLarge else Ok (record { size = count * r.size; align = r.align })
room_of_elements count (Err fault) = Err fault

abbrev pub known_room_of_elements : ℕ → Option (Result Room TypeFault) → Option (Result Room TypeFault)
known_room_of_elements count None = None
known_room_of_elements count (Some room) = Some (room_of_elements count room)

abbrev pub shape_after : Shape → Derivation → Shape
shape_after s (PointerTo qualifiers) = record { room = Some (Ok (scalar_room 8)); may_be_result = true }
shape_after s (ArrayOfSo count) = record { room = known_room_of_elements count.value s.room; may_be_result = false }
shape_after s OpenArray = record { room = None; may_be_result = false }
shape_after s BadArray = record { room = None; may_be_result = false }
shape_after s (FunctionOf parameters more) = record { room = Some (Err Incomplete); may_be_result = false }
shape_after s (BadFunction broken) = record { room = Some (Err Incomplete); may_be_result = false }

-- the rule that elements of this room break
abbrev pub rule_of_elements : Option (Result Room TypeFault) → Option TypeRule
rule_of_elements None = None
rule_of_elements (Some (Ok r)) = None
rule_of_elements (Some (Err Incomplete)) = Some rule.Incomplete
rule_of_elements (Some (Err TooLarge)) = Some rule.TooLarge

-- of two rules the one that comes first
abbrev pub lower : TypeRule → TypeRule → TypeRule
lower rule.Incomplete r = rule.Incomplete
lower q rule.Incomplete = rule.Incomplete
lower rule.TooLarge r = rule.TooLarge
lower q rule.TooLarge = rule.TooLarge
lower rule.BadSize r = rule.BadSize
lower q rule.BadSize = rule.BadSize
lower rule.BadFunction rule.BadFunction = rule.BadFunction

abbrev pub lowest : Option TypeRule → Option TypeRule → Option TypeRule
lowest None r = r
lowest (Some q) None = Some q
lowest (Some q) (Some r) = Some (lower q r)

abbrev pub rule_of_result : Bool → Option TypeRule
rule_of_result may_be_result = if may_be_result then None else Some rule.BadFunction

-- the first of the rules that a derivation breaks behind a type of this shape
abbrev pub rule_of : Shape → Derivation → Option TypeRule
rule_of s (PointerTo qualifiers) = None
rule_of s (ArrayOfSo count) = rule_of_elements (known_room_of_elements count.value s.room)
rule_of s OpenArray = lowest (rule_of_elements s.room) (Some rule.BadSize)
rule_of s BadArray = lowest (rule_of_elements s.room) (Some rule.BadSize)
rule_of s (FunctionOf parameters more) = rule_of_result s.may_be_result
rule_of s (BadFunction broken) = lowest (Some broken) (rule_of_result s.may_be_result)

-- the first of the rules that derivations over a type of this shape break, or that were broken before them
unfoldable pub lowest_rule : Shape → Option TypeRule → List Derivation → Option TypeRule
lowest_rule s so_far [] = so_far
lowest_rule s so_far (d ∷ ds) = lowest_rule (shape_after s d) (lowest so_far (rule_of s d)) ds

-- the shape that a known one tells
abbrev pub known_room_in : Option (Result Extent TypeFault) → Option (Result Room TypeFault)
known_room_in None = None
known_room_in (Some extent) = Some (room_in extent)

abbrev pub shape_in : KnownShape → Shape
shape_in s = record { room = known_room_in s.extent; may_be_result = s.may_be_result }

-- why there is no type: a rule is broken, this one first. Want of memory says nothing of it
abbrev pub IsCause : Option TypeRule → DeriveFault → Type 0
IsCause broken (fault.Broken r) = broken ≡ Some r
IsCause broken fault.NoMemory = Unit {0}
