-- The members of a structure or union, by their types (C11 6.7.2.1).
--
-- A member is no function and has a size; each is looked at by itself, where it is declared. The layout is that of the
-- types of all of them.
use Rattle.std.specs.Prelude.{List, map, Option, Some, None, Result, Ok, Err}
use Rattle.c_types.specs.declared.ctype.CType.{CType}
use Rattle.c_types.specs.declared.ctype.CType.TheVariants.{Void, Integer, Enumeration, Pointer, ArrayOf, Function, Structure, Union}
use Rattle.c_types.specs.declared.ctype.Part.{Part}
use Rattle.c_types.specs.declared.ctype.TypeFault.{TypeFault}
use Rattle.c_types.specs.declared.ctype.TypeFault.TheVariants.{Incomplete, TooLarge}
use Rattle.c_types.specs.declared.entry.Entry.{Entry}
use Rattle.c_types.specs.Sizes.{Room, room_of}
use Rattle.c_types.specs.Declarators.{type_in}
use Rattle.c_rules.specs.declared.rule.Rule.{Rule}
use Rattle.c_rules.specs.declared.rule.Rule.TheVariants as rule

-- the rule that a type breaks which is to have a size
abbrev pub rule_of_room : Result Room TypeFault → Option Rule
rule_of_room (Ok room) = None
rule_of_room (Err Incomplete) = Some rule.IncompleteType
rule_of_room (Err TooLarge) = Some rule.ObjectTooLarge

abbrev pub rule_of_member : CType → Option Rule
rule_of_member Void = rule_of_room (room_of Void)
rule_of_member (Integer kind) = rule_of_room (room_of (Integer kind))
rule_of_member (Enumeration tag) = rule_of_room (room_of (Enumeration tag))
rule_of_member (Pointer to) = rule_of_room (room_of (Pointer to))
rule_of_member (ArrayOf a) = rule_of_room (room_of (ArrayOf a))
rule_of_member (Function signature) = Some rule.BadMember
rule_of_member (Structure tag contents) = rule_of_room (room_of (Structure tag contents))
rule_of_member (Union tag contents) = rule_of_room (room_of (Union tag contents))

-- a part's type; what is none has no size, as void
abbrev pub type_or_void : Option CType → CType
type_or_void None = Void
type_or_void (Some ty) = ty

abbrev pub member_type : List Entry → Part → CType
member_type table p = type_or_void (type_in table p.number)

abbrev pub member_types : List Entry → List Part → List CType
member_types table members = map (member_type table) members
