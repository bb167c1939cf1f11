-- The layout of a list of members, as the code has it.
use Rattle.std.specs.Prelude.{[], ◌||◌, Bool, false, Option, Some, None, Result, Ok, Err}
use Rattle.c_types.specs.declared.ctype.CType.{CType}
use Rattle.c_types.specs.declared.ctype.CType.TheVariants.{ArrayOf}
use Rattle.c_types.specs.declared.ctype.Part.{Part}
use Rattle.c_types.specs.declared.ctype.TypeFault.{TypeFault}
use Rattle.c_types.specs.declared.layouts.Layout.{Layout as LaidOut}
use Rattle.c_types.specs.Layouts.{Layout}
use Rattle.c_expr_rules.specs.Outcomes.{State}
use Rattle.c_expr_rules.specs.TypedExpressions.{type_at, is_const, record_number}
use Rattle.c_expr_rules.specs.Operators.{has_const, contents_of}
use Rattle.c_expr_rules.specs.declared.state.Contents.{Contents}

abbrev pub plain_layout : LaidOut → Layout
plain_layout l = record { offsets = l.offsets.items; size = l.size; align = l.align }

abbrev pub seen_layout : Result LaidOut TypeFault → Result Layout TypeFault
seen_layout (Ok l) = Ok (plain_layout l)
seen_layout (Err fault) = Err fault

-- what a list without members leaves
abbrev pub no_contents : Contents
no_contents = record { members = []; has_const = false }

-- what is const of a type whose arrays aren't looked into
abbrev pub is_const_part : State → Part → Bool
is_const_part s p = is_const p.qualifiers.0 || has_const (contents_of s (record_number (type_at s p.number)))

-- the elements of an array
abbrev pub element_in : CType → Option Part
element_in (ArrayOf a) = Some a.element
element_in ty = None
