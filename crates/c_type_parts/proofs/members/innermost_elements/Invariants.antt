-- Through the arrays that are left it is as through all of them.
use Rattle.std.proofs.Common.{◌≡◌, ◌-◌, length}
use Rattle.c_expr_rules.specs.TypedExpressions.{type_at}
use Rattle.c_expr_rules.specs.Views.{seen_state}
use Rattle.c_file_rules.specs.Tags.{is_const_type, is_const_member}
use Rattle.c_type_parts.proofs.members.innermost_elements.Given as goal

abbrev pub invariant-arrays : goal.invariant-arrays
invariant-arrays l =
    is_const_type (length l.state.types - l._turn) (seen_state l.state) l.part.qualifiers.0 (type_at (seen_state l.state) l.part.number)
    ≡ is_const_member (seen_state l.state) l.fn.member
