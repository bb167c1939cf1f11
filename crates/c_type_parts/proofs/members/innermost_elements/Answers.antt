-- Through one array after the other.
use Rattle.std.proofs.Common.{◌≡◌, ◌-◌, ◌<◌, ℕ, length, sym, ap, ◌∙◌, arith}
use Rattle.c_expr_rules.specs.TypedExpressions.{type_at}
use Rattle.c_expr_rules.specs.Views.{seen_state}
use Rattle.c_file_rules.specs.Tags.{is_const_type}
use Rattle.c_type_parts.specs.Laid.{element_in}
use Rattle.c_type_parts.proofs.ConstMembers.{const_ends, const_stops, const_goes}
use Rattle.c_type_parts.proofs.members.innermost_elements.Goals as goal

pub arrays-init : goal.arrays-init
arrays-init c =
    let s = seen_state c.args.state.now in
    let all : length c.args.state.now.types - 0 ≡ length c.args.state.now.types = omega arith in
    ap (λ (n : ℕ). is_const_type n s c.args.member.qualifiers.0 (type_at s c.args.member.number)) all

pub arrays-preserved : goal.arrays-preserved
arrays-preserved c =
    let s = seen_state c.args.state.now in
    let part = c.arrays.part in
    let within : c.arrays._turn < length c.args.state.now.types = omega arith in
    sym (const_goes (length c.args.state.now.types) c.arrays._turn s part.qualifiers.0 (type_at s part.number) c.in-Some.element within (c.in-Some.ensures ∙ ap element_in c.type_at.ensures))
    ∙ c.arrays.invariant

pub returns-in-None : goal.returns-in-None
returns-in-None c =
    let s = seen_state c.args.state.now in
    let part = c.arrays.part in
    sym (const_ends (length c.args.state.now.types - c.arrays._turn) s part.qualifiers.0 (type_at s part.number) (c.in-None.ensures ∙ ap element_in c.type_at.ensures))
    ∙ c.arrays.invariant

pub returns : goal.returns
returns c =
    let s = seen_state c.args.state.now in
    let part = c.arrays.part in
    let none : length c.args.state.now.types - c.arrays._turn ≡ 0 = omega arith in
    sym (const_stops (length c.args.state.now.types - c.arrays._turn) s part.qualifiers.0 (type_at s part.number) none) ∙ c.arrays.invariant
