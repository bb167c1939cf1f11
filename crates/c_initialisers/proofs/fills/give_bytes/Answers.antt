-- One byte after the other is given, as long as there are parts.
use Rattle.std.proofs.Common.{List, length, take, refl, ap, ◌∙◌, arith}
use Rattle.c_expr_rules.specs.TypedExpressions.{type_at}
use Rattle.c_expr_rules.specs.Views.{seen_state}
use Rattle.c_file_rules.specs.Filling.{kept_of}
use Rattle.c_file_rules.specs.Initialising.{then_given, parts_of, bytes_given}
use Rattle.c_file_rules.specs.declared.targets.PartAt.{PartAt}
use Rattle.c_initialisers.proofs.Kept.{bytes_end, as_many_parts}
use Rattle.c_initialisers.proofs.fills.give_bytes.Goals as goal

pub bytes-init : goal.bytes-init
bytes-init g c = refl

pub returns : goal.returns
returns g c =
    let around = g.S.Surroundings.told c.args.checker.now.around.now in
    let s = seen_state c.args.state.now in
    let t = c.args.target.now in
    let kind = c.args.kind in
    let bytes = c.args.bytes.now in
    let all = parts_of s (type_at s t.part.number) in
    bytes_end around c.args.line s t kind c.in_ok-parts.parts.items bytes c.bytes.index c.bytes.given _ c.bytes.invariant (omega arith)
    ∙ ap (λ (l : List PartAt). then_given c.args.given.now (kept_of t.is_static (bytes_given around c.args.line s t kind l bytes))) (c.in_ok-parts.ensures ∙ ap (λ ty. take (length bytes) (parts_of s ty)) c.type_at-ty.ensures)
    ∙ ap (λ x. then_given c.args.given.now (kept_of t.is_static x)) (as_many_parts around c.args.line s t kind all bytes)
