-- The types that are laid out are the members'.
use Rattle.std.proofs.Common.{◌<◌, ℕ, List, length, sym, ◌∙◌, subst}
use Rattle.std.specs.Prelude.{MatchResult}
use Rattle.std.proofs.lemmas.List.{length-map}
use Rattle.c_types.specs.declared.ctype.CType.{CType}
use Rattle.c_types.specs.Layouts.{layout_of}
use Rattle.c_types.specs.LayoutResults.{IsLaidOut, HasFault}
use Rattle.c_type_rules.specs.Members.{member_type}
use Rattle.c_type_rules.proofs.members.layout_of_members.Goals as goal

pub layout_of_types-requires : goal.layout_of_types-requires
layout_of_types-requires c =
    subst (λ (types : List CType). 0 < length types) (sym (c.as_slice.ensures.value ∙ c.in-Ok.ensures))
    (subst (λ (n : ℕ). 0 < n) (sym (length-map c.args.members.now (member_type c.args.types.now))) c.requires)

pub returns : goal.returns
returns c =
    subst (λ (types : List CType). MatchResult c.layout_of_types.result (IsLaidOut (layout_of c.args.form types)) (HasFault (layout_of c.args.form types))) (c.as_slice.ensures.value ∙ c.in-Ok.ensures)
    c.layout_of_types.ensures
