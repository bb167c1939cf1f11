-- Derivations that may follow make an array of characters where there is one of them, over a character.
use Rattle.std.proofs.Common.{◌≡◌, List, true, sym, ap, ◌∙◌}
use Rattle.c_types.specs.declared.derivation.Derivation.{Derivation}
use Rattle.c_types.specs.Extensions.{may_derive, count_of}
use Rattle.c_expr_rules.specs.Views.{seen_state}
use Rattle.c_file_rules.specs.Declaring.{sized_by}
use Rattle.c_initialisers.proofs.Characters.{characters_alone}
use Rattle.c_initialisers.proofs.sizing.are_characters.Goals as goal

pub returns-then-may_derive : goal.returns-then-may_derive
returns-then-may_derive c =
    let s = seen_state c.args.state.now in
    let ds = c.args.derivations.now in
    let listed : c.as_slice.result.now ≡ sized_by ds (count_of 1) = c.as_slice.ensures.value ∙ c.in_ok-one.ensures ∙ ap (sized_by ds) c.counted.ensures in
    let may : may_derive s.table c.args.base (sized_by ds (count_of 1)) ≡ true =
    ap (λ (l : List Derivation). may_derive s.table c.args.base l) (sym listed) ∙ sym c.may_derive.ensures ∙ c.if-may_derive.true in
    c.is_character_alone.ensures ∙ sym (characters_alone s c.args.base ds c.requires may)
