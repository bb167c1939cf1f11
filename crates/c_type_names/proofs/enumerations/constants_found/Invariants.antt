-- What is found of the constants so far, with the rest of them, is what all of them give.
use Rattle.std.proofs.Common.{◌≡◌, drop}
use Rattle.std.specs.Prelude.{false}
use Rattle.c_expr_rules.specs.Views.{seen_state, Grows}
use Rattle.c_names.specs.Code.{here_at}
use Rattle.c_type_parts.specs.Lists.{constant_list}
use Rattle.c_type_names.proofs.enumerations.constants_found.Given as goal

abbrev pub invariant-constants : goal.invariant-constants
invariant-constants g l =
    let here = here_at l.scene.facts.now (g.S.Surroundings.told l.scene.around.now) in
    (constant_list here (seen_state l.state) l.counted (drop l.constant-index l.constants)
    ≡ constant_list here (seen_state l.fn.state) (record { value = 0; is_again = false }) l.constants)
    × Grows l.fn.state l.state
