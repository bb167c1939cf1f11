-- The state of the code as the definition's.
use Rattle.std.specs.Prelude.{reverse}
use Rattle.c_preproc.specs.declared.state.State.{State}
use Rattle.c_preproc.specs.Expansion.{State as DefinedState}

-- the innermost of the open `if`s is the last in the code, and the first in the definition
abbrev pub seen : State → DefinedState
seen state = record { definitions = state.macros; groups = reverse state.groups.items; out = state.out.items }
