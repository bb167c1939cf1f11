-- What is added to a state in several steps.
use Rattle.std.proofs.Common.{List, ◌∙◌}
use Rattle.std.specs.Prelude.{Result, Ok, Err, OnOk}
use Rattle.c_types.specs.declared.entry.Entry.{Entry}
use Rattle.c_expr_rules.specs.Views.{Grows}
use Rattle.c_expr_rules.specs.declared.state.State.{State}
use Rattle.c_names.specs.Blocks.{AddsTo}
use Rattle.c_names.proofs.Growth.{grows_by_types, adds_then_grows, grows_of}

adds_of : (s t : State) → Grows s t → AddsTo s t
adds_of s t g = record { used = g.used; taken = g.taken; literals = g.literals }

pub grows_on : (s t u : State) → Grows s t → Grows t u → Grows s u
grows_on s t u g h = grows_of s u (adds_then_grows s t u (adds_of s t g) h) (h.depth ∙ g.depth)

pub stays : (s : State) → Grows s s
stays s = grows_by_types s s.types

-- types, and what comes behind them
pub types_then : (s u : State) (types : List Entry) → Grows (record s { types = types }) u → Grows s u
types_then s u types h = grows_on s (record s { types = types }) u (grows_by_types s types) h

-- types behind what came before them
pub then_types : (s t : State) (types : List Entry) → Grows s t → Grows s (record t { types = types })
then_types s t types g = grows_on s t (record t { types = types }) g (grows_by_types t types)
