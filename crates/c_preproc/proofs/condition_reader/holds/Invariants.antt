use Rattle.std.proofs.Common.{◌≡◌, drop, reverse}
use Rattle.std.specs.Option.{option_and_then}
use Rattle.c_preproc.specs.Condition.{truth_of_items}
use Rattle.c_preproc.specs.Expansion.{items_of}
use Rattle.c_preproc.specs.Code.Reading.{state}
use Rattle.c_preproc.proofs.ConditionItems.{answer}
use Rattle.c_preproc.proofs.condition_reader.holds.Given as goal

-- the answer of the tokens that are left is that of all
abbrev pub invariant-loop-token : goal.invariant-loop-token
invariant-loop-token l = answer l.bytes (drop l.token-index l.tokens) (state (reverse l.frames.items) l.mode) ≡ option_and_then truth_of_items (items_of l.bytes l.tokens)
