use Rattle.std.proofs.Common.{◌≡◌, length}
use Rattle.c_preproc.specs.Directives.{blocks_of}
use Rattle.c_preproc.specs.Expansion.{after_blocks}
use Rattle.c_preproc.specs.Code.Seen.{seen}
use Rattle.c_preproc.proofs.carry.carry_tokens.Given as goal

-- the outcome of what is left is that of the whole
abbrev pub invariant-loop-token : goal.invariant-loop-token
invariant-loop-token l = record {
  bytes : l.state.macros.bytes ≡ l.fn.state.macros.bytes;
  told : after_blocks (seen l.state) (blocks_of l.fn.state.macros.bytes 0 l.rest) ≡ after_blocks (seen l.fn.state) (blocks_of l.fn.state.macros.bytes 0 l.tokens);
}

abbrev pub decreases-loop-token : goal.decreases-loop-token
decreases-loop-token l = length l.rest
