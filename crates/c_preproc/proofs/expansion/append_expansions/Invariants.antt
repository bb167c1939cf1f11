use Rattle.std.proofs.Common.{◌≡◌, drop}
use Rattle.c_preproc.specs.Expansion.{with_expansions}
use Rattle.c_preproc.proofs.expansion.append_expansions.Given as goal

abbrev pub invariant-loop-token : goal.invariant-loop-token
invariant-loop-token l = record {
  same : l.macros ≡ l.fn.macros;
  told : with_expansions l.fn.macros (drop l.token-index l.tokens) l.out.items ≡ with_expansions l.fn.macros l.tokens l.fn.out.items;
}
