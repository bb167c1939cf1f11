-- The bytes so far, and those of the texts from here on.
use Rattle.std.proofs.Common.{◌≡◌, ◌≤◌, ◌++◌, ◌-◌, suc}
use Rattle.c_check.specs.Tokens.{plain_tokens, bytes_from, text_between}
use Rattle.c_check.proofs.tokens.text.Given as goal

abbrev pub invariant-texts : goal.invariant-texts
invariant-texts l =
    let tokens = plain_tokens l.tokens in
    record {
      below : l.token ≤ l.last;
      bytes : l.bytes.items ++ bytes_from tokens (suc l.last - l.token) l.token ≡ text_between tokens l.first l.last;
    }
