use Rattle.std.proofs.Common.{◌≡◌, ◌+◌, false, drop}
use Rattle.std.specs.Option.{option_map}
use Rattle.c_lexer.specs.Front.{comment_rest}
use Rattle.c_lexer.proofs.front.comment_rest.Given as goal

-- what is left ends where the whole does
abbrev pub invariant-loop-i : goal.invariant-loop-i
invariant-loop-i l =
    comment_rest false l.text ≡ option_map (λ n. n + l.i) (comment_rest l.starred (drop l.i l.text))
