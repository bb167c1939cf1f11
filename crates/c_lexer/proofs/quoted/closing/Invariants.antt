use Rattle.std.proofs.Common.{◌≡◌, ◌+◌, false, drop}
use Rattle.std.specs.Option.{option_map}
use Rattle.c_lexer.specs.Quoted.{closing}
use Rattle.c_lexer.proofs.quoted.closing.Given as goal

-- what is left closes where the whole does
abbrev pub invariant-loop-before : goal.invariant-loop-before
invariant-loop-before l =
    closing false l.quote l.rest ≡ option_map (λ n. n + l.before) (closing l.escaped l.quote (drop l.before l.rest))
