-- What the characters so far gave, with what the rest give, is what all of them do.
use Rattle.std.proofs.Common.{◌≡◌, drop}
use Rattle.c_expr_rules.specs.Views.{seen_state}
use Rattle.c_file_rules.specs.Filling.{kept_of}
use Rattle.c_file_rules.specs.Initialising.{then_given, bytes_given}
use Rattle.c_initialisers.proofs.fills.give_bytes.Given as goal

abbrev pub invariant-bytes : goal.invariant-bytes
invariant-bytes g l =
    let around = g.S.Surroundings.told l.checker.around.now in
    let rest =
    bytes_given around l.line (seen_state l.state) l.target l.kind (drop l.index l.parts.items) (drop l.index l.bytes) in
    let all = bytes_given around l.line (seen_state l.state) l.target l.kind l.parts.items l.bytes in
    then_given l.given (kept_of l.target.is_static rest) ≡ then_given l.fn.given (kept_of l.target.is_static all)
