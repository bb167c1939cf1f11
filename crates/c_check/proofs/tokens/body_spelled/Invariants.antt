-- Among the bodies that are left it is found as among all.
use Rattle.std.proofs.Common.{◌≡◌, drop}
use Rattle.c_file_rules.specs.Files.{body_spelled}
use Rattle.c_check.specs.Tokens.{plain_tokens, text_at}
use Rattle.c_check.proofs.tokens.body_spelled.Given as goal

abbrev pub invariant-bodies : goal.invariant-bodies
invariant-bodies l =
    let spelling = text_at (plain_tokens l.tokens) in
    body_spelled spelling l.letters l.number (drop l.number l.bodies) ≡ body_spelled spelling l.letters 0 l.bodies
