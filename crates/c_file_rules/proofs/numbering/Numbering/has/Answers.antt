-- A number is there where it has a place.
use Rattle.std.proofs.Common.{sym, ap, ◌∙◌}
use Rattle.std.specs.Prelude.{is_some}
use Rattle.c_file_rules.specs.Kinds.{is_among}
use Rattle.c_file_rules.proofs.Placed.{place_is_some}
use Rattle.c_file_rules.proofs.numbering.Numbering.has.Goals as goal

pub returns : goal.returns
returns c =
    c.contains_key.ensures ∙ ap is_some (c.self.invariant.place c.args.one) ∙ place_is_some 0 c.args.one c.self.inside.list ∙ ap (is_among c.args.one) c.self.view_is
