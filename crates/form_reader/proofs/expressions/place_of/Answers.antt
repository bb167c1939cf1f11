use Rattle.std.proofs.Common.{sym, ◌∙◌, ℕ, List}
use Rattle.std.specs.Str.{bytes_eq}
use Rattle.form_reader.proofs.Places.{position-map}
use Rattle.form_reader.proofs.expressions.place_of.Goals as goal

pub returns-clause-place : goal.returns-clause-place
returns-clause-place c =
    c.first_place_of.ensures ∙ sym (position-map (λ (other : List ℕ). bytes_eq other c.args.name.now) (λ n. n.now) c.args.names.now)
