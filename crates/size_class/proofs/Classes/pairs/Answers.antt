-- The pairs are the two lists side by side.
use Rattle.std.proofs.Common.{◌≡◌, ◌<◌, length, arith, sym, ◌∙◌}
use Rattle.std.specs.List.{zip}
use Rattle.std.proofs.lemmas.List.{get_or_default, same_lists}
use Rattle.std.proofs.lemmas.Slice.Zip.{get_or-zip, length-zip}
use Rattle.size_class.proofs.Classes.pairs.Goals as goal

pub returns : goal.returns
returns g c =
    let words = c.args.self.now.words in
    let cells = c.args.self.now.cells in
    let many : length (zip words cells) ≡ g.row.N = omega (arith, length-zip words cells) in
    same_lists c.loop-class.pairs (zip words cells) (omega (arith, many)) (λ k d below.
    let inside : k < g.row.N = omega (arith, below) in
    get_or_default c.loop-class.pairs k d (0, 0) below ∙ c.loop-class.invariant.set k (omega arith) ∙ sym (get_or-zip words cells k (0, 0) (omega arith) (omega arith)) ∙ get_or_default (zip words cells) k (0, 0) d (omega (arith, many, inside)))
