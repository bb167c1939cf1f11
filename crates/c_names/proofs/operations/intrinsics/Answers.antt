-- Row by row.
use Rattle.std.proofs.Common.{[], ◌∷◌}
use Rattle.c_names.proofs.operations.intrinsics.Goals as goal

pub returns : goal.returns
returns c =
    λ i. c.row.ensures i ∷ c.row-2.ensures i ∷ c.row-3.ensures i ∷ c.row-4.ensures i ∷ c.row-5.ensures i ∷ c.row-6.ensures i ∷ c.row-7.ensures i ∷ c.row-8.ensures i ∷ c.row-9.ensures i ∷ c.row-10.ensures i ∷ c.row-11.ensures i ∷ []
