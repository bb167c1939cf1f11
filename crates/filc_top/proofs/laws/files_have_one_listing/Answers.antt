-- The law is proved in `Refusals.antt`, from the law that a list spells one tree.
use Rattle.filc_top.proofs.Refusals.{one_listing}
use Rattle.filc_top.proofs.laws.files_have_one_listing.Goals as goal

pub returns : goal.returns
returns c = one_listing c.files_have_one_tree.ensures
