-- Any map is a partition.
use Rattle.object_header.proofs.Covers.{partition}
use Rattle.object_header.proofs.map.Map.words.Goals as goal

pub returns-clause-partition : goal.returns-clause-partition
returns-clause-partition c = partition c.args.self.now
