-- The laws of the map.
use Rattle.object_header.proofs.MapProofs.{map_laws}
use Rattle.object_header.proofs.laws.map_laws.Goals as goal

pub returns : goal.returns
returns c = map_laws
