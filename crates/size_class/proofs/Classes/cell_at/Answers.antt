-- Two cells of a map share no word.
use Rattle.std.specs.List.{zip}
use Rattle.object_header.proofs.MapProofs.{map_laws}
use Rattle.size_class.proofs.Classes.cell_at.Goals as goal

pub returns-clause-apart : goal.returns-clause-apart
returns-clause-apart g c other_class other_cell word other_is mine other =
    map_laws.cells_apart (zip c.args.self.now.words c.args.self.now.cells) c.args.class c.args.cell other_class other_cell word c.requires other_is mine other
