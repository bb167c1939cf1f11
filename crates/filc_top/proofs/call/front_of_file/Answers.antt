-- What was read is the front of the file, as far as the files are told.
use Rattle.std.proofs.Common.{◌≤◌, length, arith}
use Rattle.filc_io.specs.declared.outside.TheConstants.{MOST_READ}
use Rattle.filc_top.proofs.Causes.{told_file}
use Rattle.filc_top.proofs.call.front_of_file.Goals as goal

pub returns-in-Ok-clause-read : goal.returns-in-Ok-clause-read
returns-in-Ok-clause-read g c =
    let short : length c.in-Ok.front.items ≤ MOST_READ = omega (arith, c.in-Ok.ensures.limit, c.in-Ok.front.ok.0) in
    told_file (g.F.Files.state c.args.files.now) c.args.name.now c.in-Ok.front.items short c.in-Ok.ensures.bytes
