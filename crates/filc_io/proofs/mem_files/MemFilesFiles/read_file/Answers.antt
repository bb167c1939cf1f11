-- The file that was found is the first of its name.
use Rattle.filc_io.proofs.OutsideLemmas.{file_named-found}
use Rattle.filc_io.proofs.mem_files.MemFilesFiles.read_file.Goals as goal

pub returns-in-Ok-clause-bytes : goal.returns-in-Ok-clause-bytes
returns-in-Ok-clause-bytes c =
    file_named-found c.args.name.now c.args.self.now.files.items c.in-Some.entry.now c.in-Ok.bytes.items c.bytes.result.now 1048577
    c.in-Some.ensures c.bytes.ensures c.in-Ok.ensures.front
