-- What callers see of files in memory.
use Rattle.std.specs.Prelude.{ℕ, List, Some}
use Rattle.filc_io.specs.Outside.{FilesState}
use Rattle.filc_io.specs.declared.mem_files.MemFiles.{MemFiles}

-- the files, as pairs of a name and its bytes; the first of a name counts
abbrev pub files_in : MemFiles → List (List ℕ × List ℕ)
files_in files = files.files.items

-- the numbers of the calls that fail, counted from 0
abbrev pub failing_calls : MemFiles → List ℕ
failing_calls files = files.outages.fails.items

-- the number of the next call
abbrev pub calls_made : MemFiles → ℕ
calls_made files = files.outages.calls

-- how many faults there were
abbrev pub faults_of : MemFiles → ℕ
faults_of files = files.outages.faults.count

-- its state: all is told
abbrev pub state_of : MemFiles → FilesState
state_of files = record { contents = Some (files_in files); faults = faults_of files }
