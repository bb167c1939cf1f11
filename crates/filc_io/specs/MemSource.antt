-- What callers see of a source in memory.
use Rattle.std.specs.Prelude.{ℕ, List, Some, drop}
use Rattle.filc_io.specs.Outside.{SourceState}
use Rattle.filc_io.specs.declared.mem_source.MemSource.{MemSource}

-- the bytes that it has left
abbrev pub bytes_left : MemSource → List ℕ
bytes_left source = drop source.at source.bytes.items

-- the most bytes that it gives at a call
abbrev pub most_given : MemSource → ℕ
most_given source = source.most

-- the numbers of the calls that fail, counted from 0
abbrev pub failing_calls : MemSource → List ℕ
failing_calls source = source.outages.fails.items

-- the number of the next call
abbrev pub calls_made : MemSource → ℕ
calls_made source = source.outages.calls

-- how many faults there were
abbrev pub faults_of : MemSource → ℕ
faults_of source = source.outages.faults.count

-- its state: all is told
abbrev pub state_of : MemSource → SourceState
state_of source = record { left = Some (bytes_left source); faults = faults_of source }
