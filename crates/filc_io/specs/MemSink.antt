-- What callers see of a sink in memory.
use Rattle.std.specs.Prelude.{ℕ, List, Some}
use Rattle.filc_io.specs.Outside.{SinkState}
use Rattle.filc_io.specs.declared.mem_sink.MemSink.{MemSink}

-- the bytes that it took
abbrev pub bytes_taken : MemSink → List ℕ
bytes_taken sink = sink.bytes.items

-- how many bytes it can hold
abbrev pub room_of : MemSink → ℕ
room_of sink = sink.room

-- the most bytes that it takes at a call
abbrev pub most_taken : MemSink → ℕ
most_taken sink = sink.most

-- the numbers of the calls that fail, counted from 0
abbrev pub failing_calls : MemSink → List ℕ
failing_calls sink = sink.outages.fails.items

-- the number of the next call
abbrev pub calls_made : MemSink → ℕ
calls_made sink = sink.outages.calls

-- how many faults there were
abbrev pub faults_of : MemSink → ℕ
faults_of sink = sink.outages.faults.count

-- its state: all is told
abbrev pub state_of : MemSink → SinkState
state_of sink = record { taken = Some (bytes_taken sink); faults = faults_of sink }
