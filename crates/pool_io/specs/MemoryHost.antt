-- What contracts see of the host in memory.
use Rattle.std.specs.Prelude.{ℕ, List, [], ◌∷◌, Option, None, Some, if◌then◌else◌}
use Rattle.std.specs.Str.{bytes_eq}
use Rattle.pool_io.specs.Hosts.{HostSeen}
use Rattle.pool_io.specs.Lending.{lending_seen}
use Rattle.pool_io.specs.Memory.{keeper_seen, sink_seen, source_seen}
use Rattle.pool_io.specs.declared.memory.host.MemFile.{MemFile}
use Rattle.pool_io.specs.declared.memory.host.MemHost.{MemHost}
use Rattle.pool_io.specs.declared.turn.Turn.{Turn}

-- what the first file of this name brings
abbrev pub turns_named : List MemFile → List ℕ → Option (List Turn)
turns_named [] name = None
turns_named (file ∷ files) name =
    if bytes_eq file.name name then Some file.script.contents.items else turns_named files name

-- its scripts tell what its objects start with; it tells its calls, and its files what they bring
abbrev pub host_seen : MemHost → HostSeen
host_seen h = record {
  streams = record {
    faults = h.failing.faults;
    input = Some h.input.contents.items;
    output = Some h.output.contents.items;
    sources = lending_seen source_seen h.sources;
    sinks = lending_seen sink_seen h.sinks;
  };
  openings = record {
    calls = Some h.calls.items;
    brings = λ name. turns_named h.files.items name;
    keepers = lending_seen keeper_seen h.keepers;
  };
}
