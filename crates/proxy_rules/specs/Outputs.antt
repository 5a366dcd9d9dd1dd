-- What a proxy writes: upstream, and to each of its miners.
use Rattle.std.specs.Prelude.{ℕ, ◌==◌, if◌then◌else◌, List}
use Rattle.proxy_rules.specs.declared.events.ProxyEvent.{ProxyEvent}
use Rattle.proxy_rules.specs.Miners.{miner_of, output_in}
use Rattle.proxy_rules.specs.Steps.{relay_of}

-- all that goes upstream
abbrev pub up_out : List ProxyEvent → List ℕ
up_out events = (relay_of events).output

-- all that goes to a caller since it last joined
abbrev pub miner_out : List ProxyEvent → ℕ → List ℕ
miner_out events caller = output_in (miner_of caller (relay_of events).miners)

-- what a caller asks for: caller 0 is the upstream's
abbrev pub output_for : List ProxyEvent → ℕ → List ℕ
output_for events caller = if caller == 0 then up_out events else miner_out events caller
