use Rattle.std.proofs.Common.{◌≡◌, ◌<◌, ◌-◌}
use Rattle.bench.specs.Headers.{header_hash}
use Rattle.bench.proofs.hash.last_header.Given as goal

abbrev pub invariant-loop-nonce : goal.invariant-loop-nonce
invariant-loop-nonce l = 0 < l.nonce → l.hash ≡ header_hash l.fn.header (l.nonce - 1)
