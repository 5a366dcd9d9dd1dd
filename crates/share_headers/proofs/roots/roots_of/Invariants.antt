use Rattle.std.proofs.Common.{◌≡◌, map, take}
use Rattle.block_header.specs.Root.{root}
use Rattle.share_headers.proofs.roots.roots_of.Given as goal

abbrev pub invariant-up : goal.invariant-up
invariant-up l = l.hashes ≡ map (λ id. root id (take l.sibling-index l.fn.path)) l.fn.ids
