use Rattle.std.proofs.Common.{◌≡◌, take}
use Rattle.block_header.specs.Root.{root}
use Rattle.block_header.proofs.merkle.root_of.Given as goal

abbrev pub invariant-loop-sibling : goal.invariant-loop-sibling
invariant-loop-sibling l = l.hash ≡ root l.fn.txid (take l.sibling-index l.path)
