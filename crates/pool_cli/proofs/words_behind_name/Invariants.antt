use Rattle.std.proofs.Common.{◌≡◌, ◌++◌, map, string_bytes}
use Rattle.std.specs.Vec.Iter.{into_iter_items}
use Rattle.pool_cli.proofs.words_behind_name.Given as goal

abbrev pub invariant-loop-text : goal.invariant-loop-text
invariant-loop-text l = l.words.items ++ map string_bytes (into_iter_items l.text-iterator) ≡ map string_bytes (into_iter_items l.initial.text-iterator)
