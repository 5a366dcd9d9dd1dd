use Rattle.std.proofs.Common.{◌≡◌, map, take}
use Rattle.std.specs.List.{flat_map, list_any}
use Rattle.pool_history.specs.Judging.{is_standard}
use Rattle.pool_history.specs.News.{without_single}
use Rattle.event_store.specs.Told.{channel_by, heard_as}
use Rattle.event_store.proofs.hearing.hear_together.Given as goal

abbrev pub invariant-loop-listener : goal.invariant-loop-listener
invariant-loop-listener l = record {
  listed : map heard_as l.heard.items ≡ flat_map without_single (map channel_by (take l.listener-index l.listeners));
  standard : l.has_standard ≡ list_any (λ channel. is_standard channel.kind) (map channel_by (take l.listener-index l.listeners));
}
