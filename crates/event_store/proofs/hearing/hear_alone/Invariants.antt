use Rattle.std.proofs.Common.{◌≡◌, map, take}
use Rattle.pool_history.specs.News.{alone}
use Rattle.event_store.specs.Told.{channel_by, heard_as}
use Rattle.event_store.proofs.hearing.hear_alone.Given as goal

abbrev pub invariant-loop-listener : goal.invariant-loop-listener
invariant-loop-listener l = map heard_as l.heard.items ≡ map alone (map channel_by (take l.listener-index l.listeners))
