-- How serving ends (this project's own).
use Rattle.std.specs.Prelude.{◌≡◌, map}
use Rattle.std.specs.Global.{Vec}
use Rattle.ledger_records.specs.Keeping.{IsKept}
use Rattle.share_ledger.specs.Books.{BookSeen, KeepsLedger}
use Rattle.door_threads.specs.declared.listing.Tended.{Tended}
use Rattle.pool_server.specs.declared.doors.Served.{Served}
use Rattle.pool_server.specs.declared.doors.Served.TheVariants as served
use Rattle.pool_server.specs.Parts.{Seeing}
use Rattle.pool_server.specs.Serving.{HasRun}

-- all were served, or there was no memory and all comes back as it was
abbrev pub HasServed :
    {K D L : Type 0} → Seeing D L → BookSeen → Vec D → L → Served K D L → Type 0
HasServed seeing book doors feed (served.Ran book' doors' feed' reason ledger_faults door_faults door_memory) =
    HasRun seeing.service
    (record { book = book; doors = map seeing.door doors.items; feed = seeing.link feed })
    (record { book = book'; doors = map seeing.door doors'.items; feed = seeing.link feed' }) reason
    ledger_faults door_faults door_memory
HasServed seeing book doors feed (served.Memory book' doors' feed') =
    (book' ≡ book) × (doors' ≡ doors) × (feed' ≡ feed)

-- what is left of a book that a desk gave, and of what came back
abbrev pub IsFinished : {K D L : Type 0} → BookSeen → Tended D L → Served K D L → Type 0
IsFinished closed tended (served.Ran book doors feed reason ledger_faults door_faults door_memory) =
    (book ≡ closed) × IsKept book.events × KeepsLedger book.keeper.records book.events
    × (doors ≡ tended.doors) × (feed ≡ tended.link) × (reason ≡ tended.link_end)
    × (ledger_faults ≡ tended.faults) × (door_faults ≡ tended.door_faults)
    × (door_memory ≡ tended.door_memory)
IsFinished closed tended (served.Memory book doors feed) = ⊥
