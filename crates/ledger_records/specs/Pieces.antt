-- The pieces in which a ledger of format 2 is kept (this project's own).
use Rattle.std.specs.Prelude.{ℕ, List, ◌++◌}
use Rattle.sha2.specs.Sha256.{sha256}
use Rattle.pool_history.specs.declared.events.Event.{Event}
use Rattle.pool_history.specs.Ledger.{chain, magic_2, record_of}

-- a later piece: the record and its hash, behind the hash before it
abbrev pub piece_behind : List ℕ → Event → List ℕ
piece_behind before event = record_of event ++ chain before (record_of event)

-- the first piece: the magic, and then the record and its hash
abbrev pub first_piece : Event → List ℕ
first_piece event = magic_2 ++ piece_behind (sha256 magic_2) event
