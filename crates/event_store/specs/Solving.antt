-- What a solution says of its credit (this project's own).
use Rattle.event_store.specs.declared.notes.SolvedShare.{SolvedShare}
use Rattle.event_store.specs.Told.{Solved}

-- the fields of a share that is a block
abbrev pub solved_by : SolvedShare → Solved
solved_by share = record {
  version = share.version;
  ntime = share.ntime;
  nonce = share.nonce;
  extranonce = share.extranonce.now;
}
