-- A book may go to another thread where its keeper may, and so may a pass to it.
use denote.RattleType.{RattleType}
use mir.Syntax.{Dict}
use denote.Param.Send.{IsSend, IsSync, sendable}
use Rattle.std.proofs.Crossing.{crosses}
use Rattle.pool_history.specs.contracts.events.Event as Event
use Rattle.event_store.specs.contracts.index.Index as Index
use Rattle.event_store.specs.contracts.history.History as History
use Rattle.pool_tables.specs.contracts.table.Sessions as Sessions
use Rattle.pool_tables.specs.contracts.grants.Grants as Grants
use Rattle.pool_tables.specs.contracts.headers.Headers as Headers
use Rattle.template_jobs.specs.contracts.table.Jobs as Jobs
use Rattle.channels.specs.contracts.table.Channels as Channels
use Rattle.payouts.specs.contracts.tally.Tally as Tally
use Rattle.desk.specs.contracts.desk.Desk as Desk
use Rattle.desk.specs.contracts.pass.Pass as Pass
use Rattle.desk.proofs.Crossing.{desk_sync, pass_send}
use Rattle.pool_io.specs.declared.keeper.Keeper.{Ghosts}
use Rattle.pool_history.specs.contracts.asking.Request as Request
use Rattle.pool_history.specs.contracts.replies.Reply as Reply
use Rattle.pool_history.specs.contracts.refusals.BookError as BookError
use Rattle.share_ledger.specs.contracts.machine.BookMachine.TheImpl.{ghosts}
use Rattle.share_ledger.specs.contracts.book.Book as Book
use Rattle.share_ledger.specs.contracts.tables.Tables as Tables

event_send : IsSend Event.the_row
event_send = search (sendable, crosses) depth 60 fits 20000

index_send : IsSend Index.the_row
index_send = search (sendable, crosses) depth 60 fits 20000

history_send : IsSend History.the_row
history_send = search (sendable, crosses, event_send, index_send) depth 60 fits 20000

sessions_send : IsSend Sessions.the_row
sessions_send = search (sendable, crosses) depth 60 fits 20000

grants_send : IsSend Grants.the_row
grants_send = search (sendable, crosses) depth 60 fits 20000

headers_send : IsSend Headers.the_row
headers_send = search (sendable, crosses) depth 60 fits 20000

jobs_send : IsSend Jobs.the_row
jobs_send = search (sendable, crosses) depth 60 fits 20000

channels_send : IsSend Channels.the_row
channels_send = search (sendable, crosses) depth 60 fits 20000

tally_send : IsSend Tally.the_row
tally_send = search (sendable, crosses) depth 60 fits 20000

tables_send : IsSend Tables.the_row
tables_send = search (sendable, history_send, sessions_send, channels_send, jobs_send, grants_send, tally_send, headers_send) depth 60

pub book_send : (K : RattleType) (g : Ghosts K.Denot) → IsSend K → IsSend (Book.the_row K g)
book_send K g k = search (sendable, crosses, tables_send) depth 60

pub book_desk_sync : (K : RattleType) (g : Ghosts K.Denot) (d : Dict) → IsSend K
    → IsSync (Desk.the_row (Book.the_row K g) Event.the_row Request.the_row Reply.the_row BookError.the_row (ghosts K g d))
book_desk_sync K g d k = desk_sync (Book.the_row K g) Event.the_row Request.the_row Reply.the_row BookError.the_row (ghosts K g d) (book_send K g k)

pub book_pass_send : (K : RattleType) (g : Ghosts K.Denot) (d : Dict) → IsSend K
    → IsSend (Pass.the_row (Book.the_row K g) Event.the_row Request.the_row Reply.the_row BookError.the_row (ghosts K g d))
book_pass_send K g d k = pass_send (Book.the_row K g) Event.the_row Request.the_row Reply.the_row BookError.the_row (ghosts K g d) (book_send K g k)
