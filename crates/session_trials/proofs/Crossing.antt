-- A pass to a book over a keeper in memory that never fails may go to another thread, and threads may
-- share its desk.
use denote.Param.Send.{IsSend, IsSync, sendable}
use mir.Syntax.{Dict}
use Rattle.std.proofs.Crossing.{crosses}
use Rattle.pool_history.specs.contracts.asking.Request as Request
use Rattle.pool_history.specs.contracts.events.Event as Event
use Rattle.pool_history.specs.contracts.refusals.BookError as BookError
use Rattle.pool_history.specs.contracts.replies.Reply as Reply
use Rattle.pool_io.specs.contracts.memory.keeper.SureKeeper as SureKeeper
use Rattle.pool_io.specs.contracts.memory.keeper.SureKeeperKeeper.TheImpl.{ghosts as kept}
use Rattle.desk.specs.contracts.desk.Desk as Desk
use Rattle.desk.specs.contracts.pass.Pass as Pass
use Rattle.share_ledger.specs.contracts.book.Book as Book
use Rattle.share_ledger.specs.contracts.machine.BookMachine.TheImpl.{ghosts}
use Rattle.share_ledger.proofs.Crossing.{book_desk_sync, book_pass_send}

keeper_send : IsSend SureKeeper.the_row
keeper_send = search (sendable, crosses) depth 40

pub sure_desk_sync : (d : Dict) → IsSync (Desk.the_row (Book.the_row SureKeeper.the_row kept) Event.the_row Request.the_row Reply.the_row BookError.the_row (ghosts SureKeeper.the_row kept d))
sure_desk_sync d = book_desk_sync SureKeeper.the_row kept d keeper_send

pub sure_pass_send : (d : Dict) → IsSend (Pass.the_row (Book.the_row SureKeeper.the_row kept) Event.the_row Request.the_row Reply.the_row BookError.the_row (ghosts SureKeeper.the_row kept d))
sure_pass_send d = book_pass_send SureKeeper.the_row kept d keeper_send
