-- Which parts of a desk may cross threads.
use denote.RattleType.{RattleType}
use denote.Param.Send.{IsSend, IsSync, sendable, view_sync}
use Rattle.atomic_table.specs.contracts.owned.Table as Table
use Rattle.atomic_table.proofs.shared.Seat.TheSendSync.{the_send as seat_send}
use Rattle.atomic_table.proofs.shared.Shared.TheSendSync.{the_sync as shared_sync}
use Rattle.atomic_table.proofs.send_lease.SendLease.TheSendSync.{the_sync as lease_sync}
use Rattle.std.proofs.alloc.Global.TheSendSync.{the_send as heap_send, the_sync as heap_sync}
use Rattle.atomic_table.specs.declared.shared.TableRule as Rule
use Rattle.std.specs.contracts.alloc.Global as Heap
use Rattle.std.specs.contracts.impls.GlobalAllocator.TheImpl.{ghosts}
use denote.Struct.Field.{row_field}
use denote.Param.SendFields.{as_row_sync, declared_sync}
use Rattle.desk.specs.declared.machine.Machine.{Ghosts}
use Rattle.std.proofs.Crossing.{crosses, frees}
use Rattle.desk.specs.contracts.rule.Note as Note
use Rattle.desk.specs.contracts.rule.Held as Held
use Rattle.desk.specs.contracts.pass.Pass as Pass
use Rattle.desk.specs.contracts.desk.Desk as Desk
use Rattle.desk.specs.contracts.desk.Desk.TheInside as Inside

pub note_send : (Q R F : RattleType) → IsSend (Note.the_row Q R F)
note_send Q R F = search (sendable, crosses) depth 30

pub held_send : (M Q R F : RattleType) → IsSend M → IsSend (Held.the_row M Q R F)
held_send M Q R F m = search (sendable, note_send) depth 30

pub pass_send : (M E Q R F : RattleType) (g : Ghosts M.Denot E.Denot Q.Denot R.Denot F.Denot) → IsSend M → IsSend (Pass.the_row M E Q R F g)
pass_send M E Q R F g m = search (sendable, held_send, seat_send) depth 40

pub table_sync : (S V K P : RattleType) (g : Rule.Ghosts P.Denot S.Denot V.Denot K.Denot) → IsSend S → IsSync (Table.the_row S V K P Heap.the_row g ghosts)
table_sync S V K P g s =
    declared_sync (Table.the_type S V K P Heap.the_row g ghosts)
    (shared_sync S V K P g s, (search sendable, (search sendable, (lease_sync _ Heap.the_row ghosts heap_send frees, (lease_sync S Heap.the_row ghosts heap_send frees, (as_row_sync (row_field Heap.the_row) heap_sync, tt))))))

inside_sync : (M E Q R F : RattleType) (g : Ghosts M.Denot E.Denot Q.Denot R.Denot F.Denot) → IsSend M → IsSync (Inside.the_row M E Q R F g)
inside_sync M E Q R F g m = declared_sync (Inside.the_type M E Q R F g) (search (sendable, held_send, table_sync) depth 30, (search sendable, tt))

pub desk_sync : (M E Q R F : RattleType) (g : Ghosts M.Denot E.Denot Q.Denot R.Denot F.Denot) → IsSend M → IsSync (Desk.the_row M E Q R F g)
desk_sync M E Q R F g m = view_sync (Inside.the_row M E Q R F g) _ _ _ _ (inside_sync M E Q R F g m)
