use denote.Exit.{no}
use denote.Param.{param}
use denote.Param.Send.{IsSend, IsSync, arg_send, arg_sync, param_send, param_sync}
use Rattle.desk.specs.contracts.running.tend_each.{M-row, T-row, M-Event-row, M-Request-row, M-Reply-row, M-Fault-row}
use Rattle.desk.proofs.ThreadsCrossing.{captured_sync, part_send}
use Rattle.desk.proofs.running.tend_each.Goals as goal

pub for_each_mut-requires-send-T : goal.for_each_mut-requires-send-T
for_each_mut-requires-send-T g c κs within =
    let part =
    part_send _
    (M-row g.row.R g.row.M g.row.T g.row.W g.row.M-Event g.row.M-Request g.row.M-Reply g.row.M-Fault)
    (M-Event-row g.row.R g.row.M g.row.T g.row.W g.row.M-Event g.row.M-Request g.row.M-Reply g.row.M-Fault)
    (M-Request-row g.row.R g.row.M g.row.T g.row.W g.row.M-Event g.row.M-Request g.row.M-Reply g.row.M-Fault)
    (M-Reply-row g.row.R g.row.M g.row.T g.row.W g.row.M-Event g.row.M-Request g.row.M-Reply g.row.M-Fault)
    (M-Fault-row g.row.R g.row.M g.row.T g.row.W g.row.M-Event g.row.M-Request g.row.M-Reply g.row.M-Fault)
    (T-row g.row.R g.row.M g.row.T g.row.W g.row.M-Event g.row.M-Request g.row.M-Reply g.row.M-Fault)
    g.M.Machine c.type_bounds.send-M c.type_bounds.send-T
    in
    param_send 1 _ (arg_send _ no _ part)

pub for_each_mut-requires-sync-F : goal.for_each_mut-requires-sync-F
for_each_mut-requires-sync-F g c κs within =
    let machine : IsSend (param 1 g.row.M) = record { owned = c.type_bounds.send-M.owned; leaving = (param_send 1 _ c.type_bounds.send-M).leaving } in
    let shared : IsSync (param 0 g.row.R) = record { shared = c.type_bounds.sync-R.shared } in
    let work : IsSync (param 3 g.row.W) = record { shared = c.type_bounds.sync-W.shared } in
    param_sync 2 _ (arg_sync _ no _ (captured_sync _ _ _ _ _ _ (param 0 g.row.R) (param 1 g.row.M) (param 4 g.row.M-Event) (param 5 g.row.M-Request) (param 6 g.row.M-Reply) (param 7 g.row.M-Fault) (param 3 g.row.W) g.M.Machine _ shared machine work))
