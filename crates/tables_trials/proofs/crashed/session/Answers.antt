use Rattle.std.proofs.Common.{◌≡◌, List, ℕ, Some}
use Rattle.tables_trials.proofs.crashed.session.Goals as goal

-- src/crashed.rt:116:9
pub serve_disk-disk-requires-clause-opened : goal.serve_disk-disk-requires-clause-opened
serve_disk-disk-requires-clause-opened c = (Some c.args.content.now, c.in_ok-disk.ensures)
