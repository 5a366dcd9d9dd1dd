-- What a book's ledger is on its disk, and disks that were given.
use Rattle.std.proofs.Common.{◌≡◌, ℕ, List, ◌∷◌, Option, refl, ap, subst, sym, ◌∙◌}
use Rattle.pool_io.specs.Lending.{Lending}
use Rattle.pool_io.specs.Seen.{KeeperSeen, SinkSeen, SourceSeen}
use Rattle.ledger_disk.specs.Calls.{DiskSeen}
use Rattle.ledger_disk.specs.Disks.{DisksSeen}
use Rattle.ledger_disk.specs.Crashes.{MayBeFound}
use Rattle.pool_history.specs.declared.events.Event.{Event}
use Rattle.ledger_audit.specs.Judging.{in_a_row}
use Rattle.session_steps.specs.declared.ends.SessionEnd.{SessionEnd}
use Rattle.session_steps.specs.declared.manner.Manner.{Manner}
use Rattle.share_ledger.specs.Recovery.{IsRecoverable}
use Rattle.pool_sessions.specs.Solo.{Outsides, ServesBook}
use Rattle.ledger_resume.specs.Books.{LeavesFronts, keeper_on}
use Rattle.pool_commands.specs.DurableAuditing.{audited_bytes}

-- the keeper of a book that was served on is its disk's ledger
pub serves_on : (manner : Manner) (from history : List Event) (old : Outsides) (source : SourceSeen) (sink : SinkSeen) (keeper : KeeperSeen) (ledger disk : DiskSeen) (reason : SessionEnd)
    → keeper_on ledger ≡ keeper → disk ≡ ledger → ServesBook manner from old (record { source = source; sink = sink; keeper = keeper }) reason history
    → ServesBook manner from old (record { source = source; sink = sink; keeper = keeper_on disk }) reason history
serves_on manner from history old source sink keeper ledger disk reason keeps same serves =
    subst (λ (k : KeeperSeen). ServesBook manner from old (record { source = source; sink = sink; keeper = k }) reason history) (sym (ap keeper_on same ∙ keeps)) serves

pub fronts_on : (history : List Event) (ledger disk : DiskSeen) → disk ≡ ledger → IsRecoverable (keeper_on ledger) (MayBeFound ledger) history → LeavesFronts disk history
fronts_on history ledger disk same recovers = subst (λ (d : DiskSeen). LeavesFronts d history) (sym same) recovers

-- a disk was given: its name is told, and it is out
pub given_lent : (old new : DisksSeen) (calls : Option (List (List ℕ))) (disks : Lending DiskSeen) → new ≡ record old { calls = new.calls; disks = new.disks }
    → new.calls ≡ calls → new.disks ≡ disks → new ≡ record old { calls = calls; disks = disks }
given_lent old new calls disks stays called lent =
    stays ∙ (λ i. record { faults = old.faults; calls = called i; holds = old.holds; disks = lent i })

-- records that are there are audited in a row
pub audited_is : (first : List ℕ) (later records : List (List ℕ)) → records ≡ first ∷ later → in_a_row records ≡ audited_bytes records
audited_is first later records is = subst (λ (rs : List (List ℕ)). in_a_row rs ≡ audited_bytes rs) (sym is) refl
