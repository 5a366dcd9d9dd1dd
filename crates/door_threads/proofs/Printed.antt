-- What the printing of a text is answered with comes from what failed.
use Rattle.std.proofs.Common.{◌≡◌, ℕ, List, Err, sym, ap, subst, arith, inl, inr}
use Rattle.pool_base.specs.Counts.{Rose}
use Rattle.pool_io.specs.declared.host.HostError.{HostError}
use Rattle.pool_io.specs.declared.host.HostError.TheVariants as host
use Rattle.pool_io.specs.Hosts.{CameBack, HostSeen, StreamsSeen}
use Rattle.pool_io.specs.Outside.{CountsFailure, is_failed_gift}
use Rattle.pool_io.specs.Seen.{SinkSeen}
use Rattle.stream_commands.specs.declared.status.Status.{Status}
use Rattle.stream_commands.specs.declared.status.Status.TheVariants as status
use Rattle.stream_commands.specs.Printing.{HasNoOutput, PrintedOnHost, PrintsText}
use Rattle.stream_commands.specs.Statuses.{status_of_refusal}
use Rattle.stream_commands.specs.Texts.{PutsText}
use Rattle.door_threads.specs.Failing.{HasFailedItem}

-- what holds of a refusal, by the count of failures
module _ (P : Status → Type 0) (before now : ℕ) (memory : P status.Memory) (failed : Rose before now → P status.HostFault) where
  pub refused : (error : HostError) → CountsFailure (is_failed_gift {A = Unit {0}} (Err error)) before now → P (status_of_refusal error)
  refused host.Failed counts = failed (omega (arith, counts))
  refused host.Memory counts = memory

-- what holds at each of its causes holds at the status of a printing
module _ (P : Status → Type 0) (old new : HostSeen) (done : P status.Done) (memory : P status.Memory)
    (unput : HasFailedItem (λ (sink : SinkSeen). sink.faults) old.streams.sinks new.streams.sinks → P status.WriteFault)
    (failed : Rose old.streams.faults new.streams.faults → P status.HostFault)
    -- it was done where the host's streams stood as before
    (given middle : HostSeen) (begun : given.streams ≡ old.streams) (same : new.streams ≡ middle.streams) where
  unprinted : (error : HostError) → HasNoOutput given middle error → P (status_of_refusal error)
  unprinted error none =
      refused P old.streams.faults new.streams.faults memory failed error
      (subst (λ n. CountsFailure (is_failed_gift {A = Unit {0}} (Err error)) n new.streams.faults) (ap (λ (s : StreamsSeen). s.faults) begun)
      (subst (λ n. CountsFailure (is_failed_gift {A = Unit {0}} (Err error)) given.streams.faults n) (ap (λ (s : StreamsSeen). s.faults) (sym same)) none.counts))

  printed_by : (text : List ℕ) (printed : Status) (prints : PrintedOnHost text status.Done given middle printed)
      → PutsText (record { faults = 0; held = given.streams.output }) prints.put text status.Done printed → P printed
  printed_by text printed prints (inl put) = subst P (sym put.0) done
  printed_by text printed prints (inr front) = elim front.cause [
    | inl fault ↦ subst P (sym fault.0) (unput (
      prints.put,
      subst (λ sinks. CameBack old.streams.sinks sinks prints.put) (ap (λ (s : StreamsSeen). s.sinks) (sym same))
          (subst (λ sinks. CameBack sinks middle.streams.sinks prints.put) (ap (λ (s : StreamsSeen). s.sinks) begun) prints.sinks),
      omega (arith, fault.1),
    ))
    | inr none ↦ subst P (sym none.0) memory
  ]

  pub printed_or : (text : List ℕ) (printed : Status) → PrintsText text status.Done given middle printed → P printed
  printed_or text printed (inl prints) = printed_by text printed prints prints.puts
  printed_or text printed (inr none) = subst P (sym none.1) (unprinted none.0 none.2)
